use Rattle.std.proofs.Common.{◌&&◌, false, sym, ◌∙◌, refl}
use Rattle.bm_mirror.specs.TwoSides.{two_sides, tells_all}
use Rattle.bm_mirror.proofs.SideLemmas.{left_contents, right_contents}
use Rattle.bm_mirror.proofs.ReadLemmas.{row_read, in_if_ok, asked_in}
use Rattle.bm_mirror.proofs.KeepingLemmas.{counted, read_keeps}
use Rattle.bm_mirror.proofs.rack_calls.MirrorRack.read_row.Goals as goal

pub returns-clause-bytes : goal.returns-clause-bytes
returns-clause-bytes g c dims is =
    let l = g.L.Rack in
    let r = g.G.Rack in
    let ls = l.tells_stands in
    let lc = l.tells_contents in
    let gs = r.tells_stands in
    let gc = r.tells_contents in
    let mirror = c.args.self.now in
    let left = c.read_row_of-left in
    let right = c.read_row_of-right in
    let old = two_sides (l.view mirror.left) (r.view mirror.right) mirror.sides in
    row_read old left.result right.result c.either-answer.result c.asks_right-asked.result c.asks_right-asked.ensures
    (ls && gs) (tells_all ls gs lc gc) lc gc mirror.attached mirror.faults mirror.moves mirror.pages mirror.syncs (λ _. false)
    (left_contents ls lc gs gc) (right_contents ls lc gs gc) mirror.keeps
    (in_if_ok mirror.sides.left left.result left.ensures.read.empty)
    (in_if_ok c.asks_right-asked.result right.result right.ensures.read.empty)
    c.either-answer.ensures.left
    c.either-answer.ensures.right
    dims c.args.places.now c.args.bytes.now left.new.bytes right.new.bytes
    (λ is_in. left.ensures.bytes is_in dims (mirror.keeps.left_attached is_in dims is))
    left.ensures.rests
    (λ asked. right.ensures.bytes asked dims (mirror.keeps.right_attached
    (asked_in old left.result right.result c.either-answer.result c.asks_right-asked.result c.asks_right-asked.ensures asked) dims is))
    right.ensures.rests

pub returns-clause-keeps : goal.returns-clause-keeps
returns-clause-keeps g c =
    let l = g.L.Rack in
    let r = g.G.Rack in
    let mirror = c.args.self.now in
    let left = c.read_row_of-left in
    let right = c.read_row_of-right in
    read_keeps l.tells_stands l.tells_contents r.tells_stands r.tells_contents
    (two_sides (l.view mirror.left) (r.view mirror.right) mirror.sides)
    (two_sides (l.view left.new.rack) (r.view right.new.rack) mirror.sides)
    mirror.attached mirror.level mirror.lapsed mirror.starved mirror.faults _ _ _ _ _ _ _ mirror.keeps
    (g.met.L.Rack.consistent mirror.left) (g.met.G.Rack.consistent mirror.right)
    (g.met.L.Rack.consistent left.new.rack) (g.met.G.Rack.consistent right.new.rack) (c.requires.dims, c.requires.attached_is)
    1 0 0 left.result right.result c.either-answer.result c.asks_right-asked.result
    (counted c.is_err.result mirror.faults _ mirror.faults_fit (λ bad. sym c.is_err.ensures.value ∙ bad)
    c.count_fault.ensures.failed c.count_fault.ensures.quiet)
    refl c.asks_right-asked.ensures c.either-answer.ensures.left c.either-answer.ensures.right left.ensures.read right.ensures.read
