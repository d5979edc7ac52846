use Rattle.std.proofs.Common.{◌&&◌, sym, ◌∙◌, refl}
use Rattle.bm_mirror.specs.TwoSides.{two_sides, tells_all}
use Rattle.bm_mirror.proofs.LevelLemmas.{pages_level}
use Rattle.bm_mirror.proofs.SideLemmas.{all_stands, left_stands, right_stands, left_contents, right_contents, sizes_after, mirror_settled}
use Rattle.bm_mirror.proofs.KeepingLemmas.{counted, settled_keeps}
use Rattle.bm_mirror.proofs.rack_calls.MirrorRack.write_page.Goals as goal

pub invariant_of-self-clause-keeps : goal.invariant_of-self-clause-keeps
invariant_of-self-clause-keeps g c =
    let l = g.L.Rack in
    let r = g.G.Rack in
    let ls = l.tells_stands in
    let lc = l.tells_contents in
    let gs = r.tells_stands in
    let gc = r.tells_contents in
    let mirror = c.args.self.now in
    let left = c.write_page_of-left in
    let right = c.write_page_of-right in
    let dims = c.requires.ready.0 in
    let is = c.requires.ready.1 in
    mirror_settled (ls && gs) (tells_all ls gs lc gc) (two_sides (l.view mirror.left) (r.view mirror.right) mirror.sides)
    (two_sides (l.view left.new.rack) (r.view right.new.rack) c.settle-answer.new.sides)
    mirror.attached mirror.attached left.result right.result c.settle-answer.result refl mirror.keeps c.settle-answer.ensures
    (λ is_in. (left.ensures.written is_in).only.attached)
    (λ is_in. (right.ensures.written is_in).only.attached)
    (λ left_in right_in okx oky level.
    (let a = left.ensures.written left_in in
    let b = right.ensures.written right_in in
    pages_level (ls && gs) (tells_all ls gs lc gc) lc gc (l.view mirror.left) (r.view mirror.right)
    (l.view left.new.rack) (r.view right.new.rack) (left_contents ls lc gs gc) (right_contents ls lc gs gc)
    dims c.args.page c.args.bytes.now left.result right.result
    (λ told. sizes_after ls lc dims (l.view mirror.left) (l.view left.new.rack) (g.met.L.Rack.consistent mirror.left)
    (g.met.L.Rack.consistent left.new.rack) (left_stands ls gs (all_stands ls lc gs gc told)) (left_contents ls lc gs gc told)
    (mirror.keeps.left_attached left_in dims is) a.only.stands)
    (λ told. sizes_after gs gc dims (r.view mirror.right) (r.view right.new.rack) (g.met.G.Rack.consistent mirror.right)
    (g.met.G.Rack.consistent right.new.rack) (right_stands ls gs (all_stands ls lc gs gc told)) (right_contents ls lc gs gc told)
    (mirror.keeps.right_attached right_in dims is) b.only.stands)
    okx oky level a b))

pub returns-clause-keeps : goal.returns-clause-keeps
returns-clause-keeps g c =
    let l = g.L.Rack in
    let r = g.G.Rack in
    let mirror = c.args.self.now in
    let left = c.write_page_of-left in
    let right = c.write_page_of-right in
    settled_keeps l.tells_stands l.tells_contents r.tells_stands r.tells_contents
    (two_sides (l.view mirror.left) (r.view mirror.right) mirror.sides)
    (two_sides (l.view left.new.rack) (r.view right.new.rack) c.settle-answer.new.sides)
    mirror.attached mirror.level mirror.lapsed mirror.starved mirror.faults _ _ _ _ _ _ _ mirror.keeps
    (g.met.L.Rack.consistent mirror.left) (g.met.G.Rack.consistent mirror.right)
    (g.met.L.Rack.consistent left.new.rack) (g.met.G.Rack.consistent right.new.rack) c.requires.ready
    0 1 0 left.result right.result c.settle-answer.result
    (counted c.is_err.result mirror.faults _ mirror.faults_fit (λ bad. sym c.is_err.ensures.value ∙ bad)
    c.count_fault.ensures.failed c.count_fault.ensures.quiet)
    left.ensures.asked right.ensures.asked c.settle-answer.ensures
