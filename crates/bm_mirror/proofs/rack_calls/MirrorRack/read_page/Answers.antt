use Rattle.std.proofs.Common.{sym, ◌∙◌, refl}
use Rattle.bm_mirror.specs.TwoSides.{two_sides}
use Rattle.bm_mirror.proofs.KeepingLemmas.{counted, read_keeps}
use Rattle.bm_mirror.proofs.rack_calls.MirrorRack.read_page.Goals as goal

pub returns-clause-keeps : goal.returns-clause-keeps
returns-clause-keeps g c =
    let l = g.L.Rack in
    let r = g.G.Rack in
    let mirror = c.args.self.now in
    let left = c.read_page_of-left in
    let right = c.read_page_of-right in
    read_keeps l.tells_stands l.tells_contents r.tells_stands r.tells_contents
    (two_sides (l.view mirror.left) (r.view mirror.right) mirror.sides)
    (two_sides (l.view left.new.rack) (r.view right.new.rack) mirror.sides)
    mirror.attached mirror.level mirror.lapsed mirror.starved mirror.faults _ _ _ _ _ _ _ mirror.keeps
    (g.met.L.Rack.consistent mirror.left) (g.met.G.Rack.consistent mirror.right)
    (g.met.L.Rack.consistent left.new.rack) (g.met.G.Rack.consistent right.new.rack) c.requires.ready
    0 1 0 left.result right.result c.either-answer.result c.asks_right-asked.result
    (counted c.is_err.result mirror.faults _ mirror.faults_fit (λ bad. sym c.is_err.ensures.value ∙ bad)
    c.count_fault.ensures.failed c.count_fault.ensures.quiet)
    refl c.asks_right-asked.ensures c.either-answer.ensures.left c.either-answer.ensures.right left.ensures.read right.ensures.read
