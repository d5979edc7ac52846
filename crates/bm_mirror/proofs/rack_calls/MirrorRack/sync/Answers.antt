use Rattle.std.proofs.Common.{◌&&◌, sym, ◌∙◌, refl}
use Rattle.bm_rack.specs.Calls.{Synced}
use Rattle.bm_mirror.specs.TwoSides.{two_sides, tells_all}
use Rattle.bm_mirror.proofs.ShownLemmas.{by_settled, shown_synced}
use Rattle.bm_mirror.proofs.KeepingLemmas.{counted, settled_keeps}
use Rattle.bm_mirror.proofs.rack_calls.MirrorRack.sync.Goals as goal

pub returns-clause-synced : goal.returns-clause-synced
returns-clause-synced g c =
    let l = g.L.Rack in
    let r = g.G.Rack in
    let ts = l.tells_stands && r.tells_stands in
    let tc = tells_all l.tells_stands r.tells_stands l.tells_contents r.tells_contents in
    let mirror = c.args.self.now in
    let left = c.sync_of-left in
    let right = c.sync_of-right in
    by_settled ts tc (two_sides (l.view mirror.left) (r.view mirror.right) mirror.sides)
    (two_sides (l.view left.new.rack) (r.view right.new.rack) c.settle-answer.new.sides)
    mirror.attached mirror.attached _ _ _ _ _ _ _ _ _ _ left.result right.result c.settle-answer.result c.settle-answer.result
    (λ v z w. Synced v z w) refl mirror.keeps c.settle-answer.ensures
    (λ is_in. shown_synced ts tc mirror.attached mirror.attached _ _ _ _ _ _ _ _ _ _ _ _ left.result refl (left.ensures.synced is_in))
    (λ is_in. shown_synced ts tc mirror.attached mirror.attached _ _ _ _ _ _ _ _ _ _ _ _ right.result refl (right.ensures.synced is_in))

pub returns-clause-keeps : goal.returns-clause-keeps
returns-clause-keeps g c =
    let l = g.L.Rack in
    let r = g.G.Rack in
    let mirror = c.args.self.now in
    let left = c.sync_of-left in
    let right = c.sync_of-right in
    settled_keeps l.tells_stands l.tells_contents r.tells_stands r.tells_contents
    (two_sides (l.view mirror.left) (r.view mirror.right) mirror.sides)
    (two_sides (l.view left.new.rack) (r.view right.new.rack) c.settle-answer.new.sides)
    mirror.attached mirror.level mirror.lapsed mirror.starved mirror.faults _ _ _ _ _ _ _ mirror.keeps
    (g.met.L.Rack.consistent mirror.left) (g.met.G.Rack.consistent mirror.right)
    (g.met.L.Rack.consistent left.new.rack) (g.met.G.Rack.consistent right.new.rack) c.requires
    0 0 1 left.result right.result c.settle-answer.result
    (counted c.is_err.result mirror.faults _ mirror.faults_fit (λ bad. sym c.is_err.ensures.value ∙ bad)
    c.count_fault.ensures.failed c.count_fault.ensures.quiet)
    left.ensures.asked right.ensures.asked c.settle-answer.ensures
