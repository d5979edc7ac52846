use Rattle.std.proofs.Common.{rules, ◌&&◌}
use Rattle.bm_mirror.specs.TwoSides.{two_sides, tells_all}
use Rattle.bm_mirror.proofs.ShownLemmas.{mirror_attached}
use Rattle.bm_mirror.proofs.SideLemmas.{was_in}
use Rattle.bm_mirror.proofs.AttachingLemmas.{attach_keeps}
use Rattle.bm_mirror.proofs.KeepingLemmas.{counted}
use Rattle.bm_mirror.proofs.rack_calls.MirrorRack.attach.Goals as goal

pub returns-clause-attached : goal.returns-clause-attached
returns-clause-attached g c =
    let l = g.L.Rack in
    let r = g.G.Rack in
    let mirror = c.args.self.now in
    let after = c.attach_sides-answer in
    mirror_attached (l.tells_stands && r.tells_stands) (tells_all l.tells_stands r.tells_stands l.tells_contents r.tells_contents)
    (two_sides (l.view mirror.left) (r.view mirror.right) mirror.sides)
    (two_sides (l.view after.new.left) (r.view after.new.right) after.new.sides)
    mirror.attached _ _ _ _ _ _ _ _ _ _ _ c.args.dims.now after.result c.attached_by-self.ensures mirror.keeps after.ensures.attached
    (was_in mirror.sides.left after.new.sides.left after.ensures.call.left.stays_out)
    (was_in mirror.sides.right after.new.sides.right after.ensures.call.right.stays_out)

pub returns-clause-keeps : goal.returns-clause-keeps
returns-clause-keeps g c =
    let l = g.L.Rack in
    let r = g.G.Rack in
    let mirror = c.args.self.now in
    let after = c.attach_sides-answer in
    attach_keeps l.tells_stands l.tells_contents r.tells_stands r.tells_contents c.args.dims.now after.result
    (two_sides (l.view mirror.left) (r.view mirror.right) mirror.sides)
    (two_sides (l.view after.new.left) (r.view after.new.right) after.new.sides) mirror.attached c.attached_by-self.result
    mirror.level mirror.lapsed after.new.lapsed mirror.starved mirror.faults _ _ _ _ _ _ _ mirror.keeps
    (g.met.L.Rack.consistent after.new.left) (g.met.G.Rack.consistent after.new.right)
    (counted c.eq.result mirror.faults _ mirror.faults_fit (λ bad. search (rules, c.eq.ensures, bad))
    c.count_fault.ensures.failed c.count_fault.ensures.quiet)
    after.ensures.attached after.ensures.call after.ensures.lapsed
