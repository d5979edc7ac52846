use Rattle.std.proofs.Common.{rules, None}
use Rattle.bm_mirror.specs.TwoSides.{two_sides}
use Rattle.bm_mirror.proofs.CreateLemmas.{mirror_created, created}
use Rattle.bm_mirror.proofs.CreateKeepsLemmas.{create_keeps}
use Rattle.bm_mirror.proofs.KeepingLemmas.{counted}
use Rattle.bm_mirror.proofs.rack_calls.MirrorRack.create.Goals as goal

pub invariant_of-self-clause-keeps : goal.invariant_of-self-clause-keeps
invariant_of-self-clause-keeps g c =
    let l = g.L.Rack in
    let r = g.G.Rack in
    let mirror = c.args.self.now in
    let after = c.create_both-answer in
    mirror_created l.tells_stands l.tells_contents r.tells_stands r.tells_contents c.args.dims.now after.result after.new.starved
    (two_sides (l.view mirror.left) (r.view mirror.right) mirror.sides)
    (two_sides (l.view after.new.left) (r.view after.new.right) after.new.sides) mirror.attached mirror.keeps after.ensures.created
    (g.met.L.Rack.consistent after.new.left) (g.met.G.Rack.consistent after.new.right)

pub returns-clause-created : goal.returns-clause-created
returns-clause-created g c =
    let l = g.L.Rack in
    let r = g.G.Rack in
    let mirror = c.args.self.now in
    let after = c.create_both-answer in
    created l.tells_stands l.tells_contents r.tells_stands r.tells_contents c.args.dims.now after.result after.new.starved
    (two_sides (l.view mirror.left) (r.view mirror.right) mirror.sides)
    (two_sides (l.view after.new.left) (r.view after.new.right) after.new.sides) mirror.attached mirror.keeps after.ensures.created
    (g.met.L.Rack.consistent after.new.left) (g.met.G.Rack.consistent after.new.right) _ _ _ _ _ _ _ _ _ _

pub returns-clause-keeps : goal.returns-clause-keeps
returns-clause-keeps g c =
    let l = g.L.Rack in
    let r = g.G.Rack in
    let mirror = c.args.self.now in
    let after = c.create_both-answer in
    create_keeps l.tells_stands l.tells_contents r.tells_stands r.tells_contents c.args.dims.now after.result
    (two_sides (l.view mirror.left) (r.view mirror.right) mirror.sides)
    (two_sides (l.view after.new.left) (r.view after.new.right) after.new.sides) mirror.attached None
    mirror.level c.level_after-self.result mirror.lapsed mirror.starved after.new.starved mirror.faults _ _ _ _ _ _ _ mirror.keeps
    (g.met.L.Rack.consistent after.new.left) (g.met.G.Rack.consistent after.new.right)
    (counted c.eq.result mirror.faults _ mirror.faults_fit (λ bad. search (rules, c.eq.ensures, bad))
    c.count_fault.ensures.failed c.count_fault.ensures.quiet)
    after.ensures.created after.ensures.starved c.level_after-self.ensures.left c.level_after-self.ensures.right
