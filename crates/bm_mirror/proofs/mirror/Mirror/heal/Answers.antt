use Rattle.std.proofs.Common.{rules, false}
use Rattle.bm_mirror.specs.TwoSides.{two_sides}
use Rattle.bm_mirror.proofs.HealedLemmas.{mirror_healed, healed_shows, healed_clean}
use Rattle.bm_mirror.proofs.HealKeepsLemmas.{heal_keeps}
use Rattle.bm_mirror.proofs.KeepingLemmas.{counted}
use Rattle.bm_mirror.proofs.mirror.Mirror.heal.Goals as goal

pub invariant_of-self-clause-keeps : goal.invariant_of-self-clause-keeps
invariant_of-self-clause-keeps g c =
    let l = g.L.Rack in
    let r = g.G.Rack in
    let mirror = c.args.self.now in
    let after = c.fill_sides-answer in
    mirror_healed l.tells_stands l.tells_contents r.tells_stands r.tells_contents c.args.dims.now after.result
    (two_sides (l.view mirror.left) (r.view mirror.right) mirror.sides)
    (two_sides (l.view after.new.left) (r.view after.new.right) after.new.sides) mirror.attached mirror.keeps c.requires.attached
    after.ensures (g.met.L.Rack.consistent after.new.left) (g.met.G.Rack.consistent after.new.right)

pub returns-clause-shows : goal.returns-clause-shows
returns-clause-shows g c =
    let l = g.L.Rack in
    let r = g.G.Rack in
    let mirror = c.args.self.now in
    let after = c.fill_sides-answer in
    healed_shows l.tells_stands l.tells_contents r.tells_stands r.tells_contents c.args.dims.now after.result
    (two_sides (l.view mirror.left) (r.view mirror.right) mirror.sides)
    (two_sides (l.view after.new.left) (r.view after.new.right) after.new.sides) mirror.attached mirror.keeps c.requires.attached
    after.ensures (g.met.L.Rack.consistent after.new.left) (g.met.G.Rack.consistent after.new.right) _ _ _ _ _ _ _

pub returns-clause-clean : goal.returns-clause-clean
returns-clause-clean g c apart ok =
    let l = g.L.Rack in
    let r = g.G.Rack in
    let mirror = c.args.self.now in
    let after = c.fill_sides-answer in
    healed_clean l.tells_stands l.tells_contents r.tells_stands r.tells_contents c.args.dims.now after.result
    (two_sides (l.view mirror.left) (r.view mirror.right) mirror.sides)
    (two_sides (l.view after.new.left) (r.view after.new.right) after.new.sides) mirror.attached mirror.keeps c.requires.attached
    after.ensures (g.met.L.Rack.consistent after.new.left) (g.met.G.Rack.consistent after.new.right)
    mirror.faults mirror.moves mirror.pages mirror.syncs (λ _. false) apart ok

pub returns-clause-keeps : goal.returns-clause-keeps
returns-clause-keeps g c =
    let l = g.L.Rack in
    let r = g.G.Rack in
    let mirror = c.args.self.now in
    let after = c.fill_sides-answer in
    heal_keeps l.tells_stands l.tells_contents r.tells_stands r.tells_contents c.args.dims.now after.result
    (two_sides (l.view mirror.left) (r.view mirror.right) mirror.sides)
    (two_sides (l.view after.new.left) (r.view after.new.right) after.new.sides) mirror.attached
    mirror.level c.level_after-self.result mirror.lapsed mirror.starved mirror.faults _ _ _ _ _ _ _ mirror.keeps c.requires.attached
    (g.met.L.Rack.consistent mirror.left) (g.met.G.Rack.consistent mirror.right)
    (g.met.L.Rack.consistent after.new.left) (g.met.G.Rack.consistent after.new.right)
    (counted c.eq.result mirror.faults _ mirror.faults_fit (λ bad. search (rules, c.eq.ensures, bad))
    c.count_fault.ensures.failed c.count_fault.ensures.quiet)
    after.ensures c.level_after-self.ensures.left c.level_after-self.ensures.right
