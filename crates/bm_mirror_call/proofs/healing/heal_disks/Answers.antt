use Rattle.std.proofs.Common.{◌&&◌, ◌^◌, ◌≤◌, Some, sym, subst}
use Rattle.std.proofs.Math.Pow.{pow_mono}
use Rattle.bm_base.specs.declared.dims.Dims.{Dims}
use Rattle.bm_base.specs.Shape.{dims_of}
use Rattle.bm_mirror.specs.Lasting.{history}
use Rattle.bm_mirror.specs.TwoSides.{two_sides}
use Rattle.bm_mirror.proofs.SinceLemmas.{left_counts, right_counts}
use Rattle.bm_mirror_call.specs.Healing.{ComesIn}
use Rattle.bm_mirror_call.proofs.HealLemmas.{attached_in}
use Rattle.bm_mirror_call.proofs.healing.heal_disks.Goals as goal

pub heal_attached-requires-clause-few : goal.heal_attached-requires-clause-few
heal_attached-requires-clause-few g c =
    let s = c.args.shape.now in
    let few : 2 ^ s.d ≤ 2 ^ 6 = pow_mono {i = s.d} {j = 6} s.keeps.disks in
    subst (λ (dims : Dims). dims.disks ≤ 64) (sym c.dims-dims.ensures) few

pub returns-in-Ok-Ready-clause-sides : goal.returns-in-Ok-Ready-clause-sides
returns-in-Ok-Ready-clause-sides g c = λ ok.
    let m = c.args.mirror.now in
    let n = c.attach.new.self in
    let e = c.heal_attached.new.mirror in
    let old = two_sides (g.L.Rack.view m.left) (g.G.Rack.view m.right) m.sides in
    let mid = two_sides (g.L.Rack.view n.left) (g.G.Rack.view n.right) n.sides in
    let new = two_sides (g.L.Rack.view e.left) (g.G.Rack.view e.right) e.sides in
    let told = g.L.Rack.tells_stands && g.G.Rack.tells_stands in
    let before = history n.level n.lapsed n.starved n.faults in
    let after = history e.level e.lapsed e.starved e.faults in
    let later = c.heal_attached.ensures.shows.keeps.lasting in
    attached_in told (dims_of c.args.shape.now) _ _ _ old mid new c.attach.ensures.sides n.remembers.lapsed
    (left_counts told mid before new after later) (right_counts told mid before new after later)
    (g.met.L.Rack.consistent e.left).faults (g.met.G.Rack.consistent e.right).faults
    (subst (λ (dims : Dims). ComesIn told dims (Some dims) mid new) c.dims-dims.ensures (c.heal_attached.ensures.sides ok))
