use Rattle.std.proofs.Common.{◌≡◌}
use Rattle.bm_factor.proofs.FactoringLemmas.{IsFactoring}
use Rattle.bm_factor.proofs.factoring.several_passes.Given as goal

abbrev pub invariant-loop-round : goal.invariant-loop-round
invariant-loop-round l = (IsFactoring l.shape l.map.a l.rest l.done l.rank l._round l.plan.forms) × (l.plan.shape ≡ l.shape)
