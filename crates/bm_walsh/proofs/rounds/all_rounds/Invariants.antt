use Rattle.std.proofs.Common.{◌≡◌}
use Rattle.bm_walsh.specs.Rounds.{AreWholeRounds}
use Rattle.bm_walsh.proofs.rounds.all_rounds.Given as goal

abbrev pub invariant-loop-round : goal.invariant-loop-round
invariant-loop-round l = (AreWholeRounds l.shape l._round l.plan.forms) × (l.plan.shape ≡ l.shape)
