use Rattle.std.proofs.Common.{◌≡◌}
use Rattle.bm_walsh.proofs.PassListLemmas.{IsPushed}
use Rattle.bm_walsh.proofs.rounds.push_passes.Given as goal

abbrev pub invariant-loop-i : goal.invariant-loop-i
invariant-loop-i l = (IsPushed l.low l.i l.fn.plan.forms l.round.forms l.plan.forms) × (l.plan.shape ≡ l.fn.plan.shape)
