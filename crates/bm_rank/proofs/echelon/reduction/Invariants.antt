use Rattle.bm_rank.proofs.ReductionLemmas.{IsReduction}
use Rattle.bm_rank.proofs.echelon.reduction.Given as goal

abbrev pub invariant-loop-i : goal.invariant-loop-i
invariant-loop-i l = IsReduction l.rows l.n l.i l.v l.rest l.used
