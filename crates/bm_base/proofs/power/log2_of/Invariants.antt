use Rattle.std.proofs.Common.{◌≢◌, ℕ, ◌^◌, ◌<◌}
use Rattle.bm_base.proofs.power.log2_of.Given as goal

abbrev pub invariant-loop-k : goal.invariant-loop-k
invariant-loop-k l = (j : ℕ) → j < l.k → l.v ≢ 2 ^ j
