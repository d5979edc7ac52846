use Rattle.std.proofs.Common.{ℕ, ◌≡◌, ◌/◌, ◌^◌, ◌<◌, ◌≤◌}
use Rattle.bm_gf2.specs.Matrix.{column}
use Rattle.bm_factor.proofs.swapping.next_nonzero.Given as goal

abbrev pub invariant-loop-k : goal.invariant-loop-k
invariant-loop-k l = (p : ℕ) → l.from ≤ p → p < l.k → column l.a p / 2 ^ l.m ≡ 0
