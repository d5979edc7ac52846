use Rattle.std.proofs.Common.{ℕ, ◌*◌, ◌^◌, ◌≤◌}
use Rattle.bm_split.proofs.choice.most_bits.Given as goal

abbrev pub invariant-loop-below : goal.invariant-loop-below
invariant-loop-below l = (k : ℕ) → k ≤ l.most → 2 ^ k * l.width ≤ l.bytes → k ≤ l.below
