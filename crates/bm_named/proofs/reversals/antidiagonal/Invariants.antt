use Rattle.std.proofs.Common.{◌≡◌, ℕ, ◌-◌, ◌^◌, ◌<◌, ◌≤◌, length, slice_index}
use Rattle.bm_named.proofs.reversals.antidiagonal.Given as goal

abbrev pub invariant-loop-j : goal.invariant-loop-j
invariant-loop-j l =
    (length l.cols ≡ 52)
    × ((k : ℕ) → k < l.j → slice_index l.cols k ≡ 2 ^ (l.n - 1 - k))
    × ((k : ℕ) → l.j ≤ k → slice_index l.cols k ≡ 0)
