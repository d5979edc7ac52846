use Rattle.std.proofs.Common.{◌≡◌, ℕ, ◌+◌, ◌-◌, ◌%◌, ◌^◌, ◌<◌, ◌≤◌, length, slice_index}
use Rattle.bm_gf2.proofs.matrix.Matrix.turn.Given as goal

abbrev pub invariant-loop-j : goal.invariant-loop-j
invariant-loop-j l =
    (length l.cols ≡ 52)
    × ((k : ℕ) → k < l.j → slice_index l.cols k ≡ 2 ^ ((k + l.n - l.by) % l.n))
    × ((k : ℕ) → l.j ≤ k → slice_index l.cols k ≡ 0)
