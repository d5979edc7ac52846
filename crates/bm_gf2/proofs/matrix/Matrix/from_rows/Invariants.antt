use Rattle.std.proofs.Common.{◌≡◌, ℕ, ◌<◌, ◌≤◌, length, slice_index}
use Rattle.bm_gf2.proofs.matrix.Matrix.from_rows.Given as goal

abbrev pub invariant-loop-i : goal.invariant-loop-i
invariant-loop-i l =
    (length l.cols ≡ 52)
    × ((k : ℕ) → k < l.i → slice_index l.cols k ≡ slice_index l.rows k)
    × ((k : ℕ) → l.i ≤ k → slice_index l.cols k ≡ 0)
