use Rattle.std.proofs.Common.{◌≡◌, ℕ, ◌<◌, ◌≤◌, length, slice_index}
use Rattle.bm_gf2.specs.Matrix.{image, column}
use Rattle.bm_gf2.proofs.matrix.Matrix.mul.Given as goal

abbrev pub invariant-loop-j : goal.invariant-loop-j
invariant-loop-j l = (length l.cols ≡ 52) × ((j : ℕ) → j < l.j → slice_index l.cols j ≡ image l.self (column l.right j)) ×
    ((j : ℕ) → l.j ≤ j → slice_index l.cols j ≡ 0)
