use Rattle.std.proofs.Common.{◌≡◌, ℕ, ◌^◌, ◌<◌, ◌≤◌, length, slice_index}
use Rattle.bm_gf2.proofs.matrix.Matrix.identity.Given as goal

abbrev pub invariant-loop-j : goal.invariant-loop-j
invariant-loop-j l = (length l.cols ≡ 52) × ((j : ℕ) → j < l.j → slice_index l.cols j ≡ 2 ^ j) ×
    ((j : ℕ) → l.j ≤ j → slice_index l.cols j ≡ 0)
