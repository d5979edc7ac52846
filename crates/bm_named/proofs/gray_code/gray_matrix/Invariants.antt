use Rattle.std.proofs.Common.{◌≡◌, ℕ, ◌/◌, ◌^◌, ◌<◌, ◌≤◌, length, slice_index, bit_xor}
use Rattle.bm_named.proofs.gray_code.gray_matrix.Given as goal

abbrev pub invariant-loop-j : goal.invariant-loop-j
invariant-loop-j l =
    (length l.cols ≡ 52)
    × ((k : ℕ) → k < l.j → slice_index l.cols k ≡ bit_xor (2 ^ k) (2 ^ k / 2))
    × ((k : ℕ) → l.j ≤ k → slice_index l.cols k ≡ 0)
