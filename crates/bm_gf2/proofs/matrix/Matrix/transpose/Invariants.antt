use Rattle.std.proofs.Common.{◌≡◌, ℕ, ◌^◌, ◌<◌, ◌≤◌, length, slice_index}
use Rattle.std.specs.Int.{bit_at}
use Rattle.bm_gf2.specs.Matrix.{column}
use Rattle.bm_gf2.proofs.matrix.Matrix.transpose.Given as goal

abbrev pub invariant-loop-i : goal.invariant-loop-i
invariant-loop-i l =
    (length l.cols ≡ 52)
    × ((k : ℕ) → k < l.i → slice_index l.cols k < 2 ^ l.self.n)
    × ((k j : ℕ) → k < l.i → j < l.self.n → bit_at (slice_index l.cols k) j ≡ bit_at (column l.self j) k)
    × ((k : ℕ) → l.i ≤ k → slice_index l.cols k ≡ 0)
