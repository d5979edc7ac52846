use Rattle.std.proofs.Common.{◌≡◌, ◌<◌, ◌≤◌, ◌^◌, ℕ, length, slice_index}
use Rattle.bm_gf2.specs.Vector.{xor_sum}
use Rattle.bm_rank.proofs.inversion.inverse_of.Given as goal

abbrev pub invariant-loop-i : goal.invariant-loop-i
invariant-loop-i l =
    ((j : ℕ) → j < l.i → slice_index l.cols j < 2 ^ l.a.n)
    × ((j : ℕ) → j < l.i → xor_sum (slice_index l.a.cols) l.a.n (slice_index l.cols j) ≡ 2 ^ j)
    × ((j : ℕ) → l.i ≤ j → slice_index l.cols j ≡ 0)
    × (length l.cols ≡ 52)
