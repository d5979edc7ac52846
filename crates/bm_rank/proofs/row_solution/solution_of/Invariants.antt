use Rattle.std.proofs.Common.{◌≡◌, ◌<◌, ◌≤◌, ◌+◌, ℕ, length, slice_index}
use Rattle.bm_gf2.specs.Vector.{xor_sum}
use Rattle.bm_rank.proofs.row_solution.solution_of.Given as goal

abbrev pub invariant-loop-i : goal.invariant-loop-i
invariant-loop-i l =
    ((k : ℕ) → k < l.i → slice_index l.cols k ≡ xor_sum (slice_index l.highs) l.m (slice_index l.back.cols (l.b + k)))
    × ((k : ℕ) → l.i ≤ k → slice_index l.cols k ≡ 0)
    × (length l.cols ≡ 52)
