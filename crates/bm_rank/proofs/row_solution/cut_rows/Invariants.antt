use Rattle.std.proofs.Common.{◌≡◌, ◌<◌, ◌≤◌, ◌/◌, ◌%◌, ◌^◌, ℕ, length, slice_index}
use Rattle.bm_rank.proofs.row_solution.cut_rows.Given as goal

abbrev pub invariant-loop-j : goal.invariant-loop-j
invariant-loop-j l =
    ((k : ℕ) → k < l.j → slice_index l.cols k ≡ slice_index l.a.cols k / 2 ^ l.from % 2 ^ l.width)
    × ((k : ℕ) → l.j ≤ k → slice_index l.cols k ≡ 0)
    × (length l.cols ≡ 52)
