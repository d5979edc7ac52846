use Rattle.std.proofs.Common.{◌≡◌, ◌≤◌, length, slice_index}
use Rattle.bm_rank.proofs.RowSolutionLemmas.{IsSolving}
use Rattle.bm_rank.proofs.row_solution.first_split.Given as goal

abbrev pub invariant-loop-j : goal.invariant-loop-j
invariant-loop-j l =
    (l.found.n ≡ l.width)
    × (length l.found.kept ≡ l.count)
    × (l.count ≤ l.j)
    × (length l.units ≡ 52)
    × IsSolving (slice_index l.lows) (slice_index l.highs) l.m l.j l.found.kept (slice_index l.units)
