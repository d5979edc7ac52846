use Rattle.std.proofs.Common.{◌≡◌, ◌≤◌, ◌+◌}
use Rattle.bm_rank.specs.Rank.{cut_columns}
use Rattle.bm_rank.proofs.RankLemmas.{IsRanked}
use Rattle.bm_rank.proofs.column_rank.rank_of.Given as goal

abbrev pub invariant-loop-j : goal.invariant-loop-j
invariant-loop-j l = (IsRanked (cut_columns l.a.cols l.row l.cols) l.j l.found.kept l.rank) × (l.found.n ≡ l.a.n) × (l.rank + l.j ≤ l.cols)
