-- The pass limit: the most passes that the plan of a job has (for permutations after the upper bound of Cormen, Sundquist and Wisniewski).
use Rattle.std.specs.Prelude.{ℕ, ◌+◌, ◌-◌, List}
use Rattle.std.specs.Int.{div_ceil}
use Rattle.bm_base.specs.declared.shape.Shape.{Shape}
use Rattle.bm_rank.specs.Rank.{rank_of_rows}
use Rattle.bm_forms.specs.declared.job.Job.{Job}
use Rattle.bm_forms.specs.declared.job.Job.TheVariants.{Permute, Walsh}
use Rattle.bm_forms.specs.Rounds.{over_rounds}
pub use Rattle.bm_forms.specs.Rounds.{rotation_columns, rounds_of, last_bits}

-- of a permutation by these columns: the rank of rows b and above of columns 0..b-1, over lg(M/B) and rounded up, and 2
abbrev pub map_limit : List ℕ → ℕ → ℕ → ℕ
map_limit cols b m = div_ceil (rank_of_rows cols b b) (m - b) + 2

-- of the permutation by the rotation by `by`
abbrev pub rotation_limit : Shape → ℕ → ℕ
rotation_limit s by = map_limit (rotation_columns s.n by s.n) s.b s.m

-- of a job; for the transform the sum over its rounds, each with the rotation by its bits
abbrev pub limit_of : Shape → Job → ℕ
limit_of s (Permute f) = map_limit f.a.cols s.b s.m
limit_of s Walsh = over_rounds s (rotation_limit s)
