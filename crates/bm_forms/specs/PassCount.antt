-- How many passes the plan of a job has: what `factor` and `walsh_plan` make, and what the text of a plan says.
use Rattle.std.specs.Prelude.{ℕ, ◌+◌, ◌-◌, if◌then◌else◌, List}
use Rattle.std.specs.Int.{div_ceil}
use Rattle.bm_base.specs.declared.shape.Shape.{Shape}
use Rattle.bm_rank.specs.Rank.{rank_of_rows}
use Rattle.bm_forms.specs.declared.job.Job.{Job}
use Rattle.bm_forms.specs.declared.job.Job.TheVariants.{Permute, Walsh}
use Rattle.bm_forms.specs.MldTest.{is_mld}
use Rattle.bm_forms.specs.Rounds.{rotation_columns, over_rounds}

-- of a permutation by these columns: one where they are MLD, else the rank of rows m and above of columns 0..m-1, over lg(M/B) and
-- rounded up, and one
abbrev pub map_passes : Shape → List ℕ → ℕ
map_passes s cols = if is_mld cols s.n s.b s.m then 1 else div_ceil (rank_of_rows cols s.m s.m) (s.m - s.b) + 1

-- of the permutation by the rotation by `by`
abbrev pub rotation_passes : Shape → ℕ → ℕ
rotation_passes s by = map_passes s (rotation_columns s.n by s.n)

-- of a job; for the transform the sum over its rounds, each with the rotation by its bits
abbrev pub passes_of : Shape → Job → ℕ
passes_of s (Permute f) = map_passes s f.a.cols
passes_of s Walsh = over_rounds s (rotation_passes s)
