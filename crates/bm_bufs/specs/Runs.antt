-- Runs of records that move as a whole.
use Rattle.std.specs.Prelude.{ℕ, ◌≡◌, ◌+◌, ◌-◌, ◌/◌, ◌%◌, ◌^◌, ◌<◌, ◌≤◌}
use Rattle.bm_gf2.specs.declared.matrix.Matrix.{Matrix}
use Rattle.bm_gf2.specs.Matrix.{column}

-- Runs of 2 ^ low numbers have runs of places: the low columns are units, and nothing else has a low bit.
pub record KeepsRuns (a : Matrix) (plus low : ℕ) : Type 0 where
  pub inside : low < a.n
  pub units : (j : ℕ) → j < low → column a j ≡ 2 ^ j
  pub others : (j : ℕ) → low ≤ j → j < a.n → column a j % 2 ^ low ≡ 0
  pub constant : plus % 2 ^ low ≡ 0

-- what this asks of column j: it is a unit where j < low, and has no low bit elsewhere
pub record FitsRuns (column j low : ℕ) : Type 0 where
  pub unit : j < low → column ≡ 2 ^ j
  pub clear : low ≤ j → column % 2 ^ low ≡ 0

-- runs sends the number of a run to the number of its places' run
pub record IsRunMatrix (a : Matrix) (low : ℕ) (runs : Matrix) : Type 0 where
  pub size : runs.n ≡ a.n - low
  pub columns : (j : ℕ) → j < runs.n → column runs j ≡ column a (low + j) / 2 ^ low
