-- Maps that keep the low bits of a number.
use Rattle.std.specs.Prelude.{ℕ, ◌≡◌, ◌+◌, ◌-◌, ◌*◌, ◌^◌, ◌<◌, List, slice_index}
use Rattle.bm_gf2.specs.declared.matrix.Matrix.{Matrix}
use Rattle.bm_gf2.specs.Matrix.{column}

-- the low columns are units, and the others have the given bits above the low ones
pub record IsRunMap (a : Matrix) (low : ℕ) (tops : List ℕ) : Type 0 where
  pub units : (j : ℕ) → j < low → column a j ≡ 2 ^ j
  pub others : (i : ℕ) → i < a.n - low → column a (low + i) ≡ slice_index tops i * 2 ^ low
