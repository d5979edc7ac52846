-- Columns that set one bit which no other column has.
use Rattle.std.specs.Prelude.{ℕ, ◌≡◌, ◌≢◌, ◌^◌, ◌<◌}
use Rattle.std.specs.Int.{bit_at}
use Rattle.bm_gf2.specs.declared.matrix.Matrix.{Matrix}
use Rattle.bm_gf2.specs.Matrix.{column}

-- column i is the unit vector of row h, and the only one that is not 0 there
pub record IsLoneBit (a : Matrix) (i h : ℕ) : Type 0 where
  pub inside : h < a.n
  pub unit : column a i ≡ 2 ^ h
  pub others : (j : ℕ) → j < a.n → j ≢ i → bit_at (column a j) h ≡ 0
