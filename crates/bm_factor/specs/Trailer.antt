-- Trailers: they add columns of 0..m-1 into columns from m on, and leave a nonsingular trailing block.
use Rattle.std.specs.Prelude.{ℕ, ◌≡◌, ◌^◌, ◌<◌, ◌≤◌, bit_xor}
use Rattle.bm_gf2.specs.declared.matrix.Matrix.{Matrix}
use Rattle.bm_gf2.specs.Matrix.{column}
use Rattle.bm_factor.specs.Columns.{product, HasTrailingBlock}

-- column j has some of columns 0..m-1 added
pub record AddsInto (t : Matrix) (m j : ℕ) : Type 0 where
  pub added : ℕ
  pub below : added < 2 ^ m
  pub is : column t j ≡ bit_xor added (2 ^ j)

-- the trailer of a
pub record IsTrailer (a t : Matrix) (m : ℕ) : Type 0 where
  pub size : t.n ≡ a.n
  pub kept : (j : ℕ) → j < m → column t j ≡ 2 ^ j
  pub adds : (j : ℕ) → m ≤ j → j < a.n → AddsInto t m j
  pub trailing : HasTrailingBlock (product a t) a.n m
