-- Erasers: they add columns from m on into columns b..m-1, which then are 0 in rows m and above.
use Rattle.std.specs.Prelude.{ℕ, ◌≡◌, ◌-◌, ◌*◌, ◌/◌, ◌^◌, ◌<◌, ◌≤◌, bit_xor}
use Rattle.bm_gf2.specs.declared.matrix.Matrix.{Matrix}
use Rattle.bm_gf2.specs.Matrix.{column}
use Rattle.bm_factor.specs.Columns.{product}

-- column j has some of columns m..n-1 added
pub record AddsTrailing (e : Matrix) (m j : ℕ) : Type 0 where
  pub added : ℕ
  pub below : added < 2 ^ (e.n - m)
  pub is : column e j ≡ bit_xor (added * 2 ^ m) (2 ^ j)

-- the eraser of a
pub record IsEraser (a e : Matrix) (b m : ℕ) : Type 0 where
  pub size : e.n ≡ a.n
  pub first : (j : ℕ) → j < b → column e j ≡ 2 ^ j
  pub adds : (j : ℕ) → b ≤ j → j < m → AddsTrailing e m j
  pub kept : (j : ℕ) → m ≤ j → j < a.n → column e j ≡ 2 ^ j
  pub erased : (j : ℕ) → b ≤ j → j < m → product a e j / 2 ^ m ≡ 0
