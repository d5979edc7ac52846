-- Swappers: they exchange columns of 0..m-1, so that those that are not 0 in rows m and above stand last.
use Rattle.std.specs.Prelude.{ℕ, ◌≡◌, ◌≢◌, ◌+◌, ◌-◌, ◌/◌, ◌^◌, ◌<◌, ◌≤◌, min}
use Rattle.bm_gf2.specs.declared.matrix.Matrix.{Matrix}
use Rattle.bm_gf2.specs.Matrix.{column}
use Rattle.bm_factor.specs.Columns.{product, top_count}

-- column j is exchanged with another of 0..m-1, or with itself
pub record IsExchanged (s : Matrix) (m j : ℕ) : Type 0 where
  pub with : ℕ
  pub below : with < m
  pub is : column s j ≡ 2 ^ with
  pub back : column s with ≡ 2 ^ j

-- the swapper of a: no column is lost, as many of columns b..m-1 as there can be are not 0 in rows m and above, and they are the last ones
pub record IsSwapper (a s : Matrix) (b m : ℕ) : Type 0 where
  pub size : s.n ≡ a.n
  pub exchanged : (j : ℕ) → j < m → IsExchanged s m j
  pub kept : (j : ℕ) → m ≤ j → j < a.n → column s j ≡ 2 ^ j
  pub same : top_count (product a s) m m ≡ top_count (column a) m m
  pub most : top_count (λ k. product a s (b + k)) m (m - b) ≡ min (top_count (column a) m m) (m - b)
  pub last : (i j : ℕ) → b ≤ i → i ≤ j → j < m → product a s i / 2 ^ m ≢ 0 → product a s j / 2 ^ m ≢ 0
