-- Reducers: they act within columns 0..m-1, and leave there independent columns and zeros in rows m and above.
use Rattle.std.specs.Prelude.{ℕ, ◌≡◌, ◌^◌, ◌<◌, ◌≤◌}
use Rattle.bm_gf2.specs.declared.matrix.Matrix.{Matrix}
use Rattle.bm_gf2.specs.Matrix.{column}
use Rattle.bm_rank.specs.Rank.{rank_of_rows}
use Rattle.bm_factor.specs.Columns.{product, top_count, HasIndependentTops}

-- the reducer of a
pub record IsReducer (a r : Matrix) (m : ℕ) : Type 0 where
  pub size : r.n ≡ a.n
  pub within : (j : ℕ) → j < m → column r j < 2 ^ m
  pub kept : (j : ℕ) → m ≤ j → j < a.n → column r j ≡ 2 ^ j
  pub independent : HasIndependentTops (product a r) m
  pub count : top_count (product a r) m m ≡ rank_of_rows a.cols m m
