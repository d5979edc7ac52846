-- Vectors that a matrix sends to 0.
use Rattle.std.specs.Prelude.{ℕ, ◌≡◌, ◌≢◌, ◌^◌, ◌<◌, ◌≤◌}
use Rattle.bm_gf2.specs.declared.matrix.Matrix.{Matrix}
use Rattle.bm_gf2.specs.Matrix.{image}

-- the least vector but 0 that the matrix sends to 0
pub record IsLeastKernel (a : Matrix) (x : ℕ) : Type 0 where
  pub some : x ≢ 0
  pub below : x < 2 ^ a.n
  pub sent : image a x ≡ 0
  pub least : (y : ℕ) → y < 2 ^ a.n → y ≢ 0 → image a y ≡ 0 → x ≤ y
