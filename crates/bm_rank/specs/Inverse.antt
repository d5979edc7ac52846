-- Inverses of matrices.
use Rattle.std.specs.Prelude.{ℕ, ◌≡◌, ◌^◌, ◌<◌}
use Rattle.bm_gf2.specs.declared.matrix.Matrix.{Matrix}
use Rattle.bm_gf2.specs.Matrix.{image}

-- each undoes the other
pub record IsInverse (a b : Matrix) : Type 0 where
  pub size : b.n ≡ a.n
  pub right : (y : ℕ) → y < 2 ^ a.n → image a (image b y) ≡ y
  pub left : (x : ℕ) → x < 2 ^ a.n → image b (image a x) ≡ x
