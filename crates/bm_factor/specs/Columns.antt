-- What column operations leave: the columns of a product, its trailing block and its trailing rows.
-- The functions give column j of a matrix; rows m and above of a column w are w / 2 ^ m.
use Rattle.std.specs.Prelude.{ℕ, zero, suc, ◌≡◌, ◌+◌, ◌-◌, ◌/◌, ◌^◌, ◌<◌}
use Rattle.std.specs.Int.{bit_at}
use Rattle.bm_gf2.specs.Vector.{xor_sum}
use Rattle.bm_gf2.specs.declared.matrix.Matrix.{Matrix}
use Rattle.bm_gf2.specs.Matrix.{image, column}
use Rattle.bm_rank.specs.Echelon.{weight}

-- the columns of the product a t: what the column operation t makes of those of a
abbrev pub product : Matrix → Matrix → ℕ → ℕ
product a t j = image a (column t j)

-- rows m and above of the columns from m on are nonsingular: no sum of these columns but the empty one is 0 there
abbrev pub HasTrailingBlock : (ℕ → ℕ) → ℕ → ℕ → Type 0
HasTrailingBlock w n m = (y : ℕ) → y < 2 ^ (n - m) → xor_sum (λ k. w (m + k) / 2 ^ m) (n - m) y ≡ 0 → y ≡ 0

-- how many of the first k columns are not 0 in rows m and above
unfoldable pub top_count : (ℕ → ℕ) → ℕ → ℕ → ℕ
top_count w m zero = 0
top_count w m (suc k) = top_count w m k + weight (w k / 2 ^ m)

-- those of the first m columns that are not 0 in rows m and above are independent there: a sum of them that is 0 is empty
abbrev pub HasIndependentTops : (ℕ → ℕ) → ℕ → Type 0
HasIndependentTops w m = (x : ℕ) → x < 2 ^ m → ((j : ℕ) → j < m → w j / 2 ^ m ≡ 0 → bit_at x j ≡ 0)
    → xor_sum (λ j. w j / 2 ^ m) m x ≡ 0 → x ≡ 0

-- the matrix is its own inverse
abbrev pub IsOwnInverse : Matrix → Type 0
IsOwnInverse t = (x : ℕ) → x < 2 ^ t.n → image t (image t x) ≡ x
