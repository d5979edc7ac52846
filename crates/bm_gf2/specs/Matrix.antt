-- What a matrix does to a vector.
use Rattle.std.specs.Prelude.{ℕ, ◌≡◌, ◌<◌, ◌^◌, slice_index}
use Rattle.bm_gf2.specs.Vector.{xor_sum}
use Rattle.bm_gf2.specs.declared.matrix.Matrix.{Matrix}

-- column j
abbrev pub column : Matrix → ℕ → ℕ
column a j = slice_index a.cols j

-- the XOR of the columns that x picks
abbrev pub image : Matrix → ℕ → ℕ
image a x = xor_sum (column a) a.n x

-- 0 alone is sent to 0
abbrev pub IsNonsingular : Matrix → Type 0
IsNonsingular a = (x : ℕ) → x < 2 ^ a.n → image a x ≡ 0 → x ≡ 0
