-- Vectors over GF(2) as numbers: bit i of the number is entry i.
use Rattle.std.specs.Prelude.{ℕ, zero, suc, ◌*◌, ◌≡◌, bit_xor}
use Rattle.std.specs.Int.{bit_at}

-- the XOR of w j over the j below k for which bit j of x is set
unfoldable pub xor_sum : (ℕ → ℕ) → ℕ → ℕ → ℕ
xor_sum w zero x = 0
xor_sum w (suc j) x = bit_xor (xor_sum w j x) (bit_at x j * w j)

-- the image of a sum is the sum of the images
abbrev pub IsAdditive : (ℕ → ℕ) → Type 0
IsAdditive f = (x y : ℕ) → f (bit_xor x y) ≡ bit_xor (f x) (f y)
