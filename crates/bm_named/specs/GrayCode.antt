-- The Gray code of a number, and the XOR of the bits from one on, of which the inverse code is made.
use Rattle.std.specs.Prelude.{ℕ, ◌-◌, ◌/◌, ◌^◌, bit_xor}
use Rattle.bm_gf2.specs.Vector.{xor_sum}

-- the Gray code of x
abbrev pub gray_of : ℕ → ℕ
gray_of x = bit_xor x (x / 2)

-- the XOR of bits i to n - 1 of x
abbrev pub xor_of_bits : ℕ → ℕ → ℕ → ℕ
xor_of_bits n i x = xor_sum (λ _. 1) (n - i) (x / 2 ^ i)
