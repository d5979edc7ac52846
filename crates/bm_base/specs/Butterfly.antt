-- Numbers in records of 8 bytes, and the butterflies of the Walsh-Hadamard transform on them.
use Rattle.std.specs.Prelude.{ℕ, zero, suc, ◌+◌, ◌-◌, ◌%◌, ◌^◌, ◌==◌, if◌then◌else◌, List}
use Rattle.std.specs.Int.{bit_at}
use Rattle.byteorder.specs.Endian.{little_number, little_bytes}

-- the little-endian number in a record of 8 bytes
unfoldable pub number_in : List ℕ → ℕ
number_in bytes = little_number 8 bytes

-- the record of 8 bytes with v modulo 2 ^ 64
unfoldable pub record_of : ℕ → List ℕ
record_of v = little_bytes 8 v

-- v taken negative, modulo 2 ^ 64
abbrev pub negative : ℕ → ℕ
negative v = 2 ^ 64 - v % 2 ^ 64

-- the butterfly on bit i: u and v at the addresses without and with the bit become u + v and u - v
unfoldable pub butterfly : ℕ → (ℕ → List ℕ) → ℕ → List ℕ
butterfly i xs x =
    if bit_at x i == 0
    then record_of (number_in (xs x) + number_in (xs (x + 2 ^ i)))
    else record_of (number_in (xs (x - 2 ^ i)) + negative (number_in (xs x)))

-- the butterflies on bits 0 to low - 1 in ascending order
unfoldable pub butterflies : ℕ → (ℕ → List ℕ) → ℕ → List ℕ
butterflies zero xs = xs
butterflies (suc i) xs = butterfly i (butterflies i xs)
