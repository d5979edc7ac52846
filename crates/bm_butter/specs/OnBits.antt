-- A pairing on bits of the addresses of a list of records. Addresses that differ in a bit alone are a pair of that bit.
use Rattle.std.specs.Prelude.{ℕ, zero, suc, ◌≢◌, ◌%◌, ◌^◌, ◌<◌, ◌==◌, if◌then◌else◌, List, bit_or, bit_xor}
use Rattle.std.specs.Int.{bit_at}
use Rattle.bm_base.specs.Butterfly.{number_in, record_of}

-- the number in a record, modulo 2 ^ 64
abbrev pub word : List ℕ → ℕ
word bytes = number_in bytes % 2 ^ 64

-- on bit i: u and v at the addresses without and with the bit become the two numbers of the pairing
unfoldable pub kernel_on : (ℕ → ℕ → ℕ × ℕ) → ℕ → (ℕ → List ℕ) → ℕ → List ℕ
kernel_on f i xs x =
    if bit_at x i == 0
    then record_of (f (word (xs x)) (word (xs (bit_xor x (2 ^ i))))).0
    else record_of (f (word (xs (bit_xor x (2 ^ i)))) (word (xs x))).1

-- on those of the bits below n that are in the set, in ascending order
unfoldable pub kernel_over : (ℕ → ℕ → ℕ × ℕ) → ℕ → ℕ → (ℕ → List ℕ) → ℕ → List ℕ
kernel_over f zero set xs = xs
kernel_over f (suc i) set xs = if bit_at set i == 0 then kernel_over f i set xs else kernel_on f i (kernel_over f i set xs)

-- on the first `count` bits of a list, in the list's order
unfoldable pub kernel_along : (ℕ → ℕ → ℕ × ℕ) → (ℕ → ℕ) → ℕ → (ℕ → List ℕ) → ℕ → List ℕ
kernel_along f bits zero xs = xs
kernel_along f bits (suc j) xs = kernel_on f (bits j) (kernel_along f bits j xs)

-- on the digits 0 to count - 1 of the address
abbrev pub kernel_digits : (ℕ → ℕ → ℕ × ℕ) → ℕ → (ℕ → List ℕ) → ℕ → List ℕ
kernel_digits f count = kernel_along f (λ j. j) count

-- the set of the first `count` bits of a list
unfoldable pub set_of : (ℕ → ℕ) → ℕ → ℕ
set_of bits zero = 0
set_of bits (suc j) = bit_or (set_of bits j) (2 ^ bits j)

-- the first `count` bits of a list are below n, and no two are the same
pub record AreBits (n count : ℕ) (bits : ℕ → ℕ) : Type 0 where
  pub below : (j : ℕ) → j < count → bits j < n
  pub apart : (i j : ℕ) → i < j → j < count → bits i ≢ bits j
