-- The Walsh-Hadamard transform of a list of numbers, modulo 2 ^ 64.
use Rattle.std.specs.Prelude.{ℕ, zero, suc, ◌+◌, ◌%◌, ◌^◌, ◌==◌, if◌then◌else◌, List, bit_and, count_ones}
use Rattle.bm_base.specs.Butterfly.{number_in, record_of, negative}

-- the sum of f x over the x below k
unfoldable pub sum_below : ℕ → (ℕ → ℕ) → ℕ
sum_below zero f = 0
sum_below (suc x) f = sum_below x f + f x

-- v x, taken negative where `k AND x` has an odd number of ones
abbrev pub signed : (ℕ → ℕ) → ℕ → ℕ → ℕ
signed v k x = if count_ones (bit_and k x) % 2 == 0 then v x else negative (v x)

-- record k of the transform of 2 ^ n records: the signed sum of their numbers, in the natural (Hadamard) order
abbrev pub transformed : ℕ → (ℕ → List ℕ) → ℕ → List ℕ
transformed n xs k = record_of (sum_below (2 ^ n) (signed (λ x. number_in (xs x)) k))
