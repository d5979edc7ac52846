-- The kinds of transform over a set of address bits, as sums over addresses. All is modulo 2 ^ 64.
use Rattle.std.specs.Prelude.{ℕ, zero, suc, ◌+◌, ◌%◌, ◌^◌, ◌==◌, if◌then◌else◌, bit_and, bit_or, bit_xor, count_ones}
use Rattle.bm_base.specs.Butterfly.{negative}
pub use Rattle.bm_butter.specs.Kernels.{Kind, WalshBits, Sums, Differences, Xors}
unfoldable pub use Rattle.bm_butter.specs.Kernels.{pairing}

-- v, taken negative where c has an odd number of ones
abbrev pub with_sign : ℕ → ℕ → ℕ
with_sign c v = if count_ones c % 2 == 0 then v else negative v

-- v where x agrees with k outside the set, else nothing
abbrev pub outside : ℕ → ℕ → ℕ → ℕ → ℕ
outside set k x v = if bit_or x set == bit_or k set then v else 0

-- v where the bits of x in the set are bits of k, else nothing
abbrev pub inside : ℕ → ℕ → ℕ → ℕ → ℕ
inside set k x v = if bit_or (bit_and x set) k == k then v else 0

-- what number v at x adds to number k
unfoldable pub term : Kind → ℕ → ℕ → ℕ → ℕ → ℕ
term WalshBits set k x v = outside set k x (with_sign (bit_and (bit_and k x) set) v)
term Sums set k x v = outside set k x (inside set k x v)
term Differences set k x v = outside set k x (inside set k x (with_sign (bit_xor k x) v))
term Xors set k x v = outside set k x (inside set k x v)

-- how terms are added
unfoldable pub added : Kind → ℕ → ℕ → ℕ
added WalshBits s t = s + t
added Sums s t = s + t
added Differences s t = s + t
added Xors s t = bit_xor s t

-- all terms of the x below count
unfoldable pub total : Kind → ℕ → (ℕ → ℕ) → ℕ
total kind zero terms = 0
total kind (suc x) terms = added kind (total kind x terms) (terms x)

-- number k of the transform of 2 ^ n numbers
abbrev pub kind_transformed : Kind → ℕ → ℕ → (ℕ → ℕ) → ℕ → ℕ
kind_transformed kind n set numbers k = total kind (2 ^ n) (λ x. term kind set k x (numbers x)) % 2 ^ 64
