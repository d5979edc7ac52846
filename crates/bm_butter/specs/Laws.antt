-- The laws of the four pairings.
use Rattle.std.proofs.Common.{ℕ, ◌≡◌, ◌+◌, ◌%◌, ◌<◌, bit_xor, refl, sym, ap, ◌∙◌, arith}
use Rattle.std.proofs.Math.Nat.{mod-lt}
use Rattle.std.proofs.lemmas.Nat.{xor_lt, xor_comm}
use Rattle.std.specs.Int.Bits.{xor_assoc}
use Rattle.bm_base.specs.Butterfly.{negative}
use Rattle.bm_butter.specs.Pairings.{KeepsWords, Commutes}
use Rattle.bm_butter.specs.Kernels.{Kind, WalshBits, Sums, Differences, Xors, pairing}

-- the two middle terms change places
swapped : (a b c d : ℕ) → bit_xor (bit_xor a b) (bit_xor c d) ≡ bit_xor (bit_xor a c) (bit_xor b d)
swapped a b c d =
    xor_assoc a b (bit_xor c d)
    ∙ ap (bit_xor a) (sym (xor_assoc b c d) ∙ ap (λ (x : ℕ). bit_xor x d) (xor_comm b c) ∙ xor_assoc c b d)
    ∙ sym (xor_assoc a c (bit_xor b d))

-- numbers modulo 2 ^ 64 are below it
below : (v : ℕ) → v % 18446744073709551616 < 18446744073709551616
below v = mod-lt v (omega arith)

pub keeps_words : (kind : Kind) → KeepsWords (pairing kind)
unfolding pairing
keeps_words WalshBits u v p q = (below (u + v), below (u + negative v))
keeps_words Sums u v p q = (p, below (u + v))
keeps_words Differences u v p q = (p, below (v + negative u))
keeps_words Xors u v p q = (p, xor_lt 64 u v p q)

pub commutes : (kind : Kind) → Commutes (pairing kind)
unfolding pairing
commutes WalshBits a b c d p q r s = record { first = omega arith; second = omega arith; third = omega arith; fourth = omega arith }
commutes Sums a b c d p q r s = record { first = refl; second = refl; third = refl; fourth = omega arith }
commutes Differences a b c d p q r s = record { first = refl; second = refl; third = refl; fourth = omega arith }
commutes Xors a b c d p q r s = record { first = refl; second = refl; third = refl; fourth = swapped a b c d }
