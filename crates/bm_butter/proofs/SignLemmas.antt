-- The pairing of sums and differences is that of the butterflies.
use Rattle.std.proofs.Common.{ℕ, zero, suc, ◌≡◌, ◌+◌, ◌-◌, ◌%◌, ◌^◌, List, refl, sym, ap, ◌∙◌, arith}
use Rattle.std.specs.Int.{bit_at}
use Rattle.bm_base.specs.Butterfly.{number_in, record_of, negative, butterfly, butterflies}
use Rattle.bm_base.proofs.ButterflyLemmas.{record_of-mod, butterfly-clear, butterfly-set, without_bit}
use Rattle.bm_gf2.proofs.VectorLemmas.{xor_cancel_right}
use Rattle.bm_butter.specs.Kernels.{WalshBits, pairing}
use Rattle.bm_butter.specs.OnBits.{word, kernel_on, kernel_along, kernel_digits}
use Rattle.bm_butter.proofs.OnBitLemmas.{flip, bit_by, kernel_on-clear, kernel_on-set}
use Rattle.bm_butter.proofs.KernelLemmas.{same_lists}
use Rattle.bm_butter.proofs.PairedLemmas.{set_by_xor}

-- at an address without the bit
sign_clear : (i : ℕ) (xs : ℕ → List ℕ) (x : ℕ) → bit_at x i ≡ 0 → kernel_on (pairing WalshBits) i xs x ≡ butterfly i xs x
unfolding pairing
sign_clear i xs x clear =
    kernel_on-clear (pairing WalshBits) i xs x clear
    ∙ ap (λ (y : ℕ). record_of ((word (xs x) + word (xs y)) % 18446744073709551616)) (sym (set_by_xor i x clear))
    ∙ record_of-mod _ (number_in (xs x) + number_in (xs (x + 2 ^ i))) (omega arith)
    ∙ sym (butterfly-clear i xs x clear)

-- at one with it
sign_set : (i : ℕ) (xs : ℕ → List ℕ) (x : ℕ) → bit_at x i ≡ 1 → kernel_on (pairing WalshBits) i xs x ≡ butterfly i xs x
unfolding pairing
sign_set i xs x set =
    let base = without_bit x i set in
    let y = x - 2 ^ i in
    let back : y + 2 ^ i ≡ x = omega (arith, base.0) in
    let turned : flip x i ≡ y = ap (λ (c : ℕ). flip c i) (sym back ∙ set_by_xor i y base.1) ∙ xor_cancel_right y (2 ^ i) in
    kernel_on-set (pairing WalshBits) i xs x set
    ∙ ap (λ (z : ℕ). record_of ((word (xs z) + negative (word (xs x))) % 18446744073709551616)) turned
    ∙ record_of-mod _ (number_in (xs y) + negative (number_in (xs x))) (omega arith)
    ∙ ap (λ (z : ℕ). record_of (number_in (xs y) + negative (number_in (xs z)))) (sym back)
    ∙ sym (butterfly-set i xs y base.1) ∙ ap (butterfly i xs) back

-- on one bit
pub sign_on : (i : ℕ) (xs : ℕ → List ℕ) → kernel_on (pairing WalshBits) i xs ≡ butterfly i xs
sign_on i xs = same_lists (kernel_on (pairing WalshBits) i xs) (butterfly i xs)
    (λ x. bit_by x i (λ (p : bit_at x i ≡ 0). sign_clear i xs x p) (λ (p : bit_at x i ≡ 1). sign_set i xs x p))

-- on all digits
pub sign_digits : (low : ℕ) (xs : ℕ → List ℕ) → kernel_digits (pairing WalshBits) low xs ≡ butterflies low xs
unfolding kernel_along butterflies
sign_digits zero xs = refl
sign_digits (suc i) xs = ap (kernel_on (pairing WalshBits) i) (sign_digits i xs) ∙ sign_on i (butterflies i xs)
