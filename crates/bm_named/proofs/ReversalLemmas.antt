-- Reversals of numbers and of their bits.
use Rattle.std.proofs.Common.{ℕ, zero, suc, ◌≡◌, ◌≢◌, ◌-◌, ◌*◌, ◌/◌, ◌%◌, ◌^◌, ◌<◌, bit_xor, refl, sym, ap, ◌∙◌, arith, ⊎_elim}
use Rattle.std.specs.Int.{bit_at}
use Rattle.std.specs.Int.Bits.{xor_zero_l, xor_mod, xor_shr}
use Rattle.std.proofs.lemmas.Nat.{pow_pos}
use Rattle.std.proofs.Math.Nat.{pow-suc, mod-lt}
use Rattle.std.proofs.lemmas.Nat.Bits.{bit_at-pow_same, bit_at-pow_other}
use Rattle.std.proofs.lemmas.Bool.{cases_eq}

-- the XOR of a bit and 1
xor_one : (b : ℕ) → b < 2 → bit_xor 1 b ≡ 1 - b
xor_one zero below = refl
xor_one (suc zero) below = refl
xor_one (suc (suc b)) below = absurd (omega arith)

-- all n bits turned over
pub xor_ones : (n x : ℕ) → x < 2 ^ n → bit_xor (2 ^ n - 1) x ≡ 2 ^ n - 1 - x
xor_ones zero x below = let e : x ≡ 0 = omega arith in rw e (xor_zero_l 0)
xor_ones (suc n) x below =
    let twice : 2 ^ suc n ≡ 2 ^ n * 2 = pow-suc 2 n in
    let some : 0 < 2 ^ n = pow_pos n in
    let ones : ℕ = 2 ^ suc n - 1 in
    let upper_ones : ones / 2 ≡ 2 ^ n - 1 = omega arith in
    let lowest_one : ones % 2 ≡ 1 = omega arith in
    let upper : bit_xor ones x / 2 ≡ 2 ^ n - 1 - x / 2 =
    xor_shr ones x 1 ∙ ap (λ (c : ℕ). bit_xor c (x / 2)) upper_ones ∙ xor_ones n (x / 2) (omega arith) in
    let lowest : bit_xor ones x % 2 ≡ 1 - x % 2 =
    xor_mod ones x 1 ∙ ap (λ (c : ℕ). bit_xor c (x % 2)) lowest_one ∙ xor_one (x % 2) (mod-lt x (let e : 0 < 2 = omega arith in e)) in
    omega arith

-- the antidiagonal is symmetric
pub antidiagonal_bit : (n i j : ℕ) → i < n → j < n → bit_at (2 ^ (n - 1 - j)) i ≡ bit_at (2 ^ (n - 1 - i)) j
antidiagonal_bit n i j row col =
    ⊎_elim
    (λ (p : j ≡ n - 1 - i).
    let back : n - 1 - j ≡ i = omega arith in
    ap (λ (c : ℕ). bit_at (2 ^ c) i) back ∙ bit_at-pow_same i ∙ sym (bit_at-pow_same j) ∙ ap (λ (c : ℕ). bit_at (2 ^ c) j) p)
    (λ (p : j ≢ n - 1 - i).
    let apart : i ≢ n - 1 - j = omega arith in
    bit_at-pow_other (n - 1 - j) i apart ∙ sym (bit_at-pow_other (n - 1 - i) j p))
    (cases_eq j (n - 1 - i))
