-- The Gray code as an additive map, and the columns of its inverse.
use Rattle.std.proofs.Common.{ℕ, suc, ◌≡◌, ◌+◌, ◌-◌, ◌*◌, ◌/◌, ◌^◌, ◌<◌, bit_xor, sym, ap, ◌∙◌, arith}
use Rattle.std.specs.Int.{bit_at}
use Rattle.std.specs.Int.Bits.{xor_zero_l, xor_shr, xor_self, xor_shifted}
use Rattle.std.proofs.lemmas.Nat.{pow_pos}
use Rattle.std.proofs.Math.Nat.{pow-suc, mod-eq_of_lt}
use Rattle.std.proofs.lemmas.Nat.Bits.{bit_at_ones, bit_at_ones_above}
use Rattle.bm_gf2.specs.Vector.{xor_sum}
use Rattle.bm_gf2.proofs.VectorLemmas.{xor_same, xor_sum-zeros, xor_swap, xor_cancel_right, xor_sum-map, xor_sum-ext, xor_sum-units}
use Rattle.bm_gf2.proofs.VectorLemmas.{xor_sum-bit, xor_sum-split, eq_of_xor-zero}
use Rattle.bm_named.specs.GrayCode.{gray_of, xor_of_bits}

-- the code of a sum is the sum of the codes
gray_of-xor : (x y : ℕ) → gray_of (bit_xor x y) ≡ bit_xor (gray_of x) (gray_of y)
gray_of-xor x y = ap (bit_xor (bit_xor x y)) (xor_shr x y 1) ∙ xor_swap x y (x / 2) (y / 2)

-- columns that are codes of unit vectors give the code
pub gray_image : (w : ℕ → ℕ) (n x : ℕ) → ((j : ℕ) → j < n → w j ≡ gray_of (2 ^ j)) → x < 2 ^ n → xor_sum w n x ≡ gray_of x
gray_image w n x columns below =
    xor_sum-ext w (λ j. gray_of (2 ^ j)) n x columns
    ∙ sym (xor_sum-map gray_of (λ j. 2 ^ j) n x (xor_self 0) gray_of-xor)
    ∙ ap gray_of (xor_sum-units n x ∙ mod-eq_of_lt below)

-- 0 alone has the code 0
pub gray_of-none : (x : ℕ) → gray_of x ≡ 0 → x ≡ 0
gray_of-none x none = let half : x ≡ x / 2 = eq_of_xor-zero x (x / 2) none in omega arith

-- the code of all ones up to bit j is bit j alone
gray_of_ones : (j : ℕ) → gray_of (2 ^ (j + 1) - 1) ≡ 2 ^ j
gray_of_ones j =
    let twice : 2 ^ (j + 1) ≡ 2 ^ j * 2 = ap (λ (c : ℕ). 2 ^ c) (let e : j + 1 ≡ suc j = omega arith in e) ∙ pow-suc 2 j in
    let some : 0 < 2 ^ j = pow_pos j in
    let half : (2 ^ (j + 1) - 1) / 2 ≡ 2 ^ j - 1 = omega arith in
    let split : 2 ^ (j + 1) - 1 ≡ bit_xor (1 * 2 ^ j) (2 ^ j - 1) =
    (let e : 2 ^ (j + 1) - 1 ≡ 1 * 2 ^ j + (2 ^ j - 1) = omega arith in e)
    ∙ sym (xor_shifted 1 j (2 ^ j - 1) (let e : 2 ^ j - 1 < 2 ^ j = omega arith in e)) in
    xor_same split half ∙ xor_cancel_right (1 * 2 ^ j) (2 ^ j - 1) ∙ (let e : 1 * 2 ^ j ≡ 2 ^ j = omega arith in e)

-- columns of ones up to the diagonal undo the code
pub inverse_gray_undone : (w : ℕ → ℕ) (n x : ℕ) → ((j : ℕ) → j < n → w j ≡ 2 ^ (j + 1) - 1) → x < 2 ^ n → gray_of (xor_sum w n x) ≡ x
inverse_gray_undone w n x columns below =
    xor_sum-map gray_of w n x (xor_self 0) gray_of-xor
    ∙ xor_sum-ext (λ j. gray_of (w j)) (λ j. 2 ^ j) n x (λ j inside. ap gray_of (columns j inside) ∙ gray_of_ones j)
    ∙ xor_sum-units n x ∙ mod-eq_of_lt below

-- bit i of the sum is the XOR of the bits from i on
pub inverse_gray_bit : (w : ℕ → ℕ) (n x i : ℕ) → ((j : ℕ) → j < n → w j ≡ 2 ^ (j + 1) - 1) → i < n
    → bit_at (xor_sum w n x) i ≡ xor_of_bits n i x
inverse_gray_bit w n x i columns inside =
    let rest : ℕ = n - i in
    let whole : i + rest ≡ n = omega arith in
    let row : ℕ → ℕ = λ j. bit_at (w j) i in
    xor_sum-bit w n i x
    ∙ ap (λ (c : ℕ). xor_sum row c x) (sym whole)
    ∙ xor_sum-split row i rest x
    ∙ xor_same
    (xor_sum-zeros row i x (λ j l. ap (λ (c : ℕ). bit_at c i) (columns j (omega arith)) ∙ bit_at_ones_above (j + 1) i (omega arith)))
    (xor_sum-ext (λ j. row (i + j)) (λ _. 1) rest (x / 2 ^ i)
    (λ j l. ap (λ (c : ℕ). bit_at c i) (columns (i + j) (omega arith)) ∙ bit_at_ones (i + j + 1) i (omega arith)))
    ∙ xor_zero_l (xor_sum (λ _. 1) rest (x / 2 ^ i))
