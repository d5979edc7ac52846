-- Sums of columns of which one is left out.
use Rattle.std.proofs.Common.{◌≡◌, ℕ, zero, suc, ◌+◌, ◌-◌, ◌*◌, ◌/◌, ◌%◌, ◌^◌, ◌<◌, ◌≤◌, bit_xor, sym, ap, ◌∙◌, arith, zero-mul}
use Rattle.std.specs.Int.{bit_at}
use Rattle.std.specs.Int.Bits.{xor_zero_r}
use Rattle.std.proofs.lemmas.Nat.{pow_pos}
use Rattle.std.proofs.lemmas.Nat.Bits.{bit_at_cat_low, bit_at_cat_high}
use Rattle.std.proofs.Math.Nat.{mod-lt, mod-add-div'}
use Rattle.bm_gf2.specs.Vector.{xor_sum}
use Rattle.bm_gf2.proofs.VectorLemmas.{xor_same, xor_sum-ext, xor_sum-bits, xor_sum-above, bit_of_low}
use Rattle.bm_butter.specs.Groups.{spread}
use Rattle.bm_butter.proofs.SpreadLemmas.{spread_bit, twice_as_many}
use Rattle.bm_base.proofs.PowerLemmas.{two_halves}

-- the blocks of a number with a clear bit put in
spread_blocks : (i z : ℕ) → spread i z ≡ z / 2 ^ i * 2 ^ (i + 1) + z % 2 ^ i
spread_blocks i z =
    let parts : z % 2 ^ i + z / 2 ^ i * 2 ^ i ≡ z = mod-add-div' z (2 ^ i) in
    omega (arith, twice_as_many (z / 2 ^ i) i)

-- the bits below the clear bit stay
pub spread_low : (i z j : ℕ) → j < i → bit_at z j ≡ bit_at (spread i z) j
spread_low i z j below =
    sym (bit_of_low z i j below) ∙ sym (bit_at_cat_low (z / 2 ^ i) (i + 1) (z % 2 ^ i) j (omega arith))
    ∙ ap (λ c. bit_at c j) (sym (spread_blocks i z))

-- those from it on go up by one
spread_high : (i z k : ℕ) → bit_at z (i + k) ≡ bit_at (spread i z) (i + k + 1)
spread_high i z k =
    let r = z % 2 ^ i in
    let short : r < 2 ^ i = mod-lt z (pow_pos i) in
    let parts : r + z / 2 ^ i * 2 ^ i ≡ z = mod-add-div' z (2 ^ i) in
    ap (λ c. bit_at c (i + k)) (let e : z ≡ z / 2 ^ i * 2 ^ i + r = omega arith in e)
    ∙ bit_at_cat_high (z / 2 ^ i) i r (i + k) short (omega arith)
    ∙ ap (bit_at (z / 2 ^ i)) (let e : i + k - i ≡ i + k + 1 - (i + 1) = omega arith in e)
    ∙ sym (bit_at_cat_high (z / 2 ^ i) (i + 1) r (i + k + 1) (omega (arith, two_halves i)) (omega arith))
    ∙ ap (λ c. bit_at c (i + k + 1)) (sym (spread_blocks i z))

-- columns without column i, of which k stand above it
sum_without : (v w : ℕ → ℕ) (i k x : ℕ) → ((j : ℕ) → j < i → v j ≡ w j) → ((j : ℕ) → j < k → v (i + j) ≡ w (i + j + 1))
    → xor_sum v (i + k) x ≡ xor_sum w (i + k + 1) (spread i x)
unfolding xor_sum
sum_without v w i zero x low high =
    let none : bit_at (spread i x) i * w i ≡ 0 = ap (λ c. c * w i) (spread_bit i x) ∙ zero-mul (w i) in
    ap (λ c. xor_sum v c x) (let e : i + 0 ≡ i = omega arith in e)
    ∙ xor_sum-ext v w i x low ∙ xor_sum-bits w i x (spread i x) (spread_low i x)
    ∙ sym (xor_zero_r (xor_sum w i (spread i x))) ∙ ap (bit_xor (xor_sum w i (spread i x))) (sym none)
    ∙ ap (λ c. xor_sum w c (spread i x)) (let e : suc i ≡ i + 0 + 1 = omega arith in e)
sum_without v w i (suc k) x low high =
    let more : bit_at x (i + k) * v (i + k) ≡ bit_at (spread i x) (i + k + 1) * w (i + k + 1) =
    ap (λ c. c * v (i + k)) (spread_high i x k) ∙ ap (λ c. bit_at (spread i x) (i + k + 1) * c) (high k (omega arith)) in
    ap (λ c. xor_sum v c x) (let e : i + suc k ≡ suc (i + k) = omega arith in e)
    ∙ xor_same (sum_without v w i k x low (λ j below. high j (omega arith))) more
    ∙ ap (λ c. xor_sum w c (spread i x)) (let e : suc (i + k + 1) ≡ i + suc k + 1 = omega arith in e)

-- the image under n columns of which column i is left out
pub image_without : (v w : ℕ → ℕ) (n i x : ℕ) → i < n → x < 2 ^ (n - 1) → ((j : ℕ) → j < i → v j ≡ w j)
    → ((j : ℕ) → i ≤ j → j < n - 1 → v j ≡ w (j + 1))
    → xor_sum v n x ≡ xor_sum w n (spread i x)
image_without v w n i x inside short low high =
    let k = n - 1 - i in
    xor_sum-above v (n - 1) n x (omega arith) short
    ∙ ap (λ c. xor_sum v c x) (let e : n - 1 ≡ i + k = omega arith in e)
    ∙ sum_without v w i k x low (λ j below. high (i + j) (omega arith) (omega arith))
    ∙ ap (λ c. xor_sum w c (spread i x)) (let e : i + k + 1 ≡ n = omega arith in e)
