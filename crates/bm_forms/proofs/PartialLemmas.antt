-- The transform of the low address bits alone, bit by bit.
use Rattle.std.proofs.Common.{ℕ, suc, ◌≡◌, ◌+◌, ◌*◌, ◌/◌, ◌%◌, ◌^◌, ◌<◌, bit_and, count_ones, refl, sym, ap, ◌∙◌, arith, zero-mul}
use Rattle.std.proofs.lemmas.Nat.{pow_pos, and_le_r, shr_split, mod-pow-add}
use Rattle.std.proofs.Math.Nat.{add-mul, add-div_right, pow-suc, mod-eq_of_lt}
use Rattle.std.specs.Int.{bit_at}
use Rattle.bm_base.specs.Butterfly.{negative}
use Rattle.bm_forms.specs.Transform.{sum_below, signed}
use Rattle.bm_base.proofs.CaseLemmas.{if_same, plus_same}
use Rattle.bm_forms.proofs.TransformLemmas.{none_in_zero, sum_below-same, sum_below-split, sum_below-against, sum_below-one, and_low}
use Rattle.bm_forms.proofs.TransformLemmas.{and_high, signed-same, signed-against, and_none}
use Rattle.bm_base.proofs.ButterflyLemmas.{set_bit}
use Rattle.bm_base.proofs.PowerLemmas.{two_halves}

-- one block more
one_more : (a w : ℕ) → (a + 1) * w ≡ a * w + w
one_more a w = add-mul a 1 w ∙ (let e : a * w + 1 * w ≡ a * w + w = omega arith in e)

-- ---- the parts of an address

-- their number is even
even_none : count_ones (bit_and 0 0) % 2 ≡ 0
even_none = ap (λ (c : ℕ). count_ones c % 2) (and_none 0) ∙ ap (λ (c : ℕ). c % 2) none_in_zero

-- an address below 2 ^ n lies in the first block of 2 ^ n
first_block : (k n t : ℕ) → k < 2 ^ n → k / 2 ^ n * 2 ^ n + t ≡ t
first_block k n t h =
    let s : k / 2 ^ n * 2 ^ n + k % 2 ^ n ≡ k = shr_split k n in
    let m : k % 2 ^ n ≡ k = mod-eq_of_lt h in
    omega arith

-- 0 and a number
none_plus : (c : ℕ) → 0 + c ≡ c
none_plus c = omega arith

-- k cut below bit r, by k cut below bit r + 1
cut_more : (k r : ℕ) → k / 2 ^ r * 2 ^ r ≡ k / 2 ^ (r + 1) * 2 ^ (r + 1) + bit_at k r * 2 ^ r
cut_more k r =
    let s : k / 2 ^ r * 2 ^ r + k % 2 ^ r ≡ k = shr_split k r in
    let u : k / 2 ^ (r + 1) * 2 ^ (r + 1) + k % 2 ^ (r + 1) ≡ k = shr_split k (r + 1) in
    let w : k % 2 ^ (r + 1) ≡ bit_at k r * 2 ^ r + k % 2 ^ r = ap (λ (c : ℕ). k % 2 ^ c) (let e : r + 1 ≡ 1 + r = omega arith in e)
    ∙ mod-pow-add k 1 r in
    omega arith

-- where bit r is 0, the block of 2 ^ (r + 1) begins where the block of 2 ^ r does
base_clear : (k r : ℕ) → bit_at k r ≡ 0 → k / 2 ^ (r + 1) * 2 ^ (r + 1) ≡ k / 2 ^ r * 2 ^ r
base_clear k r h =
    let c : k / 2 ^ r * 2 ^ r ≡ k / 2 ^ (r + 1) * 2 ^ (r + 1) + bit_at k r * 2 ^ r = cut_more k r in
    let z : bit_at k r * 2 ^ r ≡ 0 = ap (λ (c : ℕ). c * 2 ^ r) h ∙ zero-mul (2 ^ r) in
    omega arith

-- one more block of 2 ^ r
pub block_more : (k r : ℕ) → (k + 2 ^ r) / 2 ^ r ≡ k / 2 ^ r + 1
block_more k r = add-div_right k (pow_pos r)

-- and its upper half is the block of k with bit r set
upper_clear : (k r t : ℕ) → bit_at k r ≡ 0 → k / 2 ^ (r + 1) * 2 ^ (r + 1) + (2 ^ r + t) ≡ (k + 2 ^ r) / 2 ^ r * 2 ^ r + t
upper_clear k r t h =
    let b : k / 2 ^ (r + 1) * 2 ^ (r + 1) ≡ k / 2 ^ r * 2 ^ r = base_clear k r h in
    let m : (k + 2 ^ r) / 2 ^ r * 2 ^ r ≡ k / 2 ^ r * 2 ^ r + 2 ^ r = ap (λ (c : ℕ). c * 2 ^ r) (block_more k r)
    ∙ one_more (k / 2 ^ r) (2 ^ r) in
    omega arith

-- the bits below r stay where bit r is set
pub low_moved : (k r : ℕ) → (k + 2 ^ r) % 2 ^ r ≡ k % 2 ^ r
low_moved k r =
    let s : k / 2 ^ r * 2 ^ r + k % 2 ^ r ≡ k = shr_split k r in
    let u : (k + 2 ^ r) / 2 ^ r * 2 ^ r + (k + 2 ^ r) % 2 ^ r ≡ k + 2 ^ r = shr_split (k + 2 ^ r) r in
    let m : (k + 2 ^ r) / 2 ^ r * 2 ^ r ≡ k / 2 ^ r * 2 ^ r + 2 ^ r = ap (λ (c : ℕ). c * 2 ^ r) (block_more k r)
    ∙ one_more (k / 2 ^ r) (2 ^ r) in
    omega arith

-- so do the bits in common with t
and_moved : (k r t : ℕ) → t < 2 ^ r → bit_and k t ≡ bit_and (k + 2 ^ r) t
and_moved k r t h = and_low k r t h ∙ ap (λ (c : ℕ). bit_and c t) (sym (low_moved k r)) ∙ sym (and_low (k + 2 ^ r) r t h)

-- the upper half, from the address with bit r
upper_set : (k r t : ℕ) → bit_at k r ≡ 0 → (k + 2 ^ r) / 2 ^ (r + 1) * 2 ^ (r + 1) + (2 ^ r + t) ≡ (k + 2 ^ r) / 2 ^ r * 2 ^ r + t
upper_set k r t h =
    let c : (k + 2 ^ r) / 2 ^ r * 2 ^ r ≡ (k + 2 ^ r) / 2 ^ (r + 1) * 2 ^ (r + 1) + bit_at (k + 2 ^ r) r * 2 ^ r = cut_more (k + 2 ^ r) r in
    let z : bit_at (k + 2 ^ r) r * 2 ^ r ≡ 2 ^ r = ap (λ (c : ℕ). c * 2 ^ r) (set_bit k r h)
    ∙ (let e : 1 * 2 ^ r ≡ 2 ^ r = omega arith in e) in
    omega arith

-- and the lower half
base_set : (k r : ℕ) → bit_at k r ≡ 0 → (k + 2 ^ r) / 2 ^ (r + 1) * 2 ^ (r + 1) ≡ k / 2 ^ r * 2 ^ r
base_set k r h =
    let u : (k + 2 ^ r) / 2 ^ (r + 1) * 2 ^ (r + 1) + (2 ^ r + 0) ≡ (k + 2 ^ r) / 2 ^ r * 2 ^ r + 0 = upper_set k r 0 h in
    let m : (k + 2 ^ r) / 2 ^ r * 2 ^ r ≡ k / 2 ^ r * 2 ^ r + 2 ^ r = ap (λ (c : ℕ). c * 2 ^ r) (block_more k r)
    ∙ one_more (k / 2 ^ r) (2 ^ r) in
    omega arith

-- what is left of a whole, modulo 2 ^ 64
difference : (whole first second u w : ℕ) → whole ≡ first + second → first ≡ u → (second + w) % 18446744073709551616 ≡ 0
    → (whole + w) % 18446744073709551616 ≡ u % 18446744073709551616
difference whole first second u w p q e = omega arith

-- ---- the transform of the low bits

-- the signed sum over the addresses that agree with k from bit r on
pub partial : (ℕ → ℕ) → ℕ → ℕ → ℕ
partial v r k = sum_below (2 ^ r) (signed (λ t. v (k / 2 ^ r * 2 ^ r + t)) k)

-- no bit: the value itself
pub partial-none : (v : ℕ → ℕ) (k : ℕ) → partial v 0 k ≡ v k
unfolding partial
partial-none v k =
    sum_below-one (signed (λ t. v (k / 2 ^ 0 * 2 ^ 0 + t)) k)
    ∙ signed-same (λ t. v (k / 2 ^ 0 * 2 ^ 0 + t)) (λ t. v k) k 0 0 0
    (ap (λ (c : ℕ). c % 2) (ap count_ones (and_none k ∙ sym (and_none 0)))) (ap v (let e : k / 1 * 1 + 0 ≡ k = omega arith in e))
    ∙ if_same (count_ones (bit_and 0 0) % 2) 0 (v k) (negative (v k)) even_none

-- all bits: the transform
pub partial-all : (v : ℕ → ℕ) (n k : ℕ) → k < 2 ^ n → partial v n k ≡ sum_below (2 ^ n) (signed v k)
unfolding partial
partial-all v n k h =
    sum_below-same (2 ^ n) (signed (λ t. v (k / 2 ^ n * 2 ^ n + t)) k) (signed v k)
    (λ t l. signed-same (λ t. v (k / 2 ^ n * 2 ^ n + t)) v k k t t refl (ap v (first_block k n t h)))

-- the next bit is 0: the sum of both halves
pub partial-clear : (v : ℕ → ℕ) (r k : ℕ) → bit_at k r ≡ 0 → partial v (r + 1) k ≡ partial v r k + partial v r (k + 2 ^ r)
unfolding partial
partial-clear v r k h =
    ap (λ (c : ℕ). sum_below c (signed (λ t. v (k / 2 ^ (r + 1) * 2 ^ (r + 1) + t)) k)) (two_halves r)
    ∙ sum_below-split (2 ^ r) (2 ^ r) (signed (λ t. v (k / 2 ^ (r + 1) * 2 ^ (r + 1) + t)) k)
    ∙ plus_same
    (sum_below-same (2 ^ r) (signed (λ t. v (k / 2 ^ (r + 1) * 2 ^ (r + 1) + t)) k) (signed (λ t. v (k / 2 ^ r * 2 ^ r + t)) k)
    (λ t l. signed-same (λ t. v (k / 2 ^ (r + 1) * 2 ^ (r + 1) + t)) (λ t. v (k / 2 ^ r * 2 ^ r + t)) k k t t refl
    (ap (λ (c : ℕ). v (c + t)) (base_clear k r h))))
    (sum_below-same (2 ^ r) (λ t. signed (λ t. v (k / 2 ^ (r + 1) * 2 ^ (r + 1) + t)) k (2 ^ r + t))
    (signed (λ t. v ((k + 2 ^ r) / 2 ^ r * 2 ^ r + t)) (k + 2 ^ r))
    (λ t l. signed-same (λ t. v (k / 2 ^ (r + 1) * 2 ^ (r + 1) + t)) (λ t. v ((k + 2 ^ r) / 2 ^ r * 2 ^ r + t)) k (k + 2 ^ r) (2 ^ r + t) t
    (ap (λ (c : ℕ). c % 2) (and_high k r t l ∙ ap (λ (c : ℕ). c + count_ones (bit_and k t)) h ∙ none_plus (count_ones (bit_and k t))
    ∙ ap count_ones (and_moved k r t l)))
    (ap v (upper_clear k r t h))))

-- the next bit is 1: the difference, modulo 2 ^ 64
pub partial-set : (v : ℕ → ℕ) (r k : ℕ) → bit_at k r ≡ 0
    → (partial v (r + 1) (k + 2 ^ r) + partial v r (k + 2 ^ r)) % 18446744073709551616 ≡ partial v r k % 18446744073709551616
unfolding partial
partial-set v r k h =
    let j : ℕ = k + 2 ^ r in
    let first : sum_below (2 ^ r) (signed (λ t. v (j / 2 ^ (r + 1) * 2 ^ (r + 1) + t)) j) ≡ sum_below (2 ^ r)
    (signed (λ t. v (k / 2 ^ r * 2 ^ r + t)) k)
    = sum_below-same (2 ^ r) (signed (λ t. v (j / 2 ^ (r + 1) * 2 ^ (r + 1) + t)) j) (signed (λ t. v (k / 2 ^ r * 2 ^ r + t)) k)
    (λ t l. signed-same (λ t. v (j / 2 ^ (r + 1) * 2 ^ (r + 1) + t)) (λ t. v (k / 2 ^ r * 2 ^ r + t)) j k t t
    (ap (λ (c : ℕ). count_ones c % 2) (sym (and_moved k r t l)))
    (ap (λ (c : ℕ). v (c + t)) (base_set k r h))) in
    let second : (sum_below (2 ^ r) (λ t. signed (λ t. v (j / 2 ^ (r + 1) * 2 ^ (r + 1) + t)) j (2 ^ r + t)) + sum_below (2 ^ r)
    (signed (λ t. v (j / 2 ^ r * 2 ^ r + t)) j)) % 18446744073709551616 ≡ 0
    = sum_below-against (2 ^ r) (λ t. signed (λ t. v (j / 2 ^ (r + 1) * 2 ^ (r + 1) + t)) j (2 ^ r + t))
    (signed (λ t. v (j / 2 ^ r * 2 ^ r + t)) j)
    (λ t l. signed-against (λ t. v (j / 2 ^ (r + 1) * 2 ^ (r + 1) + t)) (λ t. v (j / 2 ^ r * 2 ^ r + t)) j j (2 ^ r + t) t
    (and_high j r t l ∙ ap (λ (c : ℕ). c + count_ones (bit_and j t)) (set_bit k r h))
    (ap v (upper_set k r t h))) in
    let whole : sum_below (2 ^ (r + 1)) (signed (λ t. v (j / 2 ^ (r + 1) * 2 ^ (r + 1) + t)) j)
    ≡ sum_below (2 ^ r) (signed (λ t. v (j / 2 ^ (r + 1) * 2 ^ (r + 1) + t)) j) + sum_below (2 ^ r)
    (λ t. signed (λ t. v (j / 2 ^ (r + 1) * 2 ^ (r + 1) + t)) j (2 ^ r + t))
    = ap (λ (c : ℕ). sum_below c (signed (λ t. v (j / 2 ^ (r + 1) * 2 ^ (r + 1) + t)) j)) (two_halves r)
    ∙ sum_below-split (2 ^ r) (2 ^ r) (signed (λ t. v (j / 2 ^ (r + 1) * 2 ^ (r + 1) + t)) j) in
    difference _ _ _ _ _ whole first second
