-- How the image of a position changes where the position goes up by one.
use Rattle.std.proofs.Common.{List, length, get_or-set_other, get_or-set_same, ◌≡◌, ◌≢◌, ℕ, suc, ◌+◌, ◌-◌, ◌*◌, ◌/◌, ◌%◌, ◌^◌, ◌<◌, ◌≤◌}
use Rattle.std.proofs.Common.{bit_xor, slice_index, slice_set, w64, sym, ap, ◌∙◌, arith, ⊎_elim}
use Rattle.std.specs.Int.{bit_at, trailing_ones}
use Rattle.std.specs.Int.Bits.{xor_assoc, xor_self, xor_zero_l, xor_zero_r, xor_shifted}
use Rattle.std.proofs.lemmas.Nat.{xor_comm, pow_pos, mod-pow-add, pow_below}
use Rattle.std.proofs.Math.Nat.{mod-lt, mod-add-div', two-pow-succ}
use Rattle.std.proofs.lemmas.Nat.Bits.{bit_at_ones, bit_at-trailing_ones, same_from_bits_below}
use Rattle.std.proofs.lemmas.Bool.{cases_lt, cases_eq}
use Rattle.bm_gf2.specs.Vector.{xor_sum}
use Rattle.bm_gf2.proofs.VectorLemmas.{bit_of_low, xor_sum-low, xor_same, xor_swap, xor_cancel, xor_sum-xor, xor_sum-bits, xor_sum-above}
use Rattle.bm_gf2.proofs.VectorLemmas.{xor_sum-more}

-- t ones at the end
low_ones : (t r : ℕ) → ((i : ℕ) → i < t → bit_at r i ≡ 1) → r % 2 ^ t ≡ 2 ^ t - 1
low_ones t r ones =
    let positive : 0 < 2 ^ t = pow_pos t in
    same_from_bits_below t (r % 2 ^ t) (2 ^ t - 1) (mod-lt r positive) (omega arith)
    (λ i l. bit_of_low r t i l ∙ ones i l ∙ sym (bit_at_ones t i l))

-- two numbers that agree from bit k on
xor_of_lows : (q k a b : ℕ) → a < 2 ^ k → b < 2 ^ k → bit_xor (q * 2 ^ k + a) (q * 2 ^ k + b) ≡ bit_xor a b
xor_of_lows q k a b short_a short_b =
    xor_same (sym (xor_shifted q k a short_a)) (sym (xor_shifted q k b short_b))
    ∙ xor_swap (q * 2 ^ k) a (q * 2 ^ k) b
    ∙ ap (λ (c : ℕ). bit_xor c (bit_xor a b)) (xor_self (q * 2 ^ k))
    ∙ xor_zero_l (bit_xor a b)

-- a number and the next one differ in its trailing ones and the bit above them
pub xor_next : (t r : ℕ) → bit_at r t ≡ 0 → ((i : ℕ) → i < t → bit_at r i ≡ 1) → bit_xor r (r + 1) ≡ 2 ^ (t + 1) - 1
xor_next t r clear ones =
    let positive : 0 < 2 ^ t = pow_pos t in
    let double : 2 ^ (t + 1) ≡ 2 ^ t + 2 ^ t = ap (λ (c : ℕ). 2 ^ c) (let e : t + 1 ≡ suc t = omega arith in e) ∙ two-pow-succ t in
    let sum : 2 ^ t + (2 ^ t - 1) ≡ 2 ^ (t + 1) - 1 = omega arith in
    let low : r % 2 ^ (t + 1) ≡ 2 ^ t - 1 =
    ap (λ (c : ℕ). r % 2 ^ c) (let e : t + 1 ≡ 1 + t = omega arith in e)
    ∙ mod-pow-add r 1 t
    ∙ ap (λ (c : ℕ). c * 2 ^ t + r % 2 ^ t) clear
    ∙ (let e : 0 * 2 ^ t + r % 2 ^ t ≡ r % 2 ^ t = omega arith in e)
    ∙ low_ones t r ones in
    let here : r ≡ r / 2 ^ (t + 1) * 2 ^ (t + 1) + (2 ^ t - 1) = omega (arith, mod-add-div' r (2 ^ (t + 1))) in
    let next : r + 1 ≡ r / 2 ^ (t + 1) * 2 ^ (t + 1) + 2 ^ t = omega arith in
    let short_low : 2 ^ t - 1 < 2 ^ (t + 1) = omega arith in
    let short_bit : 2 ^ t < 2 ^ (t + 1) = omega arith in
    xor_same here next
    ∙ xor_of_lows (r / 2 ^ (t + 1)) (t + 1) (2 ^ t - 1) (2 ^ t) short_low short_bit
    ∙ xor_comm (2 ^ t - 1) (2 ^ t)
    ∙ ap (λ (c : ℕ). bit_xor c (2 ^ t - 1)) (let e : 2 ^ t ≡ 1 * 2 ^ t = omega arith in e)
    ∙ xor_shifted 1 t (2 ^ t - 1) (omega arith)
    ∙ ap (λ (c : ℕ). c + (2 ^ t - 1)) (let e : 1 * 2 ^ t ≡ 2 ^ t = omega arith in e)
    ∙ sum

-- below 2 ^ n there are no more than n trailing ones
pub ones_within : (n t r : ℕ) → r < 2 ^ n → ((i : ℕ) → i < t → bit_at r i ≡ 1) → t ≤ n
ones_within n t r short ones =
    ⊎_elim
    (λ (p : n < t).
    let more : 2 ^ n < 2 ^ t = pow_below n t p in
    let low : r % 2 ^ t ≡ 2 ^ t - 1 = low_ones t r ones in
    let whole : r % 2 ^ t + r / 2 ^ t * 2 ^ t ≡ r = mod-add-div' r (2 ^ t) in
    absurd (omega arith))
    (λ (p : t ≤ n). p)
    (cases_lt n t)

-- where the columns from n on are 0, the sum of columns 0 to t is that of all below n which t + 1 ones pick
pub prefix_of_all : (w : ℕ → ℕ) (n t : ℕ) → t ≤ n → ((j : ℕ) → n ≤ j → w j ≡ 0)
    → xor_sum w (t + 1) (2 ^ (t + 1) - 1) ≡ xor_sum w n (2 ^ (t + 1) - 1)
prefix_of_all w n t within rest =
    let positive : 0 < 2 ^ (t + 1) = pow_pos (t + 1) in
    ⊎_elim
    (λ (p : t < n). sym (xor_sum-above w (t + 1) n (2 ^ (t + 1) - 1) (omega arith) (omega arith)))
    (λ (p : n ≤ t).
    let all : t ≡ n = omega arith in
    rw all (
    xor_sum-more w n (2 ^ (n + 1) - 1)
    ∙ ap (λ (c : ℕ). bit_xor (xor_sum w n (2 ^ (n + 1) - 1)) (bit_at (2 ^ (n + 1) - 1) n * c)) (rest n (omega arith))
    ∙ ap (bit_xor (xor_sum w n (2 ^ (n + 1) - 1))) (let e : bit_at (2 ^ (n + 1) - 1) n * 0 ≡ 0 = omega arith in e)
    ∙ xor_zero_r (xor_sum w n (2 ^ (n + 1) - 1))))
    (cases_lt t n)

-- one step: from the last position to 0 as well
pub next_image : (w : ℕ → ℕ) (n t r c : ℕ) → r < 2 ^ n → ((j : ℕ) → n ≤ j → w j ≡ 0) → bit_at r t ≡ 0 → ((i : ℕ) → i < t → bit_at r i ≡ 1)
    → bit_xor (bit_xor c (xor_sum w n r)) (xor_sum w (t + 1) (2 ^ (t + 1) - 1)) ≡ bit_xor c (xor_sum w n ((r + 1) % 2 ^ n))
next_image w n t r c short rest clear ones =
    xor_assoc c (xor_sum w n r) (xor_sum w (t + 1) (2 ^ (t + 1) - 1))
    ∙ ap (bit_xor c) (
    ap (bit_xor (xor_sum w n r))
    (prefix_of_all w n t (ones_within n t r short ones) rest ∙ ap (xor_sum w n) (sym (xor_next t r clear ones)))
    ∙ sym (xor_sum-xor w n r (bit_xor r (r + 1)))
    ∙ ap (xor_sum w n) (xor_cancel r (r + 1))
    ∙ sym (xor_sum-low w n (r + 1)))

-- one column more in the table's running sum
pub prefix_more : (w : ℕ → ℕ) (t : ℕ) → xor_sum w (t + 1) (2 ^ (t + 1) - 1) ≡ bit_xor (xor_sum w t (2 ^ t - 1)) (w t)
prefix_more w t =
    xor_sum-more w t (2 ^ (t + 1) - 1)
    ∙ xor_same
    (xor_sum-bits w t (2 ^ (t + 1) - 1) (2 ^ t - 1) (λ j l. bit_at_ones (t + 1) j (omega arith) ∙ sym (bit_at_ones t j l)))
    (ap (λ (c : ℕ). c * w t) (bit_at_ones (t + 1) t (omega arith)) ∙ (let e : 1 * w t ≡ w t = omega arith in e))

-- the number of trailing ones of a position: it has a place in the table
pub trailing_place : (n r : ℕ) → n ≤ 52 → r < 2 ^ n → trailing_ones w64 r < 53
trailing_place n r few short =
    let wide : 2 ^ n < 2 ^ 64 = pow_below n 64 (omega arith) in
    let within : trailing_ones w64 r ≤ n = ones_within n (trailing_ones w64 r) r short (bit_at-trailing_ones w64 r (omega arith)).2 in
    omega arith

-- one step, as the code makes it
pub next_image_by_table : (w : ℕ → ℕ) (n r c : ℕ) → n ≤ 52 → r < 2 ^ n → ((j : ℕ) → n ≤ j → w j ≡ 0)
    → bit_xor (bit_xor c (xor_sum w n r)) (xor_sum w (trailing_ones w64 r + 1) (2 ^ (trailing_ones w64 r + 1) - 1)) ≡ bit_xor c
    (xor_sum w n ((r + 1) % 2 ^ n))
next_image_by_table w n r c few short rest =
    let wide : 2 ^ n < 2 ^ 64 = pow_below n 64 (omega arith) in
    let lowest : r + 1 < 2 ^ 64 = omega arith in
    next_image w n (trailing_ones w64 r) r c short rest (bit_at-trailing_ones w64 r lowest).1 (bit_at-trailing_ones w64 r lowest).2

-- a column that is 0 adds nothing
pub prefix_same : (w : ℕ → ℕ) (t v : ℕ) → w t ≡ 0 → v ≡ xor_sum w t (2 ^ t - 1) → v ≡ xor_sum w (t + 1) (2 ^ (t + 1) - 1)
prefix_same w t v none running =
    running ∙ sym (prefix_more w t ∙ ap (bit_xor (xor_sum w t (2 ^ t - 1))) none ∙ xor_zero_r (xor_sum w t (2 ^ t - 1)))

-- a table of k entries and one more
pub table_more : (w : ℕ → ℕ) (sums : List ℕ) (t v : ℕ) → t < length sums → v ≡ xor_sum w (t + 1) (2 ^ (t + 1) - 1)
    → ((k : ℕ) → k < t → slice_index sums k ≡ xor_sum w (k + 1) (2 ^ (k + 1) - 1))
    → (k : ℕ) → k < t + 1 → slice_index (slice_set sums t v) k ≡ xor_sum w (k + 1) (2 ^ (k + 1) - 1)
table_more w sums t v inside here before k l =
    ⊎_elim
    (λ (p : k ≡ t). rw (p, get_or-set_same) here)
    (λ (p : k ≢ t). rw get_or-set_other (before k (omega arith)))
    (cases_eq k t)
