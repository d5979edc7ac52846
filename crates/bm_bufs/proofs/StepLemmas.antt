-- Tables of the sums by which images change from one number to the next.
use Rattle.std.proofs.Common.{◌≡◌, ◌≢◌, ℕ, suc, ◌+◌, ◌-◌, ◌*◌, ◌^◌, ◌<◌, ◌≤◌, bit_xor, List, length, slice_index, slice_set}
use Rattle.std.proofs.Common.{get_or-set_same, get_or-set_other, w64, sym, ap, ◌∙◌, arith, ⊎_elim}
use Rattle.std.specs.Int.{trailing_ones}
use Rattle.std.specs.Int.Bits.{xor_assoc, xor_zero_l, xor_shifted}
use Rattle.std.proofs.lemmas.Nat.{xor_comm, pow_pos, pow-add}
use Rattle.std.proofs.lemmas.Nat.Bits.{bit_at-trailing_ones}
use Rattle.std.proofs.lemmas.Bool.{cases_eq}
use Rattle.std.proofs.Math.Nat.{two-pow-succ}
use Rattle.bm_gf2.specs.Vector.{xor_sum}
use Rattle.bm_gf2.proofs.VectorLemmas.{xor_same, xor_cancel, xor_sum-xor, xor_sum-pow, xor_sum-none, xor_sum-zero}
use Rattle.bm_gf2.proofs.StepperLemmas.{xor_next, trailing_place}
use Rattle.bm_gf2.proofs.ShiftLemmas.{xor_shl}
use Rattle.bm_bufs.specs.TileMoves.{IsStepTable}

-- one 1 more, from the top
ones_more : (t : ℕ) → 2 ^ (t + 1) - 1 ≡ bit_xor (2 ^ t) (2 ^ t - 1)
ones_more t =
    let some : 0 < 2 ^ t = pow_pos t in
    let double : 2 ^ (t + 1) ≡ 2 ^ t + 2 ^ t = ap (λ x. 2 ^ x) (let e : t + 1 ≡ suc t = omega arith in e) ∙ two-pow-succ t in
    let sum : bit_xor (1 * 2 ^ t) (2 ^ t - 1) ≡ 1 * 2 ^ t + (2 ^ t - 1) = xor_shifted 1 t (2 ^ t - 1) (omega arith) in
    (let e : 2 ^ (t + 1) - 1 ≡ 1 * 2 ^ t + (2 ^ t - 1) = omega arith in e)
    ∙ sym sum ∙ ap (λ c. bit_xor c (2 ^ t - 1)) (let e : 1 * 2 ^ t ≡ 2 ^ t = omega arith in e)

-- t + 1 ones pick what t ones pick, and what the bit above them picks
sum_more : (w : ℕ → ℕ) (n s t : ℕ)
    → xor_sum w n ((2 ^ (t + 1) - 1) * 2 ^ s) ≡ bit_xor (xor_sum w n ((2 ^ t - 1) * 2 ^ s)) (xor_sum w n (2 ^ (s + t)))
sum_more w n s t =
    ap (λ x. xor_sum w n (x * 2 ^ s)) (ones_more t)
    ∙ ap (xor_sum w n) (xor_shl (2 ^ t) (2 ^ t - 1) s)
    ∙ xor_sum-xor w n (2 ^ t * 2 ^ s) ((2 ^ t - 1) * 2 ^ s)
    ∙ xor_comm (xor_sum w n (2 ^ t * 2 ^ s)) (xor_sum w n ((2 ^ t - 1) * 2 ^ s))
    ∙ ap (λ x. bit_xor (xor_sum w n ((2 ^ t - 1) * 2 ^ s)) (xor_sum w n x))
    (sym (pow-add 2 t s) ∙ ap (λ x. 2 ^ x) (let e : t + s ≡ s + t = omega arith in e))

-- the next sum of a table, with one column more
pub step_taken : (w : ℕ → ℕ) (n s t sum : ℕ) → s + t < n → sum ≡ xor_sum w n ((2 ^ t - 1) * 2 ^ s)
    → bit_xor sum (w (s + t)) ≡ xor_sum w n ((2 ^ (t + 1) - 1) * 2 ^ s)
step_taken w n s t sum inside is =
    xor_same is (sym (xor_sum-pow w n (s + t) inside)) ∙ sym (sum_more w n s t)

-- the same where there is none
pub step_left : (w : ℕ → ℕ) (n s t sum : ℕ) → n ≤ s + t → sum ≡ xor_sum w n ((2 ^ t - 1) * 2 ^ s)
    → sum ≡ xor_sum w n ((2 ^ (t + 1) - 1) * 2 ^ s)
step_left w n s t sum outside is =
    is ∙ sym (sum_more w n s t ∙ ap (bit_xor (xor_sum w n ((2 ^ t - 1) * 2 ^ s))) (xor_sum-none w n (s + t) outside)
    ∙ xor_comm (xor_sum w n ((2 ^ t - 1) * 2 ^ s)) 0 ∙ xor_zero_l (xor_sum w n ((2 ^ t - 1) * 2 ^ s)))

-- no columns yet
pub step_none : (w : ℕ → ℕ) (n s : ℕ) → 0 ≡ xor_sum w n ((2 ^ 0 - 1) * 2 ^ s)
step_none w n s = sym (ap (xor_sum w n) (let e : (2 ^ 0 - 1) * 2 ^ s ≡ 0 = omega arith in e) ∙ xor_sum-zero w n)

-- one entry more
pub entry_more : (f : ℕ → ℕ) (table : List ℕ) (t v : ℕ) → t < length table → v ≡ f t
    → ((k : ℕ) → k < t → slice_index table k ≡ f k) → (k : ℕ) → k < t + 1 → slice_index (slice_set table t v) k ≡ f k
entry_more f table t v inside is before k below =
    ⊎_elim
    (λ (p : k ≡ t). rw (p, get_or-set_same) is)
    (λ (p : k ≢ t). rw get_or-set_other (before k (omega arith)))
    (cases_eq k t)

-- a number below 2 ^ 52 has an entry for its trailing ones
pub has_entry : (r : ℕ) → r < 2 ^ 52 → trailing_ones w64 r < 53
has_entry r short = trailing_place 52 r (omega arith) short

-- from the image of one number to that of the next, by the table
pub next_sum : (w : ℕ → ℕ) (n s r : ℕ) (table : List ℕ) → IsStepTable w s n table → r < 2 ^ 52
    → bit_xor (xor_sum w n (r * 2 ^ s)) (slice_index table (trailing_ones w64 r)) ≡ xor_sum w n ((r + 1) * 2 ^ s)
next_sum w n s r table is short =
    let t = trailing_ones w64 r in
    let wide : r + 1 < 2 ^ 64 = omega arith in
    let ones = bit_at-trailing_ones w64 r wide in
    let next : bit_xor r (2 ^ (t + 1) - 1) ≡ r + 1 = ap (bit_xor r) (sym (xor_next t r ones.1 ones.2)) ∙ xor_cancel r (r + 1) in
    ap (bit_xor (xor_sum w n (r * 2 ^ s))) (is t (has_entry r short))
    ∙ sym (xor_sum-xor w n (r * 2 ^ s) ((2 ^ (t + 1) - 1) * 2 ^ s))
    ∙ ap (xor_sum w n) (sym (xor_shl r (2 ^ (t + 1) - 1) s) ∙ ap (λ x. x * 2 ^ s) next)

-- the same with a constant
pub next_affine : (w : ℕ → ℕ) (n s r c : ℕ) (table : List ℕ) → IsStepTable w s n table → r < 2 ^ 52
    → bit_xor (bit_xor c (xor_sum w n (r * 2 ^ s))) (slice_index table (trailing_ones w64 r)) ≡ bit_xor c (xor_sum w n ((r + 1) * 2 ^ s))
next_affine w n s r c table is short =
    xor_assoc c (xor_sum w n (r * 2 ^ s)) (slice_index table (trailing_ones w64 r)) ∙ ap (bit_xor c) (next_sum w n s r table is short)

-- the same from one record to the next
pub next_record : (w : ℕ → ℕ) (n r c : ℕ) (table : List ℕ) → IsStepTable w 0 n table → r < 2 ^ 52
    → bit_xor (bit_xor c (xor_sum w n r)) (slice_index table (trailing_ones w64 r)) ≡ bit_xor c (xor_sum w n (r + 1))
next_record w n r c table is short =
    ap (λ x. bit_xor (bit_xor c (xor_sum w n x)) (slice_index table (trailing_ones w64 r))) (let e : r ≡ r * 2 ^ 0 = omega arith in e)
    ∙ next_affine w n 0 r c table is short
    ∙ ap (λ x. bit_xor c (xor_sum w n x)) (let e : (r + 1) * 2 ^ 0 ≡ r + 1 = omega arith in e)

-- what a number of two bits picks
pub few_picked : (w : ℕ → ℕ) (n : ℕ) → 2 ≤ n
    → (xor_sum w n 0 ≡ 0) × (xor_sum w n 1 ≡ w 0) × (xor_sum w n 2 ≡ w 1) × (xor_sum w n 3 ≡ bit_xor (w 0) (w 1))
few_picked w n some =
    let one : xor_sum w n 1 ≡ w 0 = xor_sum-pow w n 0 (omega arith) in
    let two : xor_sum w n 2 ≡ w 1 = xor_sum-pow w n 1 (omega arith) in
    (xor_sum-zero w n, one, two, xor_sum-xor w n 1 2 ∙ xor_same one two)

-- the numbers of four records, by that of the first
pub four_numbers : (w : ℕ → ℕ) (n j i first : ℕ) → i < 4
    → bit_xor first (xor_sum w n (j * 2 ^ 2 + i)) ≡ bit_xor (bit_xor first (xor_sum w n (j * 2 ^ 2))) (xor_sum w n i)
four_numbers w n j i first small =
    ap (λ x. bit_xor first (xor_sum w n x)) (sym (xor_shifted j 2 i small))
    ∙ ap (bit_xor first) (xor_sum-xor w n (j * 2 ^ 2) i)
    ∙ sym (xor_assoc first (xor_sum w n (j * 2 ^ 2)) (xor_sum w n i))
