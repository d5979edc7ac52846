-- The numbers of a group, which the bits of a list tell apart.
use Rattle.std.proofs.Common.{ℕ, zero, suc, ◌≡◌, ◌≢◌, inl, ◌+◌, ◌*◌, ◌/◌, ◌%◌, ◌^◌, ◌<◌, ◌≤◌, bit_and, bit_or, bit_xor, refl, sym, zero-mul}
use Rattle.std.proofs.Common.{ap, ◌∙◌, arith, ⊎_elim, min}
use Rattle.std.specs.Int.{bit_at}
use Rattle.std.specs.Int.Bits.{xor_assoc, xor_zero_r}
use Rattle.std.proofs.lemmas.Bool.{cases_eq, cases_lt}
use Rattle.std.proofs.lemmas.Nat.{xor_comm, xor_lt, pow_pos, pow_below, one_shl}
use Rattle.std.proofs.lemmas.Nat.Bits.{bit_at-lt, bit_at-zero, bit_at_and, bit_at_xor, bit_at-pow_same, bit_at-pow_other, same_from_bits}
use Rattle.std.proofs.lemmas.Nat.Bits.{bit_at_above}
use Rattle.bm_gf2.specs.Vector.{xor_sum}
use Rattle.bm_gf2.proofs.VectorLemmas.{xor_cancel_right, xor_same, xor_sum-xor, xor_sum-bits, xor_sum-pow, xor_sum-lt, xor_sum_taken}
use Rattle.bm_gf2.proofs.VectorLemmas.{xor_sum_left}
use Rattle.bm_butter.proofs.PlaceLemmas.{xor_sum-clear}
use Rattle.bm_butter.specs.OnBits.{set_of, AreBits}
use Rattle.bm_kinds.specs.Groups.{member}
use Rattle.bm_butter.proofs.OnBitLemmas.{flip, flip_other, flip_clear, flip_set, flip_below, bit_by}
use Rattle.bm_kinds.proofs.OverLemmas.{set_of-some, put_other, AreBits-fewer}

-- a number without the bits
abbrev pub IsBase : (ℕ → ℕ) → ℕ → ℕ → Type 0
IsBase bits count w = (j : ℕ) → j < count → bit_at w (bits j) ≡ 0

-- number t of the group of w
abbrev pub number : (ℕ → ℕ) → ℕ → ℕ → ℕ → ℕ
number bits count w t = bit_xor w (member bits count t)

-- ---- digits

-- a picked column at a row
pub picked : (b v h : ℕ) → b < 2 → bit_at (b * v) h ≡ b * bit_at v h
picked zero v h small = ap (λ (c : ℕ). bit_at c h) (zero-mul v) ∙ bit_at-zero h ∙ sym (zero-mul (bit_at v h))
picked (suc zero) v h small = ap (λ (c : ℕ). bit_at c h) (let e : 1 * v ≡ v = omega arith in e)
    ∙ (let e : bit_at v h ≡ 1 * bit_at v h = omega arith in e)
picked (suc (suc b)) v h small = absurd (omega arith)

-- the bits of a member are the digits
pub member_bit : (n count m j t : ℕ) (bits : ℕ → ℕ) → AreBits n count bits → m ≤ count → j < m
    → bit_at (member bits m t) (bits j) ≡ bit_at t j
unfolding xor_sum
member_bit n count zero j t bits are fewer below = absurd (omega arith)
member_bit n count (suc m) j t bits are fewer below =
    let before = xor_sum (λ i. 2 ^ bits i) m t in
    let last = bit_at t m * 2 ^ bits m in
    let digit : bit_at t m < 2 = bit_at-lt t m in
    let split : bit_at (bit_xor before last) (bits j) ≡ (bit_at before (bits j) + bit_at last (bits j)) % 2 = bit_at_xor before last
    (bits j) in
    let pick : bit_at last (bits j) ≡ bit_at t m * bit_at (2 ^ bits m) (bits j) = picked (bit_at t m) (2 ^ bits m) (bits j) digit in
    ⊎_elim
    (λ (p : j ≡ m).
    let none : bit_at before (bits j) ≡ 0 = xor_sum-clear (λ i. 2 ^ bits i) m (bits j) t
    (λ i l. inl (bit_at-pow_other (bits i) (bits j) (λ e. are.apart i j (omega arith) (omega arith) (sym e)))) in
    let one : bit_at (2 ^ bits m) (bits j) ≡ 1 = ap (λ (c : ℕ). bit_at (2 ^ bits m) (bits c)) p ∙ bit_at-pow_same (bits m) in
    let here : bit_at last (bits j) ≡ bit_at t m = pick ∙ ap (λ (c : ℕ). bit_at t m * c) one
    ∙ (let e : bit_at t m * 1 ≡ bit_at t m = omega arith in e) in
    split ∙ (let e : (bit_at before (bits j) + bit_at last (bits j)) % 2 ≡ bit_at t m = omega arith in e) ∙ ap (bit_at t) (sym p))
    (λ (p : j ≢ m).
    let rest : bit_at before (bits j) ≡ bit_at t j = member_bit n count m j t bits are (omega arith) (omega arith) in
    let none : bit_at (2 ^ bits m) (bits j) ≡ 0 = bit_at-pow_other (bits m) (bits j) (are.apart j m (omega arith) (omega arith)) in
    let here : bit_at last (bits j) ≡ 0 = pick ∙ ap (λ (c : ℕ). bit_at t m * c) none ∙ (let e : bit_at t m * 0 ≡ 0 = omega arith in e) in
    let range : bit_at t j < 2 = bit_at-lt t j in
    split ∙ (let e : (bit_at before (bits j) + bit_at last (bits j)) % 2 ≡ bit_at t j = omega arith in e))
    (cases_eq j m)

-- those of a number of a group too
pub number_bit : (n count w j t : ℕ) (bits : ℕ → ℕ) → AreBits n count bits → IsBase bits count w → j < count
    → bit_at (number bits count w t) (bits j) ≡ bit_at t j
number_bit n count w j t bits are base below =
    let range : bit_at t j < 2 = bit_at-lt t j in
    let clear : bit_at w (bits j) ≡ 0 = base j below in
    let digit : bit_at (member bits count t) (bits j) ≡ bit_at t j = member_bit n count count j t bits are (omega arith) below in
    bit_at_xor w (member bits count t) (bits j)
    ∙ (let e : (bit_at w (bits j) + bit_at (member bits count t) (bits j)) % 2 ≡ bit_at t j = omega arith in e)

-- a digit turned is its bit turned
pub number_flip : (count w j t : ℕ) (bits : ℕ → ℕ) → j < count → number bits count w (flip t j) ≡ flip (number bits count w t) (bits j)
number_flip count w j t bits below =
    ap (bit_xor w) (xor_sum-xor (λ i. 2 ^ bits i) count t (2 ^ j)
    ∙ ap (bit_xor (member bits count t)) (xor_sum-pow (λ i. 2 ^ bits i) count j below))
    ∙ sym (xor_assoc w (member bits count t) (2 ^ bits j))

-- a member has few bits
pub member_below : (n count t : ℕ) (bits : ℕ → ℕ) → AreBits n count bits → member bits count t < 2 ^ n
member_below n count t bits are = xor_sum-lt (λ i. 2 ^ bits i) count n t (λ j l. pow_below (bits j) n (are.below j l))

pub number_below : (n count w t : ℕ) (bits : ℕ → ℕ) → AreBits n count bits → w < 2 ^ n → number bits count w t < 2 ^ n
number_below n count w t bits are short = xor_lt n w (member bits count t) short (member_below n count t bits are)

-- the digits and the base of a number are told
pub number_digits : (n count v w s t : ℕ) (bits : ℕ → ℕ) → AreBits n count bits → IsBase bits count v → IsBase bits count w
    → s < 2 ^ count → t < 2 ^ count → number bits count v s ≡ number bits count w t → s ≡ t
number_digits n count v w s t bits are base_v base_w short_s short_t same = same_from_bits s t
    (λ j. ⊎_elim
    (λ (p : j < count). sym (number_bit n count v j s bits are base_v p) ∙ ap (λ (c : ℕ). bit_at c (bits j)) same
    ∙ number_bit n count w j t bits are base_w p)
    (λ (p : count ≤ j). bit_at_above s count j short_s p ∙ sym (bit_at_above t count j short_t p))
    (cases_lt j count))

pub number_base : (n count v w s t : ℕ) (bits : ℕ → ℕ) → AreBits n count bits → IsBase bits count v → IsBase bits count w
    → s < 2 ^ count → t < 2 ^ count → number bits count v s ≡ number bits count w t → v ≡ w
number_base n count v w s t bits are base_v base_w short_s short_t same =
    let digits = number_digits n count v w s t bits are base_v base_w short_s short_t same in
    sym (xor_cancel_right v (member bits count s)) ∙ ap (λ (c : ℕ). bit_xor c (member bits count s)) same
    ∙ ap (λ (c : ℕ). bit_xor (number bits count w t) (member bits count c)) digits ∙ xor_cancel_right w (member bits count t)

-- ---- each number is in a group

pub record InGroup (n count : ℕ) (bits : ℕ → ℕ) (y : ℕ) : Type 0 where
  pub first : ℕ
  pub digits : ℕ
  pub base : IsBase bits count first
  pub below : first < 2 ^ n
  pub short : digits < 2 ^ count
  pub is : y ≡ number bits count first digits

-- one bit more, which the base hasn't
pub in_group_left : (n count y : ℕ) (bits : ℕ → ℕ) → (h : InGroup n count bits y) → bit_at h.first (bits count) ≡ 0
    → InGroup n (suc count) bits y
unfolding xor_sum
in_group_left n count y bits h clear =
    let t = h.digits in
    let more : 2 ^ count ≤ 2 ^ suc count = omega (arith, pow_pos count) in
    let none : bit_at t count * 2 ^ bits count ≡ 0 = ap (λ (c : ℕ). c * 2 ^ bits count) (bit_at_above t count count h.short (omega arith))
    ∙ zero-mul (2 ^ bits count) in
    record {
      first = h.first;
      digits = t;
      base = λ j l. ⊎_elim (λ (p : j ≡ count). ap (λ (c : ℕ). bit_at h.first (bits c)) p ∙ clear)
          (λ (p : j ≢ count). h.base j (omega arith)) (cases_eq j count);
      below = h.below;
      short = omega (arith, h.short);
      is = h.is ∙ ap (bit_xor h.first) (sym (xor_zero_r (member bits count t)) ∙ ap (bit_xor (member bits count t)) (sym none));
    }

-- one bit more, which it has
pub in_group_taken : (n count y : ℕ) (bits : ℕ → ℕ) → AreBits n (suc count) bits → (h : InGroup n count bits y)
    → bit_at h.first (bits count) ≡ 1
    → InGroup n (suc count) bits y
unfolding xor_sum
in_group_taken n count y bits are h set =
    let t = h.digits in
    let w = h.first in
    let b = bits count in
    let high : bit_at t count ≡ 0 = bit_at_above t count count h.short (omega arith) in
    let digit : bit_at (flip t count) count * 2 ^ b ≡ 2 ^ b = ap (λ (c : ℕ). c * 2 ^ b) (flip_clear t count high)
    ∙ (let e : 1 * 2 ^ b ≡ 2 ^ b = omega arith in e) in
    let low : member bits count (flip t count) ≡ member bits count t = xor_sum-bits (λ i. 2 ^ bits i) count (flip t count) t
    (λ j l. flip_other t count j (λ e. absurd (omega arith))) in
    let back : flip (flip w b) b ≡ w = xor_cancel_right w (2 ^ b) in
    record {
      first = flip w b;
      digits = flip t count;
      base = λ j l. ⊎_elim (λ (p : j ≡ count). ap (λ (c : ℕ). bit_at (flip w b) (bits c)) p ∙ flip_set w b set)
          (λ (p : j ≢ count). flip_other w b (bits j) (are.apart j count (omega arith) (omega arith))
          ∙ h.base j (omega arith)) (cases_eq j count);
      below = flip_below n w b h.below (are.below count (omega arith));
      short = flip_below (suc count) t count (omega (arith, h.short, pow_pos count)) (omega arith);
      is = h.is
          ∙ ap (λ (c : ℕ). bit_xor c (member bits count t)) (sym back)
          ∙ xor_assoc (flip w b) (2 ^ b) (member bits count t)
          ∙ ap (bit_xor (flip w b)) (xor_comm (2 ^ b) (member bits count t) ∙ xor_same (sym low) (sym digit));
    }

pub in_group : (n count y : ℕ) (bits : ℕ → ℕ) → AreBits n count bits → y < 2 ^ n → InGroup n count bits y
unfolding xor_sum
in_group n zero y bits are short = record {
  first = y;
  digits = 0;
  base = λ j l. absurd (omega arith);
  below = short;
  short = omega arith;
  is = sym (xor_zero_r y);
}
in_group n (suc count) y bits are short =
    let h = in_group n count y bits (AreBits-fewer n count bits are) short in
    bit_by h.first (bits count) (λ (p : bit_at h.first (bits count) ≡ 0). in_group_left n count y bits h p)
    (λ (p : bit_at h.first (bits count) ≡ 1). in_group_taken n count y bits are h p)

-- ---- as code makes them

pub member_none : (bits : ℕ → ℕ) (t : ℕ) → 0 ≡ member bits 0 t
unfolding xor_sum
member_none bits t = refl

-- a bit that the digit picks
pub member_taken : (bits : ℕ → ℕ) (j t now : ℕ) → bits j < 64 → bit_and (t / 2 ^ j) 1 ≡ 1 → now ≡ member bits j t
    → bit_xor now (1 * 2 ^ bits j % 18446744073709551616) ≡ member bits (j + 1) t
member_taken bits j t now small digit same =
    ap (bit_xor now) (one_shl (bits j) 64 small) ∙ ap (λ (c : ℕ). bit_xor c (2 ^ bits j)) same
    ∙ sym (xor_sum_taken (λ i. 2 ^ bits i) j t digit)

-- one that it doesn't
pub member_left : (bits : ℕ → ℕ) (j t now : ℕ) → bit_and (t / 2 ^ j) 1 ≢ 1 → now ≡ member bits j t → now ≡ member bits (j + 1) t
member_left bits j t now digit same = same ∙ sym (xor_sum_left (λ i. 2 ^ bits i) j t digit)

pub set_of-start : (bits : ℕ → ℕ) → 0 ≡ set_of bits 0
unfolding set_of
set_of-start bits = refl

pub set_of-more : (bits : ℕ → ℕ) (j now : ℕ) → bits j < 64 → now ≡ set_of bits j
    → bit_or now (1 * 2 ^ bits j % 18446744073709551616) ≡ set_of bits (j + 1)
unfolding set_of
set_of-more bits j now small same =
    ap (bit_or now) (one_shl (bits j) 64 small) ∙ ap (λ (c : ℕ). bit_or c (2 ^ bits j)) same
    ∙ (let e : suc j ≡ j + 1 = omega arith in ap (set_of bits) e)

-- the test for a number without the bits
pub base_of : (bits : ℕ → ℕ) (count w set : ℕ) → set ≡ set_of bits count → bit_and w set ≡ 0 → IsBase bits count w
base_of bits count w set is none j below =
    let both : min (bit_at w (bits j)) (bit_at (set_of bits count) (bits j)) ≡ 0 =
    sym (bit_at_and w (set_of bits count) (bits j)) ∙ ap (λ (c : ℕ). bit_at (bit_and w c) (bits j)) (sym is)
    ∙ ap (λ (c : ℕ). bit_at c (bits j)) none ∙ bit_at-zero (bits j) in
    let one = set_of-some bits count j below in
    let range : bit_at w (bits j) < 2 = bit_at-lt w (bits j) in
    omega arith

-- a number without the bits has none of the set
pub base_bit : (bits : ℕ → ℕ) (count w k : ℕ) → IsBase bits count w → min (bit_at w k) (bit_at (set_of bits count) k) ≡ 0
unfolding set_of
base_bit bits zero w k base = let z = bit_at-zero k in omega arith
base_bit bits (suc j) w k base =
    let before : min (bit_at w k) (bit_at (set_of bits j) k) ≡ 0 = base_bit bits j w k (λ i l. base i (omega arith)) in
    ⊎_elim
    (λ (p : k ≡ bits j). let here : bit_at w k ≡ 0 = ap (bit_at w) p ∙ base j (omega arith) in omega arith)
    (λ (p : k ≢ bits j). let other = put_other (set_of bits j) (bits j) k p in omega arith)
    (cases_eq k (bits j))

pub not_base : (bits : ℕ → ℕ) (count w set : ℕ) → set ≡ set_of bits count → bit_and w set ≢ 0 → ¬ IsBase bits count w
not_base bits count w set is some base = some (ap (bit_and w) is ∙ same_from_bits (bit_and w (set_of bits count)) 0
    (λ k. bit_at_and w (set_of bits count) k ∙ base_bit bits count w k base ∙ sym (bit_at-zero k)))
