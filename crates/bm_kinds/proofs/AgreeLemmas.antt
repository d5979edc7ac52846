-- Addresses that agree outside a set or lie within one another, and the signs of their terms.
use Rattle.std.proofs.Common.{ℕ, ◌≡◌, ◌≢◌, ◌+◌, ◌%◌, ◌<◌, ◌≤◌, bit_and, bit_or, bit_xor, count_ones}
use Rattle.std.proofs.Common.{min, sym, ap, ◌∙◌, arith, ⊎_elim}
use Rattle.std.specs.Int.{bit_at}
use Rattle.std.proofs.lemmas.Bool.{cases_eq}
use Rattle.std.proofs.lemmas.Nat.Bits.{bit_at-lt, bit_at_and, bit_at_or, bit_at_xor, same_from_bits}
use Rattle.bm_base.proofs.CaseLemmas.{if_same, if_other}
use Rattle.bm_kinds.specs.Kinds.{outside, inside}
use Rattle.bm_butter.proofs.OnBitLemmas.{flip, flip_same, flip_other, flip_clear, flip_set, bit_by}
use Rattle.bm_kinds.proofs.SetLemmas.{ones_flipped}
use Rattle.bm_kinds.proofs.TotalLemmas.{choice_same, choice_cancels}

-- ---- sets

-- more has bit i besides those of set
pub record Adds (i set more : ℕ) : Type 0 where
  pub clear : bit_at set i ≡ 0
  pub put : bit_at more i ≡ 1
  pub others : (j : ℕ) → j ≢ i → bit_at more j ≡ bit_at set j

-- both addresses agree outside a set
abbrev pub Agree : ℕ → ℕ → ℕ → Type 0
Agree set k x = bit_or x set ≡ bit_or k set

-- bit by bit
pub agree_bits : (set k x : ℕ) → Agree set k x → (j : ℕ) → bit_at set j ≡ 0 → bit_at x j ≡ bit_at k j
agree_bits set k x same j clear =
    let e : bit_at (bit_or x set) j ≡ bit_at (bit_or k set) j = ap (λ (c : ℕ). bit_at c j) same in
    let l = bit_at_or x set j in
    let r = bit_at_or k set j in
    omega arith

pub bits_agree : (set k x : ℕ) → ((j : ℕ) → bit_at set j ≡ 0 → bit_at x j ≡ bit_at k j) → Agree set k x
bits_agree set k x same = same_from_bits (bit_or x set) (bit_or k set)
    (λ j. bit_by set j
    (λ (p : bit_at set j ≡ 0). let e = same j p in let l = bit_at_or x set j in let r = bit_at_or k set j in omega arith)
    (λ (p : bit_at set j ≡ 1). let l = bit_at_or x set j in let r = bit_at_or k set j in
    let s : bit_at x j < 2 = bit_at-lt x j in let t : bit_at k j < 2 = bit_at-lt k j in omega arith))

-- agreeing in the bit, and outside the larger set
pub agree_more : (i set more k x : ℕ) → Adds i set more → Agree set k x → Agree more k x
agree_more i set more k x adds same = bits_agree more k x
    (λ j clear. ⊎_elim
    (λ (p : j ≡ i). let put = adds.put in let e : bit_at more j ≡ bit_at more i = ap (bit_at more) p in absurd (omega arith))
    (λ (p : j ≢ i). agree_bits set k x same j (sym (adds.others j p) ∙ clear))
    (cases_eq j i))

pub agree_less : (i set more k x : ℕ) → Adds i set more → bit_at x i ≡ bit_at k i → Agree more k x → Agree set k x
agree_less i set more k x adds here same = bits_agree set k x
    (λ j clear. ⊎_elim
    (λ (p : j ≡ i). ap (bit_at x) p ∙ here ∙ ap (bit_at k) (sym p))
    (λ (p : j ≢ i). agree_bits more k x same j (adds.others j p ∙ clear))
    (cases_eq j i))

-- the bit that is in the set may be turned
pub agree_turned : (i set more k x : ℕ) → Adds i set more → Agree more (flip k i) x → Agree more k x
agree_turned i set more k x adds same = bits_agree more k x
    (λ j clear. ⊎_elim
    (λ (p : j ≡ i). let put = adds.put in let e : bit_at more j ≡ bit_at more i = ap (bit_at more) p in absurd (omega arith))
    (λ (p : j ≢ i). agree_bits more (flip k i) x same j clear ∙ flip_other k i j p)
    (cases_eq j i))

pub agree_turn : (i set more k x : ℕ) → Adds i set more → Agree more k x → Agree more (flip k i) x
agree_turn i set more k x adds same = bits_agree more (flip k i) x
    (λ j clear. ⊎_elim
    (λ (p : j ≡ i). let put = adds.put in let e : bit_at more j ≡ bit_at more i = ap (bit_at more) p in absurd (omega arith))
    (λ (p : j ≢ i). agree_bits more k x same j clear ∙ sym (flip_other k i j p))
    (cases_eq j i))

-- outside the smaller set, the bit is read
pub differ_outside : (i set more k x v : ℕ) → Adds i set more → bit_at x i ≢ bit_at k i → outside set k x v ≡ 0
differ_outside i set more k x v adds differ =
    if_other (bit_or x set) (bit_or k set) v 0 (λ same. differ (agree_bits set k x same i adds.clear))

-- the bit of the other address
pub other_bit : (i k x : ℕ) → bit_at x i ≢ bit_at k i → bit_at x i ≡ bit_at (flip k i) i
other_bit i k x differ =
    let p : bit_at x i < 2 = bit_at-lt x i in
    let q : bit_at k i < 2 = bit_at-lt k i in
    let e = flip_same k i in
    omega arith

pub own_bit : (i k x : ℕ) → bit_at x i ≡ bit_at k i → bit_at x i ≢ bit_at (flip k i) i
own_bit i k x same e =
    let q : bit_at k i < 2 = bit_at-lt k i in
    let f = flip_same k i in
    absurd (omega arith)

-- ---- terms outside a set

-- agreeing in the bit, the larger set leaves the same out
pub outside_same : (i set more k x v w : ℕ) → Adds i set more → bit_at x i ≡ bit_at k i → v ≡ w → outside more k x v ≡ outside set k x w
outside_same i set more k x v w adds here same = choice_same (bit_or x more) (bit_or k more) (bit_or x set) (bit_or k set) v w
    (agree_less i set more k x adds here) (agree_more i set more k x adds) same

-- else it leaves out what the smaller set leaves out at the other address
pub outside_other : (i set more k x v w : ℕ) → Adds i set more → bit_at x i ≢ bit_at k i → v ≡ w
    → outside more k x v ≡ outside set (flip k i) x w
outside_other i set more k x v w adds differ same =
    choice_same (bit_or x more) (bit_or k more) (bit_or x set) (bit_or (flip k i) set) v w
    (λ e. agree_less i set more (flip k i) x adds (other_bit i k x differ) (agree_turn i set more k x adds e))
    (λ e. agree_turned i set more k x adds (agree_more i set more (flip k i) x adds e)) same

-- the same, with terms that cancel one another
pub outside_same-cancels : (i set more k x v w : ℕ) → Adds i set more → bit_at x i ≡ bit_at k i → (v + w) % 18446744073709551616 ≡ 0
    → (outside more k x v + outside set k x w) % 18446744073709551616 ≡ 0
outside_same-cancels i set more k x v w adds here none =
    choice_cancels (bit_or x more) (bit_or k more) (bit_or x set) (bit_or k set) v w
    (agree_less i set more k x adds here) (agree_more i set more k x adds) none

pub outside_other-cancels : (i set more k x v w : ℕ) → Adds i set more → bit_at x i ≢ bit_at k i → (v + w) % 18446744073709551616 ≡ 0
    → (outside more k x v + outside set (flip k i) x w) % 18446744073709551616 ≡ 0
outside_other-cancels i set more k x v w adds differ none =
    choice_cancels (bit_or x more) (bit_or k more) (bit_or x set) (bit_or (flip k i) set) v w
    (λ e. agree_less i set more (flip k i) x adds (other_bit i k x differ) (agree_turn i set more k x adds e))
    (λ e. agree_turned i set more k x adds (agree_more i set more (flip k i) x adds e)) none

-- nothing in any case
pub outside_none : (set k x : ℕ) → outside set k x 0 ≡ 0
outside_none set k x =
    ⊎_elim (λ (p : bit_or x set ≡ bit_or k set). if_same (bit_or x set) (bit_or k set) 0 0 p)
    (λ (p : bit_or x set ≢ bit_or k set). if_other (bit_or x set) (bit_or k set) 0 0 p) (cases_eq (bit_or x set) (bit_or k set))

-- ---- terms inside an address

abbrev pub Within : ℕ → ℕ → ℕ → Type 0
Within set k x = bit_or (bit_and x set) k ≡ k

pub within_bits : (set k x : ℕ) → Within set k x → (j : ℕ) → min (bit_at x j) (bit_at set j) ≤ bit_at k j
within_bits set k x is j =
    let e : bit_at (bit_or (bit_and x set) k) j ≡ bit_at k j = ap (λ (c : ℕ). bit_at c j) is in
    let o = bit_at_or (bit_and x set) k j in
    let a = bit_at_and x set j in
    omega arith

pub bits_within : (set k x : ℕ) → ((j : ℕ) → min (bit_at x j) (bit_at set j) ≤ bit_at k j) → Within set k x
bits_within set k x less = same_from_bits (bit_or (bit_and x set) k) k
    (λ j. let o = bit_at_or (bit_and x set) k j in let a = bit_at_and x set j in let l = less j in omega arith)

-- the bit of x is a bit of k: both sets say the same
pub within_more : (i set more k x : ℕ) → Adds i set more → bit_at x i ≤ bit_at k i → Within set k x → Within more k x
within_more i set more k x adds here is = bits_within more k x
    (λ j. ⊎_elim
    (λ (p : j ≡ i).
    let a : bit_at x j ≡ bit_at x i = ap (bit_at x) p in
    let b : bit_at k j ≡ bit_at k i = ap (bit_at k) p in
    omega arith)
    (λ (p : j ≢ i). let l = within_bits set k x is j in let o = adds.others j p in omega arith)
    (cases_eq j i))

pub within_less : (i set more k x : ℕ) → Adds i set more → Within more k x → Within set k x
within_less i set more k x adds is = bits_within set k x
    (λ j. ⊎_elim
    (λ (p : j ≡ i). let a : bit_at set j ≡ bit_at set i = ap (bit_at set) p in let c = adds.clear in omega arith)
    (λ (p : j ≢ i). let l = within_bits more k x is j in let o = adds.others j p in omega arith)
    (cases_eq j i))

-- the smaller set doesn't read the bit
pub within_turned : (i set more k x : ℕ) → Adds i set more → Within set (flip k i) x → Within set k x
within_turned i set more k x adds is = bits_within set k x
    (λ j. ⊎_elim
    (λ (p : j ≡ i). let a : bit_at set j ≡ bit_at set i = ap (bit_at set) p in let c = adds.clear in omega arith)
    (λ (p : j ≢ i). let l = within_bits set (flip k i) x is j in let o = flip_other k i j p in omega arith)
    (cases_eq j i))

pub within_turn : (i set more k x : ℕ) → Adds i set more → Within set k x → Within set (flip k i) x
within_turn i set more k x adds is = bits_within set (flip k i) x
    (λ j. ⊎_elim
    (λ (p : j ≡ i). let a : bit_at set j ≡ bit_at set i = ap (bit_at set) p in let c = adds.clear in omega arith)
    (λ (p : j ≢ i). let l = within_bits set k x is j in let o = flip_other k i j p in omega arith)
    (cases_eq j i))

pub inside_same : (i set more k x v w : ℕ) → Adds i set more → bit_at x i ≤ bit_at k i → v ≡ w → inside more k x v ≡ inside set k x w
inside_same i set more k x v w adds here same = choice_same (bit_or (bit_and x more) k) k (bit_or (bit_and x set) k) k v w
    (within_less i set more k x adds) (within_more i set more k x adds here) same

pub inside_other : (i set more k x v w : ℕ) → Adds i set more → bit_at x i ≤ bit_at k i → v ≡ w
    → inside more k x v ≡ inside set (flip k i) x w
inside_other i set more k x v w adds here same =
    choice_same (bit_or (bit_and x more) k) k (bit_or (bit_and x set) (flip k i)) (flip k i) v w
    (λ e. within_turn i set more k x adds (within_less i set more k x adds e))
    (λ e. within_more i set more k x adds here (within_turned i set more k x adds e)) same

pub inside_other-cancels : (i set more k x v w : ℕ) → Adds i set more → bit_at x i ≤ bit_at k i → (v + w) % 18446744073709551616 ≡ 0
    → (inside more k x v + inside set (flip k i) x w) % 18446744073709551616 ≡ 0
inside_other-cancels i set more k x v w adds here none =
    choice_cancels (bit_or (bit_and x more) k) k (bit_or (bit_and x set) (flip k i)) (flip k i) v w
    (λ e. within_turn i set more k x adds (within_less i set more k x adds e))
    (λ e. within_more i set more k x adds here (within_turned i set more k x adds e)) none

-- a bit of x that is none of k
pub inside_none : (i set more k x v : ℕ) → Adds i set more → bit_at x i ≡ 1 → bit_at k i ≡ 0 → inside more k x v ≡ 0
inside_none i set more k x v adds one out =
    if_other (bit_or (bit_and x more) k) k v 0 (λ is. let l = within_bits more k x is i in let p = adds.put in absurd (omega arith))

-- ---- signs

-- bits that tell the sign of the transform by signs
pub sign_same : (i set more k x : ℕ) → Adds i set more → min (bit_at k i) (bit_at x i) ≡ 0
    → bit_and (bit_and k x) more ≡ bit_and (bit_and k x) set
sign_same i set more k x adds none = same_from_bits (bit_and (bit_and k x) more) (bit_and (bit_and k x) set)
    (λ j.
    let b = bit_at_and (bit_and k x) more j in
    let c = bit_at_and (bit_and k x) set j in
    let d = bit_at_and k x j in
    ⊎_elim
    (λ (p : j ≡ i). let e : bit_at k j ≡ bit_at k i = ap (bit_at k) p in let f : bit_at x j ≡ bit_at x i = ap (bit_at x) p in omega arith)
    (λ (p : j ≢ i). let o = adds.others j p in omega arith)
    (cases_eq j i))

pub sign_other : (i set more k x : ℕ) → Adds i set more → bit_and (bit_and (flip k i) x) set ≡ bit_and (bit_and k x) set
sign_other i set more k x adds = same_from_bits (bit_and (bit_and (flip k i) x) set) (bit_and (bit_and k x) set)
    (λ j.
    let b = bit_at_and (bit_and (flip k i) x) set j in
    let c = bit_at_and (bit_and k x) set j in
    let d = bit_at_and (flip k i) x j in
    let e = bit_at_and k x j in
    ⊎_elim
    (λ (p : j ≡ i). let f : bit_at set j ≡ bit_at set i = ap (bit_at set) p in let g = adds.clear in omega arith)
    (λ (p : j ≢ i). let o = flip_other k i j p in omega arith)
    (cases_eq j i))

pub sign_more : (i set more k x : ℕ) → Adds i set more → bit_at k i ≡ 1 → bit_at x i ≡ 1
    → count_ones (bit_and (bit_and k x) more) ≡ count_ones (bit_and (bit_and k x) set) + 1
sign_more i set more k x adds one_k one_x =
    let less = bit_and (bit_and k x) set in
    let low : bit_at less i ≡ 0 = (let b = bit_at_and (bit_and k x) set i in let c = adds.clear in omega arith) in
    ap count_ones (same_from_bits (bit_and (bit_and k x) more) (flip less i)
    (λ j.
    let b = bit_at_and (bit_and k x) more j in
    let c = bit_at_and (bit_and k x) set j in
    let d = bit_at_and k x j in
    ⊎_elim
    (λ (p : j ≡ i).
    let e : bit_at k j ≡ bit_at k i = ap (bit_at k) p in
    let f : bit_at x j ≡ bit_at x i = ap (bit_at x) p in
    let g : bit_at more j ≡ bit_at more i = ap (bit_at more) p in
    let h = adds.put in
    let o : bit_at (flip less i) j ≡ 1 = ap (bit_at (flip less i)) p ∙ flip_clear less i low in
    omega arith)
    (λ (p : j ≢ i). let o = adds.others j p in let q = flip_other less i j p in omega arith)
    (cases_eq j i)))
    ∙ ones_flipped i less low

-- bits that tell the sign of a difference
pub difference_more : (i k x : ℕ) → bit_at k i ≡ 1 → bit_at x i ≡ 0 → count_ones (bit_xor k x) ≡ count_ones (bit_xor (flip k i) x) + 1
difference_more i k x one out =
    let less = bit_xor (flip k i) x in
    let low : bit_at less i ≡ 0 = (let b = bit_at_xor (flip k i) x i in let c = flip_set k i one in omega arith) in
    ap count_ones (same_from_bits (bit_xor k x) (flip less i)
    (λ j.
    let b = bit_at_xor k x j in
    let c = bit_at_xor (flip k i) x j in
    ⊎_elim
    (λ (p : j ≡ i).
    let e : bit_at k j ≡ bit_at k i = ap (bit_at k) p in
    let f : bit_at x j ≡ bit_at x i = ap (bit_at x) p in
    let o : bit_at (flip less i) j ≡ 1 = ap (bit_at (flip less i)) p ∙ flip_clear less i low in
    omega arith)
    (λ (p : j ≢ i). let q = flip_other less i j p in let r = flip_other k i j p in omega arith)
    (cases_eq j i)))
    ∙ ones_flipped i less low
