-- What a term becomes when the set has one bit more.
use Rattle.std.proofs.Common.{ℕ, ◌≡◌, ◌≢◌, ◌⊎◌, inl, inr, ◌+◌, ◌%◌, ◌<◌, bit_and, bit_xor}
use Rattle.std.proofs.Common.{refl, sym, ap, ◌∙◌, arith, ⊎_elim}
use Rattle.std.specs.Int.{bit_at}
use Rattle.std.specs.Int.Bits.{xor_zero_r}
use Rattle.std.proofs.lemmas.Bool.{cases_eq}
use Rattle.std.proofs.lemmas.Nat.{xor_comm}
use Rattle.std.proofs.lemmas.Nat.Bits.{bit_at-lt}
use Rattle.bm_gf2.proofs.VectorLemmas.{xor_same}
use Rattle.bm_kinds.specs.Kinds.{WalshBits, Sums, Differences, Xors, with_sign, outside, inside, term}
use Rattle.bm_butter.proofs.OnBitLemmas.{flip}
use Rattle.bm_kinds.proofs.TotalLemmas.{signed_cancels}
use Rattle.bm_kinds.proofs.AgreeLemmas.{Adds, differ_outside, own_bit, outside_same, outside_other, outside_same-cancels}
use Rattle.bm_kinds.proofs.AgreeLemmas.{outside_other-cancels, outside_none, inside_same, inside_other, inside_other-cancels, inside_none}
use Rattle.bm_kinds.proofs.AgreeLemmas.{sign_same, sign_other, sign_more, difference_more}

-- ---- one bit more, term by term

-- at an address without the bit the terms of both numbers of a pair are added
pub walsh_clear : (i set more k x v : ℕ) → Adds i set more → bit_at k i ≡ 0
    → term WalshBits set k x v + term WalshBits set (flip k i) x v ≡ term WalshBits more k x v
unfolding term
walsh_clear i set more k x v adds out =
    let sign : with_sign (bit_and (bit_and k x) more) v ≡ with_sign (bit_and (bit_and k x) set) v =
    ap (λ (c : ℕ). with_sign c v) (sign_same i set more k x adds (omega arith)) in
    ⊎_elim
    (λ (p : bit_at x i ≡ bit_at k i).
    let same = outside_same i set more k x _ _ adds p sign in
    let none = differ_outside i set more (flip k i) x (with_sign (bit_and (bit_and (flip k i) x) set) v) adds (own_bit i k x p) in
    omega arith)
    (λ (p : bit_at x i ≢ bit_at k i).
    let same = outside_other i set more k x _ _ adds p (sign ∙ ap (λ (c : ℕ). with_sign c v) (sym (sign_other i set more k x adds))) in
    let none = differ_outside i set more k x (with_sign (bit_and (bit_and k x) set) v) adds p in
    omega arith)
    (cases_eq (bit_at x i) (bit_at k i))

-- at one with it, its own term is taken negative
pub walsh_set : (i set more k x v : ℕ) → Adds i set more → bit_at k i ≡ 1
    → (term WalshBits more k x v + term WalshBits set k x v) % 18446744073709551616 ≡ term WalshBits set
    (flip k i) x v % 18446744073709551616
unfolding term
walsh_set i set more k x v adds one =
    ⊎_elim
    (λ (p : bit_at x i ≡ bit_at k i).
    let sign = signed_cancels _ _ v (sign_more i set more k x adds one (p ∙ one)) in
    let same = outside_same-cancels i set more k x _ _ adds p sign in
    let none = differ_outside i set more (flip k i) x (with_sign (bit_and (bit_and (flip k i) x) set) v) adds (own_bit i k x p) in
    omega arith)
    (λ (p : bit_at x i ≢ bit_at k i).
    let b : bit_at x i < 2 = bit_at-lt x i in
    let sign : with_sign (bit_and (bit_and k x) more) v ≡ with_sign (bit_and (bit_and (flip k i) x) set) v =
    ap (λ (c : ℕ). with_sign c v) (sign_same i set more k x adds (omega arith) ∙ sym (sign_other i set more k x adds)) in
    let same = outside_other i set more k x _ _ adds p sign in
    let none = differ_outside i set more k x (with_sign (bit_and (bit_and k x) set) v) adds p in
    omega arith)
    (cases_eq (bit_at x i) (bit_at k i))

-- sums at an address without the bit: nothing is added
pub plain_clear : (i set more k x v : ℕ) → Adds i set more → bit_at k i ≡ 0
    → outside set k x (inside set k x v) ≡ outside more k x (inside more k x v)
plain_clear i set more k x v adds out =
    ⊎_elim
    (λ (p : bit_at x i ≡ bit_at k i).
    sym (outside_same i set more k x _ _ adds p (inside_same i set more k x v v adds (omega arith) refl)))
    (λ (p : bit_at x i ≢ bit_at k i).
    let b : bit_at x i < 2 = bit_at-lt x i in
    differ_outside i set more k x (inside set k x v) adds p
    ∙ sym (ap (outside more k x) (inside_none i set more k x v adds (omega arith) out) ∙ outside_none more k x))
    (cases_eq (bit_at x i) (bit_at k i))

-- at one with it, one of the two is nothing
pub plain_set : (i set more k x v : ℕ) → Adds i set more → bit_at k i ≡ 1
    → (outside set (flip k i) x (inside set (flip k i) x v) ≡ 0) × (outside set k x (inside set k x v) ≡ outside more k x
    (inside more k x v))
    ⊎ (outside set k x (inside set k x v) ≡ 0) × (outside set (flip k i) x (inside set (flip k i) x v) ≡ outside more k x
    (inside more k x v))
plain_set i set more k x v adds one =
    let b : bit_at x i < 2 = bit_at-lt x i in
    ⊎_elim
    (λ (p : bit_at x i ≡ bit_at k i). inl (
      differ_outside i set more (flip k i) x (inside set (flip k i) x v) adds (own_bit i k x p),
      sym (outside_same i set more k x _ _ adds p (inside_same i set more k x v v adds (omega arith) refl)),
    ))
    (λ (p : bit_at x i ≢ bit_at k i). inr (
      differ_outside i set more k x (inside set k x v) adds p,
      sym (outside_other i set more k x _ _ adds p (inside_other i set more k x v v adds (omega arith) refl)),
    ))
    (cases_eq (bit_at x i) (bit_at k i))

pub sums_set : (i set more k x v : ℕ) → Adds i set more → bit_at k i ≡ 1
    → term Sums set (flip k i) x v + term Sums set k x v ≡ term Sums more k x v
unfolding term
sums_set i set more k x v adds one = ⊎_elim
    (λ p. let z = p.0 in let e = p.1 in omega arith) (λ p. let z = p.0 in let e = p.1 in omega arith)
    (plain_set i set more k x v adds one)

pub xors_set : (i set more k x v : ℕ) → Adds i set more → bit_at k i ≡ 1
    → bit_xor (term Xors set (flip k i) x v) (term Xors set k x v) ≡ term Xors more k x v
unfolding term
xors_set i set more k x v adds one = ⊎_elim
    (λ p. xor_same p.0 p.1 ∙ xor_comm 0 _ ∙ xor_zero_r _) (λ p. xor_same p.1 p.0 ∙ xor_zero_r _)
    (plain_set i set more k x v adds one)

pub sums_clear : (i set more k x v : ℕ) → Adds i set more → bit_at k i ≡ 0 → term Sums set k x v ≡ term Sums more k x v
unfolding term
sums_clear i set more k x v adds out = plain_clear i set more k x v adds out

pub xors_clear : (i set more k x v : ℕ) → Adds i set more → bit_at k i ≡ 0 → term Xors set k x v ≡ term Xors more k x v
unfolding term
xors_clear i set more k x v adds out = plain_clear i set more k x v adds out

pub differences_clear : (i set more k x v : ℕ) → Adds i set more → bit_at k i ≡ 0
    → term Differences set k x v ≡ term Differences more k x v
unfolding term
differences_clear i set more k x v adds out = plain_clear i set more k x (with_sign (bit_xor k x) v) adds out

pub differences_set : (i set more k x v : ℕ) → Adds i set more → bit_at k i ≡ 1
    → (term Differences more k x v + term Differences set (flip k i) x v) % 18446744073709551616
    ≡ term Differences set k x v % 18446744073709551616
unfolding term
differences_set i set more k x v adds one =
    let b : bit_at x i < 2 = bit_at-lt x i in
    ⊎_elim
    (λ (p : bit_at x i ≡ bit_at k i).
    let same = outside_same i set more k x _ _ adds p (inside_same i set more k x _ (with_sign (bit_xor k x) v) adds (omega arith) refl) in
    let none = differ_outside i set more (flip k i) x (inside set (flip k i) x (with_sign (bit_xor (flip k i) x) v)) adds
    (own_bit i k x p) in
    omega arith)
    (λ (p : bit_at x i ≢ bit_at k i).
    let sign = signed_cancels _ _ v (difference_more i k x one (omega arith)) in
    let same = outside_other-cancels i set more k x _ _ adds p (inside_other-cancels i set more k x _ _ adds (omega arith) sign) in
    let none = differ_outside i set more k x (inside set k x (with_sign (bit_xor k x) v)) adds p in
    omega arith)
    (cases_eq (bit_at x i) (bit_at k i))
