-- Totals of terms, and choices between a term and nothing.
use Rattle.std.proofs.Common.{ℕ, zero, suc, ◌≡◌, ◌≢◌, ◌+◌, ◌%◌, ◌<◌, ◌==◌, if◌then◌else◌, bit_xor, count_ones}
use Rattle.std.proofs.Common.{refl, sym, ap, ◌∙◌, arith, ⊎_elim}
use Rattle.std.specs.Int.Bits.{xor_zero_r}
use Rattle.std.proofs.lemmas.Bool.{cases_eq}
use Rattle.std.proofs.lemmas.Nat.{xor_comm}
use Rattle.bm_base.specs.Butterfly.{negative}
use Rattle.bm_base.proofs.CaseLemmas.{if_same, if_other}
use Rattle.bm_gf2.proofs.VectorLemmas.{xor_same, xor_swap}
use Rattle.bm_kinds.specs.Kinds.{Kind, WalshBits, Sums, Differences, Xors, with_sign, inside, added, total}

-- ---- totals

-- equal terms
pub total_same : (kind : Kind) (n : ℕ) (f g : ℕ → ℕ) → ((x : ℕ) → f x ≡ g x) → total kind n f ≡ total kind n g
unfolding total
total_same kind zero f g same = refl
total_same kind (suc x) f g same = ap (added kind (total kind x f)) (same x)
    ∙ ap (λ (s : ℕ). added kind s (g x)) (total_same kind x f g same)

-- totals that are sums, modulo 2 ^ 64
pub data IsSum : Kind → Type 0 where
  walsh : IsSum WalshBits
  sums : IsSum Sums
  differences : IsSum Differences

pub added_plus : (kind : Kind) (s t : ℕ) → IsSum kind → added kind s t ≡ s + t
unfolding added
added_plus WalshBits s t is = refl
added_plus Sums s t is = refl
added_plus Differences s t is = refl
added_plus Xors s t is = elim is [ ]

pub total_plus : (kind : Kind) (n : ℕ) (f g h : ℕ → ℕ) → IsSum kind
    → ((x : ℕ) → (f x + g x) % 18446744073709551616 ≡ h x % 18446744073709551616)
    → (total kind n f + total kind n g) % 18446744073709551616 ≡ total kind n h % 18446744073709551616
unfolding total
total_plus kind zero f g h is same = refl
total_plus kind (suc x) f g h is same =
    let before = total_plus kind x f g h is same in
    let here = same x in
    let p = added_plus kind (total kind x f) (f x) is in
    let q = added_plus kind (total kind x g) (g x) is in
    let r = added_plus kind (total kind x h) (h x) is in
    omega arith

-- totals that are XORs
pub total_xor : (n : ℕ) (f g h : ℕ → ℕ) → ((x : ℕ) → bit_xor (f x) (g x) ≡ h x) → bit_xor (total Xors n f) (total Xors n g) ≡ total Xors n h
unfolding total added
total_xor zero f g h same = refl
total_xor (suc x) f g h same = xor_swap (total Xors x f) (f x) (total Xors x g) (g x) ∙ xor_same (total_xor x f g h same) (same x)

-- nothing added
pub added_none : (kind : Kind) (s : ℕ) → added kind s 0 ≡ s
unfolding added
added_none WalshBits s = omega arith
added_none Sums s = omega arith
added_none Differences s = omega arith
added_none Xors s = xor_zero_r s

pub added_first : (kind : Kind) (s : ℕ) → added kind 0 s ≡ s
unfolding added
added_first WalshBits s = omega arith
added_first Sums s = omega arith
added_first Differences s = omega arith
added_first Xors s = xor_comm 0 s ∙ xor_zero_r s

-- a total of nothing, and of one term
pub total_none : (kind : Kind) (n : ℕ) (f : ℕ → ℕ) → ((x : ℕ) → x < n → f x ≡ 0) → total kind n f ≡ 0
unfolding total
total_none kind zero f none = refl
total_none kind (suc x) f none = ap (added kind (total kind x f)) (none x (omega arith)) ∙ added_none kind (total kind x f)
    ∙ total_none kind x f (λ y l. none y (omega arith))

pub total_one : (kind : Kind) (n k : ℕ) (f : ℕ → ℕ) → k < n → ((x : ℕ) → x ≢ k → f x ≡ 0) → total kind n f ≡ f k
unfolding total
total_one kind zero k f inside others = absurd (omega arith)
total_one kind (suc x) k f inside others =
    ⊎_elim
    (λ (p : k ≡ x). ap (λ (s : ℕ). added kind s (f x)) (total_none kind x f (λ y l. others y (λ e. absurd (omega arith))))
    ∙ added_first kind (f x) ∙ ap f (sym p))
    (λ (p : k ≢ x). ap (added kind (total kind x f)) (others x (λ e. p (sym e))) ∙ added_none kind (total kind x f)
    ∙ total_one kind x k f (omega arith) others)
    (cases_eq k x)

-- ---- choices

-- the same choice of the same
pub choice_same : (a b c d v w : ℕ) → (a ≡ b → c ≡ d) → (c ≡ d → a ≡ b) → v ≡ w → (if a == b then v else 0) ≡ (if c == d then w else 0)
choice_same a b c d v w there back same =
    ⊎_elim
    (λ (p : a ≡ b). if_same a b v 0 p ∙ same ∙ sym (if_same c d w 0 (there p)))
    (λ (p : a ≢ b). if_other a b v 0 p ∙ sym (if_other c d w 0 (λ e. p (back e))))
    (cases_eq a b)

-- numbers that cancel one another
pub cancels : ℕ → ℕ → Type 0
cancels v w = (v + w) % 18446744073709551616 ≡ 0

pub choice_cancels : (a b c d v w : ℕ) → (a ≡ b → c ≡ d) → (c ≡ d → a ≡ b) → (v + w) % 18446744073709551616 ≡ 0
    → ((if a == b then v else 0) + (if c == d then w else 0)) % 18446744073709551616 ≡ 0
choice_cancels a b c d v w there back none =
    ⊎_elim
    (λ (p : a ≡ b). let e = if_same a b v 0 p in let f = if_same c d w 0 (there p) in omega arith)
    (λ (p : a ≢ b). let e = if_other a b v 0 p in let f = if_other c d w 0 (λ q. p (back q)) in omega arith)
    (cases_eq a b)

-- one more in what tells the sign
pub signed_cancels : (c d v : ℕ) → count_ones c ≡ count_ones d + 1 → (with_sign c v + with_sign d v) % 18446744073709551616 ≡ 0
signed_cancels c d v more =
    ⊎_elim
    (λ (p : count_ones d % 2 ≡ 0).
    let e = if_same (count_ones d % 2) 0 v (negative v) p in
    let f = if_other (count_ones c % 2) 0 v (negative v) (λ z. absurd (omega arith)) in
    omega arith)
    (λ (p : count_ones d % 2 ≢ 0).
    let e = if_other (count_ones d % 2) 0 v (negative v) p in
    let f = if_same (count_ones c % 2) 0 v (negative v) (let z : count_ones c % 2 ≡ 0 = omega arith in z) in
    omega arith)
    (cases_eq (count_ones d % 2) 0)
