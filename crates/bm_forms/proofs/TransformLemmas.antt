-- Signed sums, modulo 2 ^ 64, of which the transform is made.
use Rattle.std.proofs.Common.{ℕ, zero, suc, ◌≡◌, ◌≢◌, ◌+◌, ◌*◌, ◌/◌, ◌%◌, ◌^◌, ◌<◌, bit_and, count_ones, refl, sym, ap, ◌∙◌, arith, ⊎_elim}
use Rattle.std.proofs.lemmas.Bool.{cases_eq}
use Rattle.std.proofs.lemmas.Nat.{pow_pos, ones_le_self, and_block, and_le_r, shr_split}
use Rattle.std.proofs.Math.Nat.{add-suc, mod-lt, pow-suc}
use Rattle.std.proofs.lemmas.Nat.Bits.{bit_at-lt, shr_and_one}
use Rattle.std.specs.Int.{bit_at}
use Rattle.std.specs.Int.Count.{ones_step}
use Rattle.bm_base.specs.Butterfly.{negative, number_in, record_of}
use Rattle.std.specs.Int.Count.{ones}
use Rattle.std.proofs.Common.{zero-mul}
use Rattle.bm_base.proofs.CaseLemmas.{if_same, if_other}
use Rattle.bm_forms.specs.Transform.{sum_below, signed, transformed}

-- ---- sums

-- equal terms have equal sums
pub sum_below-same : (k : ℕ) (f g : ℕ → ℕ) → ((t : ℕ) → t < k → f t ≡ g t) → sum_below k f ≡ sum_below k g
unfolding sum_below
sum_below-same zero f g h = refl
sum_below-same (suc k) f g h =
    let ih : sum_below k f ≡ sum_below k g = sum_below-same k f g (λ t l. h t (omega arith)) in
    let e : f k ≡ g k = h k (omega arith) in
    omega arith

-- the first terms and the others
pub sum_below-split : (a b : ℕ) (f : ℕ → ℕ) → sum_below (a + b) f ≡ sum_below a f + sum_below b (λ t. f (a + t))
unfolding sum_below
sum_below-split a zero f = let e : a + 0 ≡ a = omega arith in rw e (omega arith)
sum_below-split a (suc b) f = let ih = sum_below-split a b f in rw add-suc (omega arith)

-- terms that cancel one another
pub sum_below-against : (k : ℕ) (f g : ℕ → ℕ) → ((t : ℕ) → t < k → (f t + g t) % 18446744073709551616 ≡ 0)
    → (sum_below k f + sum_below k g) % 18446744073709551616 ≡ 0
unfolding sum_below
sum_below-against zero f g h = refl
sum_below-against (suc k) f g h =
    let ih : (sum_below k f + sum_below k g) % 18446744073709551616 ≡ 0 = sum_below-against k f g (λ t l. h t (omega arith)) in
    let e : (f k + g k) % 18446744073709551616 ≡ 0 = h k (omega arith) in
    omega arith

-- one term
pub sum_below-one : (f : ℕ → ℕ) → sum_below 1 f ≡ f 0
unfolding sum_below
sum_below-one f = omega arith

-- ---- ones

-- 0 has no ones
pub none_in_zero : count_ones 0 ≡ 0
none_in_zero = let h = ones_le_self 0 in omega arith

-- the ones of two parts
pub ones-parts : (r a b : ℕ) → b < 2 ^ r → count_ones (a * 2 ^ r + b) ≡ count_ones a + count_ones b
ones-parts zero a b h =
    let e : b ≡ 0 = omega arith in
    let f : a * 2 ^ 0 + 0 ≡ a = omega arith in
    rw (e, f) (omega (arith, none_in_zero))
ones-parts (suc r) a b h =
    let p : 2 ^ suc r ≡ 2 ^ r * 2 = pow-suc 2 r in
    let whole : a * 2 ^ suc r ≡ a * 2 ^ r * 2 = ap (λ (c : ℕ). a * c) p ∙ omega arith in
    let low : (a * 2 ^ suc r + b) % 2 ≡ b % 2 = omega arith in
    let high : (a * 2 ^ suc r + b) / 2 ≡ a * 2 ^ r + b / 2 = omega arith in
    let ih : count_ones (a * 2 ^ r + b / 2) ≡ count_ones a + count_ones (b / 2) = ones-parts r a (b / 2) (omega arith) in
    let s = ones_step (a * 2 ^ suc r + b) in
    let t = ones_step b in
    let u : count_ones ((a * 2 ^ suc r + b) / 2) ≡ count_ones a + count_ones (b / 2) = ap count_ones high ∙ ih in
    omega arith

-- 0 has no bits in common with any
pub and_none : (a : ℕ) → bit_and a 0 ≡ 0
and_none a = let h = and_le_r a 0 in omega arith

-- common bits are no more than both
and_lt : (a t r : ℕ) → t < 2 ^ r → bit_and a t < 2 ^ r
and_lt a t r h = let l = and_le_r a t in omega arith

-- a bit is its own number of ones
one_bit : (b : ℕ) → b < 2 → count_ones b ≡ b
one_bit zero h = none_in_zero
one_bit (suc zero) h = ones_step 1 ∙ ap (λ (c : ℕ). 1 + c) none_in_zero
one_bit (suc (suc b)) h = absurd (omega arith)

-- a number and its negative
cancels : (u : ℕ) → (negative u + u) % 18446744073709551616 ≡ 0
cancels u = omega arith

-- and the other way round
cancels_back : (u : ℕ) → (u + negative u) % 18446744073709551616 ≡ 0
cancels_back u = omega arith

-- the bits of k above are not read
pub and_low : (k r t : ℕ) → t < 2 ^ r → bit_and k t ≡ bit_and (k % 2 ^ r) t
and_low k r t h =
    ap (λ (c : ℕ). bit_and c t) (sym (shr_split k r))
    ∙ ap (λ (c : ℕ). bit_and (k / 2 ^ r * 2 ^ r + k % 2 ^ r) c)
    (let e : t ≡ 0 * 2 ^ r + t = (let z = zero-mul (2 ^ r) in omega arith) in e)
    ∙ and_block r (k / 2 ^ r) 0 (k % 2 ^ r) t (mod-lt k (pow_pos r)) h
    ∙ ap (λ (c : ℕ). c * 2 ^ r + bit_and (k % 2 ^ r) t) (and_none (k / 2 ^ r))
    ∙ (let z = zero-mul (2 ^ r) in let e : 0 * 2 ^ r + bit_and (k % 2 ^ r) t ≡ bit_and (k % 2 ^ r) t = omega arith in e)

-- bit r of k counts where r is set
pub and_high : (k r t : ℕ) → t < 2 ^ r → count_ones (bit_and k (2 ^ r + t)) ≡ bit_at k r + count_ones (bit_and k t)
and_high k r t h =
    ap count_ones (
    ap (λ (c : ℕ). bit_and c (2 ^ r + t)) (sym (shr_split k r))
    ∙ ap (λ (c : ℕ). bit_and (k / 2 ^ r * 2 ^ r + k % 2 ^ r) c) (let e : 2 ^ r + t ≡ 1 * 2 ^ r + t = omega arith in e)
    ∙ and_block r (k / 2 ^ r) 1 (k % 2 ^ r) t (mod-lt k (pow_pos r)) h)
    ∙ ones-parts r (bit_and (k / 2 ^ r) 1) (bit_and (k % 2 ^ r) t) (and_lt (k % 2 ^ r) t r h)
    ∙ ap (λ (c : ℕ). c + count_ones (bit_and (k % 2 ^ r) t)) (ap count_ones (shr_and_one k r) ∙ one_bit (bit_at k r) (bit_at-lt k r))
    ∙ ap (λ (c : ℕ). bit_at k r + count_ones c) (sym (and_low k r t h))

-- ---- signed terms

-- equal signs and values make equal terms
pub signed-same : (v w : ℕ → ℕ) (k l x y : ℕ) → count_ones (bit_and k x) % 2 ≡ count_ones (bit_and l y) % 2 → v x ≡ w y
    → signed v k x ≡ signed w l y
signed-same v w k l x y p e = rw (p, e) refl

-- opposite signs cancel
pub signed-against : (v w : ℕ → ℕ) (k l x y : ℕ) → count_ones (bit_and k x) ≡ 1 + count_ones (bit_and l y) → v x ≡ w y
    → (signed v k x + signed w l y) % 18446744073709551616 ≡ 0
signed-against v w k l x y p e =
    ⊎_elim
    (λ (q : count_ones (bit_and l y) % 2 ≡ 0).
    let r : count_ones (bit_and k x) % 2 ≡ 0 → ⊥ = λ z. absurd (omega arith) in
    rw (
      if_same (count_ones (bit_and l y) % 2) 0 (w y) (negative (w y)) q,
      if_other (count_ones (bit_and k x) % 2) 0 (v x)
          (negative (v x)) r,
      e,
    ) (cancels (w y)))
    (λ (q : count_ones (bit_and l y) % 2 ≡ 0 → ⊥).
    let r : count_ones (bit_and k x) % 2 ≡ 0 =
    (let b : count_ones (bit_and l y) % 2 < 2 =
    mod-lt (count_ones (bit_and l y)) (omega arith) in let c : count_ones (bit_and l y) % 2 ≢ 0 = q in omega arith) in
    rw (
      if_other (count_ones (bit_and l y) % 2) 0 (w y) (negative (w y)) q,
      if_same (count_ones (bit_and k x) % 2) 0 (v x)
          (negative (v x)) r,
      e,
    ) (cancels_back (w y)))
    (cases_eq (count_ones (bit_and l y) % 2) 0)

-- ---- an example, by computing: the transform of 1 2 3 4 is 10 -2 -4 0
transform_of_four :
    (transformed 2 (λ x. record_of (x + 1)) 0 ≡ record_of 10)
    × (transformed 2 (λ x. record_of (x + 1)) 1 ≡ record_of 18446744073709551614)
    × (transformed 2 (λ x. record_of (x + 1)) 2 ≡ record_of 18446744073709551612)
    × (transformed 2 (λ x. record_of (x + 1)) 3 ≡ record_of 0)
unfolding sum_below number_in record_of ones
transform_of_four = (refl, refl, refl, refl)
