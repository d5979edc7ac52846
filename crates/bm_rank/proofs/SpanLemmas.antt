-- Laws of spans.
use Rattle.std.proofs.Common.{◌≡◌, ℕ, suc, ◌+◌, ◌*◌, ◌/◌, ◌%◌, ◌^◌, ◌<◌, ◌≤◌, Bool, true, false, List, [], ◌∷◌, ◌++◌, length, length-take}
use Rattle.std.proofs.Common.{take, get_or-take, slice_index, ◌||◌, bit_xor, refl, sym, ap, ◌∙◌, subst, arith, inl, inr, ⊎_elim, ◌⊎◌}
use Rattle.std.specs.Int.{bit_at}
use Rattle.std.specs.Int.Bits.{xor_assoc}
use Rattle.std.proofs.lemmas.Nat.{xor_comm}
use Rattle.std.proofs.lemmas.Nat.Bits.{bit_at-lt, bit_at_lowest}
use Rattle.std.proofs.lemmas.Bool.{or_cases, eqb-true}
use Rattle.std.proofs.lemmas.List.{get_or_append_left}
use Rattle.std.proofs.Math.Seq.{get_or-append_seam}
use Rattle.std.proofs.Math.Numerals.{one-add}
use Rattle.std.proofs.Common.{zero-mul}
use Rattle.bm_gf2.specs.Vector.{xor_sum}
use Rattle.bm_gf2.proofs.VectorLemmas.{xor_sum-split, xor_sum-xor, xor_sum-more, xor_sum_start, xor_sum-pow, xor_sum-ext, bit_cases}
use Rattle.bm_gf2.proofs.VectorLemmas.{xor_same, xor_cancel_right}
use Rattle.bm_rank.specs.Span.{in_span, sum_of}

-- the vectors after the first
at_next : (w : ℕ) (ws : List ℕ) (j : ℕ) → slice_index (w ∷ ws) (1 + j) ≡ slice_index ws j
at_next w ws j = rw one-add refl

-- the first vector by bit 0, the others by the bits after it
pub sum_of-cons : (w : ℕ) (ws : List ℕ) (x : ℕ) → sum_of (w ∷ ws) x ≡ bit_xor (bit_at x 0 * w) (sum_of ws (x / 2))
sum_of-cons w ws x =
    let f : ℕ → ℕ = slice_index (w ∷ ws) in
    ap (λ (k : ℕ). xor_sum f k x) (let e : suc (length ws) ≡ 1 + length ws = omega arith in e)
    ∙ xor_sum-split f 1 (length ws) x
    ∙ xor_same (xor_sum-more f 0 x ∙ ap (λ (c : ℕ). bit_xor c (bit_at x 0 * w)) (xor_sum_start f x))
    (xor_sum-ext (λ j. f (1 + j)) (slice_index ws) (length ws) (x / 2) (λ j l. at_next w ws j))

-- the empty sum
pub in_span-zero : (ws : List ℕ) → in_span ws 0 ≡ true
unfolding in_span
in_span-zero [] = refl
in_span-zero (w ∷ ws) = rw (in_span-zero ws) refl

-- the first test holds
or_left : (a b : Bool) → a ≡ true → (a || b) ≡ true
or_left true b h = refl
or_left false b h = cc

-- the second test holds
or_right : (a b : Bool) → b ≡ true → (a || b) ≡ true
or_right true b h = refl
or_right false b h = h

-- the definition's two ways
pub in_span-cons : (w : ℕ) (ws : List ℕ) (v : ℕ) → (in_span ws v ≡ true) ⊎ (in_span ws (bit_xor v w) ≡ true) → in_span (w ∷ ws) v ≡ true
unfolding in_span
in_span-cons w ws v h =
    ⊎_elim
    (λ (p : in_span ws v ≡ true). or_left (in_span ws v) (in_span ws (bit_xor v w)) p)
    (λ (p : in_span ws (bit_xor v w) ≡ true). or_right (in_span ws v) (in_span ws (bit_xor v w)) p)
    h

-- the same, read from the test
pub in_span-cases : (w : ℕ) (ws : List ℕ) (v : ℕ) → in_span (w ∷ ws) v ≡ true → (in_span ws v ≡ true) ⊎ (in_span ws (bit_xor v w) ≡ true)
unfolding in_span
in_span-cases w ws v h = or_cases (in_span ws v) (in_span ws (bit_xor v w)) h

-- no vectors
pub in_span-none : (v : ℕ) → in_span [] v ≡ true → v ≡ 0
unfolding in_span
in_span-none v h = eqb-true v 0 h

-- each sum is in the span
pub in_span-sum : (ws : List ℕ) (x : ℕ) → in_span ws (sum_of ws x) ≡ true
in_span-sum [] x = rw xor_sum_start (in_span-zero [])
in_span-sum (w ∷ ws) x =
    let r : ℕ = sum_of ws (x / 2) in
    let b : ℕ = bit_at x 0 * w in
    let e : sum_of (w ∷ ws) x ≡ bit_xor b r = sum_of-cons w ws x in
    let ih : in_span ws r ≡ true = in_span-sum ws (x / 2) in
    subst (λ (v : ℕ). in_span (w ∷ ws) v ≡ true) (sym e)
    (in_span-cons w ws (bit_xor b r)
    (⊎_elim
    (λ (p : (bit_at x 0 ≡ 0) × (bit_at x 0 * w ≡ 0)). inl (subst (λ (c : ℕ). in_span ws (bit_xor c r) ≡ true) (sym p.1) ih))
    (λ (p : (bit_at x 0 ≡ 1) × (bit_at x 0 * w ≡ w)).
    let f : bit_xor (bit_xor b r) w ≡ r = ap (λ (c : ℕ). bit_xor (bit_xor c r) w) p.1 ∙ ap (λ (c : ℕ). bit_xor c w) (xor_comm w r)
    ∙ xor_cancel_right r w in
    inr (subst (λ (c : ℕ). in_span ws c ≡ true) (sym f) ih))
    (bit_cases (bit_at x 0) w (bit_at-lt x 0))))

-- bit 0 of a double
pub lowest_even : (s : ℕ) → bit_at (s * 2) 0 ≡ 0
lowest_even s = bit_at_lowest (s * 2) ∙ (let e : s * 2 % 2 ≡ 0 = omega arith in e)

-- bit 0 of a double and one
pub lowest_odd : (s : ℕ) → bit_at (s * 2 + 1) 0 ≡ 1
lowest_odd s = bit_at_lowest (s * 2 + 1) ∙ (let e : (s * 2 + 1) % 2 ≡ 1 = omega arith in e)

-- what is in the span is a sum
pub sum_of_span : (ws : List ℕ) (v : ℕ) → in_span ws v ≡ true → (x : ℕ) × (sum_of ws x ≡ v)
sum_of_span [] v h = (0, xor_sum_start (slice_index []) 0 ∙ sym (in_span-none v h))
sum_of_span (w ∷ ws) v h =
    ⊎_elim
    (λ (p : in_span ws v ≡ true). let s = sum_of_span ws v p in (
      s.0 * 2,
      sum_of-cons w ws (s.0 * 2)
          ∙ xor_same (ap (λ (c : ℕ). c * w) (lowest_even s.0) ∙ zero-mul w)
          (ap (sum_of ws) (let e : s.0 * 2 / 2 ≡ s.0 = omega arith in e) ∙ s.1),
    ))
    (λ (p : in_span ws (bit_xor v w) ≡ true). let s = sum_of_span ws (bit_xor v w) p in (
      s.0 * 2 + 1,
      sum_of-cons w ws (s.0 * 2 + 1)
          ∙ xor_same (ap (λ (c : ℕ). c * w) (lowest_odd s.0) ∙ (let o : 1 * w ≡ w = omega arith in o))
          (ap (sum_of ws) (let e : (s.0 * 2 + 1) / 2 ≡ s.0 = omega arith in e) ∙ s.1)
          ∙ xor_comm w (bit_xor v w) ∙ xor_cancel_right v w,
    ))
    (in_span-cases w ws v h)

-- ---- closure

-- a test that cannot hold
pub false_from : (b : Bool) → (b ≡ true → ⊥) → b ≡ false
false_from true none = absurd (none refl)
false_from false none = refl

-- two tests that hold of the same things are one
pub same_test : (a b : Bool) → (a ≡ true → b ≡ true) → (b ≡ true → a ≡ true) → a ≡ b
same_test true b f g = sym (f refl)
same_test false true f g = g refl
same_test false false f g = refl

-- a sum of sums is a sum
pub in_span-xor : (ws : List ℕ) (u v : ℕ) → in_span ws u ≡ true → in_span ws v ≡ true → in_span ws (bit_xor u v) ≡ true
in_span-xor ws u v p q =
    let s = sum_of_span ws u p in
    let t = sum_of_span ws v q in
    subst (λ (c : ℕ). in_span ws c ≡ true) (xor_sum-xor (slice_index ws) (length ws) s.0 t.0 ∙ xor_same s.1 t.1)
    (in_span-sum ws (bit_xor s.0 t.0))

-- a vector of the span adds nothing
pub in_span-cons_known : (w : ℕ) (ws : List ℕ) (v : ℕ) → in_span ws w ≡ true → in_span (w ∷ ws) v ≡ in_span ws v
in_span-cons_known w ws v h =
    same_test (in_span (w ∷ ws) v) (in_span ws v)
    (λ (p : in_span (w ∷ ws) v ≡ true).
    ⊎_elim
    (λ (q : in_span ws v ≡ true). q)
    (λ (q : in_span ws (bit_xor v w) ≡ true). subst (λ (c : ℕ). in_span ws c ≡ true) (xor_cancel_right v w)
    (in_span-xor ws (bit_xor v w) w q h))
    (in_span-cases w ws v p))
    (λ (p : in_span ws v ≡ true). in_span-cons w ws v (inl p))

-- equal spans stay equal with one more vector
pub in_span-cons_same : (w : ℕ) (us ws : List ℕ) → ((v : ℕ) → in_span us v ≡ in_span ws v) → (v : ℕ)
    → in_span (w ∷ us) v ≡ in_span (w ∷ ws) v
unfolding in_span
in_span-cons_same w us ws h v = rw (h v, h (bit_xor v w)) refl

-- the last vector may stand first
pub in_span-push : (w : ℕ) (ws : List ℕ) (v : ℕ) → in_span (ws ++ w ∷ []) v ≡ in_span (w ∷ ws) v
unfolding in_span
in_span-push w [] v = refl
in_span-push w (u ∷ ws) v =
    rw (in_span-push w ws v, in_span-push w ws (bit_xor v u), turned v u w)
    (or_swap (in_span ws v) (in_span ws (bit_xor v w)) (in_span ws (bit_xor v u)) (in_span ws (bit_xor (bit_xor v w) u)))
  where
    turned : (a b c : ℕ) → bit_xor (bit_xor a b) c ≡ bit_xor (bit_xor a c) b
    turned a b c = xor_assoc a b c ∙ ap (bit_xor a) (xor_comm b c) ∙ sym (xor_assoc a c b)

    or_swap : (a b c d : Bool) → ((a || b) || (c || d)) ≡ ((a || c) || (b || d))
    or_swap true b c d = refl
    or_swap false true true d = refl
    or_swap false true false d = refl
    or_swap false false c d = refl

-- a sum of the first k vectors
pub sum_of-take : (ws : List ℕ) (k x : ℕ) → k ≤ length ws → sum_of (take k ws) x ≡ xor_sum (slice_index ws) k x
sum_of-take ws k x l =
    let e : length (take k ws) ≡ k = simp length-take (omega arith) in
    ap (λ (m : ℕ). xor_sum (slice_index (take k ws)) m x) e
    ∙ xor_sum-ext (slice_index (take k ws)) (slice_index ws) k x (λ j h. rw get_or-take refl)

-- each vector of a list is in its span
pub in_span-member : (ws : List ℕ) (i : ℕ) → i < length ws → in_span ws (slice_index ws i) ≡ true
in_span-member ws i l = subst (λ (v : ℕ). in_span ws v ≡ true) (xor_sum-pow (slice_index ws) (length ws) i l) (in_span-sum ws (2 ^ i))

-- the vectors before one that was kept last
pub kept_old : (kept : List ℕ) (w k : ℕ) → k < length kept → slice_index (kept ++ w ∷ []) k ≡ slice_index kept k
kept_old kept w k l = get_or_append_left kept (w ∷ []) 0 k l

-- and that one
pub kept_last : (kept : List ℕ) (w : ℕ) → slice_index (kept ++ w ∷ []) (length kept) ≡ w
kept_last kept w = get_or-append_seam kept w [] 0
