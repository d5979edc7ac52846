-- Vectors that are kept or refused, and spans of those that were kept.
use Rattle.std.proofs.Common.{◌≡◌, ℕ, zero, suc, ◌+◌, ◌-◌, ◌*◌, ◌/◌, ◌^◌, ◌<◌, ◌≤◌, Bool, true, false, not, if◌then◌else◌, List, [], ◌∷◌}
use Rattle.std.proofs.Common.{◌++◌, bit_xor, refl, sym, ◌∙◌, subst, arith, add-one, ⊎_elim}
use Rattle.std.specs.Int.{bit_at}
use Rattle.std.proofs.lemmas.Nat.{shr_below}
use Rattle.std.proofs.lemmas.Nat.Bits.{bit_at-lt}
use Rattle.std.proofs.lemmas.Bool.{false≢true, cases_Bool}
use Rattle.bm_gf2.specs.Vector.{xor_sum}
use Rattle.bm_gf2.proofs.VectorLemmas.{xor_sum_start, xor_sum-more, bit_cases, xor_cancel}
use Rattle.bm_rank.specs.Span.{in_span}
pub use Rattle.bm_rank.proofs.SpanLemmas.{in_span-member}
use Rattle.bm_rank.proofs.SpanLemmas.{in_span-xor, in_span-zero}

-- a sum of members is a member
pub in_span-xor_sum : (ws : List ℕ) (w : ℕ → ℕ) (k x : ℕ) → ((j : ℕ) → j < k → bit_at x j ≡ 1 → in_span ws (w j) ≡ true)
    → in_span ws (xor_sum w k x) ≡ true
in_span-xor_sum ws w zero x h = subst (λ (v : ℕ). in_span ws v ≡ true) (sym (xor_sum_start w x)) (in_span-zero ws)
in_span-xor_sum ws w (suc k) x h =
    let ih = in_span-xor_sum ws w k x (λ j l. h j (omega arith)) in
    let e : xor_sum w (suc k) x ≡ bit_xor (xor_sum w k x) (bit_at x k * w k) = rw (← add-one) (xor_sum-more w k x) in
    subst (λ (v : ℕ). in_span ws v ≡ true) (sym e)
    (in_span-xor ws (xor_sum w k x) (bit_at x k * w k) ih
    (⊎_elim
    (λ (p : (bit_at x k ≡ 0) × (bit_at x k * w k ≡ 0)). subst (λ (v : ℕ). in_span ws v ≡ true) (sym p.1) (in_span-zero ws))
    (λ (p : (bit_at x k ≡ 1) × (bit_at x k * w k ≡ w k)). subst (λ (v : ℕ). in_span ws v ≡ true) (sym p.1) (h k (omega arith) p.0))
    (bit_cases (bit_at x k) (w k) (bit_at-lt x k))))

-- a member and no member add up to no member
pub no_member : (ws : List ℕ) (u v : ℕ) → in_span ws u ≡ true → in_span ws v ≡ false → in_span ws (bit_xor u v) ≡ false
no_member ws u v p q =
    ⊎_elim
    (λ (h : in_span ws (bit_xor u v) ≡ true). absurd
    (false≢true (sym q ∙ subst (λ (x : ℕ). in_span ws x ≡ true) (xor_cancel u v) (in_span-xor ws u (bit_xor u v) p h))))
    (λ (h : in_span ws (bit_xor u v) ≡ false). h)
    (cases_Bool (in_span ws (bit_xor u v)))

-- a vector that is refused is in the span
pub insert_known : (s b : Bool) → b ≡ not s → b ≡ false → s ≡ true
insert_known true b e h = refl
insert_known false b e h = absurd (false≢true (sym h ∙ e))

-- one that is kept is not
pub insert_fresh : (s b : Bool) → b ≡ not s → b ≡ true → s ≡ false
insert_fresh true b e h = absurd (false≢true (sym e ∙ h))
insert_fresh false b e h = refl

-- one that is not in the span stands last
pub insert_done : (kept kept2 : List ℕ) (w : ℕ) (s b : Bool) → b ≡ not s → kept2 ≡ (if b then kept ++ w ∷ [] else kept) → s ≡ false
    → kept2 ≡ kept ++ w ∷ []
insert_done kept kept2 w s b e k h = let t : b ≡ true = e ∙ rw h refl in k ∙ rw t refl

-- where one is refused nothing changes
pub insert_same : (kept kept2 : List ℕ) (w : ℕ) (b : Bool) → kept2 ≡ (if b then kept ++ w ∷ [] else kept) → b ≡ false → kept2 ≡ kept
insert_same kept kept2 w b k h = k ∙ rw h refl
