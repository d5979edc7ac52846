-- The passes of a round, in order.
use Rattle.std.proofs.Common.{ℕ, zero, suc, ◌≡◌, ◌+◌, ◌<◌, ◌≤◌, List, [], ◌∷◌, ◌++◌, length, length-append, take, slice_index_or, refl, sym}
use Rattle.std.proofs.Common.{ap, ◌∙◌, arith}
use Rattle.std.proofs.lemmas.List.{append_assoc, take_all}
use Rattle.bm_forms.specs.declared.pass_form.PassForm.{PassForm}
use Rattle.bm_walsh.specs.Rounds.{first_with}

-- one pass more
take_more : (k : ℕ) (ps : List PassForm) (d : PassForm) → k < length ps → take (k + 1) ps ≡ take k ps ++ slice_index_or ps k d ∷ []
take_more k [] d l = absurd (omega arith)
take_more zero (p ∷ ps) d l = refl
take_more (suc k) (p ∷ ps) d l =
    let e : suc k + 1 ≡ suc (k + 1) = omega arith in
    rw e (ap (λ (qs : List PassForm). p ∷ qs) (take_more k ps d (omega arith)))

-- the butterflies stay in the first
first_more : (low k : ℕ) (ps : List PassForm) (d : PassForm) → 1 ≤ k → k < length ps
    → first_with low (take (k + 1) ps) ≡ first_with low (take k ps) ++ slice_index_or ps k d ∷ []
unfolding first_with
first_more low k [] d some l = absurd (omega arith)
first_more low zero (p ∷ ps) d some l = absurd (omega arith)
first_more low (suc k) (p ∷ ps) d some l =
    let e : suc k + 1 ≡ suc (k + 1) = omega arith in
    rw e (ap (λ (qs : List PassForm). record p { low = low } ∷ qs) (take_more k ps d (omega arith)))

-- they change no count
pub length_first : (low : ℕ) (ps : List PassForm) → length (first_with low ps) ≡ length ps
unfolding first_with
length_first low [] = refl
length_first low (p ∷ ps) = refl

-- after i passes of a round
pub record IsPushed (low i : ℕ) (old round forms : List PassForm) : Type 0 where
  pub some : 1 ≤ i
  pub is : forms ≡ old ++ first_with low (take i round)
  pub long : length forms ≡ length old + i

-- the first pass alone
first_one : (low : ℕ) (ps : List PassForm) (d : PassForm) → 1 ≤ length ps → record (slice_index_or ps 0 d) { low = low } ∷ []
    ≡ first_with low (take 1 ps)
unfolding first_with
first_one low [] d l = absurd (omega arith)
first_one low (p ∷ ps) d l = refl

-- the first pass
pub pushed_first : (low : ℕ) (old round forms : List PassForm) (p : PassForm) → 1 ≤ length round → p ≡ slice_index_or round 0 p
    → forms ≡ old ++ record p { low = low } ∷ [] → IsPushed low 1 old round forms
pushed_first low old round forms p l e f = record {
  some = omega arith;
  is = f ∙ ap (λ (q : PassForm). old ++ record q { low = low } ∷ []) e ∙ ap (λ (qs : List PassForm). old ++ qs) (first_one low round p l);
  long = ap length f ∙ length-append old (record p { low = low } ∷ []);
}

-- one more
pub pushed_more : (low i : ℕ) (old round forms new : List PassForm) (p : PassForm) → IsPushed low i old round forms → i < length round
    → p ≡ slice_index_or round i p → new ≡ forms ++ p ∷ [] → IsPushed low (i + 1) old round new
pushed_more low i old round forms new p r l e f = record {
  some = omega arith;
  is = f ∙ ap (λ (q : PassForm). forms ++ q ∷ []) e
      ∙ ap (λ (qs : List PassForm). qs ++ slice_index_or round i p ∷ []) r.is
      ∙ append_assoc old (first_with low (take i round)) (slice_index_or round i p ∷ [])
      ∙ ap (λ (qs : List PassForm). old ++ qs) (sym (first_more low i round p r.some l));
  long = (let a : length new ≡ length forms + 1 = ap length f ∙ length-append forms (p ∷ []) in
      let b : length forms ≡ length old + i = r.long in omega arith);
}

-- all
pub pushed_all : (low i : ℕ) (old round forms : List PassForm) → IsPushed low i old round forms → i ≡ length round
    → forms ≡ old ++ first_with low round
pushed_all low i old round forms r e =
    r.is ∙ ap (λ (k : ℕ). old ++ first_with low (take k round)) e
    ∙ ap (λ (qs : List PassForm). old ++ first_with low qs) (take_all (length round) round (omega arith))
