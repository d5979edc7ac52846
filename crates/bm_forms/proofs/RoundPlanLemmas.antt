-- Plans of rounds: each a plan of a rotation with butterflies in its first pass. All rounds together do the transform.
use Rattle.std.proofs.Common.{ℕ, ◌≡◌, ◌+◌, ◌<◌, ◌≤◌, List, [], ◌∷◌, ◌++◌, sym, ap, ◌∙◌, subst, arith}
use Rattle.bm_gf2.specs.declared.affine.Affine.{Affine}
use Rattle.bm_gf2.specs.Matrix.{IsNonsingular}
use Rattle.bm_base.specs.Butterfly.{number_in, butterflies}
use Rattle.bm_forms.specs.declared.pass_form.PassForm.{PassForm}
use Rattle.bm_forms.specs.declared.job.Job.TheVariants.{Permute, Walsh}
use Rattle.bm_forms.specs.Permutation.{permuted}
use Rattle.bm_forms.specs.Plan.{all_passed, DoJob}
use Rattle.bm_forms.proofs.RoundLemmas.{Numbered, Written, IsRotation, written_round, numbered_written, numbered_first, written_same}
use Rattle.bm_forms.proofs.RoundLemmas.{transformed_written}
use Rattle.bm_forms.proofs.PlanLemmas.{all_passed-append, all_passed-none}

-- the same pass with butterflies
unfoldable pub with_low : ℕ → PassForm → PassForm
with_low low p = record p { low = low }

-- butterflies in the first pass come before all
pub all_passed-low : (low : ℕ) (p : PassForm) (ps : List PassForm) (xs : ℕ → List ℕ) → p.low ≡ 0
    → all_passed (with_low low p ∷ ps) xs ≡ all_passed (p ∷ ps) (butterflies low xs)
unfolding all_passed butterflies with_low
all_passed-low low p ps xs e =
    ap (λ (c : ℕ). all_passed ps (permuted p.map.map (butterflies c (butterflies low xs)))) (sym e)

-- after rounds that have done `by` bits
pub record IsRounds (n by : ℕ) (ps : List PassForm) : Type 0 where
  pub numbers : (xs : ℕ → List ℕ) → Numbered n by 0 (λ x. number_in (xs x)) (all_passed ps xs)
  pub bytes : 0 < by → (xs : ℕ → List ℕ) → Written n by 0 (λ x. number_in (xs x)) (all_passed ps xs)

-- before all rounds
pub rounds_none : (n : ℕ) → IsRounds n 0 []
rounds_none n = record {
  numbers = λ xs. subst (Numbered n 0 0 (λ x. number_in (xs x))) (sym (all_passed-none xs)) (numbered_first n xs);
  bytes = λ l xs. absurd (omega arith);
}

-- one more round: a plan of the rotation by `low`, with the butterflies in its first pass
pub rounds_more : (n by low : ℕ) (ps : List PassForm) (p : PassForm) (qs : List PassForm) (f : Affine) → IsRounds n by ps
    → DoJob (p ∷ qs) n (Permute f) → p.low ≡ 0
    → f.a.n ≡ n → IsNonsingular f.a → IsRotation n low f → 0 < low → by + low ≤ n → IsRounds n (by + low) (ps ++ with_low low p ∷ qs)
rounds_more n by low ps p qs f r does plain e g rot some l =
    let written : (xs : ℕ → List ℕ) → Written n (by + low) 0 (λ x. number_in (xs x)) (all_passed (ps ++ with_low low p ∷ qs) xs)
    = λ xs. subst (Written n (by + low) 0 (λ x. number_in (xs x)))
    (sym (all_passed-append ps (with_low low p ∷ qs) xs ∙ all_passed-low low p qs (all_passed ps xs) plain))
    (written_same n (by + low) 0 (λ x. number_in (xs x)) (all_passed (p ∷ qs) (butterflies low (all_passed ps xs)))
    (permuted f (butterflies low (all_passed ps xs))) l
    (does (butterflies low (all_passed ps xs)))
    (written_round n by low (λ x. number_in (xs x)) (all_passed ps xs) f some l e g rot (r.numbers xs))) in
    record {
      numbers = λ xs. numbered_written n (by + low) 0 (λ x. number_in (xs x)) (all_passed (ps ++ with_low low p ∷ qs) xs) (written xs);
      bytes = λ h. written;
    }

-- after all bits the plan stands for the transform
pub rounds_do : (n : ℕ) (ps : List PassForm) → 0 < n → IsRounds n n ps → DoJob ps n Walsh
rounds_do n ps h r xs = transformed_written n xs (all_passed ps xs) (r.bytes h xs)
