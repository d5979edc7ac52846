-- The plan of the transform of four numbers in two loads.
use Rattle.std.proofs.Common.{ℕ, ◌≡◌, List, [], ◌∷◌, length, slice_index_or, sym, ap, ◌∙◌, subst, arith}
use Rattle.bm_gf2.specs.declared.affine.Affine.{Affine}
use Rattle.bm_gf2.specs.Matrix.{IsNonsingular}
use Rattle.bm_base.specs.declared.shape.Shape.{Shape}
use Rattle.bm_forms.specs.declared.pass_form.PassForm.{PassForm}
use Rattle.bm_forms.specs.declared.job.Job.TheVariants.{Permute, Walsh}
use Rattle.bm_forms.specs.Plan.{PlanValue, StandsFor, DoJob}
use Rattle.bm_forms.proofs.RoundLemmas.{IsRotation}
use Rattle.bm_forms.proofs.RoundPlanLemmas.{with_low, rounds_none, rounds_more, rounds_do}
use Rattle.bm_factor.specs.Factoring.{AreWithoutButterflies}

-- a list of two passes
two_passes : (xs : List PassForm) (p q : PassForm) → length xs ≡ 2 → p ≡ slice_index_or xs 0 p → q ≡ slice_index_or xs 1 q
    → xs ≡ p ∷ q ∷ []
two_passes [] p q e f g = absurd (omega (arith, e))
two_passes (a ∷ []) p q e f g = absurd (omega (arith, e))
two_passes (a ∷ b ∷ []) p q e f g = ap (λ (x : PassForm). x ∷ b ∷ []) (sym f) ∙ ap (λ (x : PassForm). p ∷ x ∷ []) (sym g)
two_passes (a ∷ b ∷ c ∷ xs) p q e f g = absurd (omega (arith, e))

-- two rounds of one bit each do the transform
two_rounds : (p q : PassForm) (f : Affine) → DoJob (p ∷ q ∷ []) 2 (Permute f) → p.low ≡ 0 → f.a.n ≡ 2 → IsNonsingular f.a → IsRotation 2 1 f
    → DoJob (with_low 1 p ∷ q ∷ with_low 1 p ∷ q ∷ []) 2 Walsh
two_rounds p q f does plain e g rot =
    rounds_do 2 (with_low 1 p ∷ q ∷ with_low 1 p ∷ q ∷ []) (omega arith)
    (rounds_more 2 1 1 (with_low 1 p ∷ q ∷ []) p (q ∷ []) f
    (rounds_more 2 0 1 [] p (q ∷ []) f (rounds_none 2) does plain e g rot (omega arith) (omega arith))
    does plain e g rot (omega arith) (omega arith))

-- butterflies on one bit in a pass
with_one : (p first : PassForm) → first.low ≡ 1 → first.map ≡ p.map → first ≡ with_low 1 p
unfolding with_low
with_one p first l m = ap (λ (c : ℕ). record first { low = c }) l ∙ ap (λ f. record first { low = 1; map = f }) m

-- so a plan of these passes stands for it
pub stands_for_transform : (s : Shape) (round plan : PlanValue) (p q first : PassForm) (f : Affine) → s.n ≡ 2
    → StandsFor round s (Permute f) → length round.forms ≡ 2 → p ≡ slice_index_or round.forms 0 p → q ≡ slice_index_or round.forms 1 q
    → AreWithoutButterflies round.forms → first.low ≡ 1 → first.map ≡ p.map → f.a.n ≡ 2 → IsNonsingular f.a → IsRotation 2 1 f
    → plan.shape ≡ s → plan.forms ≡ first ∷ q ∷ first ∷ q ∷ [] → StandsFor plan s Walsh
stands_for_transform s round plan p q first f n stands two pe qe none low map size g rot shape forms =
    let are : round.forms ≡ p ∷ q ∷ [] = two_passes round.forms p q two pe qe in
    let does : DoJob (p ∷ q ∷ []) 2 (Permute f) =
    subst (λ (ps : List PassForm). DoJob ps 2 (Permute f)) are (subst (λ (k : ℕ). DoJob round.forms k (Permute f)) n stands.does) in
    let plain : p.low ≡ 0 = subst (λ (x : PassForm). x.low ≡ 0) (sym pe) (none 0 p (omega (arith, two))) in
    let with : first ≡ with_low 1 p = with_one p first low map in
    record {
      shape = shape;
      does = subst (λ (k : ℕ). DoJob plan.forms k Walsh) (sym n)
          (subst (λ (ps : List PassForm). DoJob ps 2 Walsh)
          (sym (forms ∙ ap (λ (x : PassForm). x ∷ q ∷ x ∷ q ∷ []) with))
          (two_rounds p q f does plain size g rot));
    }
