use Rattle.std.proofs.Common.{ℕ, ◌≡◌, ◌+◌, ◌-◌, ◌%◌, ◌^◌, ◌<◌, List, [], ◌∷◌, ◌++◌, refl, sym, ap, ◌∙◌, subst, arith}
use Rattle.bm_gf2.specs.Matrix.{column}
use Rattle.bm_forms.specs.declared.pass_form.PassForm.{PassForm}
use Rattle.bm_forms.proofs.RoundLemmas.{IsRotation}
use Rattle.bm_forms.proofs.RotationLemmas.{is_rotation}
use Rattle.run_tests.proofs.TransformPlanLemmas.{stands_for_transform}
use Rattle.run_tests.proofs.run_transform.transform_plan.Goals as goal

pub returns : goal.returns
returns c =
    let p = c.at-plain.result.now in
    let q = c.at-second.result.now in
    let f = c.rotation-turn.result in
    let r = c.rotation-turn.ensures in
    let first : PassForm = record { low = 1; map = p.map } in
    let rot : IsRotation 2 1 f = subst (λ (n : ℕ). IsRotation n 1 f) r.size
    (is_rotation f 1 (omega (arith, r.size)) r.constant
    (λ j h. subst (λ (n : ℕ). column f.a j ≡ 2 ^ ((j + n - 1) % n)) (sym r.size)
    (r.columns (omega arith) j (subst (λ (n : ℕ). j < n) r.size h)))) in
    let more : List PassForm → List PassForm = λ ps. (ps ++ first ∷ []) ++ q ∷ [] in
    record {
      stands = stands_for_transform c.args.shape.now c.in-Ok.round c.has_pushed-2.new.plan p q first f c.requires.size
          c.in-Ok.ensures.stands (omega (arith, c.len.ensures.count, c.if-len-ne2.false)) c.at-plain.ensures.form c.at-second.ensures.form
          c.in-Ok.ensures.low refl refl r.size r.nonsingular rot
          (c.has_pushed-2.ensures.shape ∙ c.has_pushed.ensures.shape ∙ c.empty-plan.ensures.shape)
          (c.if-not-has_pushed-2.ensures.pushed refl
          ∙ ap more (c.if-not-has_pushed.ensures.pushed refl ∙ ap more c.empty-plan.ensures.none));
    }
