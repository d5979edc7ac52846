use Rattle.std.proofs.Common.{◌≡◌, ◌≤◌, ◌∙◌, [], length, is_ok, sym, ap, subst, arith}
use Rattle.std.proofs.lemmas.Bool.{false≢true}
use Rattle.bm_gf2.specs.declared.affine.Affine.{Affine}
use Rattle.bm_gf2.specs.Matrix.{IsNonsingular}
use Rattle.std.proofs.lemmas.Result.{IfOk-weaker}
use Rattle.bm_forms.specs.declared.job.Job.TheVariants.{Permute}
use Rattle.bm_forms.specs.Plan.{StandsFor}
use Rattle.bm_forms.specs.Mld.{IsMld}
use Rattle.bm_forms.specs.PassCount.{map_passes}
use Rattle.bm_forms.specs.PassLimit.{map_limit}
use Rattle.bm_forms.proofs.PassCountLemmas.{passes-mld, passes-several}
use Rattle.bm_factor.specs.Factoring.{AreWithoutButterflies, AreLinearButLast, AppendsPass}
use Rattle.bm_factor.proofs.PassCountLemmas.{ok_through, both_ok, one_stands, count_within, nonsingular_of_error, high_rank_bound}
use Rattle.bm_factor.proofs.factoring.factor.Goals as goal

pub returns-in-Ok-clause-stands : goal.returns-in-Ok-clause-stands
returns-in-Ok-clause-stands c =
    let same : c.in-Ok.form.map ≡ c.args.map.now = (rw c.in-Ok.is at c.of.ensures.form).0 in
    ok_through c.one_pass.result c.map_err.result
    (λ plan. StandsFor plan c.args.shape.now (Permute c.args.map.now)) _ c.map_err.ensures.cases
    (IfOk-weaker c.one_pass.result _ _
    (λ plan h. one_stands c.args.shape.now c.args.map.now c.in-Ok.form.map plan same c.requires.size
    (subst (λ (f : Affine). IsNonsingular f.a) same c.in-Ok.form.nonsingular) h.0 h.1)
    (both_ok c.one_pass.result (λ plan. plan.shape ≡ c.args.shape.now) (λ plan. AppendsPass c.args.shape.now [] plan.forms c.in-Ok.form.map)
    c.one_pass.ensures.shape c.one_pass.ensures.pass))

pub returns-in-Ok-clause-length : goal.returns-in-Ok-clause-length
returns-in-Ok-clause-length c =
    let s = c.args.shape.now in
    let a = c.args.map.now.a in
    let mld : IsMld a s.b s.m = c.of.ensures.exact.0 (ap is_ok c.in-Ok.is) in
    ok_through c.one_pass.result c.map_err.result (λ plan. length plan.forms ≡ map_passes s a.cols) _ c.map_err.ensures.cases
    (IfOk-weaker c.one_pass.result _ _
    (λ plan more. ap length more.is ∙ sym (passes-mld s a c.requires.size mld))
    c.one_pass.ensures.pass)

pub returns-in-Err-NotMld-clause-length : goal.returns-in-Err-NotMld-clause-length
returns-in-Err-NotMld-clause-length c =
    let s = c.args.shape.now in
    let a = c.args.map.now.a in
    let not_mld : ¬ IsMld a s.b s.m = λ mld. false≢true (sym (ap is_ok c.in-Err-NotMld.is) ∙ c.of.ensures.exact.1 mld) in
    ok_through c.several_passes.result c.map_err-in-Err-NotMld.result (λ plan. length plan.forms ≡ map_passes s a.cols) _
    c.map_err-in-Err-NotMld.ensures.cases
    (IfOk-weaker c.several_passes.result _ _ (λ plan e. e ∙ sym (passes-several s a c.requires.size not_mld))
    c.several_passes.ensures.length)

pub returns-in-Err-NotMld-clause-few : goal.returns-in-Err-NotMld-clause-few
returns-in-Err-NotMld-clause-few c =
    let a = c.args.map.now.a in
    let s = c.args.shape.now in
    let na : IsNonsingular a = nonsingular_of_error a s.b s.m c.in-Err-NotMld.field-0-0 c.in-Err-NotMld.field-0 c.in-Err-NotMld.field-0-is
    (rw c.in-Err-NotMld.is at c.of.ensures.error) in
    let mn : s.m ≤ a.n = omega (arith, s.keeps.memory, c.requires.size) in
    ok_through c.several_passes.result c.map_err-in-Err-NotMld.result (λ plan. length plan.forms ≤ map_limit a.cols s.b s.m) _
    c.map_err-in-Err-NotMld.ensures.cases
    (IfOk-weaker c.several_passes.result _ _ (λ plan h. count_within a s.b s.m (length plan.forms) na s.keeps.block mn h)
    c.several_passes.ensures.length)

pub returns-in-Err-NotMld-clause-low : goal.returns-in-Err-NotMld-clause-low
returns-in-Err-NotMld-clause-low c =
    ok_through c.several_passes.result c.map_err-in-Err-NotMld.result (λ plan. AreWithoutButterflies plan.forms) _
    c.map_err-in-Err-NotMld.ensures.cases c.several_passes.ensures.low

pub returns-in-Err-NotMld-clause-linear : goal.returns-in-Err-NotMld-clause-linear
returns-in-Err-NotMld-clause-linear c =
    ok_through c.several_passes.result c.map_err-in-Err-NotMld.result (λ plan. AreLinearButLast plan.forms) _
    c.map_err-in-Err-NotMld.ensures.cases c.several_passes.ensures.linear

pub returns-in-Ok-clause-bound : goal.returns-in-Ok-clause-bound
returns-in-Ok-clause-bound c = high_rank_bound c.args.map.now.a c.args.shape.now c.requires.size

pub returns-in-Err-Singular-clause-bound : goal.returns-in-Err-Singular-clause-bound
returns-in-Err-Singular-clause-bound c = high_rank_bound c.args.map.now.a c.args.shape.now c.requires.size

pub returns-in-Err-NotMld-clause-bound : goal.returns-in-Err-NotMld-clause-bound
returns-in-Err-NotMld-clause-bound c = high_rank_bound c.args.map.now.a c.args.shape.now c.requires.size
