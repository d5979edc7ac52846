use Rattle.std.proofs.Common.{◌≡◌, ◌≢◌, ◌≤◌, ℕ, sym, subst, ◌∙◌}
use Rattle.std.proofs.Math.Path.{subst₂}
use Rattle.std.proofs.lemmas.Bool.{false≢true}
use Rattle.bm_gf2.specs.declared.affine.Affine.{Affine}
use Rattle.bm_base.specs.declared.shape.Shape.{Shape}
use Rattle.bm_forms.specs.declared.pass_form.PassForm.{PassForm}
use Rattle.bm_forms.specs.Mld.{IsMld}
use Rattle.bm_forms.proofs.MldLemmas.{covered_of_solution}
use Rattle.bm_control.proofs.EqualLemmas.{some_injective, none_some, one_outcome}
use Rattle.bm_control.proofs.JobBodyLemmas.{pass_low, pass_map}
use Rattle.bm_control.proofs.pass_body.read_pass_form.Goals as goal

-- the map of a pass of the shape is MLD
mld_of : (s : Shape) (pass : PassForm) (g : Affine) → pass.map.b ≡ s.b → pass.map.m ≡ s.m → g ≡ pass.map.map → IsMld g.a s.b s.m
mld_of s pass g block memory same =
    subst (λ (f : Affine). IsMld f.a s.b s.m) (sym same)
    (subst₂ (λ (b m : ℕ). IsMld pass.map.map.a b m) block memory
    (pass.map.nonsingular, covered_of_solution pass.map.map.a pass.map.k pass.map.b pass.map.m pass.map.solved))

pub returns-then-not-may_be_low-clause-read : goal.returns-then-not-may_be_low-clause-read
returns-then-not-may_be_low-clause-read c pass k body =
    let low = pass_low c.args.shape.now k c.args.page.now pass body.page_is in
    one_outcome c.may_be_low.result
    (c.may_be_low.ensures.1 (subst (λ (v : ℕ). (v ≤ c.args.shape.now.m) × (c.args.shape.now.width ≢ 8 → v ≡ 0)) (sym low)
    (body.of_shape.low, body.of_shape.width)))
    c.if-not-may_be_low.true

pub returns-in_err-map-clause-read : goal.returns-in_err-map-clause-read
returns-in_err-map-clause-read c pass k body =
    let found = pass_map c.args.shape.now k c.args.page.now pass body in
    absurd (none_some pass.map.map (c.in_err-map.ensures.read found.0 pass.map.map 0 found.1
    (body.of_shape.addresses ∙ sym c.n.ensures) found.2))

pub returns-in-Ok-clause-read : goal.returns-in-Ok-clause-read
returns-in-Ok-clause-read c pass k body =
    let found = pass_map c.args.shape.now k c.args.page.now pass body in
    let same = some_injective c.in_ok-map.map pass.map.map (c.in_ok-map.ensures.read found.0 pass.map.map 0 found.1
    (body.of_shape.addresses ∙ sym c.n.ensures) found.2) in
    (pass_low c.args.shape.now k c.args.page.now pass body.page_is, c.in-Ok.ensures.form.0 ∙ same)

pub returns-in-Err-clause-read : goal.returns-in-Err-clause-read
returns-in-Err-clause-read c pass k body =
    let found = pass_map c.args.shape.now k c.args.page.now pass body in
    let same = some_injective c.in_ok-map.map pass.map.map (c.in_ok-map.ensures.read found.0 pass.map.map 0 found.1
    (body.of_shape.addresses ∙ sym c.n.ensures) found.2) in
    false≢true (c.in-Err.ensures.exact.1 (mld_of c.args.shape.now pass c.in_ok-map.map body.of_shape.block body.of_shape.memory same))
