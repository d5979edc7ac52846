use Rattle.std.proofs.Common.{List, ℕ, refl, ap, sym, ◌∙◌, subst, arith}
use Rattle.bm_base.specs.Contents.{page_at}
use Rattle.bm_control.specs.Bodies.{IsPartBody}
use Rattle.bm_control.proofs.StateLemmas.{slot_old, slot_now}
use Rattle.bm_control.proofs.slots.read_slot.Goals as goal

pub returns-then-pass-done-2-clause-answer : goal.returns-then-pass-done-2-clause-answer
returns-then-pass-done-2-clause-answer g c told v at =
    let page = c.in_ok-body.ensures.bytes told v (c.page_of.ensures.state.contents ∙ at) ∙ ap (page_at v) c.slot_body.ensures in
    slot_old c.args.shape.now v c.args.passes c.args.done c.args.slot c.in-Some.pass c.in-Some.loads
    (subst (λ (p : List ℕ). IsPartBody c.args.shape.now p c.in-Some.pass c.in-Some.loads) page
    ((c.in-Some.ensures c.in-Some.pass c.in-Some.loads).0 refl))
    c.if-pass-passes.false c.if-pass-done-2.true

pub returns-clause-answer : goal.returns-clause-answer
returns-clause-answer g c told v at =
    let page = c.in_ok-body.ensures.bytes told v (c.page_of.ensures.state.contents ∙ at) ∙ ap (page_at v) c.slot_body.ensures in
    let gate = c.in_ok-gate.ensures.bytes told v at ∙ ap (page_at v) c.slot_gate.ensures in
    slot_now c.args.shape.now v c.args.passes c.args.done c.args.slot c.in-Some.pass c.in-Some.loads
    (sym gate ∙ c.is_gate.ensures.0 c.if-not-is_gate.false)
    (subst (λ (p : List ℕ). IsPartBody c.args.shape.now p c.in-Some.pass c.in-Some.loads) page
    ((c.in-Some.ensures c.in-Some.pass c.in-Some.loads).0 refl))
    c.if-pass-passes.false (omega (arith, c.if-pass-done-2.false, c.if-pass-done.false))

pub returns-clause-fits : goal.returns-clause-fits
returns-clause-fits g c =
    let body = (c.in-Some.ensures c.in-Some.pass c.in-Some.loads).0 refl in
    record {
      loads_some = body.fits.loads_some;
      loads_few = body.fits.loads_few;
      under_way = omega (arith, c.if-pass-passes.false, c.if-pass-done-2.false);
    }
