use Rattle.std.proofs.Common.{inl, inr, List, ℕ, refl, sym, ap, ◌∙◌, subst, arith}
use Rattle.bm_base.specs.Contents.{page_at}
use Rattle.bm_control.specs.Bodies.{IsPassBody}
use Rattle.bm_control.proofs.EqualLemmas.{one_outcome}
use Rattle.bm_control.proofs.pass_pages.read_pass_pages.Goals as goal

pub returns-then-not-is_gate-clause-answer : goal.returns-then-not-is_gate-clause-answer
returns-then-not-is_gate-clause-answer g c told v at =
    let body = c.in_ok-body.ensures.bytes told v at ∙ ap (page_at v) c.pass_body.ensures in
    let gate = c.in_ok-gate.ensures.bytes told v (c.page_of.ensures.state.contents ∙ at) ∙ ap (page_at v) c.pass_gate.ensures in
    record {
      body = record {
        pass = c.in-Some.field-0;
        body = subst (λ (p : List ℕ). IsPassBody c.args.shape.now c.args.k p c.in-Some.field-0) body
            c.in-Some.ensures;
      };
      gate = inr ((λ opened. one_outcome c.is_gate.result (c.is_gate.ensures.1 (gate ∙ opened)) c.if-not-is_gate.true), refl);
    }

pub returns-then-done-k-clause-answer : goal.returns-then-done-k-clause-answer
returns-then-done-k-clause-answer g c told v at =
    let body = c.in_ok-body.ensures.bytes told v at ∙ ap (page_at v) c.pass_body.ensures in
    let gate = c.in_ok-gate.ensures.bytes told v (c.page_of.ensures.state.contents ∙ at) ∙ ap (page_at v) c.pass_gate.ensures in
    inr (
      record {
        pass = c.in-Some.field-0;
        body = subst (λ (p : List ℕ). IsPassBody c.args.shape.now c.args.k p c.in-Some.field-0) body
            c.in-Some.ensures;
      },
      c.if-done-k.true,
      sym gate ∙ c.is_gate.ensures.0 c.if-not-is_gate.false,
      c.pass_gate-then-done-k.ensures,
    )

pub returns-clause-answer : goal.returns-clause-answer
returns-clause-answer g c told v at =
    let body = c.in_ok-body.ensures.bytes told v at ∙ ap (page_at v) c.pass_body.ensures in
    let gate = c.in_ok-gate.ensures.bytes told v (c.page_of.ensures.state.contents ∙ at) ∙ ap (page_at v) c.pass_gate.ensures in
    let few = c.requires.done in
    record {
      body = record {
        pass = c.in-Some.field-0;
        body = subst (λ (p : List ℕ). IsPassBody c.args.shape.now c.args.k p c.in-Some.field-0) body
            c.in-Some.ensures;
      };
      gate = inl (sym gate ∙ c.is_gate.ensures.0 c.if-not-is_gate.false, omega (arith, few, c.if-done-k.false), refl);
    }
