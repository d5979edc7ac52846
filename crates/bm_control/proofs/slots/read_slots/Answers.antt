use Rattle.std.proofs.Common.{◌<◌, ◌+◌, Result, ℕ, refl, sym, ◌∙◌, subst, arith}
use Rattle.bm_rack.proofs.CallLemmas.{MakesPageCalls-done}
use Rattle.bm_control.specs.declared.state.ControlError.{ControlError}
use Rattle.bm_base.specs.Shape.{loads_of}
use Rattle.bm_control.specs.State.{SlotsAnswer}
use Rattle.bm_control.proofs.EqualLemmas.{error_is, error_fails}
use Rattle.bm_control.proofs.PageCallLemmas.{later, early}
use Rattle.bm_control.proofs.StateLemmas.{counted_both, slots_first_bad, slots_second_bad}
use Rattle.bm_control.proofs.slots.read_slots.Goals as goal

pub returns-in_err-first-clause-answer : goal.returns-in_err-first-clause-answer
returns-in_err-first-clause-answer g c told v at =
    let few = c.requires.every in
    let less : c.args.every < loads_of c.args.shape.now = (let not = c.if-every-loads.false in let is = c.loads.ensures in omega
    (arith, few, not, is)) in
    subst (λ (r : Result (ℕ × ℕ) ControlError). SlotsAnswer c.args.shape.now v c.args.passes c.args.done c.args.every r)
    (sym (error_is c.from_residual.result _ c.from_residual.ensures.1))
    (slots_first_bad c.args.shape.now v c.args.passes c.args.done c.args.every _ less (c.in_err-first.ensures.answer told v at))

pub returns-in_err-second-clause-answer : goal.returns-in_err-second-clause-answer
returns-in_err-second-clause-answer g c told v at =
    let few = c.requires.every in
    let less : c.args.every < loads_of c.args.shape.now = (let not = c.if-every-loads.false in let is = c.loads.ensures in omega
    (arith, few, not, is)) in
    subst (λ (r : Result (ℕ × ℕ) ControlError). SlotsAnswer c.args.shape.now v c.args.passes c.args.done c.args.every r)
    (sym (error_is c.from_residual-in_err-second.result _ c.from_residual-in_err-second.ensures.1))
    (slots_second_bad c.args.shape.now v c.args.passes c.args.done c.args.every _ less (c.in_ok-first.ensures.answer told v at).good
    (c.in_err-second.ensures.answer told v (c.read_slot.ensures.state.contents ∙ at)))

pub returns-clause-answer : goal.returns-clause-answer
returns-clause-answer g c told v at =
    let few = c.requires.every in
    let less : c.args.every < loads_of c.args.shape.now = (let not = c.if-every-loads.false in let is = c.loads.ensures in omega
    (arith, few, not, is)) in
    counted_both c.args.shape.now v c.args.passes c.args.done c.args.every _ _ _ _ less (c.in_ok-first.ensures.answer told v at)
    (c.in_ok-second.ensures.answer told v (c.read_slot.ensures.state.contents ∙ at)) c.counted.ensures

pub returns-in_err-second-clause-gates : goal.returns-in_err-second-clause-gates
returns-in_err-second-clause-gates g c told v at less one two first second =
    early _ _ (one + two) 0 (one + two) 0 _ _ (error_fails c.from_residual-in_err-second.result _ c.from_residual-in_err-second.ensures.1)
    (omega arith) (omega arith)
    (later _ one 0 two 0 _ _ _ (g.met.R.Rack.consistent c.args.rack.now)
    (MakesPageCalls-done _ one 0 _ _ (g.met.R.Rack.consistent c.args.rack.now) refl (c.in_ok-first.ensures.gate told v at one first))
    (c.in_err-second.ensures.gate told v (c.read_slot.ensures.state.contents ∙ at) two second))

pub returns-clause-gates : goal.returns-clause-gates
returns-clause-gates g c told v at less one two first second =
    later _ one 0 two 0 _ _ _ (g.met.R.Rack.consistent c.args.rack.now)
    (MakesPageCalls-done _ one 0 _ _ (g.met.R.Rack.consistent c.args.rack.now) refl (c.in_ok-first.ensures.gate told v at one first))
    (c.in_ok-second.ensures.gate told v (c.read_slot.ensures.state.contents ∙ at) two second)
