use Rattle.std.proofs.Common.{◌+◌, ◌*◌, Result, ℕ, refl, sym, ◌∙◌, subst, arith}
use Rattle.bm_rack.proofs.CallLemmas.{MakesPageCalls-done}
use Rattle.bm_control.specs.declared.state.ControlError.{ControlError}
use Rattle.bm_control.specs.State.{ProgressAnswer}
use Rattle.bm_control.proofs.EqualLemmas.{error_is, error_fails}
use Rattle.bm_control.proofs.PageCallLemmas.{later, early}
use Rattle.bm_control.proofs.StateLemmas.{progress_passes_bad, progress_slots_bad}
use Rattle.bm_control.proofs.state_reading.read_progress.Goals as goal

pub returns-in_err-done-clause-answer : goal.returns-in_err-done-clause-answer
returns-in_err-done-clause-answer g c told v at =
    subst (λ (r : Result (ℕ × ℕ × ℕ) ControlError). ProgressAnswer c.args.shape.now v c.args.passes c.args.every r)
    (sym (error_is c.from_residual.result _ c.from_residual.ensures.1))
    (progress_passes_bad c.args.shape.now v c.args.passes c.args.every _ (c.in_err-done.ensures.answer told v at))

pub returns-in_err-part-clause-answer : goal.returns-in_err-part-clause-answer
returns-in_err-part-clause-answer g c told v at =
    subst (λ (r : Result (ℕ × ℕ × ℕ) ControlError). ProgressAnswer c.args.shape.now v c.args.passes c.args.every r)
    (sym (error_is c.from_residual-in_err-part.result _ c.from_residual-in_err-part.ensures.1))
    (progress_slots_bad c.args.shape.now v c.args.passes c.args.every c.in_ok-done.done _ (c.in_ok-done.ensures.answer told v at)
    (c.in_err-part.ensures.answer told v (c.read_passes.ensures.state.contents ∙ at)))

pub returns-in_err-part-clause-gates : goal.returns-in_err-part-clause-gates
returns-in_err-part-clause-gates g c told v at less one two first second =
    early _ _ (2 * c.args.passes + (one + two)) 0 (2 * c.args.passes + (one + two)) 0 _ _
    (error_fails c.from_residual-in_err-part.result _ c.from_residual-in_err-part.ensures.1) (omega arith) (omega arith)
    (later _ (2 * c.args.passes) 0 (one + two) 0 _ _ _ (g.met.R.Rack.consistent c.args.rack.now)
    (MakesPageCalls-done _ (2 * c.args.passes) 0 _ _ (g.met.R.Rack.consistent c.args.rack.now) refl c.in_ok-done.ensures.counts)
    (c.in_err-part.ensures.gates told v (c.read_passes.ensures.state.contents ∙ at) less one two first second))

pub returns-clause-answer : goal.returns-clause-answer
returns-clause-answer g c told v at =
    (c.in_ok-done.ensures.answer told v at, c.in_ok-part.ensures.answer told v (c.read_passes.ensures.state.contents ∙ at))

pub returns-clause-gates : goal.returns-clause-gates
returns-clause-gates g c told v at less one two first second =
    later _ (2 * c.args.passes) 0 (one + two) 0 _ _ _ (g.met.R.Rack.consistent c.args.rack.now)
    (MakesPageCalls-done _ (2 * c.args.passes) 0 _ _ (g.met.R.Rack.consistent c.args.rack.now) refl c.in_ok-done.ensures.counts)
    (c.in_ok-part.ensures.gates told v (c.read_passes.ensures.state.contents ∙ at) less one two first second)
