use Rattle.std.proofs.Common.{◌≡◌, ◌+◌, ◌*◌, List, Result, ℕ, refl, sym, ◌∙◌, subst, arith}
use Rattle.bm_rack.specs.Frames.{RaisesCounts}
use Rattle.bm_rack.proofs.FrameLemmas.{RaisesCounts-trans}
use Rattle.bm_rack.proofs.CallLemmas.{MakesPageCalls-done}
use Rattle.bm_control.specs.declared.state.SlateState.{SlateState}
use Rattle.bm_control.specs.declared.state.ControlError.{ControlError}
use Rattle.bm_control.specs.Bodies.{IsJobBody}
use Rattle.bm_control.specs.State.{JobAnswer}
use Rattle.bm_control.specs.StateCalls.{JobCalls}
use Rattle.bm_control.proofs.EqualLemmas.{error_is}
use Rattle.bm_control.proofs.JobBodyLemmas.{limit-most}
use Rattle.bm_control.proofs.PageCallLemmas.{reads_pages, reads_more}
use Rattle.bm_control.proofs.StateLemmas.{job_progress_bad}
use Rattle.bm_control.proofs.StateCallLemmas.{job_pages}
use Rattle.bm_control.proofs.state_reading.read_job_state.Goals as goal

pub read_progress-requires-clause-passes : goal.read_progress-requires-clause-passes
read_progress-requires-clause-passes g c =
    let body = (c.in-Some.ensures c.in-Some.found.0 c.in-Some.found.1 c.in-Some.found.2).0 refl in
    let few = body.fits.passes_few in
    let most = limit-most c.args.shape.now c.in-Some.found.0 in
    omega (arith, few, most)

pub read_progress-requires-clause-every : goal.read_progress-requires-clause-every
read_progress-requires-clause-every g c = ((c.in-Some.ensures c.in-Some.found.0 c.in-Some.found.1 c.in-Some.found.2).0 refl).fits.every_few

pub returns-in_err-done-clause-answer : goal.returns-in_err-done-clause-answer
returns-in_err-done-clause-answer g c told v at =
    let body = (c.in-Some.ensures c.in-Some.found.0 c.in-Some.found.1 c.in-Some.found.2).0 refl in
    let page = c.in_ok-body.ensures.bytes told v at in
    subst (λ (r : Result SlateState ControlError). JobAnswer c.args.shape.now v r)
    (sym (error_is c.from_residual-in_err-done.result _ c.from_residual-in_err-done.ensures.1))
    (job_progress_bad c.args.shape.now v c.in-Some.found.0 c.in-Some.found.1 c.in-Some.found.2 _
    (subst (λ (p : List ℕ). IsJobBody c.args.shape.now p c.in-Some.found.0 c.in-Some.found.1 c.in-Some.found.2) page body)
    (c.in_err-done.ensures.answer told v (c.page_of.ensures.state.contents ∙ at)))

pub returns-in_err-done-clause-counts : goal.returns-in_err-done-clause-counts
returns-in_err-done-clause-counts g c =
    let body = (c.in-Some.ensures c.in-Some.found.0 c.in-Some.found.1 c.in-Some.found.2).0 refl in
    let few = body.fits.passes_few in
    let most = limit-most c.args.shape.now c.in-Some.found.0 in
    subst (λ (r : Result SlateState ControlError). JobCalls r (g.R.Rack.view c.args.rack.now) (g.R.Rack.view c.read_progress.new.rack))
    (sym (error_is c.from_residual-in_err-done.result _ c.from_residual-in_err-done.ensures.1))
    (reads_more 1 0 (4 + 2 * c.in-Some.found.1) 513 _ _ _ (g.met.R.Rack.consistent c.args.rack.now) (omega (arith, few, most))
    c.page_of.ensures.counts c.read_progress.ensures.counts (omega arith))

pub returns-in_err-done-clause-pages : goal.returns-in_err-done-clause-pages
returns-in_err-done-clause-pages g c told v at =
    job_pages c.args.shape.now v c.in_ok-body.body c.in-Some.found _ _ (c.in_ok-body.ensures.bytes told v at) c.in-Some.ensures
    (reads_more 1 0 (4 + 2 * c.in-Some.found.1) (5 + 2 * c.in-Some.found.1) _ _ _ (g.met.R.Rack.consistent c.args.rack.now) (omega arith)
    c.page_of.ensures.counts c.read_progress.ensures.counts (omega arith))
    (λ all. reads_pages _ (2 * c.in-Some.found.1) (1 + 2 * c.in-Some.found.1) _ _ _ (g.met.R.Rack.consistent c.args.rack.now) (omega arith)
    c.page_of.ensures.counts (c.in_err-done.ensures.whole all))
    (λ less one two first second. reads_pages _ (2 * c.in-Some.found.1 + (one + two)) (1 + 2 * c.in-Some.found.1 + (one + two)) _ _ _
    (g.met.R.Rack.consistent c.args.rack.now) (omega arith) c.page_of.ensures.counts
    (c.in_err-done.ensures.gates told v (c.page_of.ensures.state.contents ∙ at) less one two first second))

pub returns-clause-answer : goal.returns-clause-answer
returns-clause-answer g c told v at =
    let body = (c.in-Some.ensures c.in-Some.found.0 c.in-Some.found.1 c.in-Some.found.2).0 refl in
    let page = c.in_ok-body.ensures.bytes told v at in
    let found = c.in_ok-done.ensures.answer told v (c.page_of.ensures.state.contents ∙ at) in (
      refl,
      record {
        body = subst (λ (p : List ℕ). IsJobBody c.args.shape.now p c.in-Some.found.0 c.in-Some.found.1 c.in-Some.found.2) page body;
        stand = found.0;
        slots = found.1.good;
        counted = found.1.counted;
      },
    )

pub returns-clause-fits : goal.returns-clause-fits
returns-clause-fits g c =
    let body = (c.in-Some.ensures c.in-Some.found.0 c.in-Some.found.1 c.in-Some.found.2).0 refl in
    record { body = body.fits; done_few = c.in_ok-done.ensures.done; counted = c.in_ok-done.ensures.fits }

pub returns-clause-pages : goal.returns-clause-pages
returns-clause-pages g c told v at =
    job_pages c.args.shape.now v c.in_ok-body.body c.in-Some.found _ _ (c.in_ok-body.ensures.bytes told v at) c.in-Some.ensures
    (reads_more 1 0 (4 + 2 * c.in-Some.found.1) (5 + 2 * c.in-Some.found.1) _ _ _ (g.met.R.Rack.consistent c.args.rack.now) (omega arith)
    c.page_of.ensures.counts c.read_progress.ensures.counts (omega arith))
    (λ all. reads_pages _ (2 * c.in-Some.found.1) (1 + 2 * c.in-Some.found.1) _ _ _ (g.met.R.Rack.consistent c.args.rack.now) (omega arith)
    c.page_of.ensures.counts (c.in_ok-done.ensures.whole all))
    (λ less one two first second. reads_pages _ (2 * c.in-Some.found.1 + (one + two)) (1 + 2 * c.in-Some.found.1 + (one + two)) _ _ _
    (g.met.R.Rack.consistent c.args.rack.now) (omega arith) c.page_of.ensures.counts
    (c.in_ok-done.ensures.gates told v (c.page_of.ensures.state.contents ∙ at) less one two first second))

pub returns-clause-slots : goal.returns-clause-slots
returns-clause-slots g c told v at less one two first second =
    subst (λ (n : ℕ). RaisesCounts 0 n 0 (g.R.Rack.view c.args.rack.now) (g.R.Rack.view c.read_progress.new.rack))
    (let e : 1 + (2 * c.in-Some.found.1 + (one + two)) ≡ 1 + 2 * c.in-Some.found.1 + (one + two) = omega arith in e)
    (RaisesCounts-trans 0 1 0 0 (2 * c.in-Some.found.1 + (one + two)) 0 _ _ _ c.page_of.ensures.counts
    (MakesPageCalls-done _ (2 * c.in-Some.found.1 + (one + two)) 0 _ _ (g.met.R.Rack.consistent c.page_of.new.rack) refl
    (c.in_ok-done.ensures.gates told v (c.page_of.ensures.state.contents ∙ at) less one two first second)))
