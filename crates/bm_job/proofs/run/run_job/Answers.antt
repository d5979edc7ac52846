use Rattle.std.proofs.Common.{◌<◌, Result, Err, IsErrOf, IsOkUnless, length, ap, sym, ◌∙◌, subst}
use Rattle.bm_base.specs.Shape.{dims_of, loads_of}
use Rattle.bm_base.specs.declared.report.RunReport.{RunReport}
use Rattle.bm_base.specs.declared.shape.Shape.{Shape}
use Rattle.bm_rack.specs.Frames.{DirtiesOnly, RackCall}
use Rattle.bm_rack.specs.Image.{SameInput}
use Rattle.bm_rack.proofs.FrameLemmas.{DirtiesOnly-wider, DirtiesOnly-trans}
use Rattle.bm_control.specs.PageCalls.{IsStartPage}
use Rattle.bm_control.proofs.EqualLemmas.{error_is}
use Rattle.bm_job.specs.declared.answers.RunError.{RunError}
use Rattle.bm_job.specs.declared.answers.RunError.TheVariants.{Failed}
use Rattle.bm_job.specs.Runs.{IsWorkUnit, IsRunUnit, RunAnswer}
use Rattle.bm_job.proofs.CallLemmas.{no_refusal, call_then}
use Rattle.bm_job.proofs.EndLemmas.{start_run, work_run, begin_images, end_images}
use Rattle.bm_job.proofs.EndLemmas.{report_told, turn_refused, begin_complete, turn_complete, run_done, keeps_open}
use Rattle.bm_job.proofs.FailedLemmas.{begin_failed, end_failed}
use Rattle.bm_job.proofs.RunCallLemmas.{both_calls, most_begun, most_run, begin_calls, run_calls, end_most}
use Rattle.bm_job.proofs.RunLemmas.{same_input_then}
use Rattle.bm_job.proofs.TurnLemmas.{refusal_of}
use Rattle.bm_job.proofs.run.run_job.Goals as goal

-- ---- where the begin was refused

pub returns-in_err-start-clause-failed : goal.returns-in_err-start-clause-failed
returns-in_err-start-clause-failed g c told_stands told_contents sound is =
    let well = g.met.R.Rack.consistent c.args.rack.now in
    begin_failed c.args.shape.now _ _ (c.begin.ensures.unchanged told_contents) c.begin.ensures.call.frame.stands c.begin.ensures.moves
    well.moves (well.sizes told_stands told_contents)

pub returns-in_err-start-clause-images : goal.returns-in_err-start-clause-images
returns-in_err-start-clause-images g c told_stands told_contents sound =
    begin_images c.args.shape.now c.args.job.now (length c.args.plan.now.forms) c.args.every _ _
    (c.begin.ensures.images told_stands told_contents)

pub returns-in_err-start-clause-unchanged : goal.returns-in_err-start-clause-unchanged
returns-in_err-start-clause-unchanged g c told opened =
    DirtiesOnly-wider (λ u. ⊥) (IsWorkUnit c.args.shape.now) _ _ (λ u is. absurd is) (c.begin.ensures.unchanged told opened)

pub returns-in_err-start-clause-calls : goal.returns-in_err-start-clause-calls
returns-in_err-start-clause-calls g c told =
    begin_calls c.args.shape.now _ (length c.args.plan.now.forms) c.args.every _ _ (c.begin.ensures.pages told)

pub returns-in_err-start-clause-complete : goal.returns-in_err-start-clause-complete
returns-in_err-start-clause-complete g c told_stands told_contents sound runnable =
    subst (λ (r : Result RunReport RunError). IsOkUnless r Failed) (sym (error_is c.from_residual.result _ c.from_residual.ensures.1))
    (begin_complete c.args.shape.now c.args.job.now (length c.args.plan.now.forms) c.args.every _ _
    (c.in_err-start.ensures.answer told_contents) runnable
    (λ page is. c.begin.ensures.good told_stands told_contents sound page (c.in_err-start.was ∙ ap Err is)))

pub returns-in_err-start-clause-settled : goal.returns-in_err-start-clause-settled
returns-in_err-start-clause-settled g c told_stands told_contents sound opened =
    let s = c.args.shape.now in
    let well = g.met.R.Rack.consistent c.args.rack.now in
    let stands = well.attached told_stands (dims_of s) c.requires.attached in
    keeps_open s (dims_of s) _ _ stands (well.sizes told_stands told_contents (dims_of s) stands) sound opened (λ gate.
    DirtiesOnly-wider (λ u. ⊥) (IsWorkUnit s) _ _ (λ u is. absurd is) (c.begin.ensures.unchanged told_contents gate))

pub returns-in_err-start-clause-calls_most : goal.returns-in_err-start-clause-calls_most
returns-in_err-start-clause-calls_most g c = most_begun c.args.shape.now c.args.job.now _ _ c.begin.ensures.most

-- ---- where a turn was refused

pub returns-in_err-end-clause-calls_most : goal.returns-in_err-end-clause-calls_most
returns-in_err-end-clause-calls_most g c =
    most_run c.args.shape.now c.args.job.now c.in_ok-start.start _ _ _ _ _ c.in_ok-start.ensures.fresh c.begin.ensures.most
    c.take_turns.ensures.counts

pub returns-in_err-end-clause-answer : goal.returns-in_err-end-clause-answer
returns-in_err-end-clause-answer g c told =
    subst (RunAnswer c.args.shape.now c.args.job.now (length c.args.plan.now.forms) c.args.every (g.R.Rack.view c.args.rack.now)
    (g.R.Rack.view c.take_turns.new.rack))
    (sym (error_is c.from_residual-in_err-end.result _ c.from_residual-in_err-end.ensures.1))
    (turn_refused c.args.shape.now c.args.job.now (length c.args.plan.now.forms) c.args.every (g.R.Rack.view c.args.rack.now)
    (g.R.Rack.view c.take_turns.new.rack) c.in_err-end.field-0.0 c.in_err-end.ensures.refusal
    (λ page is. c.take_turns.ensures.good told (c.in_ok-start.ensures.bodies told) page (c.in_err-end.was ∙ ap Err is)))

pub returns-in_err-end-clause-most : goal.returns-in_err-end-clause-most
returns-in_err-end-clause-most g c =
    end_most c.args.shape.now c.args.job.now c.in_ok-start.start (g.R.Rack.view c.args.rack.now) (g.R.Rack.view c.begin.new.rack)
    (g.R.Rack.view c.take_turns.new.rack)
    _ c.in_ok-start.ensures.fresh c.begin.ensures.moves c.take_turns.ensures.counts.moves

pub returns-in_err-end-clause-failed : goal.returns-in_err-end-clause-failed
returns-in_err-end-clause-failed g c told_stands told_contents sound is =
    let well = g.met.R.Rack.consistent c.args.rack.now in
    let follows = c.in_ok-start.ensures.follows told_stands told_contents sound in
    end_failed c.in_ok-start.start c.args.shape.now c.args.job.now _ _ _ c.in_ok-start.ensures.fresh
    (c.in_ok-start.ensures.gone told_contents) follows
    c.take_turns.ensures.call.frame c.begin.ensures.call.frame.stands c.begin.ensures.moves
    (c.in_err-end.ensures.reached told_stands told_contents follows) (well.sizes told_stands told_contents)

pub returns-in_err-end-clause-input : goal.returns-in_err-end-clause-input
returns-in_err-end-clause-input g c =
    same_input_then c.args.shape.now _ _ _ c.begin.ensures.input
    (subst (λ (t : Shape). SameInput (dims_of t) (g.R.Rack.view c.begin.new.rack) (g.R.Rack.view c.take_turns.new.rack))
    c.in_ok-start.ensures.fresh.shape c.take_turns.ensures.input)

pub returns-in_err-end-clause-images : goal.returns-in_err-end-clause-images
returns-in_err-end-clause-images g c told_stands told_contents sound =
    end_images c.in_ok-start.start c.args.shape.now c.args.job.now (length c.args.plan.now.forms) c.args.every _ _ _
    (c.begin.ensures.images told_stands told_contents) c.in_ok-start.ensures.fresh
    (c.in_ok-start.ensures.follows told_stands told_contents sound) c.take_turns.ensures.call.frame
    ((g.met.R.Rack.consistent c.begin.new.rack).sizes told_stands told_contents)

pub returns-in_err-end-clause-unchanged : goal.returns-in_err-end-clause-unchanged
returns-in_err-end-clause-unchanged g c told opened =
    DirtiesOnly-trans (IsWorkUnit c.args.shape.now) _ _ _
    (DirtiesOnly-wider (λ u. ⊥) (IsWorkUnit c.args.shape.now) _ _ (λ u is. absurd is) (c.begin.ensures.unchanged told opened))
    (subst (λ (t : Shape). DirtiesOnly (IsWorkUnit t) (g.R.Rack.view c.begin.new.rack) (g.R.Rack.view c.take_turns.new.rack))
    c.in_ok-start.ensures.fresh.shape c.take_turns.ensures.call.frame)

pub returns-in_err-end-clause-call : goal.returns-in_err-end-clause-call
returns-in_err-end-clause-call g c =
    let s = c.args.shape.now in
    let passes = length c.args.plan.now.forms in
    let turns = subst (λ (t : Shape). RackCall (IsWorkUnit t) (IsErrOf c.take_turns.result Failed) (g.R.Rack.view c.begin.new.rack)
    (g.R.Rack.view c.take_turns.new.rack))
    c.in_ok-start.ensures.fresh.shape c.take_turns.ensures.call in
    call_then (IsStartPage passes (c.args.every < loads_of s)) (IsWorkUnit s) (IsRunUnit s) _ _ _ _ _
    (start_run s passes (c.args.every < loads_of s)) (work_run s)
    (λ is. c.in_err-end.was ∙ refusal_of _ _ (sym (error_is c.from_residual-in_err-end.result _ c.from_residual-in_err-end.ensures.1) ∙ is))
    c.begin.ensures.call.frame c.begin.ensures.call.keeps turns

pub returns-in_err-end-clause-calls : goal.returns-in_err-end-clause-calls
returns-in_err-end-clause-calls g c told =
    let m = c.in_ok-start.start in
    run_calls c.args.shape.now c.args.job.now m _ (length c.args.plan.now.forms) c.args.every _ _ (c.in_ok-start.ensures.answer told)
    (both_calls m.shape m.passes m.every _ _ _ _ _ c.in_ok-start.ensures.counts c.take_turns.ensures.counts)

pub returns-in_err-end-clause-good : goal.returns-in_err-end-clause-good
returns-in_err-end-clause-good g c told_stands told_contents sound page is =
    c.take_turns.ensures.good told_contents (c.in_ok-start.ensures.bodies told_contents) page
    (c.in_err-end.was ∙ refusal_of _ _ (sym (error_is c.from_residual-in_err-end.result _ c.from_residual-in_err-end.ensures.1) ∙ is))

pub returns-in_err-end-clause-complete : goal.returns-in_err-end-clause-complete
returns-in_err-end-clause-complete g c told_stands told_contents sound runnable =
    subst (λ (r : Result RunReport RunError). IsOkUnless r Failed)
    (sym (error_is c.from_residual-in_err-end.result _ c.from_residual-in_err-end.ensures.1))
    (turn_complete _ c.in_err-end.ensures.refusal (λ page is.
    c.take_turns.ensures.good told_contents (c.in_ok-start.ensures.bodies told_contents) page (c.in_err-end.was ∙ ap Err is)))

pub returns-in_err-end-clause-settled : goal.returns-in_err-end-clause-settled
returns-in_err-end-clause-settled g c told_stands told_contents sound opened =
    let s = c.args.shape.now in
    let well = g.met.R.Rack.consistent c.args.rack.now in
    let stands = well.attached told_stands (dims_of s) c.requires.attached in
    keeps_open s (dims_of s) _ _ stands (well.sizes told_stands told_contents (dims_of s) stands) sound opened (λ gate.
    DirtiesOnly-trans (IsWorkUnit s) _ _ _
    (DirtiesOnly-wider (λ u. ⊥) (IsWorkUnit s) _ _ (λ u is. absurd is) (c.begin.ensures.unchanged told_contents gate))
    (subst (λ (t : Shape). DirtiesOnly (IsWorkUnit t) (g.R.Rack.view c.begin.new.rack) (g.R.Rack.view c.take_turns.new.rack))
    c.in_ok-start.ensures.fresh.shape c.take_turns.ensures.call.frame))

-- ---- where all passes are done

pub returns-clause-calls_most : goal.returns-clause-calls_most
returns-clause-calls_most g c =
    most_run c.args.shape.now c.args.job.now c.in_ok-start.start _ _ _ _ _ c.in_ok-start.ensures.fresh c.begin.ensures.most
    c.take_turns.ensures.counts

pub returns-clause-answer : goal.returns-clause-answer
returns-clause-answer g c told =
    report_told c.args.shape.now c.args.job.now c.in_ok-start.start _ (length c.args.plan.now.forms) c.args.every c.report_of.result
    (c.in_ok-start.ensures.answer told)
    c.report_of.ensures.passes c.report_of.ensures.done c.report_of.ensures.part

pub returns-clause-most : goal.returns-clause-most
returns-clause-most g c =
    end_most c.args.shape.now c.args.job.now c.in_ok-start.start (g.R.Rack.view c.args.rack.now) (g.R.Rack.view c.begin.new.rack)
    (g.R.Rack.view c.take_turns.new.rack)
    _ c.in_ok-start.ensures.fresh c.begin.ensures.moves c.take_turns.ensures.counts.moves

pub returns-clause-input : goal.returns-clause-input
returns-clause-input g c =
    same_input_then c.args.shape.now _ _ _ c.begin.ensures.input
    (subst (λ (t : Shape). SameInput (dims_of t) (g.R.Rack.view c.begin.new.rack) (g.R.Rack.view c.take_turns.new.rack))
    c.in_ok-start.ensures.fresh.shape c.take_turns.ensures.input)

pub returns-clause-done : goal.returns-clause-done
returns-clause-done g c told_stands told_contents sound =
    let s = c.args.shape.now in
    let well = g.met.R.Rack.consistent c.take_turns.new.rack in
    let stands = well.attached told_stands (dims_of s) (c.take_turns.ensures.call.frame.attached ∙ c.begin.ensures.call.frame.attached
    ∙ c.requires.attached) in
    run_done s c.args.job.now c.in_ok-start.start c.in_ok-end.end (length c.args.plan.now.forms) c.args.every c.report_of.result _ _ _
    (c.in_ok-start.ensures.answer told_contents) (c.begin.ensures.unchanged told_contents) c.take_turns.ensures.call.frame
    c.in_ok-end.ensures.end
    (c.in_ok-end.ensures.follows told_stands told_contents (c.in_ok-start.ensures.follows told_stands told_contents sound))
    c.report_of.ensures.passes
    stands (well.sizes told_stands told_contents (dims_of s) stands)
    (same_input_then s _ _ _ c.begin.ensures.input
    (subst (λ (t : Shape). SameInput (dims_of t) (g.R.Rack.view c.begin.new.rack) (g.R.Rack.view c.take_turns.new.rack))
    c.in_ok-start.ensures.fresh.shape c.take_turns.ensures.input))

pub returns-clause-images : goal.returns-clause-images
returns-clause-images g c told_stands told_contents sound =
    end_images c.in_ok-start.start c.args.shape.now c.args.job.now (length c.args.plan.now.forms) c.args.every _ _ _
    (c.begin.ensures.images told_stands told_contents) c.in_ok-start.ensures.fresh
    (c.in_ok-start.ensures.follows told_stands told_contents sound) c.take_turns.ensures.call.frame
    ((g.met.R.Rack.consistent c.begin.new.rack).sizes told_stands told_contents)

pub returns-clause-unchanged : goal.returns-clause-unchanged
returns-clause-unchanged g c told opened =
    DirtiesOnly-trans (IsWorkUnit c.args.shape.now) _ _ _
    (DirtiesOnly-wider (λ u. ⊥) (IsWorkUnit c.args.shape.now) _ _ (λ u is. absurd is) (c.begin.ensures.unchanged told opened))
    (subst (λ (t : Shape). DirtiesOnly (IsWorkUnit t) (g.R.Rack.view c.begin.new.rack) (g.R.Rack.view c.take_turns.new.rack))
    c.in_ok-start.ensures.fresh.shape c.take_turns.ensures.call.frame)

pub returns-clause-call : goal.returns-clause-call
returns-clause-call g c =
    let s = c.args.shape.now in
    let passes = length c.args.plan.now.forms in
    let turns = subst (λ (t : Shape). RackCall (IsWorkUnit t) (IsErrOf c.take_turns.result Failed) (g.R.Rack.view c.begin.new.rack)
    (g.R.Rack.view c.take_turns.new.rack))
    c.in_ok-start.ensures.fresh.shape c.take_turns.ensures.call in
    call_then (IsStartPage passes (c.args.every < loads_of s)) (IsWorkUnit s) (IsRunUnit s) _ _ _ _ _
    (start_run s passes (c.args.every < loads_of s)) (work_run s)
    (λ is. absurd (no_refusal c.report_of.result Failed is)) c.begin.ensures.call.frame c.begin.ensures.call.keeps turns

pub returns-clause-calls : goal.returns-clause-calls
returns-clause-calls g c told =
    let m = c.in_ok-start.start in
    run_calls c.args.shape.now c.args.job.now m _ (length c.args.plan.now.forms) c.args.every _ _ (c.in_ok-start.ensures.answer told)
    (both_calls m.shape m.passes m.every _ _ _ _ _ c.in_ok-start.ensures.counts c.take_turns.ensures.counts)

pub returns-clause-settled : goal.returns-clause-settled
returns-clause-settled g c told_stands told_contents sound opened =
    let s = c.args.shape.now in
    let well = g.met.R.Rack.consistent c.args.rack.now in
    let stands = well.attached told_stands (dims_of s) c.requires.attached in
    keeps_open s (dims_of s) _ _ stands (well.sizes told_stands told_contents (dims_of s) stands) sound opened (λ gate.
    DirtiesOnly-trans (IsWorkUnit s) _ _ _
    (DirtiesOnly-wider (λ u. ⊥) (IsWorkUnit s) _ _ (λ u is. absurd is) (c.begin.ensures.unchanged told_contents gate))
    (subst (λ (t : Shape). DirtiesOnly (IsWorkUnit t) (g.R.Rack.view c.begin.new.rack) (g.R.Rack.view c.take_turns.new.rack))
    c.in_ok-start.ensures.fresh.shape c.take_turns.ensures.call.frame))
