use Rattle.std.proofs.Common.{◌<◌, inr, refl, ◌∙◌, length}
use Rattle.bm_base.specs.Shape.{dims_of, loads_of}
use Rattle.bm_control.specs.PageCalls.{IsStartPage}
use Rattle.bm_job.proofs.CallLemmas.{call_then}
use Rattle.bm_control.proofs.WrongPageLemmas.{sound_no_bad}
use Rattle.bm_job.proofs.BeginCallLemmas.{most_read, most_started, begin_read, begin_started, counts_started, counts_loaded}
use Rattle.bm_job.proofs.BeginLemmas.{bad_of, refused_by, resumed_of, loaded_of, told_of, alone_of, resumed_follows, resumed_gone}
use Rattle.bm_job.proofs.BeginLemmas.{kept_unless, start_input}
use Rattle.bm_job.proofs.machine.Machine.begin.Goals as goal

pub returns-in_err-state-clause-good : goal.returns-in_err-state-clause-good
returns-in_err-state-clause-good g c told_stands told_contents sound page is =
    let s = c.args.shape.now in
    let fits = g.met.R.Rack.consistent c.args.rack.now in
    let stands = fits.attached told_stands (dims_of s) c.requires.attached in
    sound_no_bad (dims_of s) _ page stands (fits.sizes told_stands told_contents (dims_of s) stands) sound
    (bad_of _ _ c.from_residual.result page c.from_residual.ensures.1 is (c.in_err-state.ensures.answer told_contents))

pub returns-in_err-state-clause-most : goal.returns-in_err-state-clause-most
returns-in_err-state-clause-most g c = most_read _ _ c.settle_and_read.ensures.most

pub returns-in_err-machine-clause-most : goal.returns-in_err-machine-clause-most
returns-in_err-machine-clause-most g c = most_read _ _ c.settle_and_read.ensures.most

pub returns-in-Some-clause-most : goal.returns-in-Some-clause-most
returns-in-Some-clause-most g c = most_read _ _ c.settle_and_read.ensures.most

pub returns-in-None-clause-most : goal.returns-in-None-clause-most
returns-in-None-clause-most g c =
    let is = loaded_of c.args.shape.now c.args.job.now c.in_ok-state.state c.in_ok-machine.field-0 c.in-None.is c.in_ok-machine.ensures in
    most_started (length c.args.plan.now.forms) _ _ _ c.start.ensures.few
    (counts_loaded c.args.shape.now c.in_ok-state.state _ _ is c.in_ok-state.ensures.counts) c.start.ensures.counts

pub returns-in-Some-clause-bodies : goal.returns-in-Some-clause-bodies
returns-in-Some-clause-bodies g c told =
    let found = resumed_of _ _ c.in_ok-state.state c.in_ok-machine.field-0 c.in-Some.machine c.in-Some.is c.in_ok-machine.ensures in
    (told_of _ _ _ _ c.settle_and_read.ensures.contents found.1 (c.in_ok-state.ensures.answer told)).1.stand.bodies

pub returns-in_err-machine-clause-answer : goal.returns-in_err-machine-clause-answer
returns-in_err-machine-clause-answer g c told =
    refused_by c.args.shape.now c.args.job.now (length c.args.plan.now.forms) c.args.every (g.R.Rack.view c.args.rack.now).contents
    c.in_ok-state.state _
    c.from_residual-in_err-machine.result c.from_residual-in_err-machine.ensures.1 (c.in_ok-state.ensures.answer told)
    c.in_err-machine.ensures

pub returns-in-Some-clause-gone : goal.returns-in-Some-clause-gone
returns-in-Some-clause-gone g c told =
    let found = resumed_of _ _ c.in_ok-state.state c.in_ok-machine.field-0 c.in-Some.machine c.in-Some.is c.in_ok-machine.ensures in
    resumed_gone c.args.shape.now c.args.job.now c.in-Some.machine _ found.0
    (told_of _ _ _ _ refl found.1 (c.in_ok-state.ensures.answer told))

pub returns-in-Some-clause-follows : goal.returns-in-Some-clause-follows
returns-in-Some-clause-follows g c told_stands told_contents sound =
    let s = c.args.shape.now in
    let now = g.met.R.Rack.consistent c.settle_and_read.new.rack in
    let frame = c.settle_and_read.ensures.call.frame in
    let attached = frame.attached ∙ c.requires.attached in
    let stands = now.attached told_stands (dims_of s) attached in
    let found = resumed_of _ _ c.in_ok-state.state c.in_ok-machine.field-0 c.in-Some.machine c.in-Some.is c.in_ok-machine.ensures in
    resumed_follows s c.args.job.now c.in-Some.machine (g.R.Rack.view c.settle_and_read.new.rack) stands
    (now.sizes told_stands told_contents (dims_of s) stands) attached
    (c.settle_and_read.ensures.sound sound) c.in_ok-state.ensures.clean found.0
    (told_of _ _ _ _ c.settle_and_read.ensures.contents found.1 (c.in_ok-state.ensures.answer told_contents))

pub returns-in-Some-clause-pages : goal.returns-in-Some-clause-pages
returns-in-Some-clause-pages g c told = begin_read _ _ _ _ (c.settle_and_read.ensures.pages told)

pub returns-in-None-clause-pages : goal.returns-in-None-clause-pages
returns-in-None-clause-pages g c told =
    let is = loaded_of c.args.shape.now c.args.job.now c.in_ok-state.state c.in_ok-machine.field-0 c.in-None.is c.in_ok-machine.ensures in
    let v = (g.R.Rack.view c.args.rack.now).contents in
    let loaded = alone_of c.args.shape.now v (told_of v v _ _ refl is (c.in_ok-state.ensures.answer told)) in
    begin_started v (length c.args.plan.now.forms) _ _ _ loaded.job_gate (c.settle_and_read.ensures.pages told) c.start.ensures.counts

pub returns-in-None-clause-kept : goal.returns-in-None-clause-kept
returns-in-None-clause-kept g c = kept_unless c.start.result _ c.start.ensures.failed

pub returns-in-None-clause-images : goal.returns-in-None-clause-images
returns-in-None-clause-images g c told_stands told_contents dims image stands i gate =
    let is = loaded_of c.args.shape.now c.args.job.now c.in_ok-state.state c.in_ok-machine.field-0 c.in-None.is c.in_ok-machine.ensures in
    let loaded = alone_of c.args.shape.now (g.R.Rack.view c.settle_and_read.new.rack).contents
    (told_of _ _ _ _ c.settle_and_read.ensures.contents is (c.in_ok-state.ensures.answer told_contents)) in
    inr (c.start.ensures.images told_stands told_contents c.in_ok-state.ensures.clean loaded.job_gate dims image stands i gate)

pub returns-in-None-clause-call : goal.returns-in-None-clause-call
returns-in-None-clause-call g c =
    let pages = IsStartPage (length c.args.plan.now.forms) (c.args.every < loads_of c.args.shape.now) in
    call_then (λ u. ⊥) pages pages _ _ _ _ _ (λ u is. absurd is) (λ u is. is) (λ e. e) c.settle_and_read.ensures.call.frame
    c.settle_and_read.ensures.call.keeps c.start.ensures.call

pub returns-in-None-clause-input : goal.returns-in-None-clause-input
returns-in-None-clause-input g c =
    let passes = length c.args.plan.now.forms in
    let parts = c.args.every < loads_of c.args.shape.now in
    let pages = IsStartPage passes parts in
    let all = call_then (λ u. ⊥) pages pages _ _ _ _ _ (λ u is. absurd is) (λ u is. is) (λ e. e) c.settle_and_read.ensures.call.frame
    c.settle_and_read.ensures.call.keeps c.start.ensures.call in
    start_input passes parts (dims_of c.args.shape.now) _ _ all.frame

pub returns-in-None-clause-counts : goal.returns-in-None-clause-counts
returns-in-None-clause-counts g c =
    let is = loaded_of c.args.shape.now c.args.job.now c.in_ok-state.state c.in_ok-machine.field-0 c.in-None.is c.in_ok-machine.ensures in
    counts_started (length c.args.plan.now.forms) c.args.every _ _ _ c.start.result
    (counts_loaded c.args.shape.now c.in_ok-state.state _ _ is c.in_ok-state.ensures.counts)
    c.start.ensures.counts c.start.ensures.start
