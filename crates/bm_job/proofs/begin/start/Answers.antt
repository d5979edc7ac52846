use Rattle.std.proofs.Common.{arith}
use Rattle.bm_base.specs.Gate.{IsOpenGate, IsClosedGate}
use Rattle.bm_control.specs.Pages.{load_gate, job_gate}
use Rattle.bm_control.proofs.EqualLemmas.{none_some}
use Rattle.bm_job.proofs.BeginLemmas.{clean_page, started_held, started_bodies}
use Rattle.bm_job.proofs.StepLemmas.{moved_none}
use Rattle.bm_control.proofs.JobBodyLemmas.{limit-most}
use Rattle.bm_job.proofs.begin.start.Goals as goal

pub returns-in_err-start_job-clause-sound : goal.returns-in_err-start_job-clause-sound
returns-in_err-start_job-clause-sound g c told_stands told_contents sound clean loaded =
    c.start_job.ensures.sound told_stands told_contents c.requires.stands sound (clean_page IsOpenGate load_gate _ clean loaded.load_gate)
    (clean_page IsClosedGate job_gate _ clean loaded.job_gate) loaded.load_body

pub returns-clause-sound : goal.returns-clause-sound
returns-clause-sound g c told_stands told_contents sound clean loaded =
    c.start_job.ensures.sound told_stands told_contents c.requires.stands sound (clean_page IsOpenGate load_gate _ clean loaded.load_gate)
    (clean_page IsClosedGate job_gate _ clean loaded.job_gate) loaded.load_body

pub returns-in_err-start_job-clause-images : goal.returns-in_err-start_job-clause-images
returns-in_err-start_job-clause-images g c told_stands told_contents clean closed =
    c.start_job.ensures.stored told_stands told_contents (clean_page IsClosedGate job_gate _ clean closed)

pub returns-clause-images : goal.returns-clause-images
returns-clause-images g c told_stands told_contents clean closed =
    c.start_job.ensures.stored told_stands told_contents (clean_page IsClosedGate job_gate _ clean closed)

pub returns-clause-follows : goal.returns-clause-follows
returns-clause-follows g c told_stands told_contents sound clean loaded =
    let s = c.args.shape.now in
    let now = c.start_job.ensures.sound told_stands told_contents c.requires.stands sound
    (clean_page IsOpenGate load_gate _ clean loaded.load_gate)
    (clean_page IsClosedGate job_gate _ clean loaded.job_gate) loaded.load_body in
    record {
      held = started_held s c.args.job.now c.args.plan.now.forms c.len.result c.args.every _ _ c.len.ensures.count c.requires.attached
          loaded
          c.start_job.ensures.call.frame c.in_ok-start_job.ensures.clean (c.in_ok-start_job.ensures.opened told_contents)
          (c.in_ok-start_job.ensures.written told_contents) now;
      form = λ form is. absurd (none_some form is);
      moved = moved_none s 0 (g.R.Rack.view c.start_job.new.rack).contents;
    }

pub returns-clause-bodies : goal.returns-clause-bodies
returns-clause-bodies g c told =
    started_bodies c.args.shape.now c.args.plan.now.forms c.len.result _ c.len.ensures.count (c.in_ok-start_job.ensures.written told).bodies

pub returns-in_err-start_job-clause-few : goal.returns-in_err-start_job-clause-few
returns-in_err-start_job-clause-few g c =
    let few = c.requires.fits.passes_few in
    let most = limit-most c.args.shape.now c.args.job.now in
    omega (arith, few, most)

pub returns-clause-few : goal.returns-clause-few
returns-clause-few g c =
    let few = c.requires.fits.passes_few in
    let most = limit-most c.args.shape.now c.args.job.now in
    omega (arith, few, most)
