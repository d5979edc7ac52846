use Rattle.std.proofs.Common.{◌≡◌, ◌<◌, ℕ, List, length, refl, sym, subst, arith}
use Rattle.std.proofs.lemmas.Result.{on_ok_weaker}
use Rattle.bm_base.specs.Contents.{page_at}
use Rattle.bm_base.specs.Gate.{IsClosedGate}
use Rattle.bm_base.specs.Shape.{dims_of, loads_of}
use Rattle.bm_rack.proofs.FrameLemmas.{DirtiesOnly-wider, DirtiesOnly-trans, DirtiesOnly-synced, Keeps-trans, HasCause-later}
use Rattle.bm_control.specs.Bodies.{IsJobBody}
use Rattle.bm_control.specs.Moments.{JobIsWritten}
use Rattle.bm_control.specs.Pages.{job_body, job_gate}
use Rattle.bm_control.specs.Pages.{job_body, job_gate}
use Rattle.bm_control.specs.PageCalls.{IsJobPage, IsStartPage}
use Rattle.bm_control.proofs.ImageLemmas.{closed_settled, settled_in_image, image_of_clean}
use Rattle.bm_control.proofs.StartLemmas.{loaded_stands, loaded_start, loaded_within, loaded_sound, job_gate_within, sound_started}
use Rattle.bm_control.proofs.StartLemmas.{job_written_kept, start_passes, start_gate}
use Rattle.bm_control.proofs.job_start.start_job.Goals as goal

pub returns-in_err-write_job-clause-sound : goal.returns-in_err-write_job-clause-sound
returns-in_err-write_job-clause-sound g c told_stands told_contents does sound opened closed body =
    let s = c.args.shape.now in
    let fits = g.met.R.Rack.consistent c.args.rack.now in
    let here = fits.attached told_stands c.requires.ready.0 c.requires.ready.1 in
    let stands = loaded_stands s _ c.requires.ready.0 here (fits.sizes told_stands told_contents c.requires.ready.0 here) sound opened body
    in
    loaded_sound s _ (loaded_within (length c.args.plan.now.forms) (c.args.every < loads_of s) s _ _ c.write_job.ensures.call.frame
    (loaded_start s _ stands (fits.sizes told_stands told_contents (dims_of s) stands) sound opened closed body))

pub returns-in_err-write_job-clause-stored : goal.returns-in_err-write_job-clause-stored
returns-in_err-write_job-clause-stored g c told_stands told_contents closed dims image stands i gate =
    let s = c.args.shape.now in
    let fits = g.met.R.Rack.consistent c.args.rack.now in
    let at = c.requires.ready.0 in
    let here = fits.attached told_stands at c.requires.ready.1 in
    absurd (settled_in_image IsClosedGate job_gate _ dims image (job_gate_within (length c.args.plan.now.forms) (c.args.every < loads_of s)
    _ _
    c.write_job.ensures.call.frame
    (closed_settled _ at job_gate (omega arith) here (fits.sizes told_stands told_contents at here) closed)) i gate)

pub returns-in_err-sync-clause-sound : goal.returns-in_err-sync-clause-sound
returns-in_err-sync-clause-sound g c told_stands told_contents does sound opened closed body =
    let s = c.args.shape.now in
    let fits = g.met.R.Rack.consistent c.args.rack.now in
    let here = fits.attached told_stands c.requires.ready.0 c.requires.ready.1 in
    let stands = loaded_stands s _ c.requires.ready.0 here (fits.sizes told_stands told_contents c.requires.ready.0 here) sound opened body
    in
    loaded_sound s _ (loaded_within (length c.args.plan.now.forms) (c.args.every < loads_of s) s _ _
    (DirtiesOnly-trans (IsJobPage (length c.args.plan.now.forms) (c.args.every < loads_of s)) _ _ _ c.write_job.ensures.call.frame
    (DirtiesOnly-synced _ _ _ _ c.sync.ensures.synced))
    (loaded_start s _ stands (fits.sizes told_stands told_contents (dims_of s) stands) sound opened closed body))

pub returns-in_err-sync-clause-stored : goal.returns-in_err-sync-clause-stored
returns-in_err-sync-clause-stored g c told_stands told_contents closed dims image stands i gate =
    let s = c.args.shape.now in
    let fits = g.met.R.Rack.consistent c.args.rack.now in
    let at = c.requires.ready.0 in
    let here = fits.attached told_stands at c.requires.ready.1 in
    absurd (settled_in_image IsClosedGate job_gate _ dims image (job_gate_within (length c.args.plan.now.forms) (c.args.every < loads_of s)
    _ _
    (DirtiesOnly-trans (IsJobPage (length c.args.plan.now.forms) (c.args.every < loads_of s)) _ _ _ c.write_job.ensures.call.frame
    (DirtiesOnly-synced _ _ _ _ c.sync.ensures.synced))
    (closed_settled _ at job_gate (omega arith) here (fits.sizes told_stands told_contents at here) closed)) i gate)

pub returns-clause-sound : goal.returns-clause-sound
returns-clause-sound g c told_stands told_contents does sound opened closed body =
    let s = c.args.shape.now in
    let fits = g.met.R.Rack.consistent c.args.rack.now in
    let here = fits.attached told_stands c.requires.ready.0 c.requires.ready.1 in
    let stands = loaded_stands s _ c.requires.ready.0 here (fits.sizes told_stands told_contents c.requires.ready.0 here) sound opened body
    in
    let ready = loaded_within (length c.args.plan.now.forms) (c.args.every < loads_of s) s _ _
    (DirtiesOnly-trans (IsJobPage (length c.args.plan.now.forms) (c.args.every < loads_of s)) _ _ _ c.write_job.ensures.call.frame
    (DirtiesOnly-synced _ _ _ _ c.sync.ensures.synced))
    (loaded_start s _ stands (fits.sizes told_stands told_contents (dims_of s) stands) sound opened closed body) in
    sound_started s c.args.job.now c.args.plan.now.forms c.args.every _ _
    ((g.met.R.Rack.consistent c.sync.new.self).sizes told_stands told_contents (dims_of s) ready.stands)
    (c.in_ok-sync.ensures.synced.clean refl) ready does.does
    (subst (JobIsWritten s c.args.job.now c.args.plan.now.forms c.args.every) (sym c.sync.ensures.synced.contents)
    (c.in_ok-write_job.ensures.written told_contents refl))
    c.write_page_durably.ensures.call.frame

pub returns-clause-stored : goal.returns-clause-stored
returns-clause-stored g c told_stands told_contents closed dims image stands i gate =
    let s = c.args.shape.now in
    let written = subst (JobIsWritten s c.args.job.now c.args.plan.now.forms c.args.every) (sym c.sync.ensures.synced.contents)
    (c.in_ok-write_job.ensures.written told_contents refl) in
    subst (λ (p : List ℕ). IsJobBody s p c.args.job.now (length c.args.plan.now.forms) c.args.every)
    (sym ((image_of_clean job_gate _ _ dims image (c.in_ok-sync.ensures.synced.clean refl) c.write_page_durably.ensures.call.frame i).pages
    job_body
    (λ e. omega (arith, e)))) written.body

pub returns-clause-written : goal.returns-clause-written
returns-clause-written g c told =
    on_ok_weaker c.write_page_durably.result
    (λ (taken : page_at (g.R.Rack.view c.write_page_durably.new.rack).contents job_gate ≡ c.gate_page.result).
    job_written_kept c.args.shape.now c.args.job.now c.args.plan.now.forms c.args.every _ _ c.write_page_durably.ensures.call.frame
    (subst (JobIsWritten c.args.shape.now c.args.job.now c.args.plan.now.forms c.args.every) (sym c.sync.ensures.synced.contents)
    (c.in_ok-write_job.ensures.written told refl)))
    (c.write_page_durably.ensures.taken told)

pub returns-clause-call : goal.returns-clause-call
returns-clause-call g c =
    let passes = length c.args.plan.now.forms in
    let first = DirtiesOnly-trans (IsJobPage (length c.args.plan.now.forms) (c.args.every < loads_of c.args.shape.now)) _ _ _
    c.write_job.ensures.call.frame (DirtiesOnly-synced _ _ _ _ c.sync.ensures.synced) in
    record {
      frame = DirtiesOnly-trans (IsStartPage (length c.args.plan.now.forms) (c.args.every < loads_of c.args.shape.now)) _ _ _
          (DirtiesOnly-wider _ _ _ _ (start_passes (length c.args.plan.now.forms) (c.args.every < loads_of c.args.shape.now)) first)
          (DirtiesOnly-wider _ _ _ _ (start_gate (length c.args.plan.now.forms) (c.args.every < loads_of c.args.shape.now))
          c.write_page_durably.ensures.call.frame);
      keeps = Keeps-trans _ _ _ (Keeps-trans _ _ _ c.write_job.ensures.call.keeps c.sync.ensures.keeps)
          c.write_page_durably.ensures.call.keeps;
      cause = HasCause-later _ _ _ _ (Keeps-trans _ _ _ c.write_job.ensures.call.keeps c.sync.ensures.keeps)
          c.write_page_durably.ensures.call.cause;
    }
