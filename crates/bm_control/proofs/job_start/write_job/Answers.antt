use Rattle.std.proofs.Common.{inl, inr, ℕ, length, refl, ap, ◌∙◌, arith}
use Rattle.bm_base.specs.Contents.{page_unit}
use Rattle.bm_control.specs.Bodies.{job_page}
use Rattle.bm_control.specs.Pages.{job_body}
use Rattle.bm_control.proofs.JobBodyLemmas.{limit-most}
use Rattle.bm_control.proofs.StartLemmas.{passes_kept, job_written}
use Rattle.bm_control.proofs.job_start.write_job.Goals as goal

pub write_passes-requires-clause-few : goal.write_passes-requires-clause-few
write_passes-requires-clause-few g c =
    let few = c.requires.fits.passes_few in
    let most = limit-most c.args.shape.now c.args.job.now in
    omega (arith, few, most)

pub returns-then-every-loads-clause-written : goal.returns-then-every-loads-clause-written
returns-then-every-loads-clause-written g c told ok =
    job_written c.args.shape.now c.args.job.now c.args.plan.now.forms c.args.every _
    (record {
      fits = c.requires.fits;
      page_is = c.write_passes.ensures.call.frame.contents (page_unit job_body) (λ e. (let a = e.0 in omega (arith, a)))
          ∙ c.in_ok-write_page.ensures.written.taking told refl
          ∙ c.encode_job-body.ensures ∙ ap (λ (p : ℕ). job_page c.args.shape.now c.args.job.now p c.args.every) c.len.ensures.count;
    })
    (c.in_ok-write_passes.ensures.written told refl)
    (λ less. absurd (let e = c.loads.ensures in omega (arith, less, e, c.if-every-loads.true)))

pub returns-clause-written : goal.returns-clause-written
returns-clause-written g c told ok =
    let few = c.requires.fits.passes_few in
    let most = limit-most c.args.shape.now c.args.job.now in
    job_written c.args.shape.now c.args.job.now c.args.plan.now.forms c.args.every _
    (record {
      fits = c.requires.fits;
      page_is = c.close_slots.ensures.call.frame.contents (page_unit job_body)
          (λ e. elim e [ inl x ↦ omega (arith, x) | inr x ↦ omega (arith, x) ])
          ∙ c.write_passes.ensures.call.frame.contents (page_unit job_body) (λ e. (let a = e.0 in omega (arith, a)))
          ∙ c.in_ok-write_page.ensures.written.taking told refl
          ∙ c.encode_job-body.ensures ∙ ap (λ (p : ℕ). job_page c.args.shape.now c.args.job.now p c.args.every) c.len.ensures.count;
    })
    (passes_kept c.args.shape.now c.args.plan.now.forms (length c.args.plan.now.forms) _ _ (omega (arith, few, most))
    c.close_slots.ensures.call.frame (c.in_ok-write_passes.ensures.written told refl))
    (λ less. (c.close_slots.ensures.first told ok, c.close_slots.ensures.second told ok))
