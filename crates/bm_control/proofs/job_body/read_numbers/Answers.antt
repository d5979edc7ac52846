use Rattle.std.proofs.Common.{◌≡◌, ℕ, Some, sym, subst, ◌∙◌, refl}
use Rattle.bm_forms.specs.declared.job.Job.{Job}
use Rattle.bm_control.specs.Bodies.{JobBodyFits}
use Rattle.bm_control.proofs.EqualLemmas.{some_injective, one_outcome}
use Rattle.bm_control.proofs.JobBodyLemmas.{job_numbers}
use Rattle.bm_control.proofs.job_body.read_numbers.Goals as goal

pub returns-then-not-are_in_range-clause-read : goal.returns-then-not-are_in_range-clause-read
returns-then-not-are_in_range-clause-read c job passes every body =
    let numbers = job_numbers c.args.shape.now c.args.page.now job passes every body in
    let one : Some c.in_ok-job.job ≡ Some job = c.in_ok-job.ensures.read job passes every body in
    let same : c.in_ok-job.job ≡ job = some_injective c.in_ok-job.job job one in
    let two : c.u16_at-passes.result ≡ passes = c.u16_at-passes.ensures ∙ numbers.passes_are in
    let three : c.read_every-every.result ≡ every = c.read_every-every.ensures.read job passes every body in
    let fits : JobBodyFits c.args.shape.now c.in_ok-job.job c.u16_at-passes.result c.read_every-every.result =
    subst (λ (j : Job). JobBodyFits c.args.shape.now j c.u16_at-passes.result c.read_every-every.result) (sym same)
    (subst (λ (p : ℕ). JobBodyFits c.args.shape.now job p c.read_every-every.result) (sym two)
    (subst (λ (q : ℕ). JobBodyFits c.args.shape.now job passes q) (sym three) body.fits)) in
    absurd (one_outcome c.are_in_range.result (c.are_in_range.ensures.1 fits) c.if-not-are_in_range.true)

pub returns-clause-read : goal.returns-clause-read
returns-clause-read c job passes every body =
    let numbers = job_numbers c.args.shape.now c.args.page.now job passes every body in
    let one : Some c.in_ok-job.job ≡ Some job = c.in_ok-job.ensures.read job passes every body in
    let same : c.in_ok-job.job ≡ job = some_injective c.in_ok-job.job job one in
    let two : c.u16_at-passes.result ≡ passes = c.u16_at-passes.ensures ∙ numbers.passes_are in
    let three : c.read_every-every.result ≡ every = c.read_every-every.ensures.read job passes every body in
    rw (same, two, three) refl
