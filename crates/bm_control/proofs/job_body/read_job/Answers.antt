use Rattle.std.proofs.Common.{◌≡◌, ◌≢◌, ℕ, List, slice_index, Some, ap, sym, ◌∙◌, refl}
use Rattle.bm_base.specs.declared.shape.Shape.{Shape}
use Rattle.bm_forms.specs.declared.job.Job.{Job}
use Rattle.bm_forms.specs.declared.job.Job.TheVariants.{Permute, Walsh}
use Rattle.bm_control.specs.Bodies.{IsJobBody}
use Rattle.bm_control.proofs.JobBodyLemmas.{job_numbers}
use Rattle.bm_control.proofs.job_body.read_job.Goals as goal

-- a job body that is no permutation's is the transform's
walsh_of : (s : Shape) (page : List ℕ) (job : Job) (passes every : ℕ) → IsJobBody s page job passes every → slice_index page 10 ≢ 1
    → (job ≡ Walsh) × (s.width ≡ 8) × (slice_index page 10 ≡ 2)
walsh_of s page (Permute f) passes every body other =
    let numbers = job_numbers s page (Permute f) passes every body in
    absurd (other numbers.kind)
walsh_of s page Walsh passes every body other =
    let numbers = job_numbers s page Walsh passes every body in
    (refl, body.fits.fits, numbers.kind)

pub returns-then-kind-ne-WALSH-clause-read : goal.returns-then-kind-ne-WALSH-clause-read
returns-then-kind-ne-WALSH-clause-read c job passes every body =
    absurd (c.if-kind-ne-WALSH.true (walsh_of c.args.shape.now c.args.page.now job passes every body c.if-kind-eq-PERMUTE.false).2)

pub returns-then-width-ne8-clause-read : goal.returns-then-width-ne8-clause-read
returns-then-width-ne8-clause-read c job passes every body =
    absurd (c.if-width-ne8.true (c.width.ensures
    ∙ (walsh_of c.args.shape.now c.args.page.now job passes every body c.if-kind-eq-PERMUTE.false).1))

pub returns-clause-read : goal.returns-clause-read
returns-clause-read c job passes every body =
    ap Some (sym (walsh_of c.args.shape.now c.args.page.now job passes every body c.if-kind-eq-PERMUTE.false).0)
