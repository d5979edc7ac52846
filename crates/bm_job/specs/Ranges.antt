-- The numbers of a machine.
use Rattle.std.specs.Prelude.{◌≡◌, ℕ, ◌/◌, ◌<◌, ◌≤◌, Option, Some}
use Rattle.bm_base.specs.declared.shape.Shape.{Shape}
use Rattle.bm_forms.specs.declared.job.Job.{Job}
use Rattle.bm_forms.specs.declared.pass_form.PassForm.{PassForm}
use Rattle.bm_forms.specs.PassForm.{IsOfShape}
use Rattle.bm_forms.specs.PassLimit.{limit_of}
use Rattle.bm_base.specs.Shape.{loads_of}
use Rattle.bm_control.specs.State.{PartFits}

-- The numbers of a machine keep their ranges, on every rack, told or not: 1 to Q passes, of which no more are done than there are, and
-- progress made durable after 1 to N/M loads.
pub record MachineFits (s : Shape) (job : Job) (passes done every part slot load : ℕ) : Type 0 where
  pub passes_some : 1 ≤ passes
  pub passes_few : passes ≤ limit_of s job
  pub every_some : 1 ≤ every
  pub every_few : every ≤ loads_of s
  pub done_few : done ≤ passes
  pub counted : PartFits s passes done every part slot
  -- of the pass under way the loads moved are those counted, and more, but none after which they are to be counted
  pub moved : part ≤ load
  pub near : load / every ≡ part / every
  pub within : load < loads_of s
  -- none where no pass is left
  pub rest : done ≡ passes → load ≡ 0

-- a form that is there is one of the shape
abbrev pub FormFits : Shape → Option PassForm → Type 0
FormFits s form = (f : PassForm) → form ≡ Some f → IsOfShape s f
