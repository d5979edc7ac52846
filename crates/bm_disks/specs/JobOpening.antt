-- What is answered of a job that is to be open.
use Rattle.std.specs.Prelude.{Ok, Err, ◌≡◌, ◌≢◌, ℕ, ◌^◌, ◌<◌, ◌≤◌, Result}
use Rattle.bm_base.specs.declared.shape.Shape.{Shape}
use Rattle.bm_base.specs.Area.{area_after}
use Rattle.bm_base.specs.Contents.{Contents}
use Rattle.bm_base.specs.Records.{record_at, SameRecords}
use Rattle.bm_forms.specs.declared.job.Job.{Job}
use Rattle.bm_forms.specs.Job.{meaning}
use Rattle.bm_control.specs.declared.state.SlateState.{SlateState}
use Rattle.bm_control.specs.declared.state.SlateState.TheVariants.{Closed, Loaded, Working}
use Rattle.bm_control.specs.declared.state.ControlError.{ControlError}
use Rattle.bm_control.specs.declared.state.ControlError.TheVariants as control
use Rattle.bm_base.specs.Shape.{loads_of}
use Rattle.bm_control.specs.Bodies.{JobBodyFits}
use Rattle.bm_control.specs.Pages.{HasJobBody}
use Rattle.bm_control.specs.Consistent.{input_of}
use Rattle.bm_control.specs.State.{StateAnswer, IsJobOpen}
use Rattle.bm_job.specs.Begins.{IsLoadedState, IsOpenState}
use Rattle.bm_disks.specs.declared.job_opening.OpenJob.{OpenJob}
use Rattle.bm_disks.specs.declared.job_opening.OpenError.{OpenError}
use Rattle.bm_disks.specs.declared.job_opening.OpenError.TheVariants.{Failed, BadPage, NotLoaded, OtherShape, NoJob, OtherJob}

-- the refusal of a control call as one of these
abbrev pub open_error : ControlError → OpenError
open_error control.Failed = Failed
open_error (control.BadPage page) = BadPage page

-- What is answered of contents in which this job of this shape is to be open: how far it is, or the refusal, in the order of the tests. The
-- answers exclude one another.
abbrev pub OpenAnswer : Shape → Job → Contents → Result OpenJob OpenError → Type 0
OpenAnswer s job v (Ok o) = (slot : ℕ) × StateAnswer v (Ok (Working s job o.passes o.done o.every o.part slot))
OpenAnswer s job v (Err Failed) = Unit {0}
OpenAnswer s job v (Err (BadPage page)) = StateAnswer v (Err (control.BadPage page))
OpenAnswer s job v (Err NotLoaded) = StateAnswer v (Ok Closed)
OpenAnswer s job v (Err OtherShape) = (state : SlateState) × StateAnswer v (Ok state) × ((t : Shape) × IsLoadedState t state × (t ≢ s))
OpenAnswer s job v (Err NoJob) = StateAnswer v (Ok (Loaded s))
OpenAnswer s job v (Err OtherJob) =
    (state : SlateState) × StateAnswer v (Ok state) × IsLoadedState s state × ((other : Job) × IsOpenState other state × (other ≢ job))

-- The numbers keep their ranges, on every rack, told or not: 1 to Q passes, no more done than there are, and fewer loads counted than a
-- pass has.
pub record OpenFits (s : Shape) (job : Job) (o : OpenJob) : Type 0 where
  pub body : JobBodyFits s job o.passes o.every
  pub done_few : o.done ≤ o.passes
  pub part_few : o.part < loads_of s

-- Records of this shape are loaded, and this job is open: its gates are open, and its bodies stand.
pub record IsOpenCase (s : Shape) (job : Job) (v : Contents) : Type 0 where
  pub gates : IsJobOpen s v
  pub passes : ℕ
  pub every : ℕ
  pub body : HasJobBody s v job passes every

-- Where all passes are done, the records of the last one's area are what the job makes of the input.
abbrev pub LastAreaMeans : Shape → Job → Contents → OpenJob → Type 0
LastAreaMeans s job v o = o.done ≡ o.passes
    → SameRecords (2 ^ s.n) (record_at v s (area_after o.passes)) (meaning s.n job (input_of v s))

-- What is answered of a state that was read: this job is open in it, or why it is not. The answers exclude one another.
abbrev pub ReadAnswer : Shape → Job → SlateState → Result OpenJob OpenError → Type 0
ReadAnswer s job state (Ok o) = (slot : ℕ) × (state ≡ Working s job o.passes o.done o.every o.part slot)
ReadAnswer s job state (Err Failed) = ⊥
ReadAnswer s job state (Err (BadPage page)) = ⊥
ReadAnswer s job state (Err NotLoaded) = state ≡ Closed
ReadAnswer s job state (Err OtherShape) = (t : Shape) × IsLoadedState t state × (t ≢ s)
ReadAnswer s job state (Err NoJob) = state ≡ Loaded s
ReadAnswer s job state (Err OtherJob) = IsLoadedState s state × ((other : Job) × IsOpenState other state × (other ≢ job))
