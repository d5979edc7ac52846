-- What a begin answers and does.
use Rattle.std.specs.Prelude.{Ok, Err, ◌≡◌, ◌≢◌, ◌⊎◌, ℕ, ◌+◌, ◌*◌, ◌<◌, Result, Option, Some, None, IsTrue}
use Rattle.bm_base.specs.declared.dims.Dims.{Dims}
use Rattle.bm_base.specs.declared.shape.Shape.{Shape}
use Rattle.bm_base.specs.Contents.{Contents}
use Rattle.bm_forms.specs.declared.job.Job.{Job}
use Rattle.bm_rack.specs.RackView.{RackView}
use Rattle.bm_rack.specs.Image.{IsImage}
use Rattle.bm_control.specs.declared.state.SlateState.{SlateState}
use Rattle.bm_control.specs.declared.state.SlateState.TheVariants.{Closed, Loaded, Working}
use Rattle.bm_control.specs.declared.state.ControlError.TheVariants as control
use Rattle.bm_control.specs.Pages.{HasOpenLoad, HasOpenJob, HasClosedJob, HasLoadBody, HasJobBody, no_slot}
use Rattle.bm_rack.specs.Frames.{MakesPageCalls}
use Rattle.bm_control.specs.State.{StateAnswer, HasPassBody}
use Rattle.bm_job.specs.declared.machine.Machine.{Machine}
use Rattle.bm_job.specs.declared.answers.RunError.{RunError}
use Rattle.bm_job.specs.declared.answers.RunError.TheVariants.{Failed, NotLoaded, OtherShape, OtherJob, BadPage}

-- a machine of this job that has moved nothing yet
pub record IsFresh (s : Shape) (job : Job) (m : Machine) : Type 0 where
  pub shape : m.shape ≡ s
  pub job_is : m.job ≡ job
  pub load : m.load ≡ m.part
  pub form : m.form ≡ None
  pub alive : IsTrue m.alive

-- it is at the start of a job with so many passes
pub record IsStart (passes every : ℕ) (m : Machine) : Type 0 where
  pub passes_are : m.passes ≡ passes
  pub every_is : m.every ≡ every
  pub done : m.done ≡ 0
  pub part : m.part ≡ 0
  pub slot : m.slot ≡ no_slot

-- the open job that a machine knows
abbrev pub state_of : Machine → SlateState
state_of m = Working m.shape m.job m.passes m.done m.every m.part m.slot

-- a shape is loaded, with a job open or not
abbrev pub IsLoadedState : Shape → SlateState → Type 0
IsLoadedState s Closed = ⊥
IsLoadedState s (Loaded t) = t ≡ s
IsLoadedState s (Working t job passes done every part slot) = t ≡ s

-- a job is open
abbrev pub IsOpenState : Job → SlateState → Type 0
IsOpenState job Closed = ⊥
IsOpenState job (Loaded t) = ⊥
IsOpenState job (Working t other passes done every part slot) = other ≡ job

-- what is answered of the control file, once what was written is durable
abbrev pub SettledAnswer : Contents → Result SlateState RunError → Type 0
SettledAnswer v (Ok state) = StateAnswer v (Ok state)
SettledAnswer v (Err Failed) = Unit {0}
SettledAnswer v (Err NotLoaded) = ⊥
SettledAnswer v (Err OtherShape) = ⊥
SettledAnswer v (Err OtherJob) = ⊥
SettledAnswer v (Err (BadPage page)) = StateAnswer v (Err (control.BadPage page))

-- its page calls and syncs at most, by what is told
abbrev pub SettledCounts : SlateState → RackView → RackView → Type 0
SettledCounts Closed old new = MakesPageCalls ⊥ 1 1 old new
SettledCounts (Loaded s) old new = MakesPageCalls ⊥ 3 1 old new
SettledCounts (Working s job passes done every part slot) old new = MakesPageCalls ⊥ (8 + 2 * passes) 1 old new

-- and, whatever is answered, by what stands there
pub record SettledPages (v : Contents) (old new : RackView) : Type 0 where
  pub idle : HasClosedJob v → MakesPageCalls ⊥ 3 1 old new
  pub bare : ((s : Shape) (job : Job) (p every : ℕ) → HasLoadBody s v → ¬ HasJobBody s v job p every)
      → MakesPageCalls ⊥ 4 1 old new
  pub most : (s : Shape) (job : Job) (p every : ℕ) → HasLoadBody s v → HasJobBody s v job p every
      → MakesPageCalls ⊥ (8 + 2 * p) 1 old new

-- What is answered of a state that was read: a machine where the job is open, none where it is to be opened, or why it can be neither. The
-- answers exclude one another.
abbrev pub ResumeAnswer : Shape → Job → SlateState → Result (Option Machine) RunError → Type 0
ResumeAnswer s job state (Ok None) = state ≡ Loaded s
ResumeAnswer s job state (Ok (Some m)) = IsFresh s job m × (state ≡ state_of m)
ResumeAnswer s job state (Err Failed) = ⊥
ResumeAnswer s job state (Err NotLoaded) = state ≡ Closed
ResumeAnswer s job state (Err OtherShape) = (t : Shape) × IsLoadedState t state × (t ≢ s)
ResumeAnswer s job state (Err OtherJob) = IsLoadedState s state × ((other : Job) × IsOpenState other state × (other ≢ job))
ResumeAnswer s job state (Err (BadPage page)) = ⊥

-- What is answered of contents on which a job is begun with so many passes: the machine of the open job, or that of a new one where none
-- is open, or the refusal, in the order of the tests. The answers exclude one another.
abbrev pub BeginAnswer : Shape → Job → ℕ → ℕ → Contents → Result Machine RunError → Type 0
BeginAnswer s job passes every v (Ok m) =
    IsFresh s job m × ((StateAnswer v (Ok (Loaded s)) × IsStart passes every m) ⊎ StateAnswer v (Ok (state_of m)))
BeginAnswer s job passes every v (Err Failed) = Unit {0}
BeginAnswer s job passes every v (Err NotLoaded) = StateAnswer v (Ok Closed)
BeginAnswer s job passes every v (Err OtherShape) =
    (state : SlateState) × StateAnswer v (Ok state) × ((t : Shape) × IsLoadedState t state × (t ≢ s))
BeginAnswer s job passes every v (Err OtherJob) =
    (state : SlateState) × StateAnswer v (Ok state) × IsLoadedState s state × ((other : Job) × IsOpenState other state × (other ≢ job))
BeginAnswer s job passes every v (Err (BadPage page)) = StateAnswer v (Err (control.BadPage page))

-- a shape is loaded, and no job is open
pub record IsLoadedAlone (s : Shape) (v : Contents) : Type 0 where
  pub load_gate : HasOpenLoad v
  pub load_body : HasLoadBody s v
  pub job_gate : HasClosedJob v

-- the body of each of its passes stands on its page
abbrev pub HasBodies : Machine → Contents → Type 0
HasBodies m v = (k : ℕ) → k < m.passes → HasPassBody m.shape v k

-- each image at the end in which a job is open is one from before, or its job body decodes to this job with these numbers
abbrev pub OpensOnly : Shape → Job → ℕ → ℕ → RackView → RackView → Type 0
OpensOnly s job passes every old new = (dims : Dims) (image : Contents) → new.stands ≡ Some dims → IsImage dims new image → HasOpenJob image
    → IsImage dims old image ⊎ HasJobBody s image job passes every

-- The page calls and syncs at most, whatever is answered: by the plan's passes where no job is open or its body is none, else by the open
-- job's.
pub record BeginCalls (v : Contents) (passes : ℕ) (old new : RackView) : Type 0 where
  pub none : HasClosedJob v → MakesPageCalls ⊥ (7 + 2 * passes) 3 old new
  pub bare : ((s : Shape) (job : Job) (p every : ℕ) → HasLoadBody s v → ¬ HasJobBody s v job p every)
      → MakesPageCalls ⊥ (7 + 2 * passes) 3 old new
  pub opened : HasOpenJob v → (s : Shape) (job : Job) (p every : ℕ) → HasLoadBody s v
      → HasJobBody s v job p every → MakesPageCalls ⊥ (8 + 2 * p) 1 old new
