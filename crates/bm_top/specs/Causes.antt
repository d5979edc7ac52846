-- Why a command that has its job answers so: one line an answer.
use Rattle.std.specs.Prelude.{Ok, Err, ◌≡◌, ◌≢◌, ℕ, ◌<◌, Option, Some, None, IsTrue}
use Rattle.bm_base.specs.declared.dims.Dims.{Dims}
use Rattle.bm_base.specs.declared.shape.Shape.{Shape}
use Rattle.bm_base.specs.Contents.{Contents}
use Rattle.bm_base.specs.Count.{Rose}
use Rattle.bm_base.specs.Shape.{dims_of, input_size}
use Rattle.bm_forms.specs.declared.job.Job.{Job}
use Rattle.bm_rack.specs.RackView.{RackView}
use Rattle.bm_control.specs.Pages.{HasClosedLoad, HasClosedJob}
use Rattle.bm_control.specs.declared.state.SlateState.{SlateState}
use Rattle.bm_control.specs.declared.state.SlateState.TheVariants.{Loaded, Working}
use Rattle.bm_control.specs.declared.state.ControlError.TheVariants as control
use Rattle.bm_control.specs.Sound.{IsSound}
use Rattle.bm_control.specs.State.{StateAnswer}
use Rattle.bm_job.specs.Begins.{IsLoadedState, IsOpenState}
use Rattle.bm_job.specs.Runs.{SameContents}
use Rattle.bm_detect.specs.declared.detect_error.DetectError.{DetectError}
use Rattle.bm_detect.specs.declared.detect_error.DetectError.TheVariants as refusal
use Rattle.bm_detect.specs.Candidate.{input_number}
use Rattle.bm_detect.specs.Answer.{DetectAnswer}
use Rattle.bm_disks.specs.Input.{EndsAfter, GoesOnAfter}
use Rattle.bm_top.specs.Moment.{Devices, Tells, TellsRack}
use Rattle.bm_top.specs.declared.task.Task.{Task}
use Rattle.bm_top.specs.declared.words.Verb.{Verb}
use Rattle.bm_top.specs.declared.words.Verb.TheVariants.{New, Plan, Drop, Carry, Drill}
use Rattle.bm_top.specs.declared.status.Status.{Status}
use Rattle.bm_top.specs.declared.status.Status.TheVariants.{Done, OutOfMemory, DataFault, DataShort, DataLong, RackFault, NoDisks}
use Rattle.bm_top.specs.declared.status.Status.TheVariants.{WrongDims, Exists, NotLoaded, OtherShape, OtherJob, NotDone, NoJob, BadPage}
use Rattle.bm_top.specs.declared.status.Status.TheVariants.{SinkFault, OutOfRange, NotAffine, NotPermutation}

-- ---- what stands

-- what stands where the command goes on: nothing where it makes the disks, those of the shape where it attaches them, and anything where it
-- touches none
abbrev pub GoesOn : Verb → Dims → Option Dims → Type 0
GoesOn New dims stands = stands ≡ None
GoesOn Carry dims stands = stands ≡ None
GoesOn Plan dims stands = Unit {0}
GoesOn Drill dims stands = Unit {0}
GoesOn _ dims stands = stands ≡ Some dims

abbrev pub HasDisks : Tells → Verb → Task → Devices → Type 0
HasDisks t verb task old = IsTrue t.stands → GoesOn verb (dims_of task.shape) old.rack.stands

-- the command attaches disks that stood before; those that it has just made stand
abbrev pub Attaches : Verb → Type 0
Attaches New = ⊥
Attaches Carry = ⊥
Attaches Plan = ⊥
Attaches Drill = ⊥
Attaches _ = Unit {0}

-- ---- what the control file tells

-- a job is open at the shape, with so many passes, of which so many are done
pub record HasJob (s : Shape) (job : Job) (passes done : ℕ) (v : Contents) : Type 0 where
  pub every : ℕ
  pub part : ℕ
  pub slot : ℕ
  pub working : StateAnswer v (Ok (Working s job passes done every part slot))

-- records of this shape are loaded, whichever job is open
pub record HasLoadedShape (s : Shape) (v : Contents) : Type 0 where
  pub state : SlateState
  pub told : StateAnswer v (Ok state)
  pub loaded : IsLoadedState s state

-- records of this shape are loaded, and their numbers are no affine permutation of the addresses, for this first cause
pub record IsUndetected (s : Shape) (cause : DetectError) (v : Contents) : Type 0 where
  pub loaded : HasLoadedShape s v
  pub numbers : DetectAnswer s.n (input_number v s) (Err cause)

-- another shape is loaded
pub record HasOtherShape (s : Shape) (v : Contents) : Type 0 where
  pub state : SlateState
  pub told : StateAnswer v (Ok state)
  pub other : Shape
  pub loaded : IsLoadedState other state
  pub differs : other ≢ s

-- another job is open at the shape
pub record HasOtherJob (s : Shape) (job : Job) (v : Contents) : Type 0 where
  pub state : SlateState
  pub told : StateAnswer v (Ok state)
  pub loaded : IsLoadedState s state
  pub other : Job
  pub opened : IsOpenState other state
  pub differs : other ≢ job

-- no job is open: a drop looks at the job gate alone
abbrev pub HasNoJob : Verb → Shape → Contents → Type 0
HasNoJob Drop s v = HasClosedJob v
HasNoJob _ s v = StateAnswer v (Ok (Loaded s))

-- this page is the first that is wrong, which never comes on a sound rack; nothing was done to the rack
pub record HasBadPage (t : Tells) (old new : RackView) (page : ℕ) : Type 0 where
  pub unsound : TellsRack t → ¬ IsSound old
  pub wrong : StateAnswer old.contents (Err (control.BadPage page))
  pub same : SameContents old new

-- A refusal by what the control file tells at the entry of the command. Of disks that tell all and that the command has made itself, no
-- such refusal comes.
abbrev pub IsToldBy : Verb → Tells → Type 0 → Type 0
IsToldBy Carry t P = ¬ TellsRack t
IsToldBy _ t P = IsTrue t.contents → P

-- the command came to its disks, and their control file says this
abbrev pub SlateSays : Tells → Verb → Task → Devices → (Contents → Type 0) → Type 0
SlateSays t verb task old P = HasDisks t verb task old × IsToldBy verb t (P old.rack.contents)

-- ---- the table

-- Why the answer comes. The causes exclude one another, but for the faults of devices, which stand in place of any other answer, and want
-- of memory. Answers that no command gives once its job is read are none.
abbrev pub CauseOf : Tells → Verb → Task → Devices → Status → Devices → Type 0
CauseOf t verb task old Done new = HasDisks t verb task old
CauseOf t verb task old OutOfMemory new = Unit {0}
CauseOf t verb task old DataFault new = HasDisks t verb task old × Rose old.input.faults new.input.faults
CauseOf t verb task old (DataShort got) new =
    HasDisks t verb task old × EndsAfter t.input (input_size task.shape) old.input.left new.input.left got
CauseOf t verb task old DataLong new =
    HasDisks t verb task old × GoesOnAfter t.input (input_size task.shape) old.input.left new.input.left
CauseOf t verb task old RackFault new = Rose old.rack.faults new.rack.faults
CauseOf t verb task old NoDisks new = IsTrue t.stands → Attaches verb × (old.rack.stands ≡ None)
CauseOf t verb task old WrongDims new =
    IsTrue t.stands → Attaches verb × (old.rack.stands ≢ None) × (old.rack.stands ≢ Some (dims_of task.shape))
CauseOf t verb task old Exists new = IsTrue t.stands → old.rack.stands ≢ None
CauseOf t verb task old NotLoaded new = SlateSays t verb task old (λ v. HasClosedLoad v)
CauseOf t verb task old OtherShape new = SlateSays t verb task old (HasOtherShape task.shape)
CauseOf t verb task old OtherJob new = SlateSays t verb task old (HasOtherJob task.shape task.job)
CauseOf t verb task old (NotDone done all) new =
    SlateSays t verb task old (λ v. (done < all) × HasJob task.shape task.job all done v)
CauseOf t verb task old NoJob new = SlateSays t verb task old (HasNoJob verb task.shape)
CauseOf t verb task old (BadPage page) new =
    SlateSays t verb task old (λ v. HasBadPage t old.rack new.rack page)
CauseOf t verb task old SinkFault new = HasDisks t verb task old × Rose old.out.faults new.out.faults
CauseOf t verb task old (OutOfRange x y) new = SlateSays t verb task old (IsUndetected task.shape (refusal.OutOfRange x y))
CauseOf t verb task old (NotAffine x y want) new = SlateSays t verb task old (IsUndetected task.shape (refusal.NotAffine x y want))
CauseOf t verb task old (NotPermutation x) new = SlateSays t verb task old (IsUndetected task.shape (refusal.Singular x))
CauseOf t verb task old _ new = ⊥
