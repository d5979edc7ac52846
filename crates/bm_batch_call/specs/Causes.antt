-- Why a batch whose texts are read answers so: one line an answer.
use Rattle.std.specs.Prelude.{Err, ◌≡◌, ◌≢◌, ℕ, ◌*◌, ◌<◌, ◌≤◌, IsTrue, length, drop, Some, None}
use Rattle.bm_base.specs.Count.{Rose}
use Rattle.bm_base.specs.Records.{record_in}
use Rattle.bm_base.specs.Shape.{dims_of, input_size}
use Rattle.bm_rack.specs.RackView.{RackView}
use Rattle.bm_rack.specs.Frames.{HasCause}
use Rattle.bm_control.specs.Consistent.{input_of}
use Rattle.bm_control.specs.Pages.{HasClosedLoad}
use Rattle.bm_control.specs.Sound.{IsSound}
use Rattle.bm_control.specs.State.{StateAnswer}
use Rattle.bm_control.specs.declared.state.ControlError.TheVariants as control
use Rattle.bm_job.specs.Runs.{SameContents}
use Rattle.bm_disks.specs.Input.{EndsAfter, GoesOnAfter}
use Rattle.bm_top.specs.Causes.{HasOtherShape, HasOtherJob}
use Rattle.bm_top.specs.Moment.{SourceView, Tells, TellsRack}
use Rattle.bm_top.specs.declared.status.Status.{Status}
use Rattle.bm_top.specs.declared.status.Status.TheVariants.{Done, OutOfMemory, DataFault, DataShort, DataLong, RackFault, NoDisks}
use Rattle.bm_top.specs.declared.status.Status.TheVariants.{WrongDims, Exists, NotLoaded, OtherShape, OtherJob, BadPage, SinkFault}
use Rattle.bm_batch.specs.Batches.{view_at}
use Rattle.bm_batch_call.specs.declared.words.BatchVerb.{BatchVerb}
use Rattle.bm_batch_call.specs.declared.words.BatchVerb.TheVariants.{Batch, Run}
use Rattle.bm_batch_call.specs.Bays.{IsJobDone}
use Rattle.bm_batch_call.specs.Lists.{FirstOf}
use Rattle.bm_batch_call.specs.Moment.{BatchDevices, Work, whole_size, part_of}

-- ---- bays

-- what stands where the call goes on: nothing where it makes the disks, else those of the shape
abbrev pub GoesOn : Tells → BatchVerb → Work → RackView → Type 0
GoesOn t Batch w old = IsTrue t.stands → old.stands ≡ None
GoesOn t Run w old = IsTrue t.stands → old.stands ≡ Some (dims_of w.shape)

abbrev pub HaveDisks : Tells → BatchVerb → Work → BatchDevices → Type 0
HaveDisks t verb w old = (k : ℕ) → k < w.count → GoesOn t verb w (view_at old.bays k)

-- the job of this bay is done, with its part of the input, or with the input that a sound bay holds
abbrev pub IsBayMade : Tells → BatchVerb → Work → BatchDevices → ℕ → ℕ → RackView → Type 0
IsBayMade t Batch w old k passes new =
    TellsRack t → IsTrue t.input → IsJobDone w.shape (w.job k) (record_in w.shape (part_of w old.input.left k)) passes new
IsBayMade t Run w old k passes new =
    TellsRack t → IsSound (view_at old.bays k) → IsJobDone w.shape (w.job k) (input_of (view_at old.bays k).contents w.shape) passes new

-- that of every bay before this one
abbrev pub IsMadeBefore : Tells → BatchVerb → Work → BatchDevices → BatchDevices → ℕ → Type 0
IsMadeBefore t verb w old new k = (passes : ℕ) × IsBayMade t verb w old k passes (view_at new.bays k)

-- A refusal by what the control file of a bay tells at the entry. Of disks that tell all and that the call has made itself, no such refusal
-- comes.
abbrev pub IsToldBy : Tells → BatchVerb → Type 0 → Type 0
IsToldBy t Batch P = ¬ TellsRack t
IsToldBy t Run P = IsTrue t.contents → P

-- In the first bay whose job was refused this is so. Its contents are as before, and it made no row call. The jobs of those before it are
-- done.
pub record IsEnded (t : Tells) (verb : BatchVerb) (w : Work) (old new : BatchDevices) (P : RackView → ℕ → Type 0) : Type 0 where
  pub disks : HaveDisks t verb w old
  pub first : FirstOf w.count (IsMadeBefore t verb w old new)
      (λ k. IsToldBy t verb (P (view_at old.bays k) k × SameContents (view_at old.bays k) (view_at new.bays k)))

-- this page of a control file is the first that is wrong, which never comes on a sound rack
pub record HasWrongPage (t : Tells) (page : ℕ) (v : RackView) : Type 0 where
  pub unsound : TellsRack t → ¬ IsSound v
  pub wrong : StateAnswer v.contents (Err (control.BadPage page))

-- ---- input and disks

abbrev pub Makes : BatchVerb → Type 0
Makes Batch = Unit {0}
Makes Run = ⊥

-- the input ended in the part of the first bay that it did not fill
abbrev pub EndsIn : Tells → Work → SourceView → SourceView → ℕ → ℕ → Type 0
EndsIn t w old new got k = EndsAfter t.input (input_size w.shape) (drop (k * input_size w.shape) old.left) new.left got
    × (IsTrue t.input → k * input_size w.shape ≤ length old.left)

-- the first bay whose disks could not be had so
abbrev pub IsFirstOf : Tells → BatchVerb → Work → BatchDevices → (RackView → Type 0) → Type 0
IsFirstOf t verb w old P =
    FirstOf w.count (λ k. GoesOn t verb w (view_at old.bays k)) (λ k. IsTrue t.stands → P (view_at old.bays k))

-- disks are missing, or others stand: of those just made, on racks alone that don't tell what stands
abbrev pub LacksDisks : Tells → BatchVerb → Work → BatchDevices → (RackView → Type 0) → Type 0
LacksDisks t Batch w old P = ¬ IsTrue t.stands
LacksDisks t Run w old P = IsFirstOf t Run w old P

-- the rack of some bay failed
pub record HasFailed (w : Work) (old new : BatchDevices) : Type 0 where
  pub bay : ℕ
  pub below : bay < w.count
  pub cause : HasCause (Unit {0}) (view_at old.bays bay) (view_at new.bays bay)

-- ---- the table

-- Why the answer comes. Answers that no batch gives once its texts are read and are of one shape are none.
abbrev pub BatchCause : Tells → BatchVerb → Work → BatchDevices → Status → BatchDevices → Type 0
BatchCause t verb w old Done new = HaveDisks t verb w old
BatchCause t verb w old OutOfMemory new = Unit {0}
BatchCause t verb w old DataFault new = Makes verb × Rose old.input.faults new.input.faults
BatchCause t verb w old (DataShort got) new = Makes verb × FirstOf w.count (λ k. Unit {0}) (EndsIn t w old.input new.input got)
BatchCause t verb w old DataLong new =
    Makes verb × HaveDisks t verb w old × GoesOnAfter t.input (whole_size w) old.input.left new.input.left
BatchCause t verb w old RackFault new = HasFailed w old new
BatchCause t verb w old NoDisks new = LacksDisks t verb w old (λ v. v.stands ≡ None)
BatchCause t verb w old WrongDims new = LacksDisks t verb w old (λ v. (v.stands ≢ None) × (v.stands ≢ Some (dims_of w.shape)))
BatchCause t verb w old Exists new = Makes verb × IsFirstOf t verb w old (λ v. v.stands ≢ None)
BatchCause t verb w old NotLoaded new = IsEnded t verb w old new (λ v k. HasClosedLoad v.contents)
BatchCause t verb w old OtherShape new = IsEnded t verb w old new (λ v k. HasOtherShape w.shape v.contents)
BatchCause t verb w old OtherJob new = IsEnded t verb w old new (λ v k. HasOtherJob w.shape (w.job k) v.contents)
BatchCause t verb w old (BadPage page) new = IsEnded t verb w old new (λ v k. HasWrongPage t page v)
BatchCause t verb w old SinkFault new = HaveDisks t verb w old × Rose old.out.faults new.out.faults
BatchCause t verb w old _ new = ⊥
