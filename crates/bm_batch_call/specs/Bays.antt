-- One bay of a batch: what is done with it on the way, and what stands at its end.
use Rattle.std.specs.Prelude.{Err, ◌≡◌, ◌≢◌, ◌⊎◌, ℕ, ◌+◌, ◌-◌, ◌*◌, ◌^◌, ◌≤◌, IsTrue, List, length, drop, Some, None, Result, IsOk, IfErr}
use Rattle.bm_base.specs.declared.shape.Shape.{Shape}
use Rattle.bm_base.specs.Area.{area_after}
use Rattle.bm_base.specs.Contents.{Contents}
use Rattle.bm_base.specs.Count.{raised, Rose}
use Rattle.bm_base.specs.Records.{record_at, SameRecords}
use Rattle.bm_base.specs.Shape.{dims_of, stripes, loads_of, input_size}
use Rattle.bm_forms.specs.declared.job.Job.{Job}
use Rattle.bm_forms.specs.Job.{meaning}
use Rattle.bm_rack.specs.RackView.{RackView, IsClean}
use Rattle.bm_rack.specs.Frames.{Keeps, HasCause, RackCall}
use Rattle.bm_rack.specs.Image.{InEveryImage, SameInput}
use Rattle.bm_control.specs.Consistent.{input_of}
use Rattle.bm_control.specs.PageCalls.{IsLoadPage}
use Rattle.bm_control.specs.Pages.{HasOpenLoad, HasClosedLoad, HasOpenJob, HasClosedJob, HasLoadBody, HasJobBody}
use Rattle.bm_control.specs.Progress.{IsGone}
use Rattle.bm_control.specs.Sound.{IsSound}
use Rattle.bm_control.specs.State.{StateAnswer}
use Rattle.bm_control.specs.declared.state.ControlError.TheVariants as control
use Rattle.bm_job.specs.declared.answers.RunError.{RunError}
use Rattle.bm_job.specs.declared.answers.RunError.TheVariants as run
use Rattle.bm_job.specs.Runs.{IsRunnable, SameContents, load_rows, run_most}
use Rattle.bm_batch.specs.Bays.{AreAllOpen}
use Rattle.bm_batch.specs.declared.bay_state.BayState.{BayState}
use Rattle.bm_batch.specs.declared.bay_state.BayState.TheVariants.{Going, Finished, Ended}
use Rattle.bm_disks.specs.Input.{IsRead, EndsAfter}
use Rattle.bm_disks.specs.Loading.{AreGatesClosed, HoldsInput}
use Rattle.bm_top.specs.Causes.{HasOtherShape, HasOtherJob}
use Rattle.bm_top.specs.Exits.{AttachedFrom}
use Rattle.bm_top.specs.Moment.{SourceView, Tells, TellsRack}
use Rattle.bm_top.specs.Status.{IsOfInput}
use Rattle.bm_top.specs.commands.Load.{LoadRefused}
use Rattle.bm_top.specs.commands.Run.{NoSession}
use Rattle.bm_top.specs.declared.status.Status.{Status}
use Rattle.bm_top.specs.declared.status.Status.TheVariants.{OutOfMemory, DataFault, DataShort, RackFault, Exists, NoDisks, WrongDims}
use Rattle.bm_batch_call.specs.declared.words.BatchVerb.{BatchVerb}
use Rattle.bm_batch_call.specs.declared.words.BatchVerb.TheVariants.{Batch, Run}

-- ---- row calls

-- no fewer row calls than before, and at most so many more
pub record RowsFew (rows : ℕ) (old new : RackView) : Type 0 where
  pub low : old.moves ≤ new.moves
  pub high : new.moves ≤ old.moves + rows

-- the row calls of a bay at most: those of a run, N/BD more for the dump, and for `batch` as many for the load
abbrev pub most_rows : BatchVerb → Shape → Job → ℕ
most_rows Batch s job = run_most s job + 2 * stripes s
most_rows Run s job = run_most s job + stripes s

-- ---- at each exit

-- disks of the shape were made where nothing stood
pub record AreFresh (t : Tells) (s : Shape) (old new : RackView) : Type 0 where
  pub stood : IsTrue t.stands → old.stands ≡ None
  pub stands : IsTrue t.stands → new.stands ≡ Some (dims_of s)

-- what stands is as before, with its input
pub record AreKept (s : Shape) (old new : RackView) : Type 0 where
  pub stands : new.stands ≡ old.stands
  pub input : SameInput (dims_of s) old new

-- `batch` does nothing to disks that stood, and `batch-run` makes none
abbrev pub KeepsDisks : Tells → BatchVerb → Shape → RackView → RackView → Type 0
KeepsDisks t Batch s old new = NoSession old new ⊎ AreFresh t s old new
KeepsDisks t Run s old new = AreKept s old new

-- an open load gate of an image is over these bytes, and over an input of the right length
abbrev pub IsOver : Shape → Type 0 → List ℕ → Contents → Type 0
IsOver s whole bytes image = HasOpenLoad image → whole × HoldsInput s bytes image

-- disks that `batch` made are loaded with their part of a whole input or not at all, whatever a stop leaves
abbrev pub LoadsWhole : Tells → BatchVerb → Shape → Type 0 → List ℕ → RackView → RackView → Type 0
LoadsWhole t Batch s whole bytes old new =
    TellsRack t → IsTrue t.input → old.stands ≡ None → InEveryImage (IsOver s whole bytes) new
LoadsWhole t Run s whole bytes old new = Unit {0}

-- A bay that was sound is sound. No count of faults or row calls falls, no more row calls are made than those of a job of the pass limit
-- with its load and dump, and a rack that is steady and not stopping never fails.
pub record BayLeaves (t : Tells) (verb : BatchVerb) (s : Shape) (job : Job) (whole : Type 0) (bytes : List ℕ) (old new : RackView) : Type
    0 where
  pub sound : TellsRack t → IsSound old → IsSound new
  pub keeps : Keeps old new
  pub moves : RowsFew (most_rows verb s job) old new
  pub disks : KeepsDisks t verb s old new
  pub opened : LoadsWhole t verb s whole bytes old new

-- ---- a job that is done

-- The records of the last pass's area are what the job makes of this input, which stands as it was. The control file tells it, with all
-- gates open, and nothing is dirty.
pub record IsJobDone (s : Shape) (job : Job) (input : ℕ → List ℕ) (passes : ℕ) (new : RackView) : Type 0 where
  pub records : SameRecords (2 ^ s.n) (record_at new.contents s (area_after passes)) (meaning s.n job input)
  pub input_is : SameRecords (2 ^ s.n) (input_of new.contents s) input
  pub load_body : HasLoadBody s new.contents
  pub load_gate : HasOpenLoad new.contents
  pub job_gate : HasOpenJob new.contents
  pub every : ℕ
  pub body : HasJobBody s new.contents job passes every
  pub gates : AreAllOpen passes new.contents
  pub clean : IsClean new

-- ---- made and filled

-- the gates are closed in every image, and what was made where nothing stood is loaded in none
pub record BayShut (t : Tells) (s : Shape) (old new : RackView) : Type 0 where
  pub sound : TellsRack t → IsSound old → IsSound new
  pub keeps : Keeps old new
  pub moves : RowsFew (stripes s) old new
  pub disks : KeepsDisks t Batch s old new
  pub shut : TellsRack t → old.stands ≡ None → InEveryImage HasClosedLoad new

-- its disks are made and hold these bytes as records, and its gates are closed
pub record BayFilled (t : Tells) (s : Shape) (bytes : List ℕ) (old new : RackView) : Type 0 where
  pub stood : IsTrue t.stands → old.stands ≡ None
  pub stands : IsTrue t.stands → new.stands ≡ Some (dims_of s)
  pub attached : new.attached ≡ Some (dims_of s)
  pub holds : IsTrue t.input → IsTrue t.contents → HoldsInput s bytes new.contents
  pub closed : IsTrue t.contents → AreGatesClosed new
  pub no_job : IsTrue t.contents → HasClosedJob new.contents
  pub sound : TellsRack t → IsSound new
  pub keeps : Keeps old new
  pub moves : old.moves ≤ new.moves
  pub rows : new.moves ≡ raised old.moves (stripes s)

-- why it was not filled
abbrev pub FillCause : Tells → Shape → SourceView → RackView → Status → SourceView → RackView → Type 0
FillCause t s source old OutOfMemory rest new = Unit {0}
FillCause t s source old RackFault rest new = HasCause (Unit {0}) old new
FillCause t s source old Exists rest new = IsTrue t.stands → old.stands ≢ None
FillCause t s source old NoDisks rest new = ¬ IsTrue t.stands
FillCause t s source old WrongDims rest new = ¬ IsTrue t.stands
FillCause t s source old DataFault rest new = Rose source.faults rest.faults
FillCause t s source old (DataShort got) rest new = EndsAfter t.input (input_size s) source.left rest.left got
FillCause t s source old _ rest new = ⊥

pub record FillRefusal (t : Tells) (s : Shape) (source : SourceView) (old : RackView) (e : Status) (rest : SourceView)
    (new : RackView) : Type 0 where
  pub cause : FillCause t s source old e rest new
  pub bay : BayShut t s old new
  pub refused : IsOfInput e → TellsRack t → LoadRefused new

-- the call that makes and fills it
pub record FillCall (t : Tells) (s : Shape) (source : SourceView) (old : RackView) (result : Result (Unit {0}) Status) (rest : SourceView)
    (new : RackView) : Type 0 where
  pub filled : IsOk result → BayFilled t s source.left old new
  pub taken : IsTrue t.input → IsOk result → (input_size s ≤ length source.left) × (rest.left ≡ drop (input_size s) source.left)
  pub few : IsTrue t.input → IsRead (input_size s) source.left rest.left
  pub faults : source.faults ≤ rest.faults
  pub refused : IfErr result (λ e. FillRefusal t s source old e rest new)

-- ---- opened

-- what the opening of its load gate does
pub record BayOpens (t : Tells) (s : Shape) (done failed : Type 0) (old new : RackView) : Type 0 where
  pub sound : TellsRack t → old.attached ≡ Some (dims_of s) → AreGatesClosed old → IsSound new
  pub clean : done → IsClean new
  pub gate : IsTrue t.contents → done → HasOpenLoad new.contents
  pub body : IsTrue t.contents → done → HasLoadBody s new.contents
  pub call : RackCall IsLoadPage failed old new
  pub moves : new.moves ≡ old.moves

-- it is loaded with these bytes, and no job is open
pub record BayLoaded (t : Tells) (s : Shape) (bytes : List ℕ) (old new : RackView) : Type 0 where
  pub stood : IsTrue t.stands → old.stands ≡ None
  pub stands : IsTrue t.stands → new.stands ≡ Some (dims_of s)
  pub attached : new.attached ≡ Some (dims_of s)
  pub holds : IsTrue t.input → IsTrue t.contents → HoldsInput s bytes new.contents
  pub load_body : IsTrue t.contents → HasLoadBody s new.contents
  pub load_gate : IsTrue t.contents → HasOpenLoad new.contents
  pub no_job : IsTrue t.contents → HasClosedJob new.contents
  pub clean : IsClean new
  pub sound : TellsRack t → IsSound new
  pub keeps : Keeps old new
  pub moves : old.moves ≤ new.moves
  pub rows : new.moves ≡ raised old.moves (stripes s)

-- ---- attached

pub record BayAttached (t : Tells) (s : Shape) (old new : RackView) : Type 0 where
  pub stood : IsTrue t.stands → old.stands ≡ Some (dims_of s)
  pub attached : new.attached ≡ Some (dims_of s)
  pub from : AttachedFrom old new

-- why it was not attached
abbrev pub AttachCause : Tells → Shape → RackView → Status → RackView → Type 0
AttachCause t s old OutOfMemory new = Unit {0}
AttachCause t s old RackFault new = HasCause (Unit {0}) old new
AttachCause t s old NoDisks new = IsTrue t.stands → old.stands ≡ None
AttachCause t s old WrongDims new = IsTrue t.stands → (old.stands ≢ None) × (old.stands ≢ Some (dims_of s))
AttachCause t s old _ new = ⊥

pub record AttachFails (t : Tells) (s : Shape) (old : RackView) (e : Status) (new : RackView) : Type 0 where
  pub cause : AttachCause t s old e new
  pub from : AttachedFrom old new

-- ---- ready

-- its job may be begun
abbrev pub BayReady : Tells → BatchVerb → Shape → List ℕ → RackView → RackView → Type 0
BayReady t Batch s bytes old new = BayLoaded t s bytes old new
BayReady t Run s bytes old new = BayAttached t s old new

-- ---- begun, and with all its turns

-- what the control file told of a job that was refused by it
abbrev pub RunRefusal : Shape → Job → Contents → RunError → Type 0
RunRefusal s job v run.Failed = Unit {0}
RunRefusal s job v run.NotLoaded = HasClosedLoad v
RunRefusal s job v run.OtherShape = HasOtherShape s v
RunRefusal s job v run.OtherJob = HasOtherJob s job v
RunRefusal s job v (run.BadPage page) = StateAnswer v (Err (control.BadPage page))

-- The row calls of a job that was done: 2M/BD for each load that was left of its passes.
pub record RanRows (s : Shape) (passes : ℕ) (old new : RackView) : Type 0 where
  pub gone : ℕ
  pub is_gone : IsGone old.contents gone
  pub rows : new.moves ≡ raised old.moves (load_rows s (passes * loads_of s - gone))

pub record BayRan (t : Tells) (s : Shape) (job : Job) (passes : ℕ) (state : BayState) (old new : RackView) : Type 0 where
  pub over : state ≢ Going
  pub done : TellsRack t → IsSound old → state ≡ Finished → IsJobDone s job (input_of old.contents s) passes new
  pub sound : TellsRack t → IsSound old → IsSound new
  pub input : SameInput (dims_of s) old new
  pub stands : new.stands ≡ old.stands
  pub attached : new.attached ≡ old.attached
  pub keeps : Keeps old new
  pub moves : RowsFew (run_most s job) old new
  pub moved : IsTrue t.contents → state ≡ Finished → RanRows s passes old new
  pub failed : HasCause (state ≡ Ended run.Failed) old new
  pub refusal : IsTrue t.contents → (e : RunError) → state ≡ Ended e → RunRefusal s job old.contents e
  pub kept : IsTrue t.contents → (e : RunError) → state ≡ Ended e → e ≢ run.Failed → SameContents old new
  pub good : TellsRack t → IsSound old → (page : ℕ) → state ≢ Ended (run.BadPage page)
  pub only : TellsRack t → IsSound old → IsRunnable s job old.contents → (e : RunError) → state ≡ Ended e → e ≡ run.Failed
