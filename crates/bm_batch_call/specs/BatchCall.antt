-- What the call does.
use Rattle.std.specs.Prelude.{◌≡◌, ◌⊎◌, ◌↔◌, ℕ, ◌<◌, ◌≤◌, IsTrue, List, length, Some, None, String, Result, IsOk, IfErr}
use Rattle.std.specs.declared.alloc.Global.{Global}
use Rattle.bm_base.specs.Count.{Rose}
use Rattle.bm_base.specs.Shape.{dims_of}
use Rattle.bm_control.specs.Sound.{IsSound}
use Rattle.bm_job.specs.Runs.{IsRunnable}
use Rattle.bm_top.specs.Moment.{Tells, TellsRack}
use Rattle.bm_top.specs.Status.{IsOfInput, RefusesJob}
use Rattle.bm_top.specs.TopCall.{IsDoneUnlessMemory}
use Rattle.bm_top.specs.commands.Load.{LoadRefused}
use Rattle.bm_top.specs.commands.Run.{NoSession}
use Rattle.bm_top.specs.declared.task.Task.{Task}
use Rattle.bm_top.specs.declared.status.Status.{Status}
use Rattle.bm_top.specs.declared.status.Status.TheVariants.{OutOfMemory, Usage, BatchShape}
use Rattle.bm_batch.specs.Batches.{view_at}
use Rattle.bm_batch_call.specs.declared.words.BatchVerb.{BatchVerb}
use Rattle.bm_batch_call.specs.declared.words.BatchVerb.TheVariants.{Batch, Run}
use Rattle.bm_batch_call.specs.Bays.{BayLeaves, BayReady}
use Rattle.bm_batch_call.specs.Causes.{BatchCause}
use Rattle.bm_batch_call.specs.Moment.{BatchDevices, BatchMoment, Work, work_of, whole_size, part_of}
use Rattle.bm_batch_call.specs.Output.{HasOutput, ReadsFew, TakesInput}
use Rattle.bm_batch_call.specs.Texts.{AreRead, AreRefused, AreWell, IsAfterTexts, IsFirstOther, AreOfOneShape}
use Rattle.bm_batch_call.specs.Words.{IsBatchWords, IsNoBatch}

-- ---- jobs of one shape

-- no device failed
pub record NoFaults (w : Work) (old new : BatchDevices) : Type 0 where
  pub input : ¬ Rose old.input.faults new.input.faults
  pub out : ¬ Rose old.out.faults new.out.faults
  pub bays : (k : ℕ) → k < w.count → ¬ Rose (view_at old.bays k).faults (view_at new.bays k).faults

-- Where `batch` is Done, if no device fails: nothing stands in any bay, and the input fits exactly.
pub record IsBatchCase (t : Tells) (w : Work) (old : BatchDevices) : Type 0 where
  pub told : TellsRack t
  pub absent : (k : ℕ) → k < w.count → (view_at old.bays k).stands ≡ None
  pub input_told : IsTrue t.input
  pub size : length old.input.left ≡ whole_size w

-- Where `batch-run` is: each bay is sound, the shape is loaded there, and no job or its own is open.
pub record IsRunCase (t : Tells) (w : Work) (old : BatchDevices) : Type 0 where
  pub told : TellsRack t
  pub stands : (k : ℕ) → k < w.count → (view_at old.bays k).stands ≡ Some (dims_of w.shape)
  pub sound : (k : ℕ) → k < w.count → IsSound (view_at old.bays k)
  pub runnable : (k : ℕ) → k < w.count → IsRunnable w.shape (w.job k) (view_at old.bays k).contents

abbrev pub IsCase : Tells → BatchVerb → Work → BatchDevices → Type 0
IsCase t Batch w old = IsBatchCase t w old
IsCase t Run w old = IsRunCase t w old

-- what an input that is refused leaves of a bay: no load gate is open, whatever a stop leaves
abbrev pub LeavesShut : Tells → BatchDevices → BatchDevices → ℕ → Type 0
LeavesShut t old new k = TellsRack t → (view_at old.bays k).stands ≡ None → LoadRefused (view_at new.bays k)

-- what want of memory leaves of a bay: `batch` may have made and loaded it
abbrev pub LeavesMemory : BatchVerb → BatchDevices → BatchDevices → ℕ → Type 0
LeavesMemory Batch old new k = Unit {0}
LeavesMemory Run old new k = NoSession (view_at old.bays k) (view_at new.bays k)

-- What a batch does once its texts are read and are of one shape.
pub record BatchCall (t : Tells) (verb : BatchVerb) (w : Work) (old : BatchDevices) (answer : Status) (new : BatchDevices) : Type 0 where
  pub cause : BatchCause t verb w old answer new
  pub output : HasOutput t verb w old answer new
  pub count : length new.bays ≡ length old.bays
  pub bays : (k : ℕ) → k < w.count
      → BayLeaves t verb w.shape (w.job k) (length old.input.left ≡ whole_size w) (part_of w old.input.left k)
      (view_at old.bays k) (view_at new.bays k)
  pub refused : IsOfInput answer → (k : ℕ) → k < w.count → LeavesShut t old new k
  pub memory : answer ≡ OutOfMemory → (k : ℕ) → k < w.count → LeavesMemory verb old new k
  pub few : ReadsFew t verb w old.input new.input
  pub input_faults : old.input.faults ≤ new.input.faults
  pub out_faults : old.out.faults ≤ new.out.faults
  pub complete : IsCase t verb w old → NoFaults w old new → IsDoneUnlessMemory answer

-- ---- the whole call

-- Once the texts are read: a shape that differs is refused before all else, and leaves everything as it was.
pub record TasksCall (t : Tells) (verb : BatchVerb) (count : ℕ) (tasks : ℕ → Task) (old : BatchDevices) (answer : Status)
    (new : BatchDevices) : Type 0 where
  pub late : IsAfterTexts answer
  pub shape : (bay : ℕ) → (answer ≡ BatchShape bay) ↔ IsFirstOther count tasks bay
  pub other : (bay : ℕ) → IsFirstOther count tasks bay → new ≡ old
  pub call : AreOfOneShape count tasks → BatchCall t verb (work_of count tasks) old answer new

-- The texts are read in order. One that is refused, or that memory was refused for, leaves all else as it was. Otherwise the sources hold
-- tasks, and the call does them. Where no text is at fault and no source fails, no text is refused.
pub record VerbCall (t : Tells) (verb : BatchVerb) (count : ℕ) (old : BatchMoment) (answer : Status) (new : BatchMoment) : Type 0 where
  pub task : (AreRefused t.job old.jobs answer new.jobs × (new.devices ≡ old.devices))
      ⊎ ((tasks : ℕ → Task) × AreRead t.job count tasks old.jobs new.jobs × TasksCall t verb count tasks old.devices answer new.devices)
  pub accepted : IsTrue t.job → AreWell old.jobs new.jobs → ¬ RefusesJob answer

-- The whole call but its last line, which only `err` takes.
pub record BatchTop (t : Tells) (words : List (String Global)) (old : BatchMoment) (answer : Status) (new : BatchMoment) : Type 0 where
  pub usage : (answer ≡ Usage) ↔ IsNoBatch words
  pub nothing : IsNoBatch words → new ≡ old
  pub batch : (verb : BatchVerb) (seed : ℕ) (names : List (List ℕ)) → IsBatchWords words verb seed names
      → VerbCall t verb (length names) old answer new

-- ---- on the way

-- from the start to the moment at which every bay is ready for its job
pub record AreReady (t : Tells) (verb : BatchVerb) (w : Work) (old new : BatchDevices) : Type 0 where
  pub many : length old.bays ≡ w.count
  pub count : length new.bays ≡ length old.bays
  pub bays : (k : ℕ) → k < w.count
      → BayReady t verb w.shape (part_of w old.input.left k) (view_at old.bays k) (view_at new.bays k)
  pub input : TakesInput t verb w old.input new.input
  pub input_faults : old.input.faults ≤ new.input.faults
  pub out : new.out ≡ old.out

-- they are made ready, or the call ends
pub record PrepareCall (t : Tells) (verb : BatchVerb) (w : Work) (old : BatchDevices) (result : Result (Unit {0}) Status)
    (new : BatchDevices) : Type 0 where
  pub ready : IsOk result → AreReady t verb w old new
  pub refused : IfErr result (λ e. BatchCall t verb w old e new)
