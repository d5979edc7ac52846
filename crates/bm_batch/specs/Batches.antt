-- A batch: what its bays are, and what calls do with each of them.
use Rattle.std.specs.Prelude.{◌≡◌, ◌≢◌, ℕ, ◌<◌, ◌≤◌, Bool, List, length, slice_index_or, Option, None, Some}
use Rattle.std.specs.List.{All}
use Rattle.bm_base.specs.declared.shape.Shape.{Shape}
use Rattle.bm_base.specs.Count.{Rose}
use Rattle.bm_base.specs.Shape.{dims_of}
use Rattle.bm_forms.specs.Plan.{StandsFor}
use Rattle.bm_rack.specs.RackView.{RackView}
use Rattle.bm_rack.specs.Image.{SameInput}
use Rattle.bm_rack.specs.Untold.{untold_view}
use Rattle.bm_control.specs.Bodies.{JobBodyFits}
use Rattle.bm_control.specs.Sound.{IsSound}
use Rattle.bm_job.specs.declared.machine.Machine.{Machine}
use Rattle.bm_job.specs.Runs.{loads_left}
use Rattle.bm_batch.specs.declared.batch_job.BatchJob.{BatchJob}
use Rattle.bm_batch.specs.declared.bay_slot.BaySlot.{BaySlot}
use Rattle.bm_batch.specs.declared.bay_state.BayState.{BayState}
use Rattle.bm_batch.specs.declared.bay_state.BayState.TheVariants.{Going, Finished, Ended}
use Rattle.bm_batch.specs.Bays.{IsBayOfShape, BayFollows, BayDone, BayBegun, BayTurns}

-- a shape, and what is known of each bay in order
pub record BatchValue : Type 0 where
  pub shape : Shape
  pub slots : List BaySlot

-- 1 to 64 bays, whose machines are of the shape: what a batch holds
pub record BatchFits (s : Shape) (slots : List BaySlot) : Type 0 where
  pub some : 1 ≤ length slots
  pub few : length slots ≤ 64
  pub of_shape : All (IsBayOfShape s) slots

-- the view of bay k
abbrev pub view_at : List RackView → ℕ → RackView
view_at views k = slice_index_or views k (untold_view None 0 0 0 0)

-- all but one element are as before
abbrev pub AreOthersSame : {A : Type 0} → ℕ → List A → List A → Type 0
AreOthersSame {A} at old new = (k : ℕ) (d : A) → k ≢ at → slice_index_or new k d ≡ slice_index_or old k d

-- ---- conditions

-- a job that may be begun: the plan stands for it, with 1 to Q passes, and `every` is 1 to N/M
pub record IsBatchJob (s : Shape) (j : BatchJob) : Type 0 where
  pub stands : StandsFor j.plan s j.job
  pub fits : JobBodyFits s j.job (length j.plan.forms) j.every

-- each rack is attached with the shape's dims
abbrev pub AreAllAttached : Shape → List RackView → Type 0
AreAllAttached s views = (k : ℕ) → k < length views → (view_at views k).attached ≡ Some (dims_of s)

-- each bay that is Going is
abbrev pub AreAttached : BatchValue → List RackView → Type 0
AreAttached b views = (k : ℕ) (d : BaySlot) → k < length b.slots → (slice_index_or b.slots k d).state ≡ Going
    → (view_at views k).attached ≡ Some (dims_of b.shape)

-- each bay is sound
abbrev pub AreSound : List RackView → Type 0
AreSound views = (k : ℕ) → k < length views → IsSound (view_at views k)

-- the machine of each bay that is Going follows that bay
abbrev pub BatchFollows : BatchValue → List RackView → Type 0
BatchFollows b views = (k : ℕ) (d : BaySlot) → k < length b.slots → BayFollows (slice_index_or b.slots k d) (view_at views k)

-- no bay is Going
abbrev pub IsNoneGoing : List BaySlot → Type 0
IsNoneGoing slots = (k : ℕ) (d : BaySlot) → k < length slots → (slice_index_or slots k d).state ≢ Going

-- some bay is
pub record IsAnyGoing (slots : List BaySlot) : Type 0 where
  pub bay : ℕ
  pub below : bay < length slots
  pub going : (d : BaySlot) → (slice_index_or slots bay d).state ≡ Going

-- ---- what calls do

-- what a begin did with each bay
pub record BatchBegun (told_stands told_contents : Bool) (s : Shape) (jobs : List BatchJob) (b : BatchValue)
    (old new : List RackView) : Type 0 where
  pub shape : b.shape ≡ s
  pub count : length b.slots ≡ length jobs
  pub bays : (k : ℕ) (j : BatchJob) (d : BaySlot) → k < length jobs
      → BayBegun told_stands told_contents s (slice_index_or jobs k j).job (length (slice_index_or jobs k j).plan.forms)
      (slice_index_or jobs k j).every (slice_index_or b.slots k d) (view_at old k) (view_at new k)

-- What turns did with each bay. Each keeps its input.
pub record BatchTurns (told_stands told_contents : Bool) (before after : BatchValue) (old new : List RackView) : Type 0 where
  pub shape : after.shape ≡ before.shape
  pub count : length after.slots ≡ length before.slots
  pub bays : (k : ℕ) (d : BaySlot) → k < length before.slots
      → BayTurns told_stands told_contents (slice_index_or before.slots k d) (slice_index_or after.slots k d) (view_at old k)
      (view_at new k)
  pub input : (k : ℕ) → k < length before.slots → SameInput (dims_of before.shape) (view_at old k) (view_at new k)

-- each bay that was sound is sound
abbrev pub AreStillSound : BatchValue → List RackView → List RackView → Type 0
AreStillSound before old new = (k : ℕ) → k < length before.slots → IsSound (view_at old k) → IsSound (view_at new k)

-- the loads that are left to a bay: none where it is not Going
abbrev pub left_by : Option Machine → BayState → ℕ
left_by (Some m) Going = loads_left m
left_by (Some m) Finished = 0
left_by (Some m) (Ended e) = 0
left_by None state = 0

abbrev pub left_of : BaySlot → ℕ
left_of slot = left_by slot.machine slot.state

-- of the first bays each that was Going has fewer loads left
abbrev pub HaveTurned : ℕ → List BaySlot → List BaySlot → Type 0
HaveTurned bays old new = (k : ℕ) (d : BaySlot) → k < bays → k < length old → (slice_index_or old k d).state ≡ Going
    → left_of (slice_index_or new k d) < left_of (slice_index_or old k d)

-- each bay that was Going and is Finished holds its job's meaning
abbrev pub AreDone : BatchValue → BatchValue → List RackView → List RackView → Type 0
AreDone before after old new = (k : ℕ) (d : BaySlot) → k < length before.slots → (slice_index_or before.slots k d).state ≡ Going
    → BayDone (slice_index_or after.slots k d) (view_at old k) (view_at new k)

-- each bay that was Going is Finished where its own count of faults did not rise
abbrev pub AreComplete : BatchValue → BatchValue → List RackView → List RackView → Type 0
AreComplete before after old new = (k : ℕ) (d : BaySlot) → k < length before.slots → (slice_index_or before.slots k d).state ≡ Going
    → ¬ Rose (view_at old k).faults (view_at new k).faults → (slice_index_or after.slots k d).state ≡ Finished
