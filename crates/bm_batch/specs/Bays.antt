-- One bay: what its slot says, what a begin does with it, and what turns do.
use Rattle.std.specs.Prelude.{Ok, Err, ◌≡◌, ◌≢◌, ◌↔◌, ℕ, ◌+◌, ◌-◌, ◌*◌, ◌^◌, ◌<◌, ◌≤◌, Bool, IsTrue, Option, Some, None, Result}
use Rattle.bm_base.specs.declared.shape.Shape.{Shape}
use Rattle.bm_base.specs.Area.{area_after}
use Rattle.bm_base.specs.Contents.{Contents, page_at}
use Rattle.bm_base.specs.Count.{raised, Rose}
use Rattle.bm_base.specs.Gate.{IsOpenGate}
use Rattle.bm_base.specs.Records.{record_at, SameRecords}
use Rattle.bm_base.specs.Shape.{dims_of, load_stripes, loads_of}
use Rattle.bm_forms.specs.declared.job.Job.{Job}
use Rattle.bm_forms.specs.Job.{meaning}
use Rattle.bm_rack.specs.RackView.{RackView, IsClean}
use Rattle.bm_rack.specs.Frames.{RackCall, DirtiesOnly, MakesCalls, MakesPageCalls, MovesFew}
use Rattle.bm_rack.specs.Image.{SameInput}
use Rattle.bm_control.specs.Consistent.{input_of}
use Rattle.bm_control.specs.PageCalls.{IsStartPage}
use Rattle.bm_control.specs.Pages.{pass_gate, HasOpenLoad, HasOpenJob, HasLoadBody, HasJobBody}
use Rattle.bm_control.specs.Progress.{IsGone}
use Rattle.bm_control.specs.Sound.{IsSound}
use Rattle.bm_job.specs.declared.machine.Machine.{Machine}
use Rattle.bm_job.specs.declared.answers.RunError.{RunError}
use Rattle.bm_job.specs.declared.answers.RunError.TheVariants.{Failed, BadPage}
use Rattle.bm_job.specs.declared.answers.Turn.{Turn}
use Rattle.bm_job.specs.declared.answers.Turn.TheVariants.{Went}
use Rattle.bm_job.specs.declared.answers.Turn.TheVariants as done
use Rattle.bm_job.specs.Begins.{BeginAnswer, IsFresh, HasBodies, OpensOnly}
use Rattle.bm_job.specs.Follows.{Follows, loads_moved}
use Rattle.bm_job.specs.Runs.{IsWorkUnit, IsRunnable, loads_left, load_rows}
use Rattle.bm_job.specs.Turns.{SameJob, IsTurnRefusal, IsTurnUnit, IsBadBody, form_pages, durable_pages, durable_syncs}
use Rattle.bm_batch.specs.declared.bay_slot.BaySlot.{BaySlot}
use Rattle.bm_batch.specs.declared.bay_state.BayState.{BayState}
use Rattle.bm_batch.specs.declared.bay_state.BayState.TheVariants.{Going, Finished, Ended}

-- ---- what a slot says

-- the loads that a machine has moved, none where there is none
abbrev pub moved_by : Option Machine → ℕ
moved_by None = 0
moved_by (Some m) = loads_moved m

-- the loads that are moved in a bay
abbrev pub moved_of : BaySlot → ℕ
moved_of slot = moved_by slot.machine

-- its machine is of this shape
abbrev pub IsBayOfShape : Shape → BaySlot → Type 0
IsBayOfShape s slot = (m : Machine) → slot.machine ≡ Some m → m.shape ≡ s

-- the machine of a bay that is not Ended follows the bay's rack
abbrev pub BayFollows : BaySlot → RackView → Type 0
BayFollows slot v = slot.state ≡ Going → (m : Machine) → slot.machine ≡ Some m → Follows m v

-- the gates of all passes are open
abbrev pub AreAllOpen : ℕ → Contents → Type 0
AreAllOpen passes v = (k : ℕ) → k < passes → IsOpenGate (page_at v (pass_gate k))

-- A job is done: the records of the last pass's area are its meaning on the input at entry, the input is as it was, the control file tells
-- it, and nothing is dirty.
pub record JobDone (m : Machine) (old new : RackView) : Type 0 where
  pub records : SameRecords (2 ^ m.shape.n) (record_at new.contents m.shape (area_after m.passes))
      (meaning m.shape.n m.job (input_of old.contents m.shape))
  pub input : SameRecords (2 ^ m.shape.n) (input_of new.contents m.shape) (input_of old.contents m.shape)
  pub load_body : HasLoadBody m.shape new.contents
  pub load_gate : HasOpenLoad new.contents
  pub job_gate : HasOpenJob new.contents
  pub body : HasJobBody m.shape new.contents m.job m.passes m.every
  pub gates : AreAllOpen m.passes new.contents
  pub clean : IsClean new

-- that of a bay that is Finished
abbrev pub BayDone : BaySlot → RackView → RackView → Type 0
BayDone slot old new = slot.state ≡ Finished → (m : Machine) → slot.machine ≡ Some m → JobDone m old new

-- ---- a begin

-- how far a bay is whose machine was begun: Finished where no pass is left, else Going
pub record IsStateOf (m : Machine) (state : BayState) : Type 0 where
  pub going : m.done ≢ m.passes → state ≡ Going
  pub finished : m.done ≡ m.passes → state ≡ Finished

-- what is known of a bay after a begin that answers so
abbrev pub IsSlotOf : Result Machine RunError → BaySlot → Type 0
IsSlotOf (Ok m) slot = (slot.machine ≡ Some m) × IsStateOf m slot.state
IsSlotOf (Err e) slot = (slot.machine ≡ None) × (slot.state ≡ Ended e)

-- What a begin of this job did with one bay, with a plan of so many passes.
pub record BayBegun (told_stands told_contents : Bool) (s : Shape) (job : Job) (passes every : ℕ) (slot : BaySlot)
    (old new : RackView) : Type 0 where
  -- the bay has a machine of this job, or its refusal
  pub fresh : (m : Machine) → slot.machine ≡ Some m → IsFresh s job m
  pub refused : (e : RunError) → slot.state ≡ Ended e → slot.machine ≡ None
  pub answer : IsTrue told_contents → (m : Machine) → slot.machine ≡ Some m → BeginAnswer s job passes every old.contents (Ok m)
  pub refusal : IsTrue told_contents → (e : RunError) → slot.state ≡ Ended e → BeginAnswer s job passes every old.contents (Err e)
  -- what is moved is what is gone, at entry and at the exit
  pub gone : IsTrue told_contents → (m : Machine) → slot.machine ≡ Some m → IsGone old.contents (loads_moved m)
  pub gone_now : IsTrue told_stands → IsTrue told_contents → IsSound old
      → (m : Machine) → slot.machine ≡ Some m → IsGone new.contents (loads_moved m)
  pub follows : IsTrue told_stands → IsTrue told_contents → IsSound old
      → (m : Machine) → slot.machine ≡ Some m → Follows m new
  -- it is Finished where all gates are open, and there alone
  pub gates : IsTrue told_stands → IsTrue told_contents → IsSound old
      → (m : Machine) → slot.machine ≡ Some m → (slot.state ≡ Finished) ↔ AreAllOpen m.passes new.contents
  pub done : IsTrue told_stands → IsTrue told_contents → IsSound old → BayDone slot old new
  -- the bodies of all its passes stand
  pub bodies : IsTrue told_contents → (m : Machine) → slot.machine ≡ Some m → HasBodies m new.contents
  pub clean : (m : Machine) → slot.machine ≡ Some m → IsClean new
  -- at each exit
  pub sound : IsTrue told_stands → IsTrue told_contents → IsSound old → IsSound new
  pub input : SameInput (dims_of s) old new
  pub images : IsTrue told_stands → IsTrue told_contents → OpensOnly s job passes every old new
  pub unchanged : IsTrue told_contents → HasOpenJob old.contents → DirtiesOnly (λ u. ⊥) old new
  pub kept : (e : RunError) → slot.state ≡ Ended e → e ≢ Failed → new.contents ≡ old.contents
  pub call : RackCall (IsStartPage passes (every < loads_of s)) (slot.state ≡ Ended Failed) old new
  pub most : MakesPageCalls ⊥ 516 3 old new
  pub moves : new.moves ≡ old.moves
  -- nothing but its own rack ends it where the job can be run
  pub good : IsTrue told_stands → IsTrue told_contents → IsSound old → (page : ℕ) → slot.state ≢ Ended (BadPage page)
  pub complete : IsTrue told_stands → IsTrue told_contents → IsSound old → IsRunnable s job old.contents
      → ¬ Rose old.faults new.faults → (e : RunError) → slot.state ≢ Ended e

-- ---- turns

-- how far a bay is after a turn that answers so
abbrev pub answered : Result Turn RunError → BayState
answered (Ok Went) = Going
answered (Ok done.Finished) = Finished
answered (Err e) = Ended e

-- What turns of its own did with a bay that was Going with machine m.
pub record BayWent (told_stands told_contents : Bool) (m : Machine) (slot : BaySlot) (old new : RackView) : Type 0 where
  pub next : Machine
  pub machine : slot.machine ≡ Some next
  pub same : SameJob m next
  pub further : loads_moved m ≤ loads_moved next
  -- 2M/BD row calls for each load that was moved, unless it Ended
  pub moves : ((e : RunError) → slot.state ≢ Ended e)
      → new.moves ≡ raised old.moves (load_rows m.shape (loads_moved next - loads_moved m))
  pub few : MovesFew (load_rows m.shape (loads_left m)) old new
  pub follows : IsTrue told_stands → IsTrue told_contents → Follows m old
      → ((e : RunError) → slot.state ≢ Ended e) → Follows next new
  -- at each exit
  pub sound : IsTrue told_stands → IsTrue told_contents → Follows m old → IsSound new
  pub input : SameInput (dims_of m.shape) old new
  pub call : RackCall (IsWorkUnit m.shape) (slot.state ≡ Ended Failed) old new
  -- nothing but its own rack ends it
  pub refusal : (e : RunError) → slot.state ≡ Ended e → IsTurnRefusal e
  pub good : IsTrue told_stands → IsTrue told_contents → Follows m old → (page : ℕ) → slot.state ≢ Ended (BadPage page)
  -- no page ends it where the bodies of all passes stood
  pub bad : IsTrue told_contents → HasBodies m old.contents → (page : ℕ) → slot.state ≢ Ended (BadPage page)

-- What any turns did with one bay: nothing where it was not Going.
pub record BayTurns (told_stands told_contents : Bool) (before after : BaySlot) (old new : RackView) : Type 0 where
  pub idle : before.state ≢ Going → (after ≡ before) × (new ≡ old)
  pub went : before.state ≡ Going → (m : Machine) → before.machine ≡ Some m → BayWent told_stands told_contents m after old new

-- What one turn of a bay that was Going with machine m did besides.
pub record BayStep (told_stands told_contents : Bool) (m : Machine) (slot : BaySlot) (old new : RackView) : Type 0 where
  -- one load more is moved, or it Ended with none
  pub moved : ((e : RunError) → slot.state ≢ Ended e) → moved_of slot ≡ loads_moved m + 1
  pub stopped : (e : RunError) → slot.state ≡ Ended e → moved_of slot ≡ loads_moved m
  -- it is Finished where all gates are open, and there alone
  pub gates : IsTrue told_stands → IsTrue told_contents → Follows m old → ((e : RunError) → slot.state ≢ Ended e)
      → (slot.state ≡ Finished) ↔ AreAllOpen m.passes new.contents
  pub frame : DirtiesOnly (IsTurnUnit m) old new
  pub bad : IsTrue told_contents → (page : ℕ) → slot.state ≡ Ended (BadPage page) → IsBadBody m old.contents page
  pub calls : MakesCalls ((e : RunError) → slot.state ≢ Ended e) (2 * load_stripes m.shape)
      (form_pages m.form + durable_pages m) (durable_syncs m) old new
