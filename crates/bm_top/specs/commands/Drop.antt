-- The command `drop`: it closes the job that is open, whichever it is.
use Rattle.std.specs.Prelude.{◌≡◌, IsTrue, Some}
use Rattle.bm_base.specs.Contents.{RackUnit}
use Rattle.bm_base.specs.Shape.{dims_of}
use Rattle.bm_rack.specs.RackView.{IsClean}
use Rattle.bm_rack.specs.Calls.{IsPage}
use Rattle.bm_rack.specs.Image.{SameInput}
use Rattle.bm_rack.specs.Frames.{SameDisks}
use Rattle.bm_control.specs.Pages.{job_gate, HasOpenJob, HasClosedJob}
use Rattle.bm_top.specs.Exits.{KeepsUnits}
use Rattle.bm_top.specs.Moment.{Devices, Tells}
use Rattle.bm_top.specs.Status.{IsBeforeDisks, IsOfSlate}
use Rattle.bm_top.specs.declared.task.Task.{Task}
use Rattle.bm_top.specs.declared.status.Status.{Status}
use Rattle.bm_top.specs.declared.status.Status.TheVariants.{Done, OutOfMemory, RackFault, NoDisks, WrongDims, NoJob}

-- what it may answer
abbrev pub DropMay : Status → Type 0
DropMay Done = Unit {0}
DropMay OutOfMemory = Unit {0}
DropMay RackFault = Unit {0}
DropMay NoDisks = Unit {0}
DropMay WrongDims = Unit {0}
DropMay NoJob = Unit {0}
DropMay _ = ⊥

-- a unit that is not the job gate
abbrev pub IsNoJobGate : RackUnit → Type 0
IsNoJobGate u = ¬ IsPage job_gate u

-- Where it answers Done: the job gate was open and is closed, and nothing is dirty.
pub record DropDone (t : Tells) (old new : Devices) : Type 0 where
  pub opened : IsTrue t.contents → HasOpenJob old.rack.contents
  pub closed : IsTrue t.contents → HasClosedJob new.rack.contents
  pub clean : IsClean new.rack

-- At each exit: no unit but the job gate changes or becomes dirty, and no row call is made.
pub record DropLeaves (task : Task) (old : Devices) (answer : Status) (new : Devices) : Type 0 where
  pub units : KeepsUnits IsNoJobGate old.rack new.rack
  pub same : SameInput (dims_of task.shape) old.rack new.rack
  pub before : IsBeforeDisks answer → SameDisks old.rack new.rack
  pub refused : IsOfSlate answer → new.rack.contents ≡ old.rack.contents
  pub moves : new.rack.moves ≡ old.rack.moves
  pub input : new.input ≡ old.input
  pub out : new.out ≡ old.out

-- Where it is Done, if no device fails: the disks stand, and a job is open.
pub record DropCase (t : Tells) (task : Task) (old : Devices) : Type 0 where
  pub stands_told : IsTrue t.stands
  pub stands : old.rack.stands ≡ Some (dims_of task.shape)
  pub contents_told : IsTrue t.contents
  pub opened : HasOpenJob old.rack.contents
