-- The command `new`: it makes the disks of the shape.
use Rattle.std.specs.Prelude.{◌≡◌, ◌≢◌, IsTrue, None}
use Rattle.bm_base.specs.Shape.{dims_of}
use Rattle.bm_rack.specs.Frames.{SameCalls, SameDisks}
use Rattle.bm_top.specs.Disks.{NewDisks}
use Rattle.bm_top.specs.Moment.{Devices, Tells}
use Rattle.bm_top.specs.declared.task.Task.{Task}
use Rattle.bm_top.specs.declared.status.Status.{Status}
use Rattle.bm_top.specs.declared.status.Status.TheVariants.{Done, OutOfMemory, RackFault, Exists}

-- what it may answer
abbrev pub NewMay : Status → Type 0
NewMay Done = Unit {0}
NewMay OutOfMemory = Unit {0}
NewMay RackFault = Unit {0}
NewMay Exists = Unit {0}
NewMay _ = ⊥

-- Where it answers Done: disks of zeros stand where nothing stood, and nothing is dirty.
abbrev pub NewDone : Tells → Task → Devices → Devices → Type 0
NewDone t task old new = NewDisks t.stands t.contents (dims_of task.shape) old.rack new.rack

-- At each exit: a refusal leaves what stands.
pub record NewLeaves (answer : Status) (old new : Devices) : Type 0 where
  pub refused : answer ≢ Done → SameDisks old.rack new.rack
  pub calls : SameCalls old.rack new.rack
  pub input : new.input ≡ old.input
  pub out : new.out ≡ old.out

-- Where it is Done, if no device fails: nothing stands.
pub record NewCase (t : Tells) (old : Devices) : Type 0 where
  pub told : IsTrue t.stands
  pub absent : old.rack.stands ≡ None
