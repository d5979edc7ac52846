-- The command `load`: it reads the records of the input into the area of the input.
use Rattle.std.specs.Prelude.{◌≡◌, ◌^◌, IsTrue, [], length, Some}
use Rattle.bm_base.specs.Count.{raised}
use Rattle.bm_base.specs.Records.{record_in, SameRecords}
use Rattle.bm_base.specs.Shape.{dims_of, stripes, input_size}
use Rattle.bm_rack.specs.RackView.{RackView, IsClean}
use Rattle.bm_rack.specs.Image.{InEveryImage}
use Rattle.bm_rack.specs.Frames.{SameDisks, MovesFew}
use Rattle.bm_control.specs.Consistent.{input_of}
use Rattle.bm_control.specs.Pages.{HasOpenLoad, HasClosedLoad, HasClosedJob, HasLoadBody}
use Rattle.bm_control.specs.Sound.{IsSound}
use Rattle.bm_disks.specs.Loading.{OpensWhole}
use Rattle.bm_top.specs.Moment.{Devices, Tells, TellsRack}
use Rattle.bm_top.specs.Status.{IsBeforeDisks, IsOfInput}
use Rattle.bm_top.specs.declared.task.Task.{Task}
use Rattle.bm_top.specs.declared.status.Status.{Status}
use Rattle.bm_top.specs.declared.status.Status.TheVariants.{Done, OutOfMemory, DataFault, DataShort, DataLong, RackFault, NoDisks}
use Rattle.bm_top.specs.declared.status.Status.TheVariants.{WrongDims}

-- what it may answer
abbrev pub LoadMay : Status → Type 0
LoadMay Done = Unit {0}
LoadMay OutOfMemory = Unit {0}
LoadMay DataFault = Unit {0}
LoadMay (DataShort got) = Unit {0}
LoadMay DataLong = Unit {0}
LoadMay RackFault = Unit {0}
LoadMay NoDisks = Unit {0}
LoadMay WrongDims = Unit {0}
LoadMay _ = ⊥

-- Where it answers Done: the input was read to its end and held N records, which stand in the area of the input. The control file tells
-- their shape, and that no job is open. Nothing is dirty.
pub record LoadDone (t : Tells) (task : Task) (old new : Devices) : Type 0 where
  pub size : IsTrue t.input → length old.input.left ≡ input_size task.shape
  pub ended : IsTrue t.input → new.input.left ≡ []
  pub records : IsTrue t.input → IsTrue t.contents → SameRecords (2 ^ task.shape.n)
      (input_of new.rack.contents task.shape) (record_in task.shape old.input.left)
  pub load_body : IsTrue t.contents → HasLoadBody task.shape new.rack.contents
  pub load_gate : IsTrue t.contents → HasOpenLoad new.rack.contents
  pub job_gate : IsTrue t.contents → HasClosedJob new.rack.contents
  pub clean : IsClean new.rack
  pub sound : TellsRack t → IsSound new.rack
  pub moves : new.rack.moves ≡ raised old.rack.moves (stripes task.shape)

-- a load that its input refuses leaves both gates closed, whatever a stop leaves, and a sound rack, whatever it found
pub record LoadRefused (new : RackView) : Type 0 where
  pub load_gate : InEveryImage HasClosedLoad new
  pub job_gate : InEveryImage HasClosedJob new
  pub sound : IsSound new

-- At each exit: it makes no more row calls than the input has rows. In an image an open load gate stands over the N records of an input
-- that held just these, or over the load of before, whose gate was open in some image then.
pub record LoadLeaves (t : Tells) (task : Task) (old : Devices) (answer : Status) (new : Devices) : Type 0 where
  pub opened : TellsRack t → IsTrue t.input → IsSound old.rack → InEveryImage (OpensWhole task.shape old.input.left old.rack) new.rack
  pub refused : TellsRack t → IsOfInput answer → LoadRefused new.rack
  pub unread : IsBeforeDisks answer → new.input ≡ old.input
  pub same : IsBeforeDisks answer → SameDisks old.rack new.rack
  pub moves : MovesFew (stripes task.shape) old.rack new.rack
  pub out : new.out ≡ old.out

-- Where it is Done, if no device fails: the disks stand, and the rest of the input is N records.
pub record LoadCase (t : Tells) (task : Task) (old : Devices) : Type 0 where
  pub stands_told : IsTrue t.stands
  pub stands : old.rack.stands ≡ Some (dims_of task.shape)
  pub input_told : IsTrue t.input
  pub size : length old.input.left ≡ input_size task.shape
