-- What stands at each exit of a command, whatever the answer.
use Rattle.std.specs.Prelude.{◌≡◌, ◌⊎◌, ◌+◌, ◌≤◌, false, IsTrue, Some, None}
use Rattle.bm_base.specs.Contents.{RackUnit, unit_at}
use Rattle.bm_base.specs.Shape.{dims_of, input_size}
use Rattle.bm_rack.specs.RackView.{RackView}
use Rattle.bm_rack.specs.Frames.{SameCalls, SameDisks, CallsGrow, Keeps, HasCause}
use Rattle.bm_control.specs.Sound.{IsSound}
use Rattle.bm_disks.specs.Input.{IsRead}
use Rattle.bm_top.specs.Status.{IsBeforeDisks}
use Rattle.bm_top.specs.Moment.{Devices, Tells, TellsRack}
use Rattle.bm_top.specs.declared.task.Task.{Task}
use Rattle.bm_top.specs.declared.words.Verb.{Verb}
use Rattle.bm_top.specs.declared.words.Verb.TheVariants.{New, Carry}
use Rattle.bm_top.specs.declared.status.Status.{Status}
use Rattle.bm_top.specs.declared.status.Status.TheVariants.{OutOfMemory, RackFault}

-- The disks were attached: what stands, its bytes and what is dirty are as before, and no row, page or sync was asked for.
pub record AttachedFrom (old new : RackView) : Type 0 where
  pub disks : SameDisks old new
  pub calls : SameCalls old new
  pub keeps : Keeps old new

-- these units are as before, and each that is dirty was dirty before
pub record KeepsUnits (P : RackUnit → Type 0) (old new : RackView) : Type 0 where
  pub contents : (u : RackUnit) → P u → unit_at new.contents u ≡ unit_at old.contents u
  pub dirty : (u : RackUnit) → P u → old.dirty u ≡ false → new.dirty u ≡ false

-- the command makes disks
abbrev pub Makes : Verb → Type 0
Makes New = Unit {0}
Makes Carry = Unit {0}
Makes _ = ⊥

-- disks of the shape were made where nothing stood
pub record MadeDisks (verb : Verb) (task : Task) (old new : RackView) : Type 0 where
  pub makes : Makes verb
  pub stood : old.stands ≡ None
  pub stands : new.stands ≡ Some (dims_of task.shape)

-- A sound rack stays sound. No count falls, of calls or of faults, and a rack that is steady and not stopping never fails. Of the input no
-- more than one byte after the records is read. Want of memory, and of the disks, comes before their first row, page or sync. Want of
-- memory leaves none attached.
pub record EachExit (t : Tells) (verb : Verb) (task : Task) (old : Devices) (answer : Status) (new : Devices) : Type 0 where
  pub sound : TellsRack t → IsSound old.rack → IsSound new.rack
  pub stands : IsTrue t.stands → (new.rack.stands ≡ old.rack.stands) ⊎ MadeDisks verb task old.rack new.rack
  pub keeps : Keeps old.rack new.rack
  pub fault : HasCause (answer ≡ RackFault) old.rack new.rack
  pub calls : IsBeforeDisks answer → SameCalls old.rack new.rack
  pub grow : CallsGrow old.rack new.rack
  pub unattached : answer ≡ OutOfMemory → (new.rack.attached ≡ old.rack.attached) ⊎ (new.rack.attached ≡ None)
  pub few : IsTrue t.input → IsRead (input_size task.shape + 1) old.input.left new.input.left
  pub input_faults : old.input.faults ≤ new.input.faults
  pub out_faults : old.out.faults ≤ new.out.faults
