-- The command `status`: how far the open job is.
use Rattle.std.specs.Prelude.{◌≡◌, ◌⊎◌, ℕ, ◌≤◌, ◌++◌, IsTrue, Some}
use Rattle.bm_base.specs.Shape.{dims_of}
use Rattle.bm_forms.specs.PassLimit.{limit_of}
use Rattle.bm_rack.specs.RackView.{RackView}
use Rattle.bm_rack.specs.Image.{SameInput}
use Rattle.bm_rack.specs.Sink.{AppendsFront}
use Rattle.bm_control.specs.Sound.{IsSound}
use Rattle.bm_text.specs.StatusText.{status_text}
use Rattle.bm_disks.specs.JobOpening.{IsOpenCase}
use Rattle.bm_top.specs.Causes.{HasJob}
use Rattle.bm_top.specs.Exits.{KeepsUnits}
use Rattle.bm_top.specs.Moment.{Devices, Tells, TellsRack}
use Rattle.bm_top.specs.declared.task.Task.{Task}
use Rattle.bm_top.specs.declared.status.Status.{Status}
use Rattle.bm_top.specs.declared.status.Status.TheVariants.{Done, OutOfMemory, RackFault, NoDisks, WrongDims, NotLoaded, OtherShape}
use Rattle.bm_top.specs.declared.status.Status.TheVariants.{OtherJob, NoJob, BadPage, SinkFault}

-- what it may answer
abbrev pub StatusMay : Status → Type 0
StatusMay Done = Unit {0}
StatusMay OutOfMemory = Unit {0}
StatusMay RackFault = Unit {0}
StatusMay NoDisks = Unit {0}
StatusMay WrongDims = Unit {0}
StatusMay NotLoaded = Unit {0}
StatusMay OtherShape = Unit {0}
StatusMay OtherJob = Unit {0}
StatusMay NoJob = Unit {0}
StatusMay (BadPage page) = Unit {0}
StatusMay SinkFault = Unit {0}
StatusMay _ = ⊥

-- the open job's stored passes, at least 1 and no more than the pass limit, and how many of their gates are open
pub record HasGates (t : Tells) (task : Task) (v : RackView) (done all : ℕ) : Type 0 where
  pub few : done ≤ all
  pub some : 1 ≤ all
  pub most : all ≤ limit_of task.shape task.job
  pub told : IsTrue t.contents → HasJob task.shape task.job all done v.contents

-- Where it answers Done: the kind and the gates of the open job were appended.
pub record StatusDone (t : Tells) (task : Task) (old new : Devices) : Type 0 where
  pub open_gates : ℕ
  pub all : ℕ
  pub gates : HasGates t task old.rack open_gates all
  pub text : IsTrue t.out → new.out.taken ≡ old.out.taken ++ status_text task.job open_gates all

-- Where the output failed: a front of them was appended.
pub record StatusCut (t : Tells) (task : Task) (old new : Devices) : Type 0 where
  pub open_gates : ℕ
  pub all : ℕ
  pub gates : HasGates t task old.rack open_gates all
  pub text : IsTrue t.out → AppendsFront old.out.taken new.out.taken (status_text task.job open_gates all)

-- a command that looks at the disks and leaves them: their contents are as before, no unit becomes dirty
pub record OnlyLooks (old new : RackView) : Type 0 where
  pub contents : new.contents ≡ old.contents
  pub units : KeepsUnits (λ u. Unit {0}) old new

-- At each exit: it only looks at the disks, and makes no row call.
pub record StatusLeaves (t : Tells) (task : Task) (old : Devices) (answer : Status) (new : Devices) : Type 0 where
  pub looks : OnlyLooks old.rack new.rack
  pub same : SameInput (dims_of task.shape) old.rack new.rack
  pub moves : new.rack.moves ≡ old.rack.moves
  pub cut : answer ≡ SinkFault → StatusCut t task old new
  pub unwritten : (answer ≡ Done) ⊎ ((answer ≡ SinkFault) ⊎ (new.out ≡ old.out))
  pub input : new.input ≡ old.input

-- Where it is Done, if no device fails: the rack is sound, the shape is loaded, and this job is open.
pub record StatusCase (t : Tells) (task : Task) (old : Devices) : Type 0 where
  pub told : TellsRack t
  pub stands : old.rack.stands ≡ Some (dims_of task.shape)
  pub sound : IsSound old.rack
  pub job : IsOpenCase task.shape task.job old.rack.contents
