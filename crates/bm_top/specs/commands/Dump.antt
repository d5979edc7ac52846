-- The command `dump`: the records of the area of the last pass, once the job is done.
use Rattle.std.specs.Prelude.{◌≡◌, ◌⊎◌, ℕ, ◌^◌, ◌<◌, ◌++◌, IsTrue, Some, List}
use Rattle.bm_base.specs.Area.{area_after}
use Rattle.bm_base.specs.Contents.{page_at}
use Rattle.bm_base.specs.Count.{raised}
use Rattle.bm_base.specs.Gate.{IsOpenGate}
use Rattle.bm_base.specs.Records.{bytes_of}
use Rattle.bm_base.specs.Shape.{dims_of, stripes}
use Rattle.bm_forms.specs.Job.{meaning}
use Rattle.bm_rack.specs.RackView.{RackView}
use Rattle.bm_rack.specs.Image.{SameInput}
use Rattle.bm_rack.specs.Sink.{AppendsFront}
use Rattle.bm_control.specs.Consistent.{input_of}
use Rattle.bm_control.specs.Pages.{pass_gate}
use Rattle.bm_control.specs.Sound.{IsSound}
use Rattle.bm_rack.specs.Frames.{MovesFew}
use Rattle.bm_disks.specs.JobOpening.{IsOpenCase}
use Rattle.bm_disks.specs.Dumping.{area_bytes}
use Rattle.bm_top.specs.Causes.{HasJob}
use Rattle.bm_top.specs.Moment.{Devices, Tells, TellsRack}
use Rattle.bm_top.specs.Status.{IsBeforeDisks, IsOfState}
use Rattle.bm_top.specs.declared.task.Task.{Task}
use Rattle.bm_top.specs.commands.Status.{StatusMay, OnlyLooks}
use Rattle.bm_top.specs.declared.status.Status.{Status}
use Rattle.bm_top.specs.declared.status.Status.TheVariants.{NotDone, SinkFault}

-- what it may answer
abbrev pub DumpMay : Status → Type 0
DumpMay (NotDone done all) = Unit {0}
DumpMay answer = StatusMay answer

-- the records of the area after so many passes, which are all of the open job's
abbrev pub output_of : Task → RackView → ℕ → List ℕ
output_of task v passes = area_bytes v.contents task.shape (area_after passes)

-- what the job makes of the input on the disks, in order of address
abbrev pub made_of : Task → RackView → List ℕ
made_of task v = bytes_of (2 ^ task.shape.n) (meaning task.shape.n task.job (input_of v.contents task.shape))

-- Where it answers Done: the records of the last area were appended. On a sound rack they are what the job makes of the input.
pub record DumpDone (t : Tells) (task : Task) (old new : Devices) : Type 0 where
  pub passes : ℕ
  pub job : IsTrue t.contents → HasJob task.shape task.job passes passes old.rack.contents
  pub records : IsTrue t.out → IsTrue t.contents → new.out.taken ≡ old.out.taken ++ output_of task old.rack passes
  pub means : IsTrue t.out → TellsRack t → IsSound old.rack → new.out.taken ≡ old.out.taken ++ made_of task old.rack
  pub moves : new.rack.moves ≡ raised old.rack.moves (stripes task.shape)

-- a front of them was appended
pub record DumpBegun (t : Tells) (task : Task) (old new : Devices) : Type 0 where
  pub passes : ℕ
  pub job : IsTrue t.contents → HasJob task.shape task.job passes passes old.rack.contents
  pub records : IsTrue t.out → IsTrue t.contents
      → AppendsFront old.out.taken new.out.taken (output_of task old.rack passes)
  pub means : IsTrue t.out → TellsRack t → IsSound old.rack → AppendsFront old.out.taken new.out.taken (made_of task old.rack)

-- At each exit: it only looks at the disks, and what it wrote is a front of the records. What the control file refuses makes no row call.
pub record DumpLeaves (t : Tells) (task : Task) (old : Devices) (answer : Status) (new : Devices) : Type 0 where
  pub looks : OnlyLooks old.rack new.rack
  pub same : SameInput (dims_of task.shape) old.rack new.rack
  pub moves : MovesFew (stripes task.shape) old.rack new.rack
  pub written : (new.out ≡ old.out) ⊎ DumpBegun t task old new
  pub unwritten : IsBeforeDisks answer ⊎ IsOfState answer → new.out ≡ old.out
  pub still : IsOfState answer → new.rack.moves ≡ old.rack.moves
  pub cut : answer ≡ SinkFault → DumpBegun t task old new
  pub input : new.input ≡ old.input

-- Where it is Done, if no device fails: the rack is sound, the shape is loaded, and this job is open with all its gates.
pub record DumpCase (t : Tells) (task : Task) (old : Devices) : Type 0 where
  pub told : TellsRack t
  pub stands : old.rack.stands ≡ Some (dims_of task.shape)
  pub sound : IsSound old.rack
  pub job : IsOpenCase task.shape task.job old.rack.contents
  pub gates : (k : ℕ) → k < job.passes → IsOpenGate (page_at old.rack.contents (pass_gate k))
