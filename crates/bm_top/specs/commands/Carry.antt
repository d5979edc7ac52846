-- The commands `carry` and `flip`: they make the disks, load the input, run the job and dump its records.
use Rattle.std.specs.Prelude.{◌≡◌, ◌⊎◌, ℕ, ◌+◌, ◌*◌, ◌^◌, ◌<◌, ◌≤◌, ◌++◌, IsTrue, List, [], length, Some, None}
use Rattle.bm_base.specs.declared.report.RunReport.{RunReport}
use Rattle.bm_base.specs.declared.shape.Shape.{Shape}
use Rattle.bm_base.specs.Contents.{Contents, page_at}
use Rattle.bm_base.specs.Count.{raised}
use Rattle.bm_base.specs.Gate.{IsOpenGate}
use Rattle.bm_base.specs.Records.{record_in, bytes_of, SameRecords}
use Rattle.bm_base.specs.Shape.{dims_of, stripes, input_size}
use Rattle.bm_forms.specs.Job.{meaning}
use Rattle.bm_rack.specs.RackView.{RackView, IsClean}
use Rattle.bm_rack.specs.Image.{InEveryImage}
use Rattle.bm_rack.specs.Frames.{SameCalls, Keeps, CallsGrow, MovesFew}
use Rattle.bm_rack.specs.Sink.{AppendsFront}
use Rattle.bm_control.specs.Consistent.{input_of}
use Rattle.bm_control.specs.Pages.{pass_gate, HasOpenLoad, HasClosedLoad, HasOpenJob, HasClosedJob, HasLoadBody, HasJobBody}
use Rattle.bm_control.specs.Sound.{IsSound}
use Rattle.bm_job.specs.Runs.{ReportFits}
use Rattle.bm_disks.specs.Input.{IsRead}
use Rattle.bm_disks.specs.Loading.{HoldsInput}
use Rattle.bm_top.specs.Disks.{SameOrNewDisks}
use Rattle.bm_top.specs.Moment.{Devices, Tells, TellsRack}
use Rattle.bm_top.specs.Status.{IsBeforeDisks, IsOfInput}
use Rattle.bm_top.specs.declared.task.Task.{Task}
use Rattle.bm_top.specs.commands.Load.{LoadRefused}
use Rattle.bm_top.specs.commands.Run.{plan_of, bound_of, NoSession}
use Rattle.bm_top.specs.commands.Dump.{DumpMay}
use Rattle.bm_top.specs.declared.status.Status.{Status}
use Rattle.bm_top.specs.declared.status.Status.TheVariants.{OutOfMemory, DataFault, DataShort, DataLong, Exists, SinkFault}

-- what they may answer
abbrev pub CarryMay : Status → Type 0
CarryMay DataFault = Unit {0}
CarryMay (DataShort got) = Unit {0}
CarryMay DataLong = Unit {0}
CarryMay Exists = Unit {0}
CarryMay answer = DumpMay answer

-- the records that the job makes of the bytes of an input, cut into records, in order of address
abbrev pub carried : Task → List ℕ → List ℕ
carried task bytes = bytes_of (2 ^ task.shape.n) (meaning task.shape.n task.job (record_in task.shape bytes))

-- all devices tell what they hold
abbrev pub TellsAll : Tells → Type 0
TellsAll t = TellsRack t × IsTrue t.input × IsTrue t.out

-- The disks after the job is done: they are loaded, and the job is open with all its gates, as after a run of a fresh job. Nothing is
-- dirty.
pub record CarryStands (task : Task) (new : RackView) : Type 0 where
  pub stands : new.stands ≡ Some (dims_of task.shape)
  pub load_gate : HasOpenLoad new.contents
  pub load_body : HasLoadBody task.shape new.contents
  pub job_gate : HasOpenJob new.contents
  pub body : HasJobBody task.shape new.contents task.job (plan_of task) task.every
  pub gates : (k : ℕ) → k < plan_of task → IsOpenGate (page_at new.contents (pass_gate k))
  pub clean : IsClean new

-- an open load gate of an image is over the N records of an input that held just these
abbrev pub IsWhole : Shape → List ℕ → Contents → Type 0
IsWhole s bytes image = HasOpenLoad image → (length bytes ≡ input_size s) × HoldsInput s bytes image

-- the input held just N records, and was read to its end
abbrev pub IsReadWhole : Task → Devices → Devices → Type 0
IsReadWhole task old new = (length old.input.left ≡ input_size task.shape) × (new.input.left ≡ [])

-- The row calls, on every rack: 2N/BD for the load and the dump, and those of a run whose report's numbers keep their ranges.
pub record CarryMoved (task : Task) (old new : RackView) : Type 0 where
  pub report : RunReport
  pub fits : ReportFits task.shape task.job report
  pub moves : new.moves ≡ raised old.moves (2 * stripes task.shape + report.moves)

-- Where it answers Done: the input was read to its end and held N records, and what the job makes of them was appended. The parallel
-- transfers are 2N/BD for each pass of the plan, and 2N/BD for the load and the dump.
pub record CarryDone (t : Tells) (task : Task) (old new : Devices) : Type 0 where
  pub size : IsTrue t.input → length old.input.left ≡ input_size task.shape
  pub ended : IsTrue t.input → new.input.left ≡ []
  pub records : TellsAll t → new.out.taken ≡ old.out.taken ++ carried task old.input.left
  pub moved : CarryMoved task old.rack new.rack
  pub moves : TellsRack t → new.rack.moves ≡ raised old.rack.moves (2 * stripes task.shape * (plan_of task + 1))
  pub after : TellsRack t → CarryStands task new.rack

-- At each exit: what was written is a front of the records. Nothing is written before the input was read to its end and held N records.
pub record CarryLeaves (t : Tells) (task : Task) (old : Devices) (answer : Status) (new : Devices) : Type 0 where
  pub front : TellsAll t → AppendsFront old.out.taken new.out.taken (carried task old.input.left)
  pub unwritten : IsBeforeDisks answer ⊎ IsOfInput answer → new.out ≡ old.out
  pub unread : IsBeforeDisks answer → new.input ≡ old.input
  pub written : IsTrue t.input → (new.out ≡ old.out) ⊎ IsReadWhole task old new
  pub whole : IsTrue t.input → answer ≡ SinkFault → IsReadWhole task old new
  pub refused : TellsRack t → IsOfInput answer → LoadRefused new.rack
  -- an input that is refused leaves the disks that were made, and an output that fails the job that was done
  pub made : IsTrue t.stands → IsOfInput answer → new.rack.stands ≡ Some (dims_of task.shape)
  pub cut : TellsRack t → answer ≡ SinkFault → CarryStands task new.rack
  -- disks that were made are loaded with the whole input or not at all, whatever a stop leaves
  pub opened : TellsRack t → IsTrue t.input → old.rack.stands ≡ None → InEveryImage (IsWhole task.shape old.input.left) new.rack
  -- nothing was done to disks that stood
  pub stood : NoSession old.rack new.rack ⊎ (IsTrue t.stands → old.rack.stands ≡ None)
  pub exists : answer ≡ Exists → NoSession old.rack new.rack
  -- want of memory leaves the disks, or new ones of zeros
  pub memory : answer ≡ OutOfMemory → SameOrNewDisks t.stands t.contents (dims_of task.shape) old.rack new.rack
  pub moves : MovesFew (bound_of task + 2 * stripes task.shape) old.rack new.rack

-- Where it is Done, if no device fails: nothing stands, and the rest of the input is N records.
pub record CarryCase (t : Tells) (task : Task) (old : Devices) : Type 0 where
  pub told : TellsRack t
  pub absent : old.rack.stands ≡ None
  pub input_told : IsTrue t.input
  pub size : length old.input.left ≡ input_size task.shape

-- ---- on the way

-- from its start to the moment at which the disks are made and attached
pub record IsMadeFrom (t : Tells) (task : Task) (old new : Devices) : Type 0 where
  pub stood : IsTrue t.stands → old.rack.stands ≡ None
  pub stands : IsTrue t.stands → new.rack.stands ≡ Some (dims_of task.shape)
  pub load_gate : IsTrue t.contents → InEveryImage HasClosedLoad new.rack
  pub job_gate : IsTrue t.contents → HasClosedJob new.rack.contents
  pub sound : TellsRack t → IsSound new.rack
  pub calls : SameCalls old.rack new.rack
  pub keeps : Keeps old.rack new.rack
  pub input : new.input ≡ old.input
  pub out : new.out ≡ old.out

-- from its start to the moment at which the records are loaded
pub record IsLoadedFrom (t : Tells) (task : Task) (old new : Devices) : Type 0 where
  pub stood : IsTrue t.stands → old.rack.stands ≡ None
  pub stands : IsTrue t.stands → new.rack.stands ≡ Some (dims_of task.shape)
  pub size : IsTrue t.input → length old.input.left ≡ input_size task.shape
  pub ended : IsTrue t.input → new.input.left ≡ []
  pub records : IsTrue t.input → IsTrue t.contents → SameRecords (2 ^ task.shape.n)
      (input_of new.rack.contents task.shape) (record_in task.shape old.input.left)
  pub load_body : IsTrue t.contents → HasLoadBody task.shape new.rack.contents
  pub load_gate : IsTrue t.contents → HasOpenLoad new.rack.contents
  pub job_gate : IsTrue t.contents → HasClosedJob new.rack.contents
  pub clean : IsClean new.rack
  pub sound : TellsRack t → IsSound new.rack
  pub moves : new.rack.moves ≡ raised old.rack.moves (stripes task.shape)
  pub grow : CallsGrow old.rack new.rack
  pub keeps : Keeps old.rack new.rack
  pub few : IsTrue t.input → IsRead (input_size task.shape + 1) old.input.left new.input.left
  pub input_faults : old.input.faults ≤ new.input.faults
  pub out : new.out ≡ old.out
