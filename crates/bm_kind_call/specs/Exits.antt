-- What a transform does once its text is read: it makes the disks, loads the input, runs, and writes what it made.
use Rattle.std.specs.Prelude.{◌≡◌, ◌⊎◌, ◌+◌, ◌*◌, ◌++◌, IsTrue, [], length, Some, None}
use Rattle.bm_base.specs.declared.shape.Shape.{Shape}
use Rattle.bm_base.specs.Count.{raised}
use Rattle.bm_base.specs.Shape.{dims_of, stripes, input_size}
use Rattle.bm_forms.specs.declared.job.Job.TheVariants.{Walsh}
use Rattle.bm_rack.specs.Image.{InEveryImage}
use Rattle.bm_rack.specs.Sink.{AppendsFront}
use Rattle.bm_rack.specs.Frames.{MovesFew}
use Rattle.bm_kindjob.specs.declared.kind_file.KindFile.{KindFile}
use Rattle.bm_top.specs.Causes.{CauseOf}
use Rattle.bm_top.specs.Disks.{SameOrNewDisks}
use Rattle.bm_top.specs.Exits.{EachExit}
use Rattle.bm_top.specs.Moment.{Devices, Tells, TellsRack}
use Rattle.bm_top.specs.Status.{IsBeforeDisks, IsOfInput}
use Rattle.bm_top.specs.TopCall.{NoFaults, IsDoneUnlessMemory}
use Rattle.bm_top.specs.commands.Carry.{CarryCase, TellsAll, IsWhole, IsReadWhole}
use Rattle.bm_top.specs.commands.Load.{LoadRefused}
use Rattle.bm_top.specs.commands.Run.{NoSession}
use Rattle.bm_top.specs.declared.task.Task.{Task}
use Rattle.bm_top.specs.declared.words.Verb.TheVariants.{Carry}
use Rattle.bm_top.specs.declared.status.Status.{Status}
use Rattle.bm_top.specs.declared.status.Status.TheVariants.{Done, OutOfMemory, DataFault, DataShort, DataLong, RackFault, NoDisks}
use Rattle.bm_top.specs.declared.status.Status.TheVariants.{WrongDims, Exists, SinkFault}
use Rattle.bm_kind_call.specs.Kinds.{walsh_passes, kinded, AreSums, KindStands}

-- A task of this shape. Of the task of a carry what follows cites no more than the shape: the disks, the input, and why an answer comes.
abbrev pub shape_task : Shape → Task
shape_task s = record { shape = s; job = Walsh; every = 1; start = 0; stops = [] }

-- the answers that may come
abbrev pub KindMay : Status → Type 0
KindMay Done = Unit {0}
KindMay OutOfMemory = Unit {0}
KindMay DataFault = Unit {0}
KindMay (DataShort got) = Unit {0}
KindMay DataLong = Unit {0}
KindMay RackFault = Unit {0}
KindMay NoDisks = Unit {0}
KindMay WrongDims = Unit {0}
KindMay Exists = Unit {0}
KindMay SinkFault = Unit {0}
KindMay _ = ⊥

-- Where it answers Done: the input was read to its end and held N records, and what the transform makes of them was appended, whose numbers
-- are sums of its kind. The parallel transfers are 2N/BD for each pass of the plan, and 2N/BD for the load and the output.
pub record KindDone (t : Tells) (file : KindFile) (old new : Devices) : Type 0 where
  pub size : IsTrue t.input → length old.input.left ≡ input_size file.shape
  pub ended : IsTrue t.input → new.input.left ≡ []
  pub records : TellsAll t → new.out.taken ≡ old.out.taken ++ kinded file old.input.left
  pub sums : AreSums file old.input.left
  pub moves : new.rack.moves ≡ raised old.rack.moves (2 * stripes file.shape * (walsh_passes file.shape + 1))
  pub after : TellsRack t → KindStands file.shape new.rack

-- At each exit: what was written is a front of the records. Nothing is written before the input was read to its end and held N records. No
-- more parallel transfers are made than where it is Done.
pub record KindLeaves (t : Tells) (file : KindFile) (old : Devices) (answer : Status) (new : Devices) : Type 0 where
  pub front : TellsAll t → AppendsFront old.out.taken new.out.taken (kinded file old.input.left)
  pub unwritten : IsBeforeDisks answer ⊎ IsOfInput answer → new.out ≡ old.out
  pub unread : IsBeforeDisks answer → new.input ≡ old.input
  pub written : IsTrue t.input → (new.out ≡ old.out) ⊎ IsReadWhole (shape_task file.shape) old new
  pub whole : IsTrue t.input → answer ≡ SinkFault → IsReadWhole (shape_task file.shape) old new
  pub refused : TellsRack t → IsOfInput answer → LoadRefused new.rack
  -- an input that is refused leaves the disks that were made, and an output that fails the run that was done
  pub made : IsTrue t.stands → IsOfInput answer → new.rack.stands ≡ Some (dims_of file.shape)
  pub cut : TellsRack t → answer ≡ SinkFault → KindStands file.shape new.rack
  -- disks that were made are loaded with the whole input or not at all, whatever a stop leaves
  pub opened : TellsRack t → IsTrue t.input → old.rack.stands ≡ None
      → InEveryImage (IsWhole file.shape old.input.left) new.rack
  -- nothing was done to disks that stood
  pub stood : NoSession old.rack new.rack ⊎ (IsTrue t.stands → old.rack.stands ≡ None)
  pub exists : answer ≡ Exists → NoSession old.rack new.rack
  -- want of memory leaves the disks, or new ones of zeros
  pub memory : answer ≡ OutOfMemory → SameOrNewDisks t.stands t.contents (dims_of file.shape) old.rack new.rack
  pub moves : MovesFew (2 * stripes file.shape * (walsh_passes file.shape + 1)) old.rack new.rack

-- What the call does once its text is read. Its answers come by the causes of a carry of the shape, and it is Done where that would be.
pub record KindCall (t : Tells) (file : KindFile) (old : Devices) (answer : Status) (new : Devices) : Type 0 where
  pub may : KindMay answer
  pub cause : CauseOf t Carry (shape_task file.shape) old answer new
  pub done : answer ≡ Done → KindDone t file old new
  pub leaves : KindLeaves t file old answer new
  pub each : EachExit t Carry (shape_task file.shape) old answer new
  pub complete : CarryCase t (shape_task file.shape) old → NoFaults old new → IsDoneUnlessMemory answer
