-- The command `detect`: the affine permutation whose images the records of the input are, as a job text.
use Rattle.std.specs.Prelude.{Ok, Err, ◌≡◌, ◌⊎◌, ◌++◌, IsTrue, Result, Some}
use Rattle.bm_base.specs.Contents.{Contents}
use Rattle.bm_base.specs.Count.{raised}
use Rattle.bm_base.specs.Shape.{dims_of, stripes}
use Rattle.bm_gf2.specs.declared.affine.Affine.{Affine}
use Rattle.bm_gf2.specs.Matrix.{IsNonsingular}
use Rattle.bm_rack.specs.RackView.{RackView}
use Rattle.bm_rack.specs.Frames.{Keeps, CallsGrow, MovesFew}
use Rattle.bm_rack.specs.Image.{SameInput}
use Rattle.bm_rack.specs.Sink.{AppendsFront}
use Rattle.bm_control.specs.Pages.{HasOpenLoad, HasLoadBody}
use Rattle.bm_control.specs.Sound.{IsSound}
use Rattle.bm_detect.specs.Candidate.{input_number, IsAffineBy}
use Rattle.bm_disks.specs.declared.job_opening.OpenJob.{OpenJob}
use Rattle.bm_disks.specs.declared.job_opening.OpenError.{OpenError}
use Rattle.bm_disks.specs.declared.job_opening.OpenError.TheVariants as opening
use Rattle.bm_text.specs.JobText.{job_text}
use Rattle.bm_top.specs.Causes.{HasLoadedShape}
use Rattle.bm_top.specs.Moment.{Devices, Tells, TellsRack}
use Rattle.bm_top.specs.Status.{IsOfState}
use Rattle.bm_top.specs.declared.task.Task.{Task}
use Rattle.bm_top.specs.commands.Status.{OnlyLooks}
use Rattle.bm_top.specs.declared.status.Status.{Status}
use Rattle.bm_top.specs.declared.status.Status.TheVariants.{Done, OutOfMemory, RackFault, NoDisks, WrongDims, NotLoaded, OtherShape}
use Rattle.bm_top.specs.declared.status.Status.TheVariants.{BadPage, OutOfRange, NotAffine, NotPermutation, SinkFault}

-- what it may answer
abbrev pub DetectMay : Status → Type 0
DetectMay Done = Unit {0}
DetectMay OutOfMemory = Unit {0}
DetectMay RackFault = Unit {0}
DetectMay NoDisks = Unit {0}
DetectMay WrongDims = Unit {0}
DetectMay NotLoaded = Unit {0}
DetectMay OtherShape = Unit {0}
DetectMay (BadPage page) = Unit {0}
DetectMay (OutOfRange x y) = Unit {0}
DetectMay (NotAffine x y want) = Unit {0}
DetectMay (NotPermutation x) = Unit {0}
DetectMay SinkFault = Unit {0}
DetectMay _ = ⊥

-- the numbers in the records of the input are the images of their addresses under this map, which is a permutation
pub record IsMapOfInput (task : Task) (map : Affine) (v : Contents) : Type 0 where
  pub loaded : HasLoadedShape task.shape v
  pub values : IsAffineBy task.shape.n (input_number v task.shape) map
  pub nonsingular : IsNonsingular map.a

-- Where it answers Done: a job text of the shape and of this map was appended.
pub record DetectDone (t : Tells) (task : Task) (old new : Devices) : Type 0 where
  pub map : Affine
  pub listed : IsTrue t.contents → IsMapOfInput task map old.rack.contents
  pub text : IsTrue t.out → new.out.taken ≡ old.out.taken ++ job_text task.shape map
  pub moves : new.rack.moves ≡ raised old.rack.moves (stripes task.shape)

-- Where the output failed: a front of it was appended.
pub record DetectCut (t : Tells) (task : Task) (old new : Devices) : Type 0 where
  pub map : Affine
  pub listed : IsTrue t.contents → IsMapOfInput task map old.rack.contents
  pub text : IsTrue t.out → AppendsFront old.out.taken new.out.taken (job_text task.shape map)
  pub moves : new.rack.moves ≡ raised old.rack.moves (stripes task.shape)

-- At each exit: it only looks at the disks. What the control file refuses makes no row call.
pub record DetectLeaves (t : Tells) (task : Task) (old : Devices) (answer : Status) (new : Devices) : Type 0 where
  pub looks : OnlyLooks old.rack new.rack
  pub same : SameInput (dims_of task.shape) old.rack new.rack
  pub moves : MovesFew (stripes task.shape) old.rack new.rack
  pub still : IsOfState answer → new.rack.moves ≡ old.rack.moves
  pub cut : answer ≡ SinkFault → DetectCut t task old new
  pub unwritten : (answer ≡ Done) ⊎ ((answer ≡ SinkFault) ⊎ (new.out ≡ old.out))
  pub input : new.input ≡ old.input

-- Where it is Done, if no device fails: the rack is sound, the shape is loaded, and the numbers are those of an affine permutation.
pub record DetectCase (t : Tells) (task : Task) (old : Devices) : Type 0 where
  pub told : TellsRack t
  pub stands : old.rack.stands ≡ Some (dims_of task.shape)
  pub sound : IsSound old.rack
  pub load_gate : HasOpenLoad old.rack.contents
  pub load_body : HasLoadBody task.shape old.rack.contents
  pub map : Affine
  pub values : IsAffineBy task.shape.n (input_number old.rack.contents task.shape) map
  pub nonsingular : IsNonsingular map.a

-- ---- on the way

-- what a look at a job tells of the records: they are loaded, whether no job, that one or another is open
abbrev pub loaded_of : Result OpenJob OpenError → Result (Unit {0}) OpenError
loaded_of (Ok job) = Ok tt
loaded_of (Err opening.Failed) = Err opening.Failed
loaded_of (Err (opening.BadPage page)) = Err (opening.BadPage page)
loaded_of (Err opening.NotLoaded) = Err opening.NotLoaded
loaded_of (Err opening.OtherShape) = Err opening.OtherShape
loaded_of (Err opening.NoJob) = Ok tt
loaded_of (Err opening.OtherJob) = Ok tt

-- from its start to the moment at which records of the shape are known to be loaded
pub record IsSeenFrom (t : Tells) (task : Task) (old new : RackView) : Type 0 where
  pub stood : IsTrue t.stands → old.stands ≡ Some (dims_of task.shape)
  pub loaded : IsTrue t.contents → HasLoadedShape task.shape old.contents
  pub stands : new.stands ≡ old.stands
  pub looks : OnlyLooks old new
  pub sound : IsSound old → IsSound new
  pub moves : new.moves ≡ old.moves
  pub grow : CallsGrow old new
  pub keeps : Keeps old new
