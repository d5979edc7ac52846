-- What is done to a mirror before a command that goes on with disks that stand.
use Rattle.std.specs.Prelude.{◌≡◌, ◌⊎◌, IsTrue, IsFalse, Bool, List, ℕ, Option, Some, None}
use Rattle.bm_base.specs.declared.dims.Dims.{Dims}
use Rattle.bm_base.specs.Count.{Rose}
use Rattle.bm_base.specs.Shape.{dims_of}
use Rattle.bm_rack.specs.RackView.{RackView, IsClean}
use Rattle.bm_rack.specs.Frames.{SameCalls, Keeps}
use Rattle.bm_jobfile.specs.declared.job_file.JobFile.{JobFile}
use Rattle.bm_jobfile.specs.JobFile.{IsJobFile}
use Rattle.bm_mirror.specs.TwoSides.{TwoSides}
use Rattle.bm_top.specs.Causes.{Attaches}
use Rattle.bm_top.specs.JobRead.{TakesShape}
use Rattle.bm_top.specs.declared.words.Verb.{Verb}
use Rattle.bm_top.specs.declared.status.Status.{Status}
use Rattle.bm_top.specs.declared.status.Status.TheVariants.{RackFault, OutOfMemory}

-- What a mirror shows that may have been attached and healed: what stands and its bytes are as before, and no row, page or sync was asked
-- of the mirror. At most what was dirty was made durable.
pub record ShownAs (old new : RackView) : Type 0 where
  pub stands : new.stands ≡ old.stands
  pub contents : new.contents ≡ old.contents
  pub dirty : (new.dirty ≡ old.dirty) ⊎ IsClean new
  pub calls : SameCalls old new
  pub keeps : Keeps old new

-- both sides are in
abbrev pub AreIn : TwoSides → Type 0
AreIn s = IsTrue s.sides.left × IsTrue s.sides.right

-- no side's count of faults rose
pub record NoneRose (old new : TwoSides) : Type 0 where
  pub left : ¬ Rose old.left.faults new.left.faults
  pub right : ¬ Rose old.right.faults new.right.faults

-- nothing stands here, or disks of these sizes
abbrev pub CanBeFilled : Dims → RackView → Type 0
CanBeFilled dims v = (v.stands ≡ None) ⊎ (v.stands ≡ Some dims)

-- that of each side that is out
pub record OthersCan (dims : Dims) (s : TwoSides) : Type 0 where
  pub left : IsFalse s.sides.left → CanBeFilled dims s.left
  pub right : IsFalse s.sides.right → CanBeFilled dims s.right

-- Where disks of these sizes stand, as far as that is told, a side that is out comes in, but for its faults.
abbrev pub ComesIn : Bool → Dims → Option Dims → TwoSides → TwoSides → Type 0
ComesIn told dims stands old new =
    IsTrue told → stands ≡ Some dims → OthersCan dims old → NoneRose old new → AreIn new

-- that of the job that this text means, if the command goes on with its disks
abbrev pub JobComesIn : Bool → Verb → List ℕ → Option Dims → TwoSides → TwoSides → Type 0
JobComesIn told verb text stands old new =
    (file : JobFile) → IsJobFile text file → Attaches verb → TakesShape verb file.shape → ComesIn told (dims_of file.shape) stands old new

-- Why a command goes no further: the side that is in failed, or memory was refused.
pub record StopsAt (status : Status) (old new : RackView) : Type 0 where
  pub answer : (status ≡ RackFault) ⊎ (status ≡ OutOfMemory)
  pub cause : status ≡ RackFault → Rose old.faults new.faults

-- It is one that goes on with disks that stand, and no side is asked but for a job that the text means.
pub record HealStops (verb : Verb) (text : List ℕ) (status : Status) (old new : RackView) : Type 0 where
  pub attaches : Attaches verb
  pub stops : StopsAt status old new
  pub task : status ≡ RackFault → (file : JobFile) × IsJobFile text file × TakesShape verb file.shape
