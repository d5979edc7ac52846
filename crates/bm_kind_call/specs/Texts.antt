-- The text of a transform: what is read of its source, and why it is refused.
use Rattle.std.specs.Prelude.{◌≡◌, ◌⊎◌, ℕ, ◌^◌, ◌<◌, ◌≤◌, Bool, IsTrue, List, [], drop}
use Rattle.bm_base.specs.declared.field_name.FieldName.{FieldName}
use Rattle.bm_base.specs.declared.shape.Shape.{Shape}
use Rattle.bm_base.specs.Count.{Rose}
use Rattle.bm_named.specs.declared.map_fault.MapFault.{MapFault}
use Rattle.bm_named.specs.declared.map_fault.MapFault.TheVariants.{Width, Range, Twice}
use Rattle.bm_jobfile.specs.JobFile.{IsNoDocument}
use Rattle.bm_kindjob.specs.declared.kind_file.KindFile.{KindFile}
use Rattle.bm_kindjob.specs.KindFile.{HasFaultyField, HasBrokenRule, HasMapFault, IsKindFile}
use Rattle.bm_disks.specs.Input.{IsRead}
use Rattle.bm_top.specs.JobRead.{IsAfterDocument, IsAfterText}
use Rattle.bm_top.specs.Moment.{SourceView}
use Rattle.bm_top.specs.declared.status.Status.{Status}
use Rattle.bm_top.specs.declared.status.Status.TheVariants.{OutOfMemory, JobFault, JobText, JobField, JobShape, JobMap}

-- ---- the file of a text

-- the records are numbers of 8 bytes, and the set is one of their address bits
pub record FileFits (file : KindFile) : Type 0 where
  pub width : file.shape.width ≡ 8
  pub set : file.set < 2 ^ file.shape.n

-- The job source holds this file: its text, where it is told, means it.
abbrev pub HoldsFile : Bool → SourceView → KindFile → Type 0
HoldsFile told source file = IsTrue told → IsKindFile source.left file

-- ---- the first fault of a text

-- the faults of a map that a set of bits can have
abbrev pub IsSetFault : MapFault → Type 0
IsSetFault Width = Unit {0}
IsSetFault (Range i) = Unit {0}
IsSetFault (Twice i j) = Unit {0}
IsSetFault _ = ⊥

-- What an answer tells of the text. Each that refuses it names its first fault.
pub record TextCause (text : List ℕ) (answer : Status) : Type 0 where
  pub document : answer ≡ JobText → IsNoDocument text
  pub field : (which : FieldName) → answer ≡ JobField which → HasFaultyField text which
  pub rule : (rule : ℕ) → answer ≡ JobShape rule → HasBrokenRule text rule
  pub map : (fault : MapFault) → answer ≡ JobMap fault → (shape : Shape) × HasMapFault text shape fault

-- The job source. Whatever the answer, no more than 65537 bytes of it are read. Where the answer comes after its text, it was read to its
-- end, but of one of more bytes just so many. A text is refused for its first fault, and of a map these faults alone are told.
pub record TextRead (told : Bool) (old : SourceView) (answer : Status) (new : SourceView) : Type 0 where
  pub cause : IsTrue told → TextCause old.left answer
  pub map : (fault : MapFault) → answer ≡ JobMap fault → IsSetFault fault
  pub ended : IsTrue told → IsAfterDocument answer → new.left ≡ []
  pub read : IsTrue told → IsAfterText answer → new.left ≡ drop 65537 old.left
  pub memory : IsTrue told → answer ≡ OutOfMemory → (new.left ≡ old.left) ⊎ (new.left ≡ [])
  pub few : IsTrue told → IsRead 65537 old.left new.left
  pub fault : answer ≡ JobFault → Rose old.faults new.faults
  pub faults : old.faults ≤ new.faults
