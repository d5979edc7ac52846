-- What is read of a job source, and why a job is refused.
use Rattle.std.specs.Prelude.{◌≡◌, ◌≢◌, ◌⊎◌, ℕ, ◌^◌, ◌<◌, ◌≤◌, Bool, IsTrue, List, [], drop}
use Rattle.bm_base.specs.declared.field_name.FieldName.{FieldName}
use Rattle.bm_base.specs.declared.shape.Shape.{Shape}
use Rattle.bm_base.specs.Count.{Rose}
use Rattle.bm_base.specs.Shape.{input_size}
use Rattle.bm_named.specs.declared.map_fault.MapFault.{MapFault}
use Rattle.bm_named.specs.declared.map_fault.MapFault.TheVariants as fault
use Rattle.bm_jobfile.specs.declared.reading.JobText.{JobText as Said}
use Rattle.bm_jobfile.specs.JobFile.{IsNoDocument, HasFaultyField, HasBrokenRule, HasMapFault, HasNumbers, Says, rule_of}
use Rattle.bm_disks.specs.Input.{IsRead}
use Rattle.bm_top.specs.Moment.{SourceView}
use Rattle.bm_top.specs.declared.words.Verb.{Verb}
use Rattle.bm_top.specs.declared.words.Verb.TheVariants.{Detect, Drill}
use Rattle.bm_top.specs.declared.status.Status.{Status}
use Rattle.bm_top.specs.declared.status.Status.TheVariants.{Usage, OutOfMemory, JobFault, JobText, JobField, JobShape, JobMap}

-- ---- the command's own test of the shape

-- the command takes records of this shape: `detect` reads numbers of 8 bytes, and `drill` makes an input of 2^26 bytes at most
abbrev pub TakesShape : Verb → Shape → Type 0
TakesShape Detect s = s.width ≡ 8
TakesShape Drill s = input_size s ≤ 2 ^ 26
TakesShape _ s = Unit {0}

-- it refuses the shape, with this answer
abbrev pub RefusesShape : Verb → Shape → Status → Type 0
RefusesShape Detect s answer = (s.width ≢ 8) × (answer ≡ JobMap fault.Width)
RefusesShape Drill s answer = (2 ^ 26 < input_size s) × (answer ≡ JobShape 8)
RefusesShape _ s answer = ⊥

-- the text is a document of no faulty field, whose numbers are this shape's
pub record SaysShape (text : List ℕ) (shape : Shape) : Type 0 where
  pub said : Said
  pub says : Says text said
  pub kept : rule_of said.shape ≡ 0
  pub numbers : HasNumbers said.shape shape

-- the command refuses the text's shape, with this answer
pub record HasRefusedShape (verb : Verb) (text : List ℕ) (answer : Status) : Type 0 where
  pub shape : Shape
  pub says : SaysShape text shape
  pub refused : RefusesShape verb shape answer

-- ---- the first fault of a text

-- the command takes the text's shape, and its map has this fault, and none before it
pub record HasJobMapFault (verb : Verb) (text : List ℕ) (fault : MapFault) : Type 0 where
  pub shape : Shape
  pub takes : TakesShape verb shape
  pub faulty : HasMapFault text shape fault

-- What an answer tells of the job text. Each that refuses it names its first fault: the command's own test of the shape comes after the
-- rules of a shape and before the map.
pub record JobCause (verb : Verb) (text : List ℕ) (answer : Status) : Type 0 where
  pub document : answer ≡ JobText → IsNoDocument text
  pub field : (which : FieldName) → answer ≡ JobField which → HasFaultyField text which
  pub rule : (rule : ℕ) → answer ≡ JobShape rule → HasBrokenRule text rule ⊎ HasRefusedShape verb text answer
  pub map : (fault : MapFault) → answer ≡ JobMap fault → HasJobMapFault verb text fault ⊎ HasRefusedShape verb text answer

-- ---- the source

-- the job source was read, and its text is a document
abbrev pub IsAfterDocument : Status → Type 0
IsAfterDocument Usage = ⊥
IsAfterDocument OutOfMemory = ⊥
IsAfterDocument JobFault = ⊥
IsAfterDocument JobText = ⊥
IsAfterDocument _ = Unit {0}

-- the job source was read
abbrev pub IsAfterText : Status → Type 0
IsAfterText JobText = Unit {0}
IsAfterText answer = IsAfterDocument answer

-- The job source of a command. Whatever the answer, no more than 65537 bytes of it are read. Where the answer comes after its text, it was
-- read to its end, but of one of more bytes just so many. A text is refused for its first fault.
pub record JobRead (verb : Verb) (told : Bool) (old : SourceView) (answer : Status) (new : SourceView) : Type 0 where
  pub cause : IsTrue told → JobCause verb old.left answer
  pub ended : IsTrue told → IsAfterDocument answer → new.left ≡ []
  pub read : IsTrue told → IsAfterText answer → new.left ≡ drop 65537 old.left
  pub memory : IsTrue told → answer ≡ OutOfMemory → (new.left ≡ old.left) ⊎ (new.left ≡ [])
  pub few : IsTrue told → IsRead 65537 old.left new.left
  pub fault : answer ≡ JobFault → Rose old.faults new.faults
  pub faults : old.faults ≤ new.faults
