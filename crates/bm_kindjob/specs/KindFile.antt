-- What the text of a transform over chosen bits means: a file, or its first fault.
use Rattle.std.specs.Prelude.{ℕ, ◌≡◌, ◌≢◌, ◌⊎◌, ◌^◌, ◌<◌, List, length, slice_index, Ok, Err}
use Rattle.toml.specs.Data.{Members}
use Rattle.bm_base.specs.declared.field_name.FieldName.{FieldName}
use Rattle.bm_base.specs.declared.shape.Shape.{Shape}
use Rattle.bm_named.specs.declared.map_fault.MapFault.{MapFault}
use Rattle.bm_named.specs.declared.map_fault.MapFault.TheVariants as fault
use Rattle.bm_jobfile.specs.JobFile.{rule_of, HasNumbers, IsDocument}
use Rattle.bm_kinds.specs.OnBits.{set_of, AreBits}
use Rattle.bm_kindjob.specs.declared.reading.KindText.{KindText}
use Rattle.bm_kindjob.specs.declared.kind_file.KindFile.{KindFile}
use Rattle.bm_kindjob.specs.SetList.{SetFaultIs}
use Rattle.bm_kindjob.specs.KindText.{text_of}

-- the records are numbers of 8 bytes, and the list has different address bits, which are those of the set
pub record IsSetFor (s : Shape) (list : List ℕ) (set : ℕ) : Type 0 where
  pub width : s.width ≡ 8
  pub bits : AreBits s.n (length list) (slice_index list)
  pub is : set ≡ set_of (slice_index list) (length list)
  pub below : set < 2 ^ s.n

-- the first fault: the width of the records, then an entry of the list
abbrev pub MapFaultIs : Shape → List ℕ → MapFault → Type 0
MapFaultIs s list e = ((e ≡ fault.Width) × (s.width ≢ 8)) ⊎ ((s.width ≡ 8) × SetFaultIs s.n list e)

-- the fields say a shape that breaks this rule first
pub record BreaksRule (text : KindText) (rule : ℕ) : Type 0 where
  pub broken : rule ≡ rule_of text.shape
  pub some : rule ≢ 0

-- the fields say a shape that keeps the rules, and this is the first fault of the map
pub record FaultsMap (text : KindText) (shape : Shape) (fault : MapFault) : Type 0 where
  pub kept : rule_of text.shape ≡ 0
  pub numbers : HasNumbers text.shape shape
  pub faulty : MapFaultIs shape text.list fault

-- the file of what the fields say
pub record IsFileOf (text : KindText) (file : KindFile) : Type 0 where
  pub kept : rule_of text.shape ≡ 0
  pub numbers : HasNumbers text.shape file.shape
  pub kind : file.kind ≡ text.kind
  pub set : IsSetFor file.shape text.list file.set

-- the text is a document whose first faulty field is this
pub record HasFaultyField (text : List ℕ) (which : FieldName) : Type 0 where
  pub document : Members
  pub read : IsDocument text document
  pub faulty : text_of document ≡ Err which

-- the text is a document of no faulty field, whose fields say this
pub record Says (text : List ℕ) (said : KindText) : Type 0 where
  pub document : Members
  pub read : IsDocument text document
  pub fields : text_of document ≡ Ok said

-- the text's shape breaks this rule first
pub record HasBrokenRule (text : List ℕ) (rule : ℕ) : Type 0 where
  pub said : KindText
  pub says : Says text said
  pub rule_broken : BreaksRule said rule

-- the text has this shape, and this is the first fault of its map
pub record HasMapFault (text : List ℕ) (shape : Shape) (fault : MapFault) : Type 0 where
  pub said : KindText
  pub says : Says text said
  pub map_faulty : FaultsMap said shape fault

-- the text means this file
pub record IsKindFile (text : List ℕ) (file : KindFile) : Type 0 where
  pub said : KindText
  pub says : Says text said
  pub file_said : IsFileOf said file
