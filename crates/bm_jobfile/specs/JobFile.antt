-- What a job text means: a job file, or its first fault.
use Rattle.std.specs.Prelude.{ℕ, ◌≡◌, ◌≢◌, ◌⊎◌, ◌-◌, ◌^◌, ◌<◌, ◌≤◌, min, List, length, Ok, Err, IsUtf8}
use Rattle.std.specs.declared.option.Option.{Option}
use Rattle.std.specs.declared.option.Option.TheVariants.{Some, None}
use Rattle.toml.specs.Data.{Members}
use Rattle.toml.specs.Parse.{parse_document}
use Rattle.bm_base.specs.declared.field_name.FieldName.{FieldName}
use Rattle.bm_base.specs.declared.shape.Shape.{Shape}
use Rattle.bm_base.specs.ShapeRules.{broken_rule}
use Rattle.bm_named.specs.declared.map_fault.MapFault.{MapFault}
use Rattle.bm_jobfile.specs.declared.fields.FieldError.{FieldError}
use Rattle.bm_jobfile.specs.declared.fields.FieldError.TheVariants.{Faulty, OutOfMemory}
use Rattle.bm_jobfile.specs.declared.job_file.JobError.{JobError}
use Rattle.bm_jobfile.specs.declared.job_file.JobError.TheVariants as error
use Rattle.bm_jobfile.specs.declared.job_file.JobFile.{JobFile}
use Rattle.bm_jobfile.specs.declared.shape_table.ShapeNumbers.{ShapeNumbers}
use Rattle.bm_jobfile.specs.declared.reading.JobText.{JobText}
use Rattle.bm_jobfile.specs.JobText.{text_of}
use Rattle.bm_jobfile.specs.MapJob.{IsJobOf, MapFaultIs, MapIsFaultless}

-- the refusal of a text whose field gives nothing
abbrev pub refusal_of : FieldError → JobError
refusal_of (Faulty which) = error.Field which
refusal_of OutOfMemory = error.OutOfMemory

-- after how many loads a checkpoint is taken: what the text names, all loads of a pass at most and by default
abbrev pub every_of : Option ℕ → ℕ → ℕ
every_of (Some count) loads = min count loads
every_of None loads = loads

-- the first rule of a shape that the numbers break, or 0
abbrev pub rule_of : ShapeNumbers → ℕ
rule_of s = broken_rule s.n s.b s.d s.m s.width

-- a shape of these numbers
pub record HasNumbers (numbers : ShapeNumbers) (shape : Shape) : Type 0 where
  pub n : shape.n ≡ numbers.n
  pub b : shape.b ≡ numbers.b
  pub d : shape.d ≡ numbers.d
  pub m : shape.m ≡ numbers.m
  pub width : shape.width ≡ numbers.width

-- the fields say a shape that breaks this rule first
pub record BreaksRule (text : JobText) (rule : ℕ) : Type 0 where
  pub broken : rule ≡ rule_of text.shape
  pub some : rule ≢ 0

-- the fields say a shape that keeps the rules, and a map whose first fault is this
pub record FaultsMap (text : JobText) (shape : Shape) (fault : MapFault) : Type 0 where
  pub kept : rule_of text.shape ≡ 0
  pub numbers : HasNumbers text.shape shape
  pub faulty : MapFaultIs shape text.map fault

-- the file of what the fields say
pub record IsFileOf (text : JobText) (file : JobFile) : Type 0 where
  pub kept : rule_of text.shape ≡ 0
  pub numbers : HasNumbers text.shape file.shape
  pub faultless : MapIsFaultless file.shape text.map
  pub job : IsJobOf file.shape text.map file.job
  pub start : file.start ≡ text.start
  pub stops : file.stops ≡ text.stops
  pub every : file.every ≡ every_of text.checkpoint (2 ^ (file.shape.n - file.shape.m))

-- the text has at most 65536 bytes and is this document
pub record IsDocument (text : List ℕ) (document : Members) : Type 0 where
  pub short : length text ≤ 65536
  pub utf8 : IsUtf8 text
  pub parsed : parse_document text ≡ Some document

-- the text is longer, or no document
abbrev pub IsNoDocument : List ℕ → Type 0
IsNoDocument text = (65536 < length text) ⊎ (IsUtf8 text → parse_document text ≡ None)

-- the text is a document whose first faulty field is this
pub record HasFaultyField (text : List ℕ) (which : FieldName) : Type 0 where
  pub document : Members
  pub read : IsDocument text document
  pub faulty : text_of document ≡ Err which

-- the text is a document of no faulty field, whose fields say this
pub record Says (text : List ℕ) (said : JobText) : Type 0 where
  pub document : Members
  pub read : IsDocument text document
  pub fields : text_of document ≡ Ok said

-- the text's shape breaks this rule first
pub record HasBrokenRule (text : List ℕ) (rule : ℕ) : Type 0 where
  pub said : JobText
  pub says : Says text said
  pub rule_broken : BreaksRule said rule

-- the text has this shape, and its map this first fault
pub record HasMapFault (text : List ℕ) (shape : Shape) (fault : MapFault) : Type 0 where
  pub said : JobText
  pub says : Says text said
  pub map_faulty : FaultsMap said shape fault

-- the text means this file
pub record IsJobFile (text : List ℕ) (file : JobFile) : Type 0 where
  pub said : JobText
  pub says : Says text said
  pub file_said : IsFileOf said file
