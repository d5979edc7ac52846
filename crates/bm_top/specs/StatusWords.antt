-- The line that tells how a command ended.
use Rattle.std.specs.Prelude.{codes, ℕ, List, ◌++◌, decimal}
use Rattle.bm_base.specs.declared.field_name.FieldName.{FieldName}
use Rattle.bm_base.specs.declared.field_name.FieldName.TheVariants as field
use Rattle.bm_named.specs.declared.map_fault.MapFault.{MapFault}
use Rattle.bm_named.specs.declared.map_fault.MapFault.TheVariants as fault
use Rattle.bm_text.specs.Line.{line}
use Rattle.bm_top.specs.declared.status.Status.{Status}
use Rattle.bm_top.specs.declared.status.Status.TheVariants.{Done, OutOfMemory, Usage, JobFault, JobText, JobField, JobShape, JobMap}
use Rattle.bm_top.specs.declared.status.Status.TheVariants.{DataFault, DataShort, DataLong, RackFault, NoDisks, WrongDims, Exists}
use Rattle.bm_top.specs.declared.status.Status.TheVariants.{NotLoaded, OtherShape, OtherJob, NotDone, NoJob, BadPage, SinkFault, OutOfRange}
use Rattle.bm_top.specs.declared.status.Status.TheVariants.{NotAffine, NotPermutation, BatchShape}

-- the name of a field of a job text, as it is printed
abbrev pub name_of : FieldName → List ℕ
name_of field.Shape = codes "shape"
name_of field.N = codes "shape.n"
name_of field.B = codes "shape.b"
name_of field.D = codes "shape.d"
name_of field.M = codes "shape.m"
name_of field.Width = codes "shape.width"
name_of field.Map = codes "map"
name_of field.Kind = codes "map.kind"
name_of field.P = codes "map.p"
name_of field.By = codes "map.by"
name_of field.Bits = codes "map.bits"
name_of field.Rows = codes "map.rows"
name_of field.Set = codes "map.set"
name_of field.Complement = codes "map.complement"
name_of field.Drill = codes "drill"
name_of field.Start = codes "drill.start"
name_of field.Stops = codes "drill.stops"
name_of field.Run = codes "run"
name_of field.Checkpoint = codes "run.checkpoint"
name_of field.Unknown = codes "unknown"

-- the words of a fault of a map, with its numbers in decimal
abbrev pub fault_words : MapFault → List ℕ
fault_words fault.Width = codes "width"
fault_words (fault.Side p) = codes "side " ++ decimal p
fault_words (fault.Length got) = codes "length " ++ decimal got
fault_words (fault.Range i) = codes "range " ++ decimal i
fault_words (fault.Twice i j) = codes "twice " ++ decimal i ++ codes " " ++ decimal j
fault_words (fault.Wide i) = codes "wide " ++ decimal i
fault_words (fault.Singular x) = codes "singular " ++ decimal x
fault_words (fault.Complement c) = codes "complement " ++ decimal c

-- the words of an answer, with its number in decimal
abbrev pub words_of : Status → List ℕ
words_of Done = codes "done"
words_of OutOfMemory = codes "out of memory"
words_of Usage = codes "usage"
words_of JobFault = codes "job fault"
words_of JobText = codes "job text"
words_of (JobField which) = codes "job field " ++ name_of which
words_of (JobShape rule) = codes "job shape rule " ++ decimal rule
words_of (JobMap fault) = codes "job map " ++ fault_words fault
words_of DataFault = codes "input fault"
words_of (DataShort got) = codes "input short " ++ decimal got
words_of DataLong = codes "input long"
words_of RackFault = codes "rack fault"
words_of NoDisks = codes "no disks"
words_of WrongDims = codes "wrong dims"
words_of Exists = codes "disks exist"
words_of NotLoaded = codes "not loaded"
words_of OtherShape = codes "other shape"
words_of OtherJob = codes "other job"
words_of (NotDone done all) = codes "not done " ++ decimal done ++ codes " of " ++ decimal all
words_of NoJob = codes "no job"
words_of (BadPage page) = codes "bad page " ++ decimal page
words_of SinkFault = codes "output fault"
words_of (OutOfRange x y) = codes "out of range " ++ decimal x ++ codes " " ++ decimal y
words_of (NotAffine x y want) = codes "not affine " ++ decimal x ++ codes " " ++ decimal y ++ codes " " ++ decimal want
words_of (NotPermutation x) = codes "not a permutation " ++ decimal x
words_of (BatchShape bay) = codes "batch shape " ++ decimal bay

-- the line of an answer
abbrev pub line_of : Status → List ℕ
line_of status = line (words_of status)
