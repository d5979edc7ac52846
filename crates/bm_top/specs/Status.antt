-- The exit statuses, and what part of a command an answer comes of.
use Rattle.std.specs.Prelude.{ℕ}
use Rattle.bm_top.specs.declared.status.Status.{Status}
use Rattle.bm_top.specs.declared.status.Status.TheVariants.{Done, OutOfMemory, Usage, JobFault, JobText, JobField, JobShape, JobMap}
use Rattle.bm_top.specs.declared.status.Status.TheVariants.{DataFault, DataShort, DataLong, RackFault, NoDisks, WrongDims, Exists}
use Rattle.bm_top.specs.declared.status.Status.TheVariants.{NotLoaded, OtherShape, OtherJob, NotDone, NoJob, BadPage, SinkFault, OutOfRange}
use Rattle.bm_top.specs.declared.status.Status.TheVariants.{NotAffine, NotPermutation, BatchShape}

-- the exit status of an answer
abbrev pub code_of : Status → ℕ
code_of Done = 0
code_of OutOfMemory = 1
code_of Usage = 2
code_of JobFault = 3
code_of JobText = 4
code_of (JobField which) = 5
code_of (JobShape rule) = 6
code_of (JobMap fault) = 7
code_of DataFault = 8
code_of (DataShort got) = 9
code_of DataLong = 10
code_of RackFault = 11
code_of NoDisks = 12
code_of WrongDims = 13
code_of Exists = 14
code_of NotLoaded = 15
code_of OtherShape = 16
code_of OtherJob = 17
code_of (NotDone done all) = 18
code_of NoJob = 19
code_of (BadPage page) = 20
code_of SinkFault = 21
code_of (OutOfRange x y) = 22
code_of (NotAffine x y want) = 23
code_of (NotPermutation x) = 24
code_of (BatchShape bay) = 25

-- the answer comes of the words alone
abbrev pub IsOfWords : Status → Type 0
IsOfWords Usage = Unit {0}
IsOfWords (JobShape rule) = Unit {0}
IsOfWords _ = ⊥

-- the answer refuses the job: its source failed, or its text is at fault
abbrev pub RefusesJob : Status → Type 0
RefusesJob JobFault = Unit {0}
RefusesJob JobText = Unit {0}
RefusesJob (JobField which) = Unit {0}
RefusesJob (JobShape rule) = Unit {0}
RefusesJob (JobMap fault) = Unit {0}
RefusesJob _ = ⊥

-- the answer may come before the text of the job is known to be a document
abbrev pub IsBeforeDocument : Status → Type 0
IsBeforeDocument OutOfMemory = Unit {0}
IsBeforeDocument JobFault = Unit {0}
IsBeforeDocument JobText = Unit {0}
IsBeforeDocument _ = ⊥

-- the answer may come before the job is read
abbrev pub IsBeforeTask : Status → Type 0
IsBeforeTask OutOfMemory = Unit {0}
IsBeforeTask answer = RefusesJob answer

-- the answer comes of the input
abbrev pub IsOfInput : Status → Type 0
IsOfInput DataFault = Unit {0}
IsOfInput (DataShort got) = Unit {0}
IsOfInput DataLong = Unit {0}
IsOfInput _ = ⊥

-- the answer comes of what the control file tells, all its pages being right
abbrev pub IsOfSlate : Status → Type 0
IsOfSlate NotLoaded = Unit {0}
IsOfSlate OtherShape = Unit {0}
IsOfSlate OtherJob = Unit {0}
IsOfSlate (NotDone done all) = Unit {0}
IsOfSlate NoJob = Unit {0}
IsOfSlate _ = ⊥

-- the answer comes of the control file, whose pages tell it or one of whose pages is wrong
abbrev pub IsOfState : Status → Type 0
IsOfState (BadPage page) = Unit {0}
IsOfState answer = IsOfSlate answer

-- the answer always comes before the first row, page or sync of the disks
abbrev pub IsBeforeDisks : Status → Type 0
IsBeforeDisks OutOfMemory = Unit {0}
IsBeforeDisks NoDisks = Unit {0}
IsBeforeDisks WrongDims = Unit {0}
IsBeforeDisks Exists = Unit {0}
IsBeforeDisks _ = ⊥
