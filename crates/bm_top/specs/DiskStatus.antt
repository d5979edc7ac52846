-- The answers of a command for what its disks answer.
use Rattle.bm_job.specs.declared.answers.RunError.{RunError}
use Rattle.bm_job.specs.declared.answers.RunError.TheVariants as run
use Rattle.bm_disks.specs.declared.load_error.LoadError.{LoadError}
use Rattle.bm_disks.specs.declared.load_error.LoadError.TheVariants as load
use Rattle.bm_disks.specs.declared.job_opening.OpenError.{OpenError}
use Rattle.bm_disks.specs.declared.job_opening.OpenError.TheVariants as opening
use Rattle.bm_disks.specs.declared.dumping.DumpError.{DumpError}
use Rattle.bm_disks.specs.declared.dumping.DumpError.TheVariants as dump
use Rattle.bm_disks.specs.declared.dropping.DropError.{DropError}
use Rattle.bm_disks.specs.declared.dropping.DropError.TheVariants as drop
use Rattle.bm_detect.specs.declared.detect_error.DetectError.{DetectError}
use Rattle.bm_detect.specs.declared.detect_error.DetectError.TheVariants as detect
use Rattle.bm_top.specs.declared.status.Status.{Status}
use Rattle.bm_top.specs.declared.status.Status.TheVariants.{DataFault, DataShort, DataLong, RackFault, NotLoaded, OtherShape, OtherJob}
use Rattle.bm_top.specs.declared.status.Status.TheVariants.{NoJob, BadPage, SinkFault, OutOfRange, NotAffine, NotPermutation}

-- of records that were not loaded
abbrev pub load_status : LoadError → Status
load_status load.Failed = RackFault
load_status load.DataFault = DataFault
load_status (load.DataShort got) = DataShort got
load_status load.DataLong = DataLong

-- of a job that was not done
abbrev pub run_status : RunError → Status
run_status run.Failed = RackFault
run_status run.NotLoaded = NotLoaded
run_status run.OtherShape = OtherShape
run_status run.OtherJob = OtherJob
run_status (run.BadPage page) = BadPage page

-- of a job that is not open
abbrev pub open_status : OpenError → Status
open_status opening.Failed = RackFault
open_status (opening.BadPage page) = BadPage page
open_status opening.NotLoaded = NotLoaded
open_status opening.OtherShape = OtherShape
open_status opening.NoJob = NoJob
open_status opening.OtherJob = OtherJob

-- of an area that was not written out
abbrev pub dump_status : DumpError → Status
dump_status dump.Failed = RackFault
dump_status dump.SinkFault = SinkFault

-- of numbers that are no affine permutation
abbrev pub detect_status : DetectError → Status
detect_status detect.Failed = RackFault
detect_status (detect.OutOfRange x y) = OutOfRange x y
detect_status (detect.NotAffine x y want) = NotAffine x y want
detect_status (detect.Singular x) = NotPermutation x

-- of a job that was not dropped
abbrev pub drop_status : DropError → Status
drop_status drop.Failed = RackFault
drop_status drop.NoJob = NoJob
