-- What the steps of a command never answer.
use Rattle.std.proofs.Common.{◌≢◌}
use Rattle.bm_disks.specs.declared.load_error.LoadError.{LoadError}
use Rattle.bm_disks.specs.declared.load_error.LoadError.TheVariants as load
use Rattle.bm_job.specs.declared.answers.RunError.{RunError}
use Rattle.bm_job.specs.declared.answers.RunError.TheVariants as run
use Rattle.bm_top.specs.declared.disks.DisksError.{DisksError}
use Rattle.bm_top.specs.declared.disks.DisksError.TheVariants as disks
use Rattle.bm_top.specs.Disks.{disks_status}
use Rattle.bm_top.specs.DiskStatus.{load_status, run_status}
use Rattle.bm_top.specs.Status.{IsBeforeDisks, IsOfInput}
use Rattle.bm_top.specs.declared.status.Status.TheVariants.{Done, SinkFault}

-- ---- the disks, that are made or attached

pub disks_no_input : (e : DisksError) → ¬ IsOfInput (disks_status e)
disks_no_input disks.RackFault = λ is. is
disks_no_input disks.OutOfMemory = λ is. is
disks_no_input disks.Exists = λ is. is
disks_no_input disks.NoDisks = λ is. is
disks_no_input disks.WrongDims = λ is. is

pub disks_no_sink : (e : DisksError) → disks_status e ≢ SinkFault
disks_no_sink disks.RackFault = λ is. absurd (cc)
disks_no_sink disks.OutOfMemory = λ is. absurd (cc)
disks_no_sink disks.Exists = λ is. absurd (cc)
disks_no_sink disks.NoDisks = λ is. absurd (cc)
disks_no_sink disks.WrongDims = λ is. absurd (cc)

pub disks_not_done : (e : DisksError) → disks_status e ≢ Done
disks_not_done disks.RackFault = λ is. absurd (cc)
disks_not_done disks.OutOfMemory = λ is. absurd (cc)
disks_not_done disks.Exists = λ is. absurd (cc)
disks_not_done disks.NoDisks = λ is. absurd (cc)
disks_not_done disks.WrongDims = λ is. absurd (cc)

-- ---- the load of an input

pub load_not_done : (e : LoadError) → load_status e ≢ Done
load_not_done load.Failed is = absurd (cc)
load_not_done load.DataFault is = absurd (cc)
load_not_done (load.DataShort got) is = absurd (cc)
load_not_done load.DataLong is = absurd (cc)

pub load_no_sink : (e : LoadError) → load_status e ≢ SinkFault
load_no_sink load.Failed is = absurd (cc)
load_no_sink load.DataFault is = absurd (cc)
load_no_sink (load.DataShort got) is = absurd (cc)
load_no_sink load.DataLong is = absurd (cc)

-- ---- the run

pub run_not_done : (e : RunError) → run_status e ≢ Done
run_not_done run.Failed is = absurd (cc)
run_not_done run.NotLoaded is = absurd (cc)
run_not_done run.OtherShape is = absurd (cc)
run_not_done run.OtherJob is = absurd (cc)
run_not_done (run.BadPage page) is = absurd (cc)

pub run_no_sink : (e : RunError) → run_status e ≢ SinkFault
run_no_sink run.Failed is = absurd (cc)
run_no_sink run.NotLoaded is = absurd (cc)
run_no_sink run.OtherShape is = absurd (cc)
run_no_sink run.OtherJob is = absurd (cc)
run_no_sink (run.BadPage page) is = absurd (cc)

pub run_late : (e : RunError) → ¬ IsBeforeDisks (run_status e)
run_late run.Failed is = is
run_late run.NotLoaded is = is
run_late run.OtherShape is = is
run_late run.OtherJob is = is
run_late (run.BadPage page) is = is

pub run_no_input : (e : RunError) → ¬ IsOfInput (run_status e)
run_no_input run.Failed is = is
run_no_input run.NotLoaded is = is
run_no_input run.OtherShape is = is
run_no_input run.OtherJob is = is
run_no_input (run.BadPage page) is = is
