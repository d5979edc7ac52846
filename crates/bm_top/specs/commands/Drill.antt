-- The command `drill`: the job, done to generated records on disks in memory that are stopped on the way.
use Rattle.std.specs.Prelude.{◌≡◌, ◌⊎◌, ℕ, ◌^◌, ◌++◌, IsTrue, List, length}
use Rattle.bm_base.specs.declared.report.DrillReport.{DrillReport}
use Rattle.bm_base.specs.Records.{bytes_of}
use Rattle.bm_forms.specs.Job.{meaning}
use Rattle.bm_rack.specs.Sink.{AppendsFront}
use Rattle.bm_drill.specs.Drill.{SessionCounts}
use Rattle.bm_drill.specs.Generated.{generated}
use Rattle.bm_text.specs.DrillText.{drill_text}
use Rattle.sha2.specs.Sha256.{sha256}
use Rattle.bm_top.specs.Moment.{Devices, Tells}
use Rattle.bm_top.specs.declared.task.Task.{Task}
use Rattle.bm_top.specs.commands.Run.{plan_of}
use Rattle.bm_top.specs.declared.status.Status.{Status}
use Rattle.bm_top.specs.declared.status.Status.TheVariants.{Done, OutOfMemory, SinkFault}

-- what it may answer
abbrev pub DrillMay : Status → Type 0
DrillMay Done = Unit {0}
DrillMay OutOfMemory = Unit {0}
DrillMay SinkFault = Unit {0}
DrillMay _ = ⊥

-- what the job makes of the records that are generated from its start, in order of address
abbrev pub drilled : Task → List ℕ
drilled task =
    bytes_of (2 ^ task.shape.n) (meaning task.shape.n task.job (generated task.shape.width task.start))

-- A report of the task's drill: the digest is that of what the job makes of the generated records. The passes are those of the plan, the
-- restarts no more than the stops, and the row calls those of all loads and no more than 2N/BD for each restart.
pub record IsDrillOf (task : Task) (report : DrillReport) : Type 0 where
  pub digest : report.digest ≡ sha256 (drilled task)
  pub counts : SessionCounts task.shape task.job (plan_of task) task.every (length task.stops) report

-- Where it answers Done: such a report was appended.
pub record DrillDone (t : Tells) (task : Task) (old new : Devices) : Type 0 where
  pub report : DrillReport
  pub drill : IsDrillOf task report
  pub text : IsTrue t.out → new.out.taken ≡ old.out.taken ++ drill_text report

-- Where the output failed: a front of it was appended.
pub record DrillCut (t : Tells) (task : Task) (old new : Devices) : Type 0 where
  pub report : DrillReport
  pub drill : IsDrillOf task report
  pub text : IsTrue t.out → AppendsFront old.out.taken new.out.taken (drill_text report)

-- At each exit: it touches neither the input nor the rack that it was handed.
pub record DrillLeaves (t : Tells) (task : Task) (old : Devices) (answer : Status) (new : Devices) : Type 0 where
  pub cut : answer ≡ SinkFault → DrillCut t task old new
  pub unwritten : (answer ≡ Done) ⊎ ((answer ≡ SinkFault) ⊎ (new.out ≡ old.out))
  pub input : new.input ≡ old.input
  pub rack : new.rack ≡ old.rack
