-- The command `plan`: the steps of the job's plan, and the parallel transfers that it takes.
use Rattle.std.specs.Prelude.{◌≡◌, ◌++◌, IsTrue}
use Rattle.bm_rack.specs.Sink.{AppendsFront}
use Rattle.bm_text.specs.PlanText.{plan_text}
use Rattle.bm_top.specs.Moment.{Devices, Tells}
use Rattle.bm_top.specs.declared.task.Task.{Task}
use Rattle.bm_top.specs.declared.status.Status.{Status}
use Rattle.bm_top.specs.declared.status.Status.TheVariants.{Done, OutOfMemory, SinkFault}

-- what it may answer
abbrev pub PlanMay : Status → Type 0
PlanMay Done = Unit {0}
PlanMay OutOfMemory = Unit {0}
PlanMay SinkFault = Unit {0}
PlanMay _ = ⊥

-- Where it answers Done: the plan was appended.
abbrev pub PlanDone : Tells → Task → Devices → Devices → Type 0
PlanDone t task old new = IsTrue t.out → new.out.taken ≡ old.out.taken ++ plan_text task.shape task.job

-- At each exit: it touches neither the input nor the rack.
pub record PlanLeaves (t : Tells) (task : Task) (old : Devices) (answer : Status) (new : Devices) : Type 0 where
  pub front : IsTrue t.out → AppendsFront old.out.taken new.out.taken (plan_text task.shape task.job)
  pub unwritten : answer ≡ OutOfMemory → new.out ≡ old.out
  pub input : new.input ≡ old.input
  pub rack : new.rack ≡ old.rack
