-- What the top call does, for every command.
use Rattle.std.specs.Prelude.{◌≡◌, ◌≢◌, ◌⊎◌, ◌↔◌, ℕ, List, String, IsTrue}
use Rattle.std.specs.declared.alloc.Global.{Global}
use Rattle.bm_base.specs.declared.shape.Shape.{Shape}
use Rattle.bm_base.specs.Count.{Rose}
use Rattle.bm_base.specs.ShapeRules.{broken_rule}
use Rattle.bm_jobfile.specs.declared.job_file.JobFile.{JobFile}
use Rattle.bm_jobfile.specs.JobFile.{IsJobFile}
use Rattle.bm_top.specs.Causes.{CauseOf}
use Rattle.bm_top.specs.Exits.{EachExit}
use Rattle.bm_top.specs.JobRead.{JobRead, TakesShape}
use Rattle.bm_top.specs.Moment.{Devices, Moment, Tells}
use Rattle.bm_top.specs.Status.{IsOfWords, RefusesJob, IsBeforeTask}
use Rattle.bm_top.specs.declared.task.Task.{Task}
use Rattle.bm_top.specs.Task.{HoldsTask, IsFlipTask, TaskFits}
use Rattle.bm_top.specs.Words.{IsFlip, IsJobWords, IsNoCommand, flip_by}
use Rattle.bm_top.specs.commands.New.{NewMay, NewDone, NewLeaves, NewCase}
use Rattle.bm_top.specs.commands.Load.{LoadMay, LoadDone, LoadLeaves, LoadCase}
use Rattle.bm_top.specs.commands.Plan.{PlanMay, PlanDone, PlanLeaves}
use Rattle.bm_top.specs.commands.Run.{RunMay, RunDoneWith, RunLeaves, RunCase}
use Rattle.bm_top.specs.commands.Status.{StatusMay, StatusDone, StatusLeaves, StatusCase}
use Rattle.bm_top.specs.commands.Dump.{DumpMay, DumpDone, DumpLeaves, DumpCase}
use Rattle.bm_top.specs.commands.Drop.{DropMay, DropDone, DropLeaves, DropCase}
use Rattle.bm_top.specs.commands.Detect.{DetectMay, DetectDone, DetectLeaves, DetectCase}
use Rattle.bm_top.specs.commands.Carry.{CarryMay, CarryDone, CarryLeaves, CarryCase}
use Rattle.bm_top.specs.commands.Drill.{DrillMay, DrillDone, DrillLeaves}
use Rattle.bm_top.specs.declared.words.Flip.{Flip}
use Rattle.bm_top.specs.declared.words.Verb.{Verb}
use Rattle.bm_top.specs.declared.words.Verb.TheVariants as verbs
use Rattle.bm_top.specs.declared.status.Status.{Status}
use Rattle.bm_top.specs.declared.status.Status.TheVariants.{Done, OutOfMemory, Usage, JobShape}

-- ---- by the command

-- the answers that it may give once its job is read
abbrev pub may_of : Verb → Status → Type 0
may_of verbs.New = NewMay
may_of verbs.Load = LoadMay
may_of verbs.Plan = PlanMay
may_of verbs.Run = RunMay
may_of verbs.Status = StatusMay
may_of verbs.Dump = DumpMay
may_of verbs.Drop = DropMay
may_of verbs.Detect = DetectMay
may_of verbs.Carry = CarryMay
may_of verbs.Drill = DrillMay

-- what Done says
abbrev pub done_of : Verb → Tells → Task → Devices → Devices → Type 0
done_of verbs.New = NewDone
done_of verbs.Load = LoadDone
done_of verbs.Plan = PlanDone
done_of verbs.Run = RunDoneWith
done_of verbs.Status = StatusDone
done_of verbs.Dump = DumpDone
done_of verbs.Drop = λ t task. DropDone t
done_of verbs.Detect = DetectDone
done_of verbs.Carry = CarryDone
done_of verbs.Drill = DrillDone

-- what each exit leaves
abbrev pub leaves_of : Verb → Tells → Task → Devices → Status → Devices → Type 0
leaves_of verbs.New = λ t task old answer new. NewLeaves answer old new
leaves_of verbs.Load = LoadLeaves
leaves_of verbs.Plan = PlanLeaves
leaves_of verbs.Run = RunLeaves
leaves_of verbs.Status = StatusLeaves
leaves_of verbs.Dump = DumpLeaves
leaves_of verbs.Drop = λ t. DropLeaves
leaves_of verbs.Detect = DetectLeaves
leaves_of verbs.Carry = CarryLeaves
leaves_of verbs.Drill = DrillLeaves

-- where it answers Done or OutOfMemory, if no device fails
abbrev pub case_of : Verb → Tells → Task → Devices → Type 0
case_of verbs.New = λ t task. NewCase t
case_of verbs.Load = LoadCase
case_of verbs.Plan = λ t task old. Unit {0}
case_of verbs.Run = RunCase
case_of verbs.Status = StatusCase
case_of verbs.Dump = DumpCase
case_of verbs.Drop = DropCase
case_of verbs.Detect = DetectCase
case_of verbs.Carry = CarryCase
case_of verbs.Drill = λ t task old. Unit {0}

-- ---- one command

-- no device failed
pub record NoFaults (old new : Devices) : Type 0 where
  pub input : ¬ Rose old.input.faults new.input.faults
  pub out : ¬ Rose old.out.faults new.out.faults
  pub rack : ¬ Rose old.rack.faults new.rack.faults

-- the command is carried out, but for want of memory
abbrev pub IsDoneUnlessMemory : Status → Type 0
IsDoneUnlessMemory answer = (answer ≡ Done) ⊎ (answer ≡ OutOfMemory)

-- What a command does once its job is read.
pub record TaskCall (t : Tells) (verb : Verb) (task : Task) (old : Devices) (answer : Status) (new : Devices) : Type 0 where
  pub may : may_of verb answer
  pub cause : CauseOf t verb task old answer new
  pub done : answer ≡ Done → done_of verb t task old new
  pub leaves : leaves_of verb t task old answer new
  pub each : EachExit t verb task old answer new
  pub complete : case_of verb t task old → NoFaults old new → IsDoneUnlessMemory answer

-- A command whose words name a job: the job source is read, and a job that is refused or not read leaves all else as it was. Otherwise the
-- source holds a task whose numbers keep their ranges and whose shape the command takes, and the command does it. A text that means a job
-- of such a shape is refused only where the source failed.
pub record JobCall (t : Tells) (verb : Verb) (old : Moment) (answer : Status) (new : Moment) : Type 0 where
  pub source : JobRead verb t.job old.job answer new.job
  pub task : (IsBeforeTask answer × (new.devices ≡ old.devices))
      ⊎ ((task : Task) × HoldsTask t.job old.job task × TaskFits task × TakesShape verb task.shape
      × TaskCall t verb task old.devices answer new.devices)
  -- these two follow from those above; they stay since a reader looks for them here
  pub refused : RefusesJob answer → new.devices ≡ old.devices
  pub accepted : (file : JobFile) → IsTrue t.job → IsJobFile old.job.left file → TakesShape verb file.shape
      → ¬ Rose old.job.faults new.job.faults → ¬ RefusesJob answer

-- A flip has no job source. It carries the input through the job x XOR c, where its numbers are a shape's.
pub record FlipCall (t : Tells) (flip : Flip) (old : Moment) (answer : Status) (new : Moment) : Type 0 where
  pub source : new.job ≡ old.job
  pub task : (s : Shape) → flip ≡ flip_by s flip.c
      → (task : Task) × IsFlipTask s flip.c task × TaskCall t verbs.Carry task old.devices answer new.devices
  pub shape : (rule : ℕ) → (answer ≡ JobShape rule)
      ↔ ((rule ≢ 0) × (rule ≡ broken_rule flip.n flip.b flip.d flip.m flip.width))
  pub refused : IsOfWords answer → new.devices ≡ old.devices

-- The whole call but its last line, which only `err` takes.
pub record TopCall (t : Tells) (words : List (String Global)) (old : Moment) (answer : Status) (new : Moment) : Type 0 where
  pub usage : (answer ≡ Usage) ↔ IsNoCommand words
  pub nothing : IsNoCommand words → new ≡ old
  pub job : (verb : Verb) → IsJobWords words verb → JobCall t verb old answer new
  pub flip : (flip : Flip) → IsFlip words flip → FlipCall t flip old answer new
