-- The job texts of a batch, read in order.
use Rattle.std.specs.Prelude.{◌≡◌, ◌≢◌, ◌⊎◌, ℕ, ◌<◌, ◌≤◌, Bool, IsTrue, List, [], length}
use Rattle.bm_base.specs.Count.{Rose}
use Rattle.bm_jobfile.specs.declared.job_file.JobFile.{JobFile}
use Rattle.bm_jobfile.specs.JobFile.{IsJobFile}
use Rattle.bm_top.specs.JobRead.{JobRead}
use Rattle.bm_top.specs.Moment.{SourceView}
use Rattle.bm_top.specs.Status.{IsBeforeTask}
use Rattle.bm_top.specs.Task.{HoldsTask, TaskFits}
use Rattle.bm_top.specs.declared.task.Task.{Task}
use Rattle.bm_top.specs.declared.words.Verb.TheVariants.{Carry}
use Rattle.bm_top.specs.declared.status.Status.{Status}
use Rattle.bm_top.specs.declared.status.Status.TheVariants.{OutOfMemory, Usage, JobFault, JobText, JobField, JobShape, JobMap}
use Rattle.bm_batch_call.specs.Lists.{UpTo, EndsAt}
use Rattle.bm_batch_call.specs.Moment.{no_source, source_at}

-- a source held this task, and was read to its end
pub record TaskRead (told : Bool) (task : Task) (old new : SourceView) : Type 0 where
  pub holds : HoldsTask told old task
  pub fits : TaskFits task
  pub ended : IsTrue told → (new.left ≡ []) × (length old.left ≤ 65536)
  pub faults : old.faults ≤ new.faults

-- each of so many sources held its task
pub record AreRead (told : Bool) (count : ℕ) (tasks : ℕ → Task) (old new : List SourceView) : Type 0 where
  pub many : length old ≡ count
  pub read : UpTo no_source (λ k. TaskRead told (tasks k)) count old new

-- One is refused, with this answer: those before it were read, and those after it were not asked.
pub record IsRefusedAt (told : Bool) (old : List SourceView) (answer : Status) (new : List SourceView) : Type 0 where
  pub at : ℕ
  pub texts : EndsAt no_source (λ k was is. (task : Task) × TaskRead told task was is) (λ k was is. JobRead Carry told was answer is) at
      old new

-- No task is known of each: a text is refused, or memory was refused before the first.
pub record AreRefused (told : Bool) (old : List SourceView) (answer : Status) (new : List SourceView) : Type 0 where
  pub early : IsBeforeTask answer
  pub at : ((answer ≡ OutOfMemory) × (new ≡ old)) ⊎ IsRefusedAt told old answer new

-- the answer comes after the texts
abbrev pub IsAfterTexts : Status → Type 0
IsAfterTexts Usage = ⊥
IsAfterTexts JobFault = ⊥
IsAfterTexts JobText = ⊥
IsAfterTexts (JobField which) = ⊥
IsAfterTexts (JobShape rule) = ⊥
IsAfterTexts (JobMap fault) = ⊥
IsAfterTexts _ = Unit {0}

-- no text is at fault, and no source failed
pub record AreWell (old new : List SourceView) : Type 0 where
  pub texts : (k : ℕ) → k < length old → (file : JobFile) × IsJobFile (source_at old k).left file
  pub calm : (k : ℕ) → k < length old → ¬ Rose (source_at old k).faults (source_at new k).faults

-- bay k is the first whose job's shape differs from that of job 0
pub record IsFirstOther (count : ℕ) (tasks : ℕ → Task) (bay : ℕ) : Type 0 where
  pub below : bay < count
  pub differs : (tasks bay).shape ≢ (tasks 0).shape
  pub earlier : (k : ℕ) → k < bay → (tasks k).shape ≡ (tasks 0).shape

-- all are of one shape
abbrev pub AreOfOneShape : ℕ → (ℕ → Task) → Type 0
AreOfOneShape count tasks = (k : ℕ) → k < count → (tasks k).shape ≡ (tasks 0).shape
