-- The task of a job text or of a flip.
use Rattle.std.specs.Prelude.{ℕ, ◌≡◌, ◌≤◌, ◌^◌, ◌<◌, bit_xor, Bool, IsTrue, length}
use Rattle.bm_base.specs.declared.shape.Shape.{Shape}
use Rattle.bm_base.specs.Shape.{loads_of}
use Rattle.bm_gf2.specs.Affine.{affine_image}
use Rattle.bm_gf2.specs.declared.affine.Affine.{Affine}
use Rattle.bm_forms.specs.declared.job.Job.TheVariants.{Permute}
use Rattle.bm_forms.specs.Job.{JobFits}
use Rattle.bm_forms.specs.PassCount.{passes_of}
use Rattle.bm_forms.specs.PassLimit.{limit_of}
use Rattle.bm_forms.specs.Plan.{PlanValue, StandsFor}
use Rattle.bm_jobfile.specs.declared.job_file.JobFile.{JobFile}
use Rattle.bm_jobfile.specs.JobFile.{IsJobFile}
use Rattle.bm_top.specs.Moment.{SourceView}
use Rattle.bm_top.specs.declared.task.Task.{Task}

-- its numbers keep their ranges: a job of the shape, 1 to N/M loads, and at most 64 stops
pub record TaskFits (task : Task) : Type 0 where
  pub job : JobFits task.shape task.job
  pub every_some : 1 ≤ task.every
  pub every_few : task.every ≤ loads_of task.shape
  pub stops_few : length task.stops ≤ 64

-- this is the plan of its job: it has the passes of one, at least 1 and no more than the pass limit
pub record IsPlanOf (task : Task) (plan : PlanValue) : Type 0 where
  pub stands : StandsFor plan task.shape task.job
  pub passes : length plan.forms ≡ passes_of task.shape task.job
  pub some : 1 ≤ length plan.forms
  pub few : length plan.forms ≤ limit_of task.shape task.job

-- the task of a job text that means this file
pub record IsTaskOf (file : JobFile) (task : Task) : Type 0 where
  pub shape : task.shape ≡ file.shape
  pub job : task.job ≡ file.job
  pub every : task.every ≡ file.every
  pub start : task.start ≡ file.start
  pub stops : task.stops ≡ file.stops

-- The job source holds this task: its text, where it is told, means a job file of it.
abbrev pub HoldsTask : Bool → SourceView → Task → Type 0
HoldsTask told source task = IsTrue told → (file : JobFile) × IsJobFile source.left file × IsTaskOf file task

-- The task of a flip: each address of the shape goes to itself XOR c, and progress is made durable after whole passes. Its map is one of
-- the shape's addresses, and nonsingular.
pub record IsFlipTask (s : Shape) (c : ℕ) (task : Task) : Type 0 where
  pub shape : task.shape ≡ s
  pub map : Affine
  pub job : task.job ≡ Permute map
  pub sends : (x : ℕ) → x < 2 ^ s.n → affine_image map x ≡ bit_xor x c
  pub every : task.every ≡ loads_of s
  pub fits : TaskFits task
