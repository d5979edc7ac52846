-- Plans of transforms over chosen bits.
use Rattle.std.specs.Prelude.{◌≡◌, ◌≤◌, length}
use Rattle.bm_forms.specs.declared.job.Job.TheVariants.{Walsh}
use Rattle.bm_forms.specs.Plan.{PlanValue}
use Rattle.bm_forms.specs.PassLimit.{limit_of}
use Rattle.bm_walsh.specs.Rounds.{AreRounds}

-- the rounds of the transform, for numbers of 8 bytes
pub record IsKindPlan (plan : PlanValue) : Type 0 where
  pub width : plan.shape.width ≡ 8
  pub rounds : AreRounds plan.shape plan.forms
  pub some : 1 ≤ length plan.forms
  pub few : length plan.forms ≤ limit_of plan.shape Walsh
