-- The refusals of a control call as those of a run.
use Rattle.bm_control.specs.declared.state.ControlError.{ControlError}
use Rattle.bm_control.specs.declared.state.ControlError.TheVariants as control
use Rattle.bm_job.specs.declared.answers.RunError.{RunError}
use Rattle.bm_job.specs.declared.answers.RunError.TheVariants.{Failed, BadPage}

-- the same refusal
abbrev pub run_error : ControlError → RunError
run_error control.Failed = Failed
run_error (control.BadPage page) = BadPage page
