use Rattle.std.proofs.Common.{subst}
use Rattle.bm_control.proofs.EqualLemmas.{some_injective}
use Rattle.bm_job.specs.Follows.{IsNext}
use Rattle.bm_job.proofs.durable_step.after_load.Goals as goal

pub returns-clause-follows : goal.returns-clause-follows
returns-clause-follows c v holds next = record {
  held = holds.held;
  form = λ form is. subst (IsNext c.args.machine.now.shape c.args.machine.now.done v.contents) (some_injective c.args.form.now form is)
      next;
  moved = holds.moved;
}
