use Rattle.bm_kindjob.proofs.KindRoundLemmas.{rounds_do_kinds}
use Rattle.bm_kindjob.proofs.plans.kind_plan.Goals as goal

pub returns-in-Ok-clause-does : goal.returns-in-Ok-clause-does
returns-in-Ok-clause-does c = rounds_do_kinds c.args.shape.now c.in-Ok.plan.forms c.in-Ok.ensures.rounds
