use Rattle.bm_walsh.proofs.RoundsLemmas.{rounds_stand, rounds_within, rounds_count}
use Rattle.bm_walsh.proofs.rounds.walsh_plan.Goals as goal

pub returns-in-Ok-clause-stands : goal.returns-in-Ok-clause-stands
returns-in-Ok-clause-stands c = rounds_stand c.args.shape.now c.in-Ok.plan c.in-Ok.ensures.shape c.in-Ok.ensures.rounds

pub returns-in-Ok-clause-length : goal.returns-in-Ok-clause-length
returns-in-Ok-clause-length c = rounds_count c.args.shape.now c.in-Ok.plan.forms c.in-Ok.ensures.rounds

pub returns-in-Ok-clause-few : goal.returns-in-Ok-clause-few
returns-in-Ok-clause-few c = (rounds_within c.args.shape.now c.in-Ok.plan.forms c.in-Ok.ensures.rounds).0

pub returns-in-Ok-clause-some : goal.returns-in-Ok-clause-some
returns-in-Ok-clause-some c = (rounds_within c.args.shape.now c.in-Ok.plan.forms c.in-Ok.ensures.rounds).1
