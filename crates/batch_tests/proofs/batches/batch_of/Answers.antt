use Rattle.batch_tests.proofs.AttachedLemmas.{all_attached, all_below}
use Rattle.batch_tests.proofs.batches.batch_of.Goals as goal

pub begin-requires-clause-attached : goal.begin-requires-clause-attached
begin-requires-clause-attached g c = all_attached g.R.Rack.view c.args.shape.now c.args.bays.now c.requires

pub run_turns-requires-clause-turns : goal.run_turns-requires-clause-turns
run_turns-requires-clause-turns g c =
    all_below c.args.turns.now _ _ c.count.ensures.count (c.are_below.ensures c.if-not-are_below.false)
