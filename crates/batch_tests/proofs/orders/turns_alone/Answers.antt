use Rattle.batch_tests.proofs.AttachedLemmas.{all_attached, all_below}
use Rattle.batch_tests.proofs.orders.turns_alone.Goals as goal

pub begin-requires-clause-attached : goal.begin-requires-clause-attached
begin-requires-clause-attached g c = all_attached g.R.Rack.view c.args.shape.now c.have_loaded.new.bays
    (c.have_loaded.ensures c.if-not-have_loaded.false)

pub turns_of-requires-clause-turns : goal.turns_of-requires-clause-turns
turns_of-requires-clause-turns g c =
    all_below c.args.turns.now _ _ c.count.ensures.count (c.are_below.ensures c.if-not-are_below.false)
