use Rattle.bm_batch.proofs.BatchLemmas.{batch_none, batch_then, batch_attached}
use Rattle.bm_batch.proofs.batch.Batch.take_turns.Goals as goal

pub loop-bay-init : goal.loop-bay-init
loop-bay-init g c = record {
  turned = batch_none g.Y.Rack.view _ _ c.args.self.now c.args.bays.now g.met.Y.Rack.consistent c.requires.many;
  fits = c.requires.fits;
}

pub turn-requires-clause-attached : goal.turn-requires-clause-attached
turn-requires-clause-attached g c = batch_attached _ _ _ _ _ _ c.loop-bay.invariant.turned c.requires.attached

pub loop-bay-preserved : goal.loop-bay-preserved
loop-bay-preserved g c = record {
  turned = batch_then _ _ _ _ _ _ _ _ c.loop-bay.invariant.turned c.turn.ensures.turned;
  fits = c.turn.ensures.fits;
}
