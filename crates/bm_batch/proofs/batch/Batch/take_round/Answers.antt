use Rattle.std.proofs.Common.{◌<◌, length, arith}
use Rattle.bm_batch.proofs.BatchLemmas.{batch_none, batch_then, batch_attached}
use Rattle.bm_batch.proofs.RoundLemmas.{turned_next}
use Rattle.bm_batch.proofs.batch.Batch.take_round.Goals as goal

pub loop-bay-init : goal.loop-bay-init
loop-bay-init g c = record {
  turned = batch_none g.Y.Rack.view _ _ c.args.self.now c.args.bays.now g.met.Y.Rack.consistent c.requires.many;
  each = λ k d none. absurd (omega (arith, none));
  fits = c.requires.fits;
}

pub turn-requires-clause-attached : goal.turn-requires-clause-attached
turn-requires-clause-attached g c = batch_attached _ _ _ _ _ _ c.loop-bay.invariant.turned c.requires.attached

pub loop-bay-preserved : goal.loop-bay-preserved
loop-bay-preserved g c =
    let so_far = c.loop-bay.invariant.turned in
    let within : c.loop-bay.bay < length c.loop-bay.self.slots =
    (let below = c.loop-bay-test.true in let all = c.count-bay-end.ensures.count in let same = so_far.count in
    omega (arith, below, all, same)) in
    record {
      turned = batch_then _ _ _ _ _ _ _ _ so_far c.turn.ensures.turned;
      each = turned_next _ _ c.loop-bay.bay _ _ _ _ _ _ within so_far c.turn.ensures.turned c.turn.ensures.step
          c.loop-bay.invariant.each;
      fits = c.turn.ensures.fits;
    }
