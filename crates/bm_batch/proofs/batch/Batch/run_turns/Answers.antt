use Rattle.std.proofs.Common.{arith}
use Rattle.bm_batch.proofs.BatchLemmas.{batch_then, batch_attached, batch_sound, batch_done, batch_complete}
use Rattle.bm_batch.proofs.RoundLemmas.{round_less}
use Rattle.bm_batch.proofs.batch.Batch.run_turns.Goals as goal

pub take_round-requires-clause-attached : goal.take_round-requires-clause-attached
take_round-requires-clause-attached g c = batch_attached _ _ _ _ _ _ c.loop-self.invariant.turned c.requires.attached

pub loop-self-smaller : goal.loop-self-smaller
loop-self-smaller g c =
    round_less _ _ _ _ _ _ (c.is_any_going.ensures.some c.loop-self-test.true) c.take_round.ensures.turned c.take_round.ensures.each

pub loop-self-preserved : goal.loop-self-preserved
loop-self-preserved g c = record {
  turned = batch_then _ _ _ _ _ _ _ _ c.loop-self.invariant.turned c.take_round.ensures.turned;
  fits = c.take_round.ensures.fits;
}

pub returns-clause-done : goal.returns-clause-done
returns-clause-done g c told_stands told_contents =
    batch_done g.Y.Rack.view _ _ c.args.self.now c.loop-self.self _ c.loop-self.bays told_stands told_contents g.met.Y.Rack.consistent
    (let same = c.loop-self.auto.bays in let many = c.requires.many in omega (arith, same, many)) c.loop-self.invariant.turned

pub returns-clause-complete : goal.returns-clause-complete
returns-clause-complete g c told_stands told_contents follows =
    batch_complete _ _ c.args.self.now c.loop-self.self _ _ told_stands told_contents c.loop-self.invariant.turned follows
    (c.is_any_going.ensures.none c.loop-self-test.false)

pub returns-clause-sound : goal.returns-clause-sound
returns-clause-sound g c told_stands told_contents =
    batch_sound _ _ c.args.self.now c.loop-self.self _ _ told_stands told_contents c.loop-self.invariant.turned
