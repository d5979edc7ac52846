use Rattle.std.proofs.Common.{map}
use Rattle.bm_bufs.specs.Bufs.{FitsShape}
use Rattle.bm_batch.specs.Batches.{BatchTurns}
use Rattle.bm_batch.proofs.RoundLemmas.{total_left}
use Rattle.bm_batch.proofs.batch.Batch.run_turns.Given as goal

abbrev pub invariant-loop-self : goal.invariant-loop-self
invariant-loop-self g l = record {
  turned : BatchTurns g.Y.Rack.tells_stands g.Y.Rack.tells_contents l.fn.self l.self (map g.Y.Rack.view l.fn.bays)
      (map g.Y.Rack.view l.bays);
  fits : FitsShape l.self.shape l.bufs;
}

abbrev pub decreases-loop-self : goal.decreases-loop-self
decreases-loop-self g l = total_left l.self.slots
