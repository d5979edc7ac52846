use Rattle.std.proofs.Common.{map}
use Rattle.bm_bufs.specs.Bufs.{FitsShape}
use Rattle.bm_batch.specs.Batches.{BatchTurns}
use Rattle.bm_batch.proofs.batch.Batch.take_turns.Given as goal

abbrev pub invariant-loop-bay : goal.invariant-loop-bay
invariant-loop-bay g l = record {
  turned : BatchTurns g.Y.Rack.tells_stands g.Y.Rack.tells_contents l.fn.self l.self (map g.Y.Rack.view l.fn.bays)
      (map g.Y.Rack.view l.bays);
  fits : FitsShape l.self.shape l.bufs;
}
