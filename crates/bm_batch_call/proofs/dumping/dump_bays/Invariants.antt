use Rattle.std.proofs.Common.{map}
use Rattle.bm_bufs.specs.Bufs.{FitsShape}
use Rattle.bm_batch.specs.declared.bay_slot.BaySlot.{BaySlot}
use Rattle.bm_top.specs.Moment.{sink_of}
use Rattle.bm_batch_call.specs.Dumping.{IsDumpedTo, passes_at}
use Rattle.bm_batch_call.proofs.dumping.dump_bays.Given as goal

abbrev pub invariant-loop-bay : goal.invariant-loop-bay
invariant-loop-bay g l = record {
  dumped : (d : BaySlot) → IsDumpedTo g.K.Sink.tells g.Y.Rack.tells_contents l.shape (passes_at l.batch.slots d) l.bay
      (sink_of (g.K.Sink.taken l.fn.out) (g.K.Sink.faults l.fn.out)) (map g.Y.Rack.view l.fn.bays)
      (sink_of (g.K.Sink.taken l.out) (g.K.Sink.faults l.out)) (map g.Y.Rack.view l.bays);
  fits : FitsShape l.shape l.bufs;
}
