use Rattle.std.proofs.Common.{map}
use Rattle.bm_bufs.specs.Bufs.{FitsShape}
use Rattle.bm_top.specs.Moment.{Tells, source_of}
use Rattle.bm_batch_call.specs.Filling.{HoldsItsPart, IsFrom}
use Rattle.bm_batch_call.specs.Lists.{UpTo}
use Rattle.bm_batch_call.specs.Moment.{no_view}
use Rattle.bm_batch_call.proofs.filling.fill_bays.Given as goal

abbrev pub invariant-loop-bay : goal.invariant-loop-bay
invariant-loop-bay g l = record {
  bays : (t : Tells) → UpTo no_view (HoldsItsPart
      (record t { input = g.S.Source.tells; stands = g.Y.Rack.tells_stands; contents = g.Y.Rack.tells_contents }) l.shape
      (source_of (g.S.Source.left l.fn.input) (g.S.Source.faults l.fn.input))) l.bay (map g.Y.Rack.view l.fn.bays)
      (map g.Y.Rack.view l.bays);
  is_from : IsFrom g.S.Source.tells l.shape (source_of (g.S.Source.left l.fn.input) (g.S.Source.faults l.fn.input)) l.bay
      (source_of (g.S.Source.left l.input) (g.S.Source.faults l.input));
  fits : FitsShape l.shape l.bufs;
}
