use Rattle.std.proofs.Common.{◌≡◌, ◌*◌, ◌^◌, Some, length}
use Rattle.bm_base.specs.Shape.{dims_of}
use Rattle.test_helpers.proofs.areas.read_area.Given as goal

abbrev pub invariant-loop-load : goal.invariant-loop-load
invariant-loop-load g l = record {
  attached : (g.R.Rack.view l.rack).attached ≡ Some (dims_of l.shape);
  size : length l.buf.items ≡ 2 ^ l.shape.m * l.shape.width;
}
