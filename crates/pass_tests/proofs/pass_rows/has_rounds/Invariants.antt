use Rattle.std.proofs.Common.{◌≡◌, Some}
use Rattle.bm_base.specs.Shape.{dims_of}
use Rattle.bm_bufs.specs.Bufs.{FitsShape}
use Rattle.pass_tests.proofs.pass_rows.has_rounds.Given as goal

abbrev pub invariant-loop-round : goal.invariant-loop-round
invariant-loop-round g l = record {
  attached : (g.R.Rack.view l.rack).attached ≡ Some (dims_of l.shape);
  fits : FitsShape l.shape l.bufs;
}
