use Rattle.std.proofs.Common.{◌≡◌, Some}
use Rattle.bm_base.specs.Shape.{dims_of}
use Rattle.bm_bufs.specs.Bufs.{FitsShape}
use Rattle.pass_tests.proofs.pass_rows.has_round.Given as goal

abbrev pub invariant-loop-i : goal.invariant-loop-i
invariant-loop-i g l = record {
  attached : (g.R.Rack.view l.rack).attached ≡ Some (dims_of l.shape);
  fits : FitsShape l.shape l.bufs;
}
