use Rattle.std.proofs.Common.{◌≡◌, Some}
use Rattle.bm_base.specs.Shape.{dims_of}
use Rattle.bm_bufs.specs.Bufs.{FitsShape}
use Rattle.run_tests.proofs.turn_rows.turns_of.Given as goal

abbrev pub invariant-loop-turn : goal.invariant-loop-turn
invariant-loop-turn g l = record {
  attached : (g.R.Rack.view l.rack).attached ≡ Some (dims_of l.machine.shape);
  fits : FitsShape l.machine.shape l.bufs;
}
