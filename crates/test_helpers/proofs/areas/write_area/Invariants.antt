use Rattle.std.proofs.Common.{◌≡◌, IsTrue, Some}
use Rattle.bm_base.specs.Shape.{dims_of}
use Rattle.test_helpers.proofs.areas.write_area.Given as goal

abbrev pub invariant-loop-load : goal.invariant-loop-load
invariant-loop-load g l =
    let view = g.R.Rack.view in
    record {
      attached : (view l.rack).attached ≡ Some (dims_of l.shape);
      steady : IsTrue (view l.fn.rack).steady → IsTrue (view l.rack).steady;
    }
