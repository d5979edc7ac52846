use Rattle.std.proofs.Common.{◌≡◌, Some}
use Rattle.std.specs.List.{All}
use Rattle.bm_base.specs.Shape.{dims_of}
use Rattle.batch_tests.proofs.stops.stop_all.Given as goal

abbrev pub invariant-loop-bay : goal.invariant-loop-bay
invariant-loop-bay g l = All (λ (y : g.row.R.Denot). (g.R.Rack.view y).attached ≡ Some (dims_of l.shape)) l.bays
