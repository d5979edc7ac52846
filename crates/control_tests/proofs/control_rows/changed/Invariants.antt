use Rattle.bm_rack.specs.RackView.{IsAttached}
use Rattle.control_tests.proofs.control_rows.changed.Given as goal

abbrev pub invariant-loop-page : goal.invariant-loop-page
invariant-loop-page g l = IsAttached (g.R.Rack.view l.rack).attached
