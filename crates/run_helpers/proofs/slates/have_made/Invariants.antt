use Rattle.bm_rack.specs.RackView.{IsAttached}
use Rattle.run_helpers.proofs.slates.have_made.Given as goal

abbrev pub invariant-loop-step : goal.invariant-loop-step
invariant-loop-step g l = IsAttached (g.R.Rack.view l.rack).attached
