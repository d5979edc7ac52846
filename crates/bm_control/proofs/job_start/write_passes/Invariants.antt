use Rattle.std.proofs.Common.{◌*◌, IsTrue}
use Rattle.bm_rack.specs.Frames.{DirtiesOnly, Keeps, RaisesCounts}
use Rattle.bm_control.specs.Moments.{PassesAreWritten}
use Rattle.bm_control.specs.PageCalls.{IsPassPage}
use Rattle.bm_control.proofs.job_start.write_passes.Given as goal

abbrev pub invariant-loop-k : goal.invariant-loop-k
invariant-loop-k g l =
    let view = g.R.Rack.view in
    record {
      frame : DirtiesOnly (IsPassPage l.k) (view l.fn.rack) (view l.rack);
      keeps : Keeps (view l.fn.rack) (view l.rack);
      counts : RaisesCounts 0 (2 * l.k) 0 (view l.fn.rack) (view l.rack);
      written : IsTrue g.R.Rack.tells_contents → PassesAreWritten l.shape l.plan.forms l.k (view l.rack).contents;
    }
