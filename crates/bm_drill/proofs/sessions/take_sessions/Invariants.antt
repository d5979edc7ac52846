use Rattle.std.proofs.Common.{◌≡◌, length}
use Rattle.bm_bufs.specs.Bufs.{FitsShape}
use Rattle.bm_drill.specs.Session.{IsBetween}
use Rattle.bm_drill.proofs.sessions.take_sessions.Given as goal

abbrev pub invariant-loop-stop : goal.invariant-loop-stop
invariant-loop-stop g l =
    let view = g.R.Rack.view in
    record {
      between : IsBetween g.R.Rack.tells_stands g.R.Rack.tells_contents l.shape l.job (length l.plan.forms) l.every l.restarts
          (view l.fn.rack) (view l.rack);
      index : l.restarts ≡ l.stop-index;
      fits : FitsShape l.shape l.bufs;
    }
