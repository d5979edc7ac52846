use Rattle.bm_bufs.specs.Bufs.{FitsShape}
use Rattle.bm_job.specs.Runs.{loads_left}
use Rattle.bm_job.proofs.RunLemmas.{OnWay}
use Rattle.bm_job.proofs.run.take_turns.Given as goal

abbrev pub invariant-loop-machine : goal.invariant-loop-machine
invariant-loop-machine g l =
    let view = g.R.Rack.view in
    record {
      way : OnWay g.R.Rack.tells_stands g.R.Rack.tells_contents l.start l.machine (view l.fn.rack) (view l.rack);
      fits : FitsShape l.start.shape l.bufs;
    }

abbrev pub decreases-loop-machine : goal.decreases-loop-machine
decreases-loop-machine g l = loads_left l.machine
