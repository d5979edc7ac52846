use Rattle.bm_top.specs.Moment.{sink_of}
use Rattle.bm_top.proofs.ExitLemmas.{AttachedFrom-refl}
use Rattle.bm_top.proofs.RanLemmas.{ran_as}
use Rattle.bm_top.proofs.CarryRunLemmas.{carry_not_run}
use Rattle.bm_top.proofs.CarryDumpLemmas.{carry_dumped}
use Rattle.bm_top.proofs.commands.carry.carry_loaded.Goals as goal

pub returns-in-Ok : goal.returns-in-Ok
returns-in-Ok g c = λ t d old loaded.
    carry_dumped (record t { out = g.K.Sink.tells; stands = g.R.Rack.tells_stands; contents = g.R.Rack.tells_contents }) c.args.task.now
    d old _ _ _
    (sink_of (g.K.Sink.taken c.args.out.now) (g.K.Sink.faults c.args.out.now)) (sink_of (g.K.Sink.taken c.dump_attached.new.out)
    (g.K.Sink.faults c.dump_attached.new.out)) _ _ c.requires.task loaded
    (ran_as c.requires.plan.passes (record {
      answer = c.in-Ok.ensures.answer;
      report = c.in-Ok.ensures.report;
      moves = c.in-Ok.ensures.moves;
      most = c.in-Ok.ensures.most;
      few = c.in-Ok.ensures.calls_most;
      kept = c.in-Ok.ensures.kept;
      done = c.in-Ok.ensures.done;
      failed = c.in-Ok.ensures.failed;
      sound = c.in-Ok.ensures.sound;
      input = c.in-Ok.ensures.input;
      images = c.in-Ok.ensures.images;
      settled = c.in-Ok.ensures.settled;
      call = c.in-Ok.ensures.call;
      calls = c.in-Ok.ensures.calls;
      good = c.in-Ok.ensures.good;
      complete = c.in-Ok.ensures.complete;
    }))
    (c.dump_attached.ensures.call t d _ (AttachedFrom-refl _)) c.dump_attached.ensures.late

pub returns-in-Err : goal.returns-in-Err
returns-in-Err g c = λ t d old loaded.
    rw c.run_status.ensures
    (carry_not_run (record t { out = g.K.Sink.tells; stands = g.R.Rack.tells_stands; contents = g.R.Rack.tells_contents }) c.args.task.now
    (record d { out = (sink_of (g.K.Sink.taken c.args.out.now) (g.K.Sink.faults c.args.out.now)) }) old _ _ c.in-Err.error loaded
    (ran_as c.requires.plan.passes (record {
      answer = c.in-Err.ensures.answer;
      report = c.in-Err.ensures.report;
      moves = c.in-Err.ensures.moves;
      most = c.in-Err.ensures.most;
      few = c.in-Err.ensures.calls_most;
      kept = c.in-Err.ensures.kept;
      done = c.in-Err.ensures.done;
      failed = c.in-Err.ensures.failed;
      sound = c.in-Err.ensures.sound;
      input = c.in-Err.ensures.input;
      images = c.in-Err.ensures.images;
      settled = c.in-Err.ensures.settled;
      call = c.in-Err.ensures.call;
      calls = c.in-Err.ensures.calls;
      good = c.in-Err.ensures.good;
      complete = c.in-Err.ensures.complete;
    })))
