use Rattle.std.proofs.Common.{refl}
use Rattle.bm_top.specs.Moment.{sink_of}
use Rattle.bm_top.proofs.RanLemmas.{ran_as}
use Rattle.bm_top.proofs.RunLemmas.{run_done, run_cut, run_refused}
use Rattle.bm_top.proofs.commands.run.run_attached.Goals as goal

pub returns-in-Ok-write_report : goal.returns-in-Ok-write_report
returns-in-Ok-write_report g c = λ t d before from.
    run_done (record t { out = g.K.Sink.tells; stands = g.R.Rack.tells_stands; contents = g.R.Rack.tells_contents }) c.args.task.now d
    before _ _
    (sink_of (g.K.Sink.taken c.args.out.now) (g.K.Sink.faults c.args.out.now)) (sink_of (g.K.Sink.taken c.write_report.new.sink)
    (g.K.Sink.faults c.write_report.new.sink)) c.in-Ok.report
    c.requires.task from (g.met.R.Rack.consistent c.args.rack.now) c.requires.attached
    (ran_as c.requires.plan.passes (record {
      answer = c.in-Ok.ensures.answer;
      report = c.in-Ok.ensures.report;
      moves = c.in-Ok.ensures.moves;
      most = c.in-Ok.ensures.most;
      few = c.in-Ok.ensures.calls_most;
      kept = c.in-Ok.ensures.kept;
      done = c.in-Ok.ensures.done;
      failed = c.in-Ok.ensures.failed;
      sound = c.in-Ok.ensures.sound;
      input = c.in-Ok.ensures.input;
      images = c.in-Ok.ensures.images;
      settled = c.in-Ok.ensures.settled;
      call = c.in-Ok.ensures.call;
      calls = c.in-Ok.ensures.calls;
      good = c.in-Ok.ensures.good;
      complete = c.in-Ok.ensures.complete;
    }))
    (λ told. rw c.bound_of.ensures at (c.in-Ok-write_report.ensures.all told refl)) c.write_report.ensures.faults

pub returns-in-Err-write_report : goal.returns-in-Err-write_report
returns-in-Err-write_report g c = λ t d before from.
    run_cut (record t { out = g.K.Sink.tells; stands = g.R.Rack.tells_stands; contents = g.R.Rack.tells_contents }) c.args.task.now d
    before _ _
    (sink_of (g.K.Sink.taken c.args.out.now) (g.K.Sink.faults c.args.out.now)) (sink_of (g.K.Sink.taken c.write_report.new.sink)
    (g.K.Sink.faults c.write_report.new.sink)) c.in-Ok.report
    c.requires.task from (g.met.R.Rack.consistent c.args.rack.now) c.requires.attached
    (ran_as c.requires.plan.passes (record {
      answer = c.in-Ok.ensures.answer;
      report = c.in-Ok.ensures.report;
      moves = c.in-Ok.ensures.moves;
      most = c.in-Ok.ensures.most;
      few = c.in-Ok.ensures.calls_most;
      kept = c.in-Ok.ensures.kept;
      done = c.in-Ok.ensures.done;
      failed = c.in-Ok.ensures.failed;
      sound = c.in-Ok.ensures.sound;
      input = c.in-Ok.ensures.input;
      images = c.in-Ok.ensures.images;
      settled = c.in-Ok.ensures.settled;
      call = c.in-Ok.ensures.call;
      calls = c.in-Ok.ensures.calls;
      good = c.in-Ok.ensures.good;
      complete = c.in-Ok.ensures.complete;
    }))
    (λ told. rw c.bound_of.ensures at (c.write_report.ensures.front told))
    (c.in-Err-write_report.ensures.cause refl) c.write_report.ensures.faults

pub returns-in-Err : goal.returns-in-Err
returns-in-Err g c = λ t d before from.
    rw c.run_status.ensures
    (run_refused (record t { out = g.K.Sink.tells; stands = g.R.Rack.tells_stands; contents = g.R.Rack.tells_contents }) c.args.task.now
    (record d { out = (sink_of (g.K.Sink.taken c.args.out.now) (g.K.Sink.faults c.args.out.now)) }) before _ _ c.in-Err.error from
    (g.met.R.Rack.consistent c.args.rack.now) c.requires.attached
    (ran_as c.requires.plan.passes (record {
      answer = c.in-Err.ensures.answer;
      report = c.in-Err.ensures.report;
      moves = c.in-Err.ensures.moves;
      most = c.in-Err.ensures.most;
      few = c.in-Err.ensures.calls_most;
      kept = c.in-Err.ensures.kept;
      done = c.in-Err.ensures.done;
      failed = c.in-Err.ensures.failed;
      sound = c.in-Err.ensures.sound;
      input = c.in-Err.ensures.input;
      images = c.in-Err.ensures.images;
      settled = c.in-Err.ensures.settled;
      call = c.in-Err.ensures.call;
      calls = c.in-Err.ensures.calls;
      good = c.in-Err.ensures.good;
      complete = c.in-Err.ensures.complete;
    })))
