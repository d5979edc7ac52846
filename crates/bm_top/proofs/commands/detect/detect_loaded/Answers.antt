use Rattle.std.proofs.Common.{refl}
use Rattle.bm_top.specs.Moment.{sink_of}
use Rattle.bm_top.proofs.DetectLemmas.{detect_done, detect_cut, undetected}
use Rattle.bm_top.proofs.commands.detect.detect_loaded.Goals as goal

pub returns-in-Ok-write_job : goal.returns-in-Ok-write_job
returns-in-Ok-write_job g c = λ t d before seen.
    let k = c.in-Ok.ensures in
    detect_done (record t { out = g.K.Sink.tells; stands = g.R.Rack.tells_stands; contents = g.R.Rack.tells_contents })
    c.args.task.now (record d { out = sink_of (g.K.Sink.taken c.args.out.now) (g.K.Sink.faults c.args.out.now) }) _ before _ _
    c.in-Ok.map seen
    (record {
      answer = k.answer;
      complete = k.complete;
      state = k.state;
      moved = k.moved;
      keeps = k.keeps;
      cause = k.cause;
    })
    (λ told. c.in-Ok-write_job.ensures.all told refl) c.write_job.ensures.faults

pub returns-in-Err-write_job : goal.returns-in-Err-write_job
returns-in-Err-write_job g c = λ t d before seen.
    let k = c.in-Ok.ensures in
    detect_cut (record t { out = g.K.Sink.tells; stands = g.R.Rack.tells_stands; contents = g.R.Rack.tells_contents })
    c.args.task.now (record d { out = sink_of (g.K.Sink.taken c.args.out.now) (g.K.Sink.faults c.args.out.now) }) _ before _ _
    c.in-Ok.map seen
    (record {
      answer = k.answer;
      complete = k.complete;
      state = k.state;
      moved = k.moved;
      keeps = k.keeps;
      cause = k.cause;
    })
    c.write_job.ensures.front c.write_job.ensures.faults (c.in-Err-write_job.ensures.cause refl)

pub returns-in-Err : goal.returns-in-Err
returns-in-Err g c = λ t d before seen.
    let k = c.in-Err.ensures in
    rw c.detect_status.ensures
    (undetected (record t { out = g.K.Sink.tells; stands = g.R.Rack.tells_stands; contents = g.R.Rack.tells_contents })
    c.args.task.now (record d { out = sink_of (g.K.Sink.taken c.args.out.now) (g.K.Sink.faults c.args.out.now) }) before _ _
    c.in-Err.error seen
    (record {
      answer = k.answer;
      complete = k.complete;
      state = k.state;
      moved = k.moved;
      keeps = k.keeps;
      cause = k.cause;
    }))
