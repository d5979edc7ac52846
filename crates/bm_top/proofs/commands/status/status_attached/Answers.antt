use Rattle.std.proofs.Common.{refl}
use Rattle.bm_top.specs.Moment.{sink_of}
use Rattle.bm_top.proofs.StatusLemmas.{status_refused, status_done, status_cut}
use Rattle.bm_top.proofs.commands.status.status_attached.Goals as goal

pub returns-in-Ok-write_status : goal.returns-in-Ok-write_status
returns-in-Ok-write_status g c = λ t d before from.
    let j = c.in-Ok.ensures in
    status_done (record t { out = g.K.Sink.tells; stands = g.R.Rack.tells_stands; contents = g.R.Rack.tells_contents })
    c.args.task.now (record d { out = sink_of (g.K.Sink.taken c.args.out.now) (g.K.Sink.faults c.args.out.now) }) _ before _ _
    c.in-Ok.job (g.met.R.Rack.consistent c.args.rack.now) c.requires from j.fits
    (record {
      answer = j.answer;
      good = λ told. j.good told.0 told.1;
      complete = λ told. j.complete told.0 told.1;
      contents = j.contents;
      sound = j.sound;
      call = j.call;
      means = λ told. j.means told.0 told.1;
      counts = j.counts;
    })
    (λ told. c.in-Ok-write_status.ensures.all told refl) c.write_status.ensures.faults

pub returns-in-Err-write_status : goal.returns-in-Err-write_status
returns-in-Err-write_status g c = λ t d before from.
    let j = c.in-Ok.ensures in
    status_cut (record t { out = g.K.Sink.tells; stands = g.R.Rack.tells_stands; contents = g.R.Rack.tells_contents })
    c.args.task.now (record d { out = sink_of (g.K.Sink.taken c.args.out.now) (g.K.Sink.faults c.args.out.now) }) _ before _ _
    c.in-Ok.job (g.met.R.Rack.consistent c.args.rack.now) c.requires from j.fits
    (record {
      answer = j.answer;
      good = λ told. j.good told.0 told.1;
      complete = λ told. j.complete told.0 told.1;
      contents = j.contents;
      sound = j.sound;
      call = j.call;
      means = λ told. j.means told.0 told.1;
      counts = j.counts;
    })
    c.write_status.ensures.front c.write_status.ensures.faults (c.in-Err-write_status.ensures.cause refl)

pub returns-in-Err : goal.returns-in-Err
returns-in-Err g c = λ t d before from.
    let j = c.in-Err.ensures in
    rw c.open_status.ensures
    (status_refused (record t { out = g.K.Sink.tells; stands = g.R.Rack.tells_stands; contents = g.R.Rack.tells_contents })
    c.args.task.now (record d { out = sink_of (g.K.Sink.taken c.args.out.now) (g.K.Sink.faults c.args.out.now) }) before _ _
    c.in-Err.error (g.met.R.Rack.consistent c.args.rack.now) c.requires from
    (record {
      answer = j.answer;
      good = λ told. j.good told.0 told.1;
      complete = λ told. j.complete told.0 told.1;
      contents = j.contents;
      sound = j.sound;
      call = j.call;
      means = λ told. j.means told.0 told.1;
      counts = j.counts;
    }))
