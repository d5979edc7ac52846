use Rattle.std.proofs.Common.{Ok, Err, ◌≡◌, arith}
use Rattle.bm_top.specs.Moment.{sink_of}
use Rattle.bm_top.proofs.DumpLemmas.{dump_refused, dump_early, dump_written}
use Rattle.bm_top.proofs.commands.dump.dump_attached.Goals as goal

pub returns-in-Ok-clause-call : goal.returns-in-Ok-clause-call
returns-in-Ok-clause-call g c = λ t d before from.
    let j = c.in-Ok.ensures in
    dump_early (record t { out = g.K.Sink.tells; stands = g.R.Rack.tells_stands; contents = g.R.Rack.tells_contents })
    c.args.task.now (record d { out = sink_of (g.K.Sink.taken c.args.out.now) (g.K.Sink.faults c.args.out.now) }) before _ _
    c.in-Ok.job (g.met.R.Rack.consistent c.args.rack.now) c.requires.attached from c.if-job.true
    (record {
      answer = j.answer;
      good = λ told. j.good told.0 told.1;
      complete = λ told. j.complete told.0 told.1;
      contents = j.contents;
      sound = j.sound;
      call = j.call;
      means = λ told. j.means told.0 told.1;
      counts = j.counts;
    })

pub returns-in-Ok-dump_records-clause-call : goal.returns-in-Ok-dump_records-clause-call
returns-in-Ok-dump_records-clause-call g c = λ t d before from.
    let j = c.in-Ok.ensures in
    let k = c.in-Ok-dump_records.ensures in
    let few = j.fits.done_few in
    let late = c.if-job.false in
    let all : c.in-Ok.job.done ≡ c.in-Ok.job.passes = omega (arith, few, late) in
    dump_written (record t { out = g.K.Sink.tells; stands = g.R.Rack.tells_stands; contents = g.R.Rack.tells_contents })
    c.args.task.now (record d { out = sink_of (g.K.Sink.taken c.args.out.now) (g.K.Sink.faults c.args.out.now) }) _ before _ _ _
    c.in-Ok.job c.area_of.result (Ok tt) (g.met.R.Rack.consistent c.args.rack.now) c.requires.attached from all c.area_of.ensures
    (record {
      answer = j.answer;
      good = λ told. j.good told.0 told.1;
      complete = λ told. j.complete told.0 told.1;
      contents = j.contents;
      sound = j.sound;
      call = j.call;
      means = λ told. j.means told.0 told.1;
      counts = j.counts;
    })
    (record {
      done = k.done;
      front = k.front;
      sink_fault = k.sink_fault;
      sink_faults = k.sink_faults;
      state = k.state;
      moved = k.moved;
      keeps = k.keeps;
      cause = k.cause;
    })

pub returns-in-Err-dump_records-clause-call : goal.returns-in-Err-dump_records-clause-call
returns-in-Err-dump_records-clause-call g c = λ t d before from.
    let j = c.in-Ok.ensures in
    let k = c.in-Err-dump_records.ensures in
    let few = j.fits.done_few in
    let late = c.if-job.false in
    let all : c.in-Ok.job.done ≡ c.in-Ok.job.passes = omega (arith, few, late) in
    rw c.dump_status.ensures
    (dump_written (record t { out = g.K.Sink.tells; stands = g.R.Rack.tells_stands; contents = g.R.Rack.tells_contents })
    c.args.task.now (record d { out = sink_of (g.K.Sink.taken c.args.out.now) (g.K.Sink.faults c.args.out.now) }) _ before _ _ _
    c.in-Ok.job c.area_of.result (Err c.in-Err-dump_records.error) (g.met.R.Rack.consistent c.args.rack.now) c.requires.attached from all
    c.area_of.ensures
    (record {
      answer = j.answer;
      good = λ told. j.good told.0 told.1;
      complete = λ told. j.complete told.0 told.1;
      contents = j.contents;
      sound = j.sound;
      call = j.call;
      means = λ told. j.means told.0 told.1;
      counts = j.counts;
    })
    (record {
      done = k.done;
      front = k.front;
      sink_fault = k.sink_fault;
      sink_faults = k.sink_faults;
      state = k.state;
      moved = k.moved;
      keeps = k.keeps;
      cause = k.cause;
    }))

pub returns-in-Err-clause-call : goal.returns-in-Err-clause-call
returns-in-Err-clause-call g c = λ t d before from.
    let j = c.in-Err.ensures in
    rw c.open_status.ensures
    (dump_refused (record t { out = g.K.Sink.tells; stands = g.R.Rack.tells_stands; contents = g.R.Rack.tells_contents })
    c.args.task.now (record d { out = sink_of (g.K.Sink.taken c.args.out.now) (g.K.Sink.faults c.args.out.now) }) before _ _
    c.in-Err.error (g.met.R.Rack.consistent c.args.rack.now) c.requires.attached from
    (record {
      answer = j.answer;
      good = λ told. j.good told.0 told.1;
      complete = λ told. j.complete told.0 told.1;
      contents = j.contents;
      sound = j.sound;
      call = j.call;
      means = λ told. j.means told.0 told.1;
      counts = j.counts;
    }))
