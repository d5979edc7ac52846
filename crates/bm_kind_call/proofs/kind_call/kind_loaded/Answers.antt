use Rattle.std.proofs.Common.{Ok, Err, ap, ◌∙◌}
use Rattle.bm_base.specs.Area.{area_after}
use Rattle.bm_top.specs.Moment.{sink_of}
use Rattle.bm_kind_call.proofs.RanLemmas.{kind_not_run, kind_dumped}
use Rattle.bm_kind_call.proofs.kind_call.kind_loaded.Goals as goal

pub returns-in-Ok-dump_records : goal.returns-in-Ok-dump_records
returns-in-Ok-dump_records g c = λ t d old loaded.
    let k = c.in-Ok-dump_records.ensures in
    kind_dumped (record t { out = g.K.Sink.tells; stands = g.R.Rack.tells_stands; contents = g.R.Rack.tells_contents })
    c.args.file.now d old _ _ _
    (sink_of (g.K.Sink.taken c.args.out.now) (g.K.Sink.faults c.args.out.now))
    (sink_of (g.K.Sink.taken c.dump_records.new.out) (g.K.Sink.faults c.dump_records.new.out)) _ _ _ (Ok tt) c.requires.file
    c.requires.passes (c.area_of.ensures ∙ ap area_after c.len.ensures.count) loaded
    (c.in-Ok.ensures.ran (record t { out = g.K.Sink.tells }))
    (record {
      done = k.done;
      front = k.front;
      sink_fault = k.sink_fault;
      sink_faults = k.sink_faults;
      state = k.state;
      moved = k.moved;
      keeps = k.keeps;
      cause = k.cause;
    })

pub returns-in-Err-dump_records : goal.returns-in-Err-dump_records
returns-in-Err-dump_records g c = λ t d old loaded.
    let k = c.in-Err-dump_records.ensures in
    rw c.dump_status.ensures
    (kind_dumped (record t { out = g.K.Sink.tells; stands = g.R.Rack.tells_stands; contents = g.R.Rack.tells_contents })
    c.args.file.now d old _ _ _
    (sink_of (g.K.Sink.taken c.args.out.now) (g.K.Sink.faults c.args.out.now))
    (sink_of (g.K.Sink.taken c.dump_records.new.out) (g.K.Sink.faults c.dump_records.new.out)) _ _ _
    (Err c.in-Err-dump_records.error) c.requires.file c.requires.passes (c.area_of.ensures ∙ ap area_after c.len.ensures.count) loaded
    (c.in-Ok.ensures.ran (record t { out = g.K.Sink.tells }))
    (record {
      done = k.done;
      front = k.front;
      sink_fault = k.sink_fault;
      sink_faults = k.sink_faults;
      state = k.state;
      moved = k.moved;
      keeps = k.keeps;
      cause = k.cause;
    }))

pub returns-in-Err : goal.returns-in-Err
returns-in-Err g c = λ t d old loaded.
    kind_not_run (record t { out = g.K.Sink.tells; stands = g.R.Rack.tells_stands; contents = g.R.Rack.tells_contents }) c.args.file.now
    (record d { out = sink_of (g.K.Sink.taken c.args.out.now) (g.K.Sink.faults c.args.out.now) }) old _ _ _ _ c.requires.passes loaded
    (c.in-Err.ensures.ran (record t { out = g.K.Sink.tells }))
