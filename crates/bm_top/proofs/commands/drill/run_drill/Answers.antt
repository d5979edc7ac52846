use Rattle.std.proofs.Common.{refl}
use Rattle.bm_top.specs.Moment.{sink_of}
use Rattle.bm_top.proofs.DrillLemmas.{drill_done, drill_cut, drill_refused}
use Rattle.bm_top.proofs.commands.drill.run_drill.Goals as goal

pub returns-in-Ok-write_drill : goal.returns-in-Ok-write_drill
returns-in-Ok-write_drill g c = λ t d.
    drill_done (record t { out = g.K.Sink.tells }) c.args.task d (sink_of (g.K.Sink.taken c.args.out.now) (g.K.Sink.faults c.args.out.now))
    (sink_of (g.K.Sink.taken c.write_drill.new.sink) (g.K.Sink.faults c.write_drill.new.sink)) c.in-Ok.report c.in-Ok.ensures
    (λ told. c.in-Ok-write_drill.ensures.all told refl) c.write_drill.ensures.faults

pub returns-in-Err-write_drill : goal.returns-in-Err-write_drill
returns-in-Err-write_drill g c = λ t d.
    drill_cut (record t { out = g.K.Sink.tells }) c.args.task d (sink_of (g.K.Sink.taken c.args.out.now) (g.K.Sink.faults c.args.out.now))
    (sink_of (g.K.Sink.taken c.write_drill.new.sink) (g.K.Sink.faults c.write_drill.new.sink)) c.in-Ok.report c.in-Ok.ensures
    c.write_drill.ensures.front c.write_drill.ensures.faults (c.in-Err-write_drill.ensures.cause refl)

pub returns-in-Err : goal.returns-in-Err
returns-in-Err g c = λ t d.
    drill_refused (record t { out = g.K.Sink.tells }) c.args.task
    (record d { out = sink_of (g.K.Sink.taken c.args.out.now) (g.K.Sink.faults c.args.out.now) })
