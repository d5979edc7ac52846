use Rattle.std.proofs.Common.{true, map, refl, sym, ◌∙◌, arith}
use Rattle.std.proofs.lemmas.List.{length-map}
use Rattle.bm_top.specs.Moment.{source_of, sink_of, tells_of}
use Rattle.bm_batch_call.specs.Moment.{devices_of}
use Rattle.bm_batch_call.proofs.TopLemmas.{planned_attached}
use Rattle.bm_batch_call.proofs.batch_call.run_planned.Goals as goal

pub run_bays-requires-clause-attached : goal.run_bays-requires-clause-attached
run_bays-requires-clause-attached g c =
    let told = tells_of true g.S.Source.tells true g.Y.Rack.tells_stands g.Y.Rack.tells_contents in
    let old = devices_of (source_of (g.S.Source.left c.args.input.now) (g.S.Source.faults c.args.input.now))
    (sink_of (g.K.Sink.taken c.args.out.now) (g.K.Sink.faults c.args.out.now)) (map g.Y.Rack.view c.args.bays.now) in
    planned_attached c.args.verb told c.args.shape.now c.args.jobs.now old
    (devices_of (source_of (g.S.Source.left c.prepare_bays.new.input) (g.S.Source.faults c.prepare_bays.new.input))
    (sink_of (g.K.Sink.taken c.args.out.now) (g.K.Sink.faults c.args.out.now)) (map g.Y.Rack.view c.prepare_bays.new.bays))
    (let some = c.requires.some in let many = c.requires.many in omega (arith, some, many))
    (c.requires.many ∙ sym (length-map c.args.bays.now g.Y.Rack.view))
    (λ w shape count. c.in-Ok.ensures.call told old w shape (count ∙ c.requires.many))

pub returns-in-Ok : goal.returns-in-Ok
returns-in-Ok g c = λ t w shape count jobs.
    let old = devices_of (source_of (g.S.Source.left c.args.input.now) (g.S.Source.faults c.args.input.now))
    (sink_of (g.K.Sink.taken c.args.out.now) (g.K.Sink.faults c.args.out.now)) (map g.Y.Rack.view c.args.bays.now) in
    c.run_bays.ensures (record t { input = g.S.Source.tells }) c.args.verb
    (devices_of (source_of (g.S.Source.left c.prepare_bays.new.input) (g.S.Source.faults c.prepare_bays.new.input))
    (sink_of (g.K.Sink.taken c.args.out.now) (g.K.Sink.faults c.args.out.now)) (map g.Y.Rack.view c.prepare_bays.new.bays)) old w shape
    (count ∙ sym c.prepare_bays.auto.bays) jobs
    ((c.in-Ok.ensures.call (record t { out = g.K.Sink.tells }) old w shape count).ready refl)

pub returns-in-Err : goal.returns-in-Err
returns-in-Err g c = λ t w shape count jobs.
    (c.in-Err.ensures.call (record t { out = g.K.Sink.tells })
    (devices_of (source_of (g.S.Source.left c.args.input.now) (g.S.Source.faults c.args.input.now))
    (sink_of (g.K.Sink.taken c.args.out.now) (g.K.Sink.faults c.args.out.now)) (map g.Y.Rack.view c.args.bays.now)) w shape count).refused
