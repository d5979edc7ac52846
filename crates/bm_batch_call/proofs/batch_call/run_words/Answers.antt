use Rattle.std.proofs.Common.{◌≡◌, List, length, map, slice_index_or, refl, sym, ap, subst, arith}
use Rattle.bm_top.specs.Moment.{source_of, sink_of, tells_of}
use Rattle.bm_top.specs.Task.{TaskFits}
use Rattle.bm_top.specs.declared.task.Task.{Task}
use Rattle.bm_batch_call.specs.Moment.{devices_of, moment_of, sources_of}
use Rattle.bm_batch_call.proofs.TopLemmas.{texts_refused, tasks_read}
use Rattle.bm_batch_call.proofs.batch_call.run_words.Goals as goal

pub run_tasks-requires-clause-fits : goal.run_tasks-requires-clause-fits
run_tasks-requires-clause-fits g c = λ k d below.
    subst (λ (xs : List Task). TaskFits (slice_index_or xs k d)) (sym c.deref.ensures.value)
    ((c.in-Ok.ensures.read d).read.before k (let a = c.in-Ok.ensures.many in
    let b : length c.deref.result.now ≡ length c.in-Ok.tasks.items = ap (λ (xs : List Task). length xs) c.deref.ensures.value in
    omega (arith, a, b, below))).fits

pub returns-in-Ok : goal.returns-in-Ok
returns-in-Ok g c =
    tasks_read (tells_of g.J.Source.tells g.S.Source.tells g.K.Sink.tells g.Y.Rack.tells_stands g.Y.Rack.tells_contents) c.args.batch.verb
    (length c.args.jobs.now) _ c.in-Ok.tasks.items
    (moment_of (sources_of g.J.Source.left g.J.Source.faults c.args.jobs.now)
    (devices_of (source_of (g.S.Source.left c.args.input.now) (g.S.Source.faults c.args.input.now))
    (sink_of (g.K.Sink.taken c.args.out.now) (g.K.Sink.faults c.args.out.now)) (map g.Y.Rack.view c.args.bays.now))) c.run_tasks.result
    (moment_of (sources_of g.J.Source.left g.J.Source.faults c.read_tasks.new.jobs)
    (devices_of (source_of (g.S.Source.left c.run_tasks.new.input) (g.S.Source.faults c.run_tasks.new.input))
    (sink_of (g.K.Sink.taken c.run_tasks.new.out) (g.K.Sink.faults c.run_tasks.new.out)) (map g.Y.Rack.view c.run_tasks.new.bays)))
    c.requires.some c.in-Ok.ensures.many c.deref.ensures.value c.in-Ok.ensures.read
    (c.run_tasks.ensures (tells_of g.J.Source.tells g.S.Source.tells g.K.Sink.tells g.Y.Rack.tells_stands g.Y.Rack.tells_contents))

pub returns-in-Err : goal.returns-in-Err
returns-in-Err g c =
    texts_refused (tells_of g.J.Source.tells g.S.Source.tells g.K.Sink.tells g.Y.Rack.tells_stands g.Y.Rack.tells_contents)
    c.args.batch.verb
    (length c.args.jobs.now)
    (moment_of (sources_of g.J.Source.left g.J.Source.faults c.args.jobs.now)
    (devices_of (source_of (g.S.Source.left c.args.input.now) (g.S.Source.faults c.args.input.now))
    (sink_of (g.K.Sink.taken c.args.out.now) (g.K.Sink.faults c.args.out.now)) (map g.Y.Rack.view c.args.bays.now))) c.in-Err.status
    (moment_of (sources_of g.J.Source.left g.J.Source.faults c.read_tasks.new.jobs)
    (devices_of (source_of (g.S.Source.left c.args.input.now) (g.S.Source.faults c.args.input.now))
    (sink_of (g.K.Sink.taken c.args.out.now) (g.K.Sink.faults c.args.out.now)) (map g.Y.Rack.view c.args.bays.now)))
    c.in-Err.ensures.refused refl
