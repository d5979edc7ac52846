use Rattle.std.proofs.Common.{true, map, refl, ◌∙◌}
use Rattle.bm_top.specs.Moment.{Tells, sink_of, tells_of}
use Rattle.bm_batch_call.proofs.EndedLemmas.{begin_refused}
use Rattle.bm_batch_call.proofs.RunningLemmas.{has_run, list_attached}
use Rattle.bm_batch_call.proofs.running.run_bays.Goals as goal

pub returns-in_default : goal.returns-in_default
returns-in_default g c = λ t verb d start w shape count jobs ready.
    rw c.in_default.ensures.refused
    (begin_refused (record t { out = g.K.Sink.tells; stands = g.Y.Rack.tells_stands; contents = g.Y.Rack.tells_contents }) verb w start
    (record d {
      out = sink_of (g.K.Sink.taken c.args.out.now) (g.K.Sink.faults c.args.out.now);
      bays =
          map g.Y.Rack.view c.args.bays.now;
    }) ready)

pub finish_bays-requires-clause-attached : goal.finish_bays-requires-clause-attached
finish_bays-requires-clause-attached g c =
    list_attached g.Y.Rack.view (tells_of true true true g.Y.Rack.tells_stands g.Y.Rack.tells_contents) c.args.shape.now c.args.jobs.now
    c.in-Ok.batch c.run_turns.new.self c.args.bays.now c.begin.new.bays c.run_turns.new.bays c.requires.some c.requires.many
    (c.run_turns.auto.bays ∙ c.begin.auto.bays) g.met.Y.Rack.consistent c.in-Ok.ensures.begun c.run_turns.ensures.turned
    c.run_turns.ensures.ended c.requires.attached

pub returns : goal.returns
returns g c = λ t verb d start w shape count jobs ready.
    let told : Tells = record t { out = g.K.Sink.tells; stands = g.Y.Rack.tells_stands; contents = g.Y.Rack.tells_contents } in
    c.finish_bays.ensures t verb d start
    (record d { out = sink_of (g.K.Sink.taken c.args.out.now) (g.K.Sink.faults c.args.out.now); bays = map g.Y.Rack.view c.args.bays.now })
    w shape ready refl refl
    (has_run g.Y.Rack.view told w c.args.shape.now c.args.jobs.now c.in-Ok.batch c.run_turns.new.self c.args.bays.now
    c.begin.new.bays c.run_turns.new.bays shape count c.requires.many jobs (c.run_turns.auto.bays ∙ c.begin.auto.bays)
    g.met.Y.Rack.consistent c.in-Ok.ensures.begun c.run_turns.ensures.turned c.run_turns.ensures.ended)
