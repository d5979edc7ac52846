use Rattle.std.proofs.Common.{Ok, Err, map, sym, subst}
use Rattle.bm_base.specs.declared.shape.Shape.{Shape}
use Rattle.bm_batch_call.specs.Dumping.{DumpsCall, passes_at}
use Rattle.bm_top.specs.Moment.{sink_of}
use Rattle.bm_batch.proofs.BatchLemmas.{element_of}
use Rattle.bm_batch_call.proofs.EndedLemmas.{run_ended}
use Rattle.bm_batch_call.proofs.WrittenLemmas.{run_dumped}
use Rattle.bm_batch_call.proofs.running.finish_bays.Goals as goal

pub returns-in-Some : goal.returns-in-Some
returns-in-Some g c = λ t verb d start mid w shape ready out input run.
    let slots = c.args.batch.now.slots in
    let e = element_of slots 0 c.requires.some in
    rw c.run_status.ensures
    (run_ended (record t { out = g.K.Sink.tells; stands = g.Y.Rack.tells_stands; contents = g.Y.Rack.tells_contents }) verb w
    (passes_at slots e) slots e c.in-Some.error start mid
    (record d { out = sink_of (g.K.Sink.taken c.args.out.now) (g.K.Sink.faults c.args.out.now); bays = map g.Y.Rack.view c.args.bays.now })
    ready run.many out input run.count (run.ran e) c.in-Some.ensures.ended)

pub returns-in-Ok : goal.returns-in-Ok
returns-in-Ok g c = λ t verb d start mid w shape ready out input run.
    let slots = c.args.batch.now.slots in
    let e = element_of slots 0 c.requires.some in
    run_dumped (record t { out = g.K.Sink.tells; stands = g.Y.Rack.tells_stands; contents = g.Y.Rack.tells_contents }) verb w
    (passes_at slots e) slots e (Ok tt) start mid
    (record d { out = sink_of (g.K.Sink.taken c.args.out.now) (g.K.Sink.faults c.args.out.now); bays = map g.Y.Rack.view c.args.bays.now })
    (record d {
      out = sink_of (g.K.Sink.taken c.dump_bays.new.out) (g.K.Sink.faults c.dump_bays.new.out);
      bays =
          map g.Y.Rack.view c.dump_bays.new.bays;
    })
    ready run.many out input run.count (run.ran e) c.in-None.ensures.none
    (subst (λ (s : Shape). DumpsCall g.K.Sink.tells g.Y.Rack.tells_contents s (passes_at slots e)
    (sink_of (g.K.Sink.taken c.args.out.now) (g.K.Sink.faults c.args.out.now)) (map g.Y.Rack.view c.args.bays.now) (Ok tt)
    (sink_of (g.K.Sink.taken c.dump_bays.new.out) (g.K.Sink.faults c.dump_bays.new.out)) (map g.Y.Rack.view c.dump_bays.new.bays))
    (sym shape)
    (c.in-Ok.ensures e))

pub returns-in-Err : goal.returns-in-Err
returns-in-Err g c = λ t verb d start mid w shape ready out input run.
    let slots = c.args.batch.now.slots in
    let e = element_of slots 0 c.requires.some in
    rw c.dump_status.ensures
    (run_dumped (record t { out = g.K.Sink.tells; stands = g.Y.Rack.tells_stands; contents = g.Y.Rack.tells_contents }) verb w
    (passes_at slots e) slots e (Err c.in-Err.error) start mid
    (record d { out = sink_of (g.K.Sink.taken c.args.out.now) (g.K.Sink.faults c.args.out.now); bays = map g.Y.Rack.view c.args.bays.now })
    (record d {
      out = sink_of (g.K.Sink.taken c.dump_bays.new.out) (g.K.Sink.faults c.dump_bays.new.out);
      bays =
          map g.Y.Rack.view c.dump_bays.new.bays;
    })
    ready run.many out input run.count (run.ran e) c.in-None.ensures.none
    (subst (λ (s : Shape). DumpsCall g.K.Sink.tells g.Y.Rack.tells_contents s (passes_at slots e)
    (sink_of (g.K.Sink.taken c.args.out.now) (g.K.Sink.faults c.args.out.now)) (map g.Y.Rack.view c.args.bays.now) (Err c.in-Err.error)
    (sink_of (g.K.Sink.taken c.dump_bays.new.out) (g.K.Sink.faults c.dump_bays.new.out)) (map g.Y.Rack.view c.dump_bays.new.bays))
    (sym shape)
    (c.in-Err.ensures e)))
