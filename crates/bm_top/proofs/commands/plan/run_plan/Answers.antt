use Rattle.std.proofs.Common.{refl}
use Rattle.bm_top.specs.Moment.{sink_of}
use Rattle.bm_top.proofs.PlanLemmas.{plan_refused}
use Rattle.bm_top.proofs.commands.plan.run_plan.Goals as goal

pub returns-in-Err : goal.returns-in-Err
returns-in-Err g c = λ t d.
    plan_refused (record t { out = g.K.Sink.tells }) c.args.task.now d (sink_of (g.K.Sink.taken c.args.out.now)
    (g.K.Sink.faults c.args.out.now))
    (sink_of (g.K.Sink.taken c.write_plan.new.sink) (g.K.Sink.faults c.write_plan.new.sink))
    c.write_plan.ensures.front (c.in-Err.ensures.cause refl) c.write_plan.ensures.faults
