use Rattle.bm_top.specs.Moment.{source_of, sink_of, devices_of, tells_of}
use Rattle.bm_top.proofs.top_call.run_task.Goals as goal

pub returns-in-New : goal.returns-in-New
returns-in-New g c = λ told.
    rw c.in-New.is
    (c.run_new.ensures (tells_of told g.S.Source.tells g.K.Sink.tells g.R.Rack.tells_stands g.R.Rack.tells_contents)
    (devices_of (source_of (g.S.Source.left c.args.input.now) (g.S.Source.faults c.args.input.now))
    (sink_of (g.K.Sink.taken c.args.out.now) (g.K.Sink.faults c.args.out.now)) (g.R.Rack.view c.args.rack.now)))

pub returns-in-Load : goal.returns-in-Load
returns-in-Load g c = λ told.
    rw c.in-Load.is
    (c.run_load.ensures (tells_of told g.S.Source.tells g.K.Sink.tells g.R.Rack.tells_stands g.R.Rack.tells_contents)
    (devices_of (source_of (g.S.Source.left c.args.input.now) (g.S.Source.faults c.args.input.now))
    (sink_of (g.K.Sink.taken c.args.out.now) (g.K.Sink.faults c.args.out.now)) (g.R.Rack.view c.args.rack.now)))

pub returns-in-Plan : goal.returns-in-Plan
returns-in-Plan g c = λ told.
    rw c.in-Plan.is
    (c.run_plan.ensures (tells_of told g.S.Source.tells g.K.Sink.tells g.R.Rack.tells_stands g.R.Rack.tells_contents)
    (devices_of (source_of (g.S.Source.left c.args.input.now) (g.S.Source.faults c.args.input.now))
    (sink_of (g.K.Sink.taken c.args.out.now) (g.K.Sink.faults c.args.out.now)) (g.R.Rack.view c.args.rack.now)))

pub returns-in-Run : goal.returns-in-Run
returns-in-Run g c = λ told.
    rw c.in-Run.is
    (c.run_run.ensures (tells_of told g.S.Source.tells g.K.Sink.tells g.R.Rack.tells_stands g.R.Rack.tells_contents)
    (devices_of (source_of (g.S.Source.left c.args.input.now) (g.S.Source.faults c.args.input.now))
    (sink_of (g.K.Sink.taken c.args.out.now) (g.K.Sink.faults c.args.out.now)) (g.R.Rack.view c.args.rack.now)))

pub returns-in-Status : goal.returns-in-Status
returns-in-Status g c = λ told.
    rw c.in-Status.is
    (c.tell_status.ensures (tells_of told g.S.Source.tells g.K.Sink.tells g.R.Rack.tells_stands g.R.Rack.tells_contents)
    (devices_of (source_of (g.S.Source.left c.args.input.now) (g.S.Source.faults c.args.input.now))
    (sink_of (g.K.Sink.taken c.args.out.now) (g.K.Sink.faults c.args.out.now)) (g.R.Rack.view c.args.rack.now)))

pub returns-in-Dump : goal.returns-in-Dump
returns-in-Dump g c = λ told.
    rw c.in-Dump.is
    (c.run_dump.ensures (tells_of told g.S.Source.tells g.K.Sink.tells g.R.Rack.tells_stands g.R.Rack.tells_contents)
    (devices_of (source_of (g.S.Source.left c.args.input.now) (g.S.Source.faults c.args.input.now))
    (sink_of (g.K.Sink.taken c.args.out.now) (g.K.Sink.faults c.args.out.now)) (g.R.Rack.view c.args.rack.now)))

pub returns-in-Drop : goal.returns-in-Drop
returns-in-Drop g c = λ told.
    rw c.in-Drop.is
    (c.run_drop.ensures (tells_of told g.S.Source.tells g.K.Sink.tells g.R.Rack.tells_stands g.R.Rack.tells_contents)
    (devices_of (source_of (g.S.Source.left c.args.input.now) (g.S.Source.faults c.args.input.now))
    (sink_of (g.K.Sink.taken c.args.out.now) (g.K.Sink.faults c.args.out.now)) (g.R.Rack.view c.args.rack.now)))

pub returns-in-Detect : goal.returns-in-Detect
returns-in-Detect g c = λ told.
    rw c.in-Detect.is
    (c.run_detect.ensures (tells_of told g.S.Source.tells g.K.Sink.tells g.R.Rack.tells_stands g.R.Rack.tells_contents)
    (devices_of (source_of (g.S.Source.left c.args.input.now) (g.S.Source.faults c.args.input.now))
    (sink_of (g.K.Sink.taken c.args.out.now) (g.K.Sink.faults c.args.out.now)) (g.R.Rack.view c.args.rack.now)))

pub returns-in-Carry : goal.returns-in-Carry
returns-in-Carry g c = λ told.
    rw c.in-Carry.is
    (c.run_carry.ensures (tells_of told g.S.Source.tells g.K.Sink.tells g.R.Rack.tells_stands g.R.Rack.tells_contents)
    (devices_of (source_of (g.S.Source.left c.args.input.now) (g.S.Source.faults c.args.input.now))
    (sink_of (g.K.Sink.taken c.args.out.now) (g.K.Sink.faults c.args.out.now)) (g.R.Rack.view c.args.rack.now)))

pub returns-in-Drill : goal.returns-in-Drill
returns-in-Drill g c = λ told.
    rw c.in-Drill.is
    (c.run_drill.ensures (tells_of told g.S.Source.tells g.K.Sink.tells g.R.Rack.tells_stands g.R.Rack.tells_contents)
    (devices_of (source_of (g.S.Source.left c.args.input.now) (g.S.Source.faults c.args.input.now))
    (sink_of (g.K.Sink.taken c.args.out.now) (g.K.Sink.faults c.args.out.now)) (g.R.Rack.view c.args.rack.now)))
