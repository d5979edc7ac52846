use Rattle.bm_top.specs.Moment.{source_of, sink_of, devices_of, tells_of}
use Rattle.bm_kind_call.proofs.kind_call.run_file.Goals as goal

pub returns : goal.returns
returns g c = λ told.
    c.kind_on_disks.ensures (tells_of told g.S.Source.tells g.K.Sink.tells g.R.Rack.tells_stands g.R.Rack.tells_contents)
    (devices_of (source_of (g.S.Source.left c.args.input.now) (g.S.Source.faults c.args.input.now))
    (sink_of (g.K.Sink.taken c.args.out.now) (g.K.Sink.faults c.args.out.now)) (g.R.Rack.view c.args.rack.now))
