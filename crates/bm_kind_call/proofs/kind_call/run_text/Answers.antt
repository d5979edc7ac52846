use Rattle.std.proofs.Common.{refl}
use Rattle.bm_top.specs.Moment.{source_of, sink_of, devices_of, moment_of, tells_of}
use Rattle.bm_kind_call.proofs.TopLemmas.{file_done, file_stopped}
use Rattle.bm_kind_call.proofs.kind_call.run_text.Goals as goal

pub returns-in-Ok : goal.returns-in-Ok
returns-in-Ok g c =
    file_done (tells_of g.J.Source.tells g.S.Source.tells g.K.Sink.tells g.R.Rack.tells_stands g.R.Rack.tells_contents) c.in-Ok.file
    (moment_of (source_of (g.J.Source.left c.args.job.now) (g.J.Source.faults c.args.job.now)) (devices_of
    (source_of (g.S.Source.left c.args.input.now) (g.S.Source.faults c.args.input.now))
    (sink_of (g.K.Sink.taken c.args.out.now) (g.K.Sink.faults c.args.out.now)) (g.R.Rack.view c.args.rack.now))) c.run_file.result
    (moment_of (source_of (g.J.Source.left c.read_file.new.job) (g.J.Source.faults c.read_file.new.job)) (devices_of
    (source_of (g.S.Source.left c.run_file.new.input) (g.S.Source.faults c.run_file.new.input))
    (sink_of (g.K.Sink.taken c.run_file.new.out) (g.K.Sink.faults c.run_file.new.out)) (g.R.Rack.view c.run_file.new.rack)))
    c.in-Ok.ensures.file c.in-Ok.ensures.fits (λ t. c.in-Ok.ensures.ended t refl) c.read_file.ensures.faults
    (c.run_file.ensures g.J.Source.tells)

pub returns-in-Err : goal.returns-in-Err
returns-in-Err g c =
    file_stopped (tells_of g.J.Source.tells g.S.Source.tells g.K.Sink.tells g.R.Rack.tells_stands g.R.Rack.tells_contents)
    (moment_of (source_of (g.J.Source.left c.args.job.now) (g.J.Source.faults c.args.job.now)) (devices_of
    (source_of (g.S.Source.left c.args.input.now) (g.S.Source.faults c.args.input.now))
    (sink_of (g.K.Sink.taken c.args.out.now) (g.K.Sink.faults c.args.out.now)) (g.R.Rack.view c.args.rack.now))) c.in-Err.status
    (moment_of (source_of (g.J.Source.left c.read_file.new.job) (g.J.Source.faults c.read_file.new.job)) (devices_of
    (source_of (g.S.Source.left c.args.input.now) (g.S.Source.faults c.args.input.now))
    (sink_of (g.K.Sink.taken c.args.out.now) (g.K.Sink.faults c.args.out.now)) (g.R.Rack.view c.args.rack.now)))
    c.in-Err.ensures.refusal refl c.in-Err.ensures.refused
