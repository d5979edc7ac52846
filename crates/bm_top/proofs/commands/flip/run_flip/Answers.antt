use Rattle.std.proofs.Common.{◌∙◌, sym, refl}
use Rattle.std.proofs.lemmas.Bool.{false≢true}
use Rattle.bm_top.specs.Moment.{source_of, sink_of, devices_of, moment_of, tells_of}
use Rattle.bm_top.proofs.TopCallLemmas.{flip_done, flip_refused, task_known}
use Rattle.bm_top.proofs.commands.flip.run_flip.Goals as goal

pub returns-in-Ok-clause-usage : goal.returns-in-Ok-clause-usage
returns-in-Ok-clause-usage g c =
    task_known (c.run_carry.ensures (tells_of g.S.Source.tells g.S.Source.tells g.K.Sink.tells g.R.Rack.tells_stands
    g.R.Rack.tells_contents)
    (devices_of (source_of (g.S.Source.left c.args.input.now) (g.S.Source.faults c.args.input.now))
    (sink_of (g.K.Sink.taken c.args.out.now) (g.K.Sink.faults c.args.out.now)) (g.R.Rack.view c.args.rack.now)))

pub returns-in-Ok-clause-flip : goal.returns-in-Ok-clause-flip
returns-in-Ok-clause-flip g c = λ told job.
    let sizes = c.in-Ok.ensures.sizes in
    flip_done (tells_of told g.S.Source.tells g.K.Sink.tells g.R.Rack.tells_stands g.R.Rack.tells_contents) c.args.flip.now c.in-Ok.shape
    c.flip_task-task.result
    (moment_of job (devices_of (source_of (g.S.Source.left c.args.input.now) (g.S.Source.faults c.args.input.now))
    (sink_of (g.K.Sink.taken c.args.out.now) (g.K.Sink.faults c.args.out.now)) (g.R.Rack.view c.args.rack.now))) c.run_carry.result
    (moment_of job (devices_of (source_of (g.S.Source.left c.run_carry.new.input) (g.S.Source.faults c.run_carry.new.input))
    (sink_of (g.K.Sink.taken c.run_carry.new.out) (g.K.Sink.faults c.run_carry.new.out)) (g.R.Rack.view c.run_carry.new.rack)))
    sizes.0 sizes.1 sizes.2 sizes.3 sizes.4 refl c.flip_task-task.ensures.task
    (c.run_carry.ensures (tells_of told g.S.Source.tells g.K.Sink.tells g.R.Rack.tells_stands g.R.Rack.tells_contents)
    (devices_of (source_of (g.S.Source.left c.args.input.now) (g.S.Source.faults c.args.input.now))
    (sink_of (g.K.Sink.taken c.args.out.now) (g.K.Sink.faults c.args.out.now)) (g.R.Rack.view c.args.rack.now)))

pub returns-in-Err-clause-flip : goal.returns-in-Err-clause-flip
returns-in-Err-clause-flip g c = λ told job.
    flip_refused (tells_of told g.S.Source.tells g.K.Sink.tells g.R.Rack.tells_stands g.R.Rack.tells_contents) c.args.flip.now
    c.in-Err.broken.rule
    (moment_of job (devices_of (source_of (g.S.Source.left c.args.input.now) (g.S.Source.faults c.args.input.now))
    (sink_of (g.K.Sink.taken c.args.out.now) (g.K.Sink.faults c.args.out.now)) (g.R.Rack.view c.args.rack.now)))
    (moment_of job (devices_of (source_of (g.S.Source.left c.args.input.now) (g.S.Source.faults c.args.input.now))
    (sink_of (g.K.Sink.taken c.args.out.now) (g.K.Sink.faults c.args.out.now)) (g.R.Rack.view c.args.rack.now)))
    (λ z. false≢true (c.in-Err.ensures.kept.1 (sym c.in-Err.ensures.broken ∙ z))) c.in-Err.ensures.broken refl
