use Rattle.std.proofs.Common.{refl, ap, Err}
use Rattle.bm_top.specs.Moment.{source_of, sink_of}
use Rattle.bm_top.proofs.CarryDisksLemmas.{made_from}
use Rattle.bm_kind_call.specs.Exits.{shape_task}
use Rattle.bm_kind_call.proofs.EarlyLemmas.{kind_not_made}
use Rattle.bm_kind_call.proofs.kind_call.kind_on_disks.Goals as goal

pub returns-in-Ok : goal.returns-in-Ok
returns-in-Ok g c = λ t d.
    c.kind_attached.ensures t (record d {
      input = source_of (g.S.Source.left c.args.input.now) (g.S.Source.faults c.args.input.now);
      out = sink_of (g.K.Sink.taken c.args.out.now) (g.K.Sink.faults c.args.out.now);
      rack = g.R.Rack.view c.args.rack.now;
    })
    (made_from (record t {
      input = g.S.Source.tells;
      out = g.K.Sink.tells;
      stands = g.R.Rack.tells_stands;
      contents = g.R.Rack.tells_contents;
    }) (shape_task c.args.file.now.shape) (record d {
      input = source_of (g.S.Source.left c.args.input.now) (g.S.Source.faults c.args.input.now);
      out = sink_of (g.K.Sink.taken c.args.out.now) (g.K.Sink.faults c.args.out.now);
    }) _ _
    (g.met.R.Rack.consistent c.args.rack.now) (rw c.dims.ensures at (c.in-Ok.ensures.made refl)) c.new_disks.ensures.counts
    c.new_disks.ensures.keeps)

pub returns-in-Err : goal.returns-in-Err
returns-in-Err g c = λ t d.
    rw c.disks_status.ensures
    (kind_not_made (record t {
      input = g.S.Source.tells;
      out = g.K.Sink.tells;
      stands = g.R.Rack.tells_stands;
      contents = g.R.Rack.tells_contents;
    }) c.args.file.now (record d {
      input = source_of (g.S.Source.left c.args.input.now) (g.S.Source.faults c.args.input.now);
      out = sink_of (g.K.Sink.taken c.args.out.now) (g.K.Sink.faults c.args.out.now);
    }) _ _ c.in-Err.error
    (g.met.R.Rack.consistent c.args.rack.now) (rw c.dims.ensures at c.in-Err.ensures.refusal)
    (c.in-Err.ensures.unattached refl) c.new_disks.ensures.counts c.new_disks.ensures.keeps
    (λ e. c.in-Err.ensures.cause.rose (ap Err e)) (λ steady going e. c.in-Err.ensures.cause.sure steady going (ap Err e)))
