use Rattle.std.proofs.Common.{Err, ap, refl}
use Rattle.bm_top.specs.Moment.{sink_of}
use Rattle.bm_top.specs.declared.words.Verb.TheVariants as verbs
use Rattle.bm_top.proofs.AttachLemmas.{attached_from, not_attached}
use Rattle.bm_top.proofs.commands.status.tell_status.Goals as goal

pub returns-in-Ok : goal.returns-in-Ok
returns-in-Ok g c = λ t d.
    c.status_attached.ensures t d _ (attached_from g.R.Rack.tells_stands g.R.Rack.tells_contents _ _
    (g.met.R.Rack.consistent c.args.rack.now)
    c.attach_disks.ensures.same c.attach_disks.ensures.counts c.attach_disks.ensures.keeps)

pub returns-in-Err : goal.returns-in-Err
returns-in-Err g c = λ t d.
    let from = attached_from g.R.Rack.tells_stands g.R.Rack.tells_contents _ _ (g.met.R.Rack.consistent c.args.rack.now)
    c.attach_disks.ensures.same c.attach_disks.ensures.counts c.attach_disks.ensures.keeps in
    rw c.disks_status.ensures
    (not_attached (record t { out = g.K.Sink.tells; stands = g.R.Rack.tells_stands; contents = g.R.Rack.tells_contents }) verbs.Status
    c.args.task.now (record d { out = sink_of (g.K.Sink.taken c.args.out.now) (g.K.Sink.faults c.args.out.now) }) _ _ c.in-Err.error
    (g.met.R.Rack.consistent c.args.rack.now) tt (rw c.dims.ensures at c.in-Err.ensures.refusal) from (c.in-Err.ensures.unattached refl)
    (λ e. c.in-Err.ensures.cause.rose (ap Err e)) (λ steady going e. c.in-Err.ensures.cause.sure steady going (ap Err e)))
