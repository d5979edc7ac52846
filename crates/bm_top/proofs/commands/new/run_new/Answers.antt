use Rattle.std.proofs.Common.{refl, ap, Err}
use Rattle.bm_top.proofs.NewLemmas.{new_done, new_refused}
use Rattle.bm_top.proofs.commands.new.run_new.Goals as goal

pub returns-in-Ok : goal.returns-in-Ok
returns-in-Ok g c = λ t d.
    new_done (record t { stands = g.R.Rack.tells_stands; contents = g.R.Rack.tells_contents }) c.args.task.now d _ _
    (g.met.R.Rack.consistent c.args.rack.now)
    (rw c.dims.ensures at (c.in-Ok.ensures.made refl)) c.create_disks.ensures.counts c.create_disks.ensures.keeps

pub returns-in-Err : goal.returns-in-Err
returns-in-Err g c = λ t d.
    rw c.disks_status.ensures
    (new_refused (record t { stands = g.R.Rack.tells_stands; contents = g.R.Rack.tells_contents }) c.args.task.now d _ _ c.in-Err.error
    (g.met.R.Rack.consistent c.args.rack.now) c.in-Err.ensures.refusal (c.in-Err.ensures.same refl) c.in-Err.ensures.unattached
    c.create_disks.ensures.counts c.create_disks.ensures.keeps
    (λ e. c.in-Err.ensures.cause.rose (ap Err e)) (λ steady going e. c.in-Err.ensures.cause.sure steady going (ap Err e)))
