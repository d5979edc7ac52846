use Rattle.std.proofs.Common.{refl}
use Rattle.std.proofs.lemmas.Bool.{false≢true}
use Rattle.bm_batch_call.proofs.BayLemmas.{bay_attached, bay_not_attached}
use Rattle.bm_batch_call.proofs.attaching.attach_bay.Goals as goal

pub returns-in-Ok-clause-attached : goal.returns-in-Ok-clause-attached
returns-in-Ok-clause-attached g c = λ t ok.
    bay_attached _ c.args.shape.now _ _ (g.met.Y.Rack.consistent c.args.rack.now)
    (λ told. rw c.dims.ensures at (c.in-Ok.ensures.stood told refl)) (rw c.dims.ensures at (c.in-Ok.ensures.attached refl))
    c.attach_disks.ensures.same c.attach_disks.ensures.counts c.attach_disks.ensures.keeps

pub returns-in-Err-clause-attached : goal.returns-in-Err-clause-attached
returns-in-Err-clause-attached g c = λ t ok. absurd (false≢true ok)

pub returns-in-Err-clause-fails : goal.returns-in-Err-clause-fails
returns-in-Err-clause-fails g c = λ t.
    rw c.disks_status.ensures
    (bay_not_attached _ c.args.shape.now _ _ c.in-Err.error (g.met.Y.Rack.consistent c.args.rack.now)
    (rw c.dims.ensures at c.in-Err.ensures.refusal)
    c.attach_disks.ensures.same c.attach_disks.ensures.counts c.attach_disks.ensures.keeps c.in-Err.ensures.cause)
