use Rattle.std.proofs.Common.{map}
use Rattle.bm_top.specs.Moment.{Tells}
use Rattle.bm_batch_call.specs.Bays.{BayAttached}
use Rattle.bm_batch_call.specs.Lists.{UpTo}
use Rattle.bm_batch_call.specs.Moment.{no_view}
use Rattle.bm_batch_call.proofs.attaching.attach_bays.Given as goal

abbrev pub invariant-loop-bay : goal.invariant-loop-bay
invariant-loop-bay g l = (t : Tells) → UpTo no_view
    (λ k was is. BayAttached (record t { stands = g.Y.Rack.tells_stands; contents = g.Y.Rack.tells_contents }) l.shape was is) l.bay
    (map g.Y.Rack.view l.fn.bays) (map g.Y.Rack.view l.bays)
