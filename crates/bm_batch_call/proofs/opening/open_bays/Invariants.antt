use Rattle.std.proofs.Common.{map}
use Rattle.bm_top.specs.Moment.{Tells}
use Rattle.bm_batch_call.specs.Lists.{UpTo}
use Rattle.bm_batch_call.specs.Moment.{no_view}
use Rattle.bm_batch_call.specs.Opening.{IsOpened}
use Rattle.bm_batch_call.proofs.opening.open_bays.Given as goal

abbrev pub invariant-loop-bay : goal.invariant-loop-bay
invariant-loop-bay g l = (t : Tells) → UpTo no_view
    (IsOpened (record t { stands = g.Y.Rack.tells_stands; contents = g.Y.Rack.tells_contents }) l.shape) l.bay
    (map g.Y.Rack.view l.fn.bays) (map g.Y.Rack.view l.bays)
