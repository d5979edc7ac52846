use Rattle.std.proofs.Common.{◌≡◌, ◌≤◌, vec_len}
use Rattle.std.specs.Vec.{vec_capacity}
use Rattle.bm_batch.proofs.BegunLemmas.{BegunTo}
use Rattle.bm_batch.proofs.batch.Batch.begin.Given as goal

abbrev pub invariant-loop-bay : goal.invariant-loop-bay
invariant-loop-bay g l = record {
  begun : BegunTo g.Y.Rack.view g.Y.Rack.tells_stands g.Y.Rack.tells_contents l.shape l.jobs l.bay l.slots.items l.fn.bays l.bays;
  room : l.bay-end ≤ vec_capacity l.slots;
  len : vec_len l.slots ≡ l.bay;
}
