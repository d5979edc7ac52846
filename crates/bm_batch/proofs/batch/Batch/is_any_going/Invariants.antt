use Rattle.std.proofs.Common.{◌≢◌, ℕ, ◌<◌, slice_index_or}
use Rattle.bm_batch.specs.declared.bay_slot.BaySlot.{BaySlot}
use Rattle.bm_batch.specs.declared.bay_state.BayState.TheVariants.{Going}
use Rattle.bm_batch.proofs.batch.Batch.is_any_going.Given as goal

abbrev pub invariant-loop-slot : goal.invariant-loop-slot
invariant-loop-slot l = (k : ℕ) (d : BaySlot) → k < l.slot-index → (slice_index_or l.slot-items k d).state ≢ Going
