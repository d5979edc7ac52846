use Rattle.std.proofs.Common.{◌≡◌, ℕ, ◌<◌, slice_index_or}
use Rattle.bm_batch.specs.declared.bay_slot.BaySlot.{BaySlot}
use Rattle.bm_batch.specs.declared.bay_state.BayState.TheVariants.{Finished}
use Rattle.bm_batch_call.proofs.running.first_ended.Given as goal

abbrev pub invariant-loop-bay : goal.invariant-loop-bay
invariant-loop-bay l = (k : ℕ) (d : BaySlot) → k < l.bay → (slice_index_or l.batch.slots k d).state ≡ Finished
