use Rattle.std.proofs.Common.{◌≡◌, ℕ, ◌<◌, slice_index_or}
use Rattle.bm_top.specs.declared.task.Task.{Task}
use Rattle.bm_batch_call.proofs.shapes.first_other.Given as goal

abbrev pub invariant-loop-bay : goal.invariant-loop-bay
invariant-loop-bay l = (k : ℕ) (d : Task) → k < l.bay → (slice_index_or l.tasks k d).shape ≡ (slice_index_or l.tasks 0 d).shape
