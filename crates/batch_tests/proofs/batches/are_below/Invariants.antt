use Rattle.std.proofs.Common.{ℕ, ◌<◌, slice_index_or}
use Rattle.batch_tests.proofs.batches.are_below.Given as goal

abbrev pub invariant-loop-bay : goal.invariant-loop-bay
invariant-loop-bay l = (k : ℕ) (d : ℕ) → k < l.bay-index → slice_index_or l.turns k d < l.count
