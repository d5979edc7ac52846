use Rattle.std.proofs.Common.{◌≡◌, ℕ, ◌<◌, slice_index_or, Some}
use Rattle.bm_base.specs.Shape.{dims_of}
use Rattle.batch_tests.proofs.batches.have_attached.Given as goal

abbrev pub invariant-loop-bay : goal.invariant-loop-bay
invariant-loop-bay g l = (k : ℕ) (d : g.row.R.Denot) → k < l.bay-index
    → (g.R.Rack.view (slice_index_or l.bays k d)).attached ≡ Some (dims_of l.shape)
