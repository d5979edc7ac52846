-- Bays whose jobs were begun and took all their turns.
use Rattle.std.specs.Prelude.{◌≡◌, ℕ, ◌<◌, List, length, slice_index_or}
use Rattle.bm_rack.specs.RackView.{RackView}
use Rattle.bm_batch.specs.declared.bay_slot.BaySlot.{BaySlot}
use Rattle.bm_batch.specs.Batches.{view_at}
use Rattle.bm_top.specs.Moment.{Tells}
use Rattle.bm_batch_call.specs.Bays.{BayRan}
use Rattle.bm_batch_call.specs.Dumping.{passes_at}
use Rattle.bm_batch_call.specs.Moment.{Work}

-- each bay after its begin and its turns
abbrev pub AllRan : Tells → Work → (ℕ → ℕ) → List BaySlot → BaySlot → List RackView → List RackView → Type 0
AllRan t w passes slots d mid new = (k : ℕ) → k < w.count
    → BayRan t w.shape (w.job k) (passes k) (slice_index_or slots k d).state (view_at mid k) (view_at new k)

-- what a begin and turns did with all bays
pub record BaysRan (t : Tells) (w : Work) (slots : List BaySlot) (mid new : List RackView) : Type 0 where
  pub many : length slots ≡ w.count
  pub count : length new ≡ length mid
  pub ran : (d : BaySlot) → AllRan t w (passes_at slots d) slots d mid new
