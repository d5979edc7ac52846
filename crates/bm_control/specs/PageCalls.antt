-- Which pages a call reads and writes.
use Rattle.std.specs.Prelude.{◌≡◌, ◌⊎◌, ℕ, ◌<◌, ◌≤◌}
use Rattle.bm_base.specs.Contents.{RackUnit, block_unit, page_unit}
use Rattle.bm_rack.specs.RackView.{RackView}
use Rattle.bm_rack.specs.Frames.{Stays, RisesWithin, CallCounts}
use Rattle.bm_rack.specs.Calls.{IsPage}
use Rattle.bm_control.specs.Pages.{load_body, load_gate, job_body, job_gate, pass_body, slot_body, slot_gate}

-- the pages of the load body and its gate
abbrev pub IsLoadPage : RackUnit → Type 0
IsLoadPage (block_unit disk place) = ⊥
IsLoadPage (page_unit page) = (page ≡ load_body) ⊎ (page ≡ load_gate)

-- at least and at most so many page calls, and no other call
abbrev pub ReadsPages : ℕ → ℕ → RackView → RackView → Type 0
ReadsPages least most old new = CallCounts Stays (RisesWithin least most) Stays old new

-- the pages of a slot's body and its gate
abbrev pub IsSlotPage : ℕ → RackUnit → Type 0
IsSlotPage slot (block_unit disk place) = ⊥
IsSlotPage slot (page_unit page) = (page ≡ slot_body slot) ⊎ (page ≡ slot_gate slot)

-- the pages of the first k passes
abbrev pub IsPassPage : ℕ → RackUnit → Type 0
IsPassPage k (block_unit disk place) = ⊥
IsPassPage k (page_unit page) = (pass_body 0 ≤ page) × (page < pass_body k)

-- the gates of the slots
abbrev pub IsSlotGate : RackUnit → Type 0
IsSlotGate (block_unit disk place) = ⊥
IsSlotGate (page_unit page) = (page ≡ slot_gate 0) ⊎ (page ≡ slot_gate 1)

-- the pages that are written before a job's gate: its body, those of its passes, and, where it has slots, their gates
abbrev pub IsJobPage : ℕ → Type 0 → RackUnit → Type 0
IsJobPage passes parts u = IsPage job_body u ⊎ (IsPassPage passes u ⊎ (parts × IsSlotGate u))

-- and its gate
abbrev pub IsStartPage : ℕ → Type 0 → RackUnit → Type 0
IsStartPage passes parts u = IsPage job_gate u ⊎ IsJobPage passes parts u
