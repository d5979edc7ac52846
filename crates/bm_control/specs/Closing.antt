-- What closing a gate leaves of its page.
use Rattle.std.specs.Prelude.{◌≡◌, ◌⊎◌, ℕ, List}
use Rattle.bm_base.specs.Contents.{page_at}
use Rattle.bm_base.specs.Gate.{IsOpenGate, IsClosedGate}
use Rattle.bm_rack.specs.RackView.{RackView}
use Rattle.bm_control.specs.Moments.{IsCleanPage}
use Rattle.bm_control.specs.Pages.{IsZeroPage}

-- a gate's page after it was shut: zeros where it was open, and untouched where it was closed
abbrev pub IsShut : List ℕ → List ℕ → Type 0
IsShut old new = (IsOpenGate old × IsZeroPage new) ⊎ (IsClosedGate old × (new ≡ old))

-- A gate at an exit of a call that closes it: where it is closed, and not dirty, it was shut. A page of which a write failed may hold
-- anything, and is dirty.
abbrev pub ClosesByZeros : ℕ → RackView → RackView → Type 0
ClosesByZeros gate old new = IsCleanPage gate new → IsClosedGate (page_at new.contents gate)
    → IsShut (page_at old.contents gate) (page_at new.contents gate)
