-- Counts of faults over several calls.
use Rattle.bm_rack.specs.RackView.{RackView}
use Rattle.bm_rack.specs.Frames.{Keeps, HasCause}
use Rattle.bm_rack.proofs.FrameLemmas.{HasCause-later}

-- the fault of a later call
pub cause_later : (failed answer : Type 0) (a b c : RackView) → (answer → failed) → Keeps a b → HasCause failed b c → HasCause answer a c
cause_later failed answer a b c is keeps x =
    let y = HasCause-later failed a b c keeps x in
    record { rose = λ e. y.rose (is e); sure = λ steady going e. y.sure steady going (is e) }
