-- Calls that fail exactly where they were told to.
use Rattle.std.specs.Prelude.{◌≡◌, ◌||◌, Bool, IsTrue, IsFalse, if◌then◌else◌}
use Rattle.bm_base.specs.Count.{raised}
use Rattle.bm_memrack.specs.declared.fault_list.FaultList.{FaultList}
use Rattle.bm_memrack.specs.FaultList.{is_listed}

-- the next call fails: its number is listed, or there is another cause
abbrev pub next_fails : Bool → FaultList → Bool
next_fails other_cause list = other_cause || is_listed list.numbers.items (raised list.calls 1)

-- a call was made, which failed exactly where it was told to
pub record IsToldCall (other_cause : Bool) (failed : Type 0) (old new : FaultList) : Type 0 where
  pub fails : IsTrue (next_fails other_cause old) → failed
  pub goes : IsFalse (next_fails other_cause old) → ¬ failed
  pub numbers : new.numbers ≡ old.numbers
  pub calls : new.calls ≡ raised old.calls 1
  pub faults : new.faults ≡ raised old.faults (if next_fails other_cause old then 1 else 0)
