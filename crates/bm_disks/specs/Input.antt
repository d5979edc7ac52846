-- Bytes that were read of a source, and what is answered of an input.
use Rattle.std.specs.Prelude.{Ok, Err, ◌≡◌, ℕ, ◌+◌, ◌<◌, ◌≤◌, Bool, IsTrue, List, [], length, drop, Result}
use Rattle.bm_disks.specs.declared.load_error.LoadError.{LoadError}
use Rattle.bm_disks.specs.declared.load_error.LoadError.TheVariants.{Failed, DataFault, DataShort, DataLong}

-- Of a source that had `old` left and has `new` left, so many bytes were wanted, and it ended after fewer: all that it had was got.
abbrev pub EndsAfter : Bool → ℕ → List ℕ → List ℕ → ℕ → Type 0
EndsAfter told wanted old new got = (got < wanted) × (IsTrue told → (got ≡ length old) × (new ≡ []))

-- Of a source that had `old` left and has `new` left, so many bytes were wanted, and it went on: they and one more were taken.
abbrev pub GoesOnAfter : Bool → ℕ → List ℕ → List ℕ → Type 0
GoesOnAfter told wanted old new = IsTrue told → (wanted < length old) × (new ≡ drop (wanted + 1) old)

-- of a source that had `old` left and has `new` left, so many bytes at most were read
abbrev pub IsRead : ℕ → List ℕ → List ℕ → Type 0
IsRead most old new = (k : ℕ) × (k ≤ most) × (new ≡ drop k old)

-- What is answered of an input of which so many bytes were wanted: it held just these and was read to its end, or it ended early, or it
-- went on. The three exclude one another.
abbrev pub InputAnswer : {T : Type 0} → Bool → ℕ → List ℕ → List ℕ → Result T LoadError → Type 0
InputAnswer told wanted old new (Ok x) = IsTrue told → (length old ≡ wanted) × (new ≡ [])
InputAnswer told wanted old new (Err Failed) = Unit {0}
InputAnswer told wanted old new (Err DataFault) = Unit {0}
InputAnswer told wanted old new (Err (DataShort got)) = EndsAfter told wanted old new got
InputAnswer told wanted old new (Err DataLong) = GoesOnAfter told wanted old new

-- the refusals that the input gave cause for
abbrev pub IsInputRefusal : LoadError → Type 0
IsInputRefusal Failed = ⊥
IsInputRefusal DataFault = Unit {0}
IsInputRefusal (DataShort got) = Unit {0}
IsInputRefusal DataLong = Unit {0}
