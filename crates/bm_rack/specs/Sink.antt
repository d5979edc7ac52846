-- What a write adds to a sink.
use Rattle.std.specs.Prelude.{◌≡◌, ℕ, ◌≤◌, Bool, IsTrue, List, ◌++◌, length, take, Result, IsErr, IfOk}
use Rattle.bm_base.specs.declared.fault.Failed.{Failed}

-- A front of the bytes is appended, at least one of them; a failed write appends nothing.
pub record SinkWritten (told : Bool) (old : List ℕ) (bytes : List ℕ) (result : Result ℕ Failed) (new : List ℕ) : Type 0 where
  pub bound : IfOk result (λ k. (1 ≤ k) × (k ≤ length bytes))
  pub taken : IsTrue told → IfOk result (λ k. new ≡ old ++ take k bytes)
  pub failed : IsErr result → new ≡ old

-- a front of these bytes was appended
abbrev pub AppendsFront : List ℕ → List ℕ → List ℕ → Type 0
AppendsFront old new bytes = (k : ℕ) × (k ≤ length bytes) × (new ≡ old ++ take k bytes)
