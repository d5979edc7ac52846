-- What a read takes from a source.
use Rattle.std.specs.Prelude.{◌≡◌, ℕ, ◌≤◌, Bool, IsTrue, List, [], ◌++◌, take, Result, IsErr, IfOk}
use Rattle.bm_base.specs.declared.fault.Failed.{Failed}

-- The bytes given are the next ones, at least one but at the end; a failed read takes none.
pub record SourceRead (told : Bool) (old : List ℕ) (size : ℕ) (result : Result ℕ Failed) (into : List ℕ) (new : List ℕ) : Type 0 where
  pub bound : IfOk result (λ k. k ≤ size)
  pub bytes : IsTrue told → IfOk result (λ k. old ≡ take k into ++ new)
  pub end : IsTrue told → IfOk result (λ k. k ≡ 0 → old ≡ [])
  pub failed : IsErr result → new ≡ old
