-- What passes make of a list of records, where each does a pairing on its part of a set of bits. All rounds together do the set.
use Rattle.std.specs.Prelude.{ℕ, ◌/◌, ◌^◌, List, [], ◌∷◌}
use Rattle.bm_base.specs.Records.{SameRecords}
use Rattle.bm_forms.specs.declared.pass_form.PassForm.{PassForm}
use Rattle.bm_forms.specs.Permutation.{permuted}
use Rattle.bm_kinds.specs.OnBits.{kernel_over}

-- the pairing on those of the bits below `low` that are in the set, then the permutation by the map
abbrev pub kind_passed : (ℕ → ℕ → ℕ × ℕ) → ℕ → PassForm → (ℕ → List ℕ) → ℕ → List ℕ
kind_passed f set p xs = permuted p.map.map (kernel_over f p.low set xs)

-- the passes in order: each has the lowest `low` bits of what the passes before left of the set
unfoldable pub kinds_passed : (ℕ → ℕ → ℕ × ℕ) → ℕ → List PassForm → (ℕ → List ℕ) → ℕ → List ℕ
kinds_passed f set [] xs = xs
kinds_passed f set (p ∷ ps) xs = kinds_passed f (set / 2 ^ p.low) ps (kind_passed f set p xs)

-- the passes do the pairing on each bit of the set, in ascending order, whatever the pairing and the set
abbrev pub DoKinds : List PassForm → ℕ → Type 0
DoKinds forms n = (f : ℕ → ℕ → ℕ × ℕ) (set : ℕ) (xs : ℕ → List ℕ)
    → SameRecords (2 ^ n) (kinds_passed f set forms xs) (kernel_over f n set xs)
