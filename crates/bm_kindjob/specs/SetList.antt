-- Lists of address bits, and what can be wrong with one.
use Rattle.std.specs.Prelude.{ℕ, ◌≡◌, ◌<◌, ◌≤◌, List, length, slice_index}
use Rattle.bm_named.specs.declared.map_fault.MapFault.{MapFault}
use Rattle.bm_named.specs.declared.map_fault.MapFault.TheVariants.{Width, Side, Length, Range, Twice, Wide, Singular, Complement}
use Rattle.bm_kinds.specs.OnBits.{AreBits}

-- entry j is the first that is no bit below n or stands twice; it is no bit
pub record IsFirstOutside (n : ℕ) (list : List ℕ) (j : ℕ) : Type 0 where
  pub inside : j < length list
  pub before : AreBits n j (slice_index list)
  pub outside : n ≤ slice_index list j

-- it is a bit, and stands at entry i before
pub record IsFirstTwice (n : ℕ) (list : List ℕ) (i j : ℕ) : Type 0 where
  pub inside : j < length list
  pub before : AreBits n j (slice_index list)
  pub bit : slice_index list j < n
  pub earlier : i < j
  pub same : slice_index list i ≡ slice_index list j

-- the first fault of a list of bits
abbrev pub SetFaultIs : ℕ → List ℕ → MapFault → Type 0
SetFaultIs n list (Range i) = IsFirstOutside n list i
SetFaultIs n list (Twice i j) = IsFirstTwice n list i j
SetFaultIs n list Width = ⊥
SetFaultIs n list (Side p) = ⊥
SetFaultIs n list (Length got) = ⊥
SetFaultIs n list (Wide i) = ⊥
SetFaultIs n list (Singular x) = ⊥
SetFaultIs n list (Complement c) = ⊥
