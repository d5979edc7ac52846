-- Lists that say which source bit each target bit is, and what can be wrong with one.
use Rattle.std.specs.Prelude.{ℕ, ◌≡◌, ◌≢◌, ◌-◌, ◌^◌, ◌<◌, ◌≤◌, min, List, length, slice_index}
use Rattle.bm_named.specs.declared.map_fault.MapFault.{MapFault}
use Rattle.bm_named.specs.declared.map_fault.MapFault.TheVariants.{Width, Side, Length, Range, Twice, Wide, Singular, Complement}

-- each of the bits 0 to n - 1 stands once in the list
pub record IsBitOrder (n : ℕ) (list : List ℕ) : Type 0 where
  pub long : length list ≡ n
  pub below : (i : ℕ) → i < n → slice_index list i < n
  pub distinct : (i j : ℕ) → i < j → j < n → slice_index list i ≢ slice_index list j

-- entry i is the first that is no bit below n
pub record IsFirstNoBit (n : ℕ) (list : List ℕ) (i : ℕ) : Type 0 where
  pub inside : i < n
  pub outside : n ≤ slice_index list i
  pub before : (k : ℕ) → k < i → slice_index list k < n

-- entry j is the first that repeats an earlier one, and that is entry i
pub record IsFirstRepeat (n : ℕ) (list : List ℕ) (i j : ℕ) : Type 0 where
  pub earlier : i < j
  pub inside : j < n
  pub same : slice_index list i ≡ slice_index list j
  pub before : (k l : ℕ) → k < l → l < j → slice_index list k ≢ slice_index list l

-- the length of a list that should have n entries, as far as the fault can say it
abbrev pub LengthIs : {A : Type 0} → ℕ → List A → ℕ → Type 0
LengthIs n list got = (length list ≢ n) × (got ≡ min (length list) (2 ^ 32 - 1))

-- the first fault of a list of bits: its length, then an entry that is no bit, then one that stands twice
abbrev pub BitsFaultIs : ℕ → List ℕ → MapFault → Type 0
BitsFaultIs n list (Length got) = LengthIs n list got
BitsFaultIs n list (Range i) = (length list ≡ n) × IsFirstNoBit n list i
BitsFaultIs n list (Twice i j) = (length list ≡ n) × ((k : ℕ) → k < n → slice_index list k < n) × IsFirstRepeat n list i j
BitsFaultIs n list Width = ⊥
BitsFaultIs n list (Side p) = ⊥
BitsFaultIs n list (Wide i) = ⊥
BitsFaultIs n list (Singular x) = ⊥
BitsFaultIs n list (Complement c) = ⊥
