-- What a loop over a list of devices does with each of them.
use Rattle.std.specs.Prelude.{◌≡◌, ℕ, ◌<◌, ◌≤◌, List, length, slice_index_or}

-- this was done with each before this one, and the others are as they were
pub record UpTo {V : Type 0} (none : V) (P : ℕ → V → V → Type 0) (at : ℕ) (old new : List V) : Type 0 where
  pub count : length new ≡ length old
  pub before : (k : ℕ) → k < at → P k (slice_index_or old k none) (slice_index_or new k none)
  pub after : (k : ℕ) → at ≤ k → slice_index_or new k none ≡ slice_index_or old k none

-- and with this one that
pub record EndsAt {V : Type 0} (none : V) (P Q : ℕ → V → V → Type 0) (at : ℕ) (old new : List V) : Type 0 where
  pub below : at < length old
  pub count : length new ≡ length old
  pub before : (k : ℕ) → k < at → P k (slice_index_or old k none) (slice_index_or new k none)
  pub here : Q at (slice_index_or old at none) (slice_index_or new at none)
  pub after : (k : ℕ) → at < k → slice_index_or new k none ≡ slice_index_or old k none

-- the first of so many of which this holds, with what holds of those before it
pub record FirstOf (count : ℕ) (Before Here : ℕ → Type 0) : Type 0 where
  pub at : ℕ
  pub below : at < count
  pub here : Here at
  pub before : (k : ℕ) → k < at → Before k
