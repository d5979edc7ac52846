-- Records of a row at their places in a load.
use Rattle.std.specs.Prelude.{ℕ, ◌≡◌, ◌⊎◌, ◌+◌, ◌^◌, ◌<◌, ◌≤◌, List, length, bit_xor}
use Rattle.std.specs.Fork.{slice_chunk}
use Rattle.bm_gf2.specs.declared.matrix.Matrix.{Matrix}
use Rattle.bm_gf2.specs.Matrix.{image}

-- the place of the record of number x
abbrev pub places_by : Matrix → ℕ → ℕ → ℕ
places_by a plus x = bit_xor plus (image a x)

-- Of 2 ^ n records in a load, the `count` from number `first` on are those of the row, each at its place.
-- Every other one is as before.
pub record PlacesRecords (place : ℕ → ℕ) (n width first count : ℕ) (row old new : List ℕ) : Type 0 where
  pub placed : (r : ℕ) → r < count → slice_chunk new width (place (first + r)) ≡ slice_chunk row width r
  pub others : (x : ℕ) → x < 2 ^ n → (x < first) ⊎ (first + count ≤ x) → slice_chunk new width (place x) ≡ slice_chunk old width (place x)
  pub size : length new ≡ length old
