-- The places of the records of a group.
use Rattle.std.specs.Prelude.{ℕ, ◌≢◌, ◌+◌, ◌*◌, ◌^◌, ◌<◌, ◌≤◌, bit_xor}
use Rattle.bm_gf2.specs.Vector.{xor_sum}

-- the place of record t of a group
abbrev pub corner : ℕ → (ℕ → ℕ) → ℕ → ℕ
corner here offsets t = bit_xor here (offsets t)

-- the first `count` records lie within so many bytes
abbrev pub AreInside : ℕ → (ℕ → ℕ) → ℕ → Type 0
AreInside count place bytes = (t : ℕ) → t < count → (place t + 1) * 8 ≤ bytes

-- no two of them have one place
abbrev pub HaveOwnPlaces : ℕ → (ℕ → ℕ) → Type 0
HaveOwnPlaces count place = (s t : ℕ) → s < count → t < count → s ≢ t → place s ≢ place t

-- the number whose bits of a list are the digits of t, and which has no others
abbrev pub member : (ℕ → ℕ) → ℕ → ℕ → ℕ
member bits count t = xor_sum (λ j. 2 ^ bits j) count t
