-- Groups of four records, and a pairing on two bits within each.
use Rattle.std.specs.Prelude.{ℕ, zero, suc, ◌≡◌, ◌≢◌, ◌+◌, ◌*◌, ◌/◌, ◌^◌, ◌<◌, ◌≤◌, List}
use Rattle.std.specs.Int.{bit_at}
use Rattle.bm_butter.specs.Records.{record_in_order}
use Rattle.bm_butter.specs.OnBits.{kernel_digits}

-- the one of four that t picks
unfoldable pub pick : ℕ → ℕ → ℕ → ℕ → ℕ → ℕ
pick p q r s zero = p
pick p q r s (suc zero) = q
pick p q r s (suc (suc zero)) = r
pick p q r s (suc (suc (suc t))) = s

-- four different places
pub record AreApart (p q r s : ℕ) : Type 0 where
  pub p_q : p ≢ q
  pub p_r : p ≢ r
  pub p_s : p ≢ s
  pub q_r : q ≢ r
  pub q_s : q ≢ s
  pub r_s : r ≢ s

-- the records at four places became what the pairing on bits 0 and 1 makes of a list of the four
abbrev pub IsGroup : (ℕ → ℕ → ℕ × ℕ) → (ℕ → ℕ) → List ℕ → List ℕ → Type 0
IsGroup f place old new = (t : ℕ) → t < 4 → record_in_order new (place t) ≡ kernel_digits f 2 (λ k. record_in_order old (place k)) t

-- different groups below `total` have no place in common; place w t is where number t of group w stands
abbrev pub AreTold : ℕ → (ℕ → ℕ → ℕ) → Type 0
AreTold total place = (v w s t : ℕ) → v < total → w < total → s < 4 → t < 4 → place v s ≡ place w t → v ≡ w

-- the groups `from` to `to` are transformed, and nothing else is changed
pub record GroupsDone (f : ℕ → ℕ → ℕ × ℕ) (place : ℕ → ℕ → ℕ) (from to : ℕ) (old new : List ℕ) : Type 0 where
  pub done : (w : ℕ) → from ≤ w → w < to → IsGroup f (place w) old new
  pub others : (x : ℕ) → ((w t : ℕ) → from ≤ w → w < to → t < 4 → x ≢ place w t) → record_in_order new x ≡ record_in_order old x

-- z with a clear bit put in below its bits from i on
abbrev pub spread : ℕ → ℕ → ℕ
spread i z = z + z / 2 ^ i * 2 ^ i

-- w with two clear bits put in, so that they are bits low and high, low < high
abbrev pub spread_two : ℕ → ℕ → ℕ → ℕ
spread_two low high w = spread high (spread low w)

-- a number with no bits but low and high
abbrev pub IsCorner : ℕ → ℕ → ℕ → Type 0
IsCorner low high corner = corner ≡ bit_at corner low * 2 ^ low + bit_at corner high * 2 ^ high

-- four different corners
pub record AreCorners (low high p q r s : ℕ) : Type 0 where
  pub apart : AreApart p q r s
  pub corners : (t : ℕ) → t < 4 → IsCorner low high (pick p q r s t)

-- number t of group w of the bits low and high
abbrev pub corner_place : ℕ → ℕ → ℕ → ℕ → ℕ → ℕ → ℕ → ℕ → ℕ
corner_place low high p q r s w t = spread_two low high w + pick p q r s t

-- number t of group w, where the groups are neighbours
abbrev pub run_place : ℕ → ℕ → ℕ → ℕ → ℕ → ℕ → ℕ
run_place p q r s w t = pick p q r s t + w
