-- The parts of an address.
use Rattle.std.specs.Prelude.{ℕ, ◌+◌, ◌*◌, ◌/◌, ◌%◌, ◌^◌, ◌<◌}
use Rattle.bm_base.specs.declared.shape.Shape.{Shape}
use Rattle.bm_base.specs.Shape.{stripes}
use Rattle.bm_stripe.specs.declared.spot.Spot.{Spot}

-- the parts are those of an address below N
pub record IsSpot (s : Shape) (spot : Spot) : Type 0 where
  pub disk : spot.disk < 2 ^ s.d
  pub place : spot.place < stripes s
  pub offset : spot.offset < 2 ^ s.b

-- The parts of an address: its low bits are the offset in the block, the next ones the disk, and the rest the stripe
-- (Cormen, Sundquist and Wisniewski).
abbrev pub spot_of : Shape → ℕ → Spot
spot_of s x = record { disk = x / 2 ^ s.b % 2 ^ s.d; place = x / 2 ^ s.b / 2 ^ s.d; offset = x % 2 ^ s.b }

-- the address of some parts
abbrev pub address_of : Shape → Spot → ℕ
address_of s spot = (spot.place * 2 ^ s.d + spot.disk) * 2 ^ s.b + spot.offset
