-- An address and its parts.
use Rattle.std.proofs.Common.{◌≡◌, ℕ, ◌+◌, ◌-◌, ◌*◌, ◌/◌, ◌%◌, ◌^◌, ◌<◌, ◌≤◌, sym, ◌∙◌, ap, arith}
use Rattle.std.proofs.Math.Nat.{le-mul_of_pos_right}
use Rattle.std.proofs.Math.Pow.{pow_mono}
use Rattle.std.proofs.lemmas.Nat.{div_below, mod_below, pow-add, pow_pos, mul-add-lt, div-mul-add, mod-mul-add, div-add-mod'}
use Rattle.bm_base.specs.declared.shape.Shape.{Shape}
use Rattle.bm_base.specs.Shape.{stripes}
use Rattle.bm_base.proofs.ShapeLemmas.{load_bits}
use Rattle.bm_stripe.specs.declared.spot.Spot.{Spot}
use Rattle.bm_stripe.specs.Spot.{IsSpot, spot_of, address_of}

abbrev spot_with : ℕ → ℕ → ℕ → Spot
spot_with a b c = record { disk = a; place = b; offset = c }

-- a block has at most 2 ^ 30 records
pub block_records_fit : (s : Shape) → 2 ^ s.b ≤ 2 ^ 30
block_records_fit s = pow_mono {i = s.b} {j = 30} (omega (arith, s.keeps.block, load_bits s.m s.width s.keeps.record_some s.keeps.load))

-- an area has N records
pub area_records : (s : Shape) → 2 ^ s.n ≡ stripes s * 2 ^ s.d * 2 ^ s.b
area_records s =
    let exponent : (s.n - s.b - s.d) + s.d + s.b ≡ s.n = omega (arith, s.keeps.stripe, s.keeps.memory) in
    ap (λ x. 2 ^ x) (sym exponent) ∙ pow-add 2 ((s.n - s.b - s.d) + s.d) s.b ∙ ap (λ x. x * 2 ^ s.b) (pow-add 2 (s.n - s.b - s.d) s.d)

-- the parts of an address are in range
pub IsSpot-of : (s : Shape) (x : ℕ) → x < 2 ^ s.n → IsSpot s (spot_of s x)
IsSpot-of s x below = record {
  disk = mod_below (x / 2 ^ s.b) (2 ^ s.d) (pow_pos s.d);
  place = div_below (x / 2 ^ s.b) (2 ^ s.d) (stripes s) (pow_pos s.d)
      (div_below x (2 ^ s.b) (stripes s * 2 ^ s.d) (pow_pos s.b) (omega (arith, area_records s)));
  offset = mod_below x (2 ^ s.b) (pow_pos s.b);
}

-- the parts of an address give it back
pub address_of-spot_of : (s : Shape) (x : ℕ) → address_of s (spot_of s x) ≡ x
address_of-spot_of s x = ap (λ y. y * 2 ^ s.b + x % 2 ^ s.b) (div-add-mod' (x / 2 ^ s.b) (2 ^ s.d)) ∙ div-add-mod' x (2 ^ s.b)

-- the block of an address among those of its area
pub block_below : (s : Shape) (spot : Spot) → IsSpot s spot → spot.place * 2 ^ s.d + spot.disk < stripes s * 2 ^ s.d
block_below s spot is = omega (arith, mul-add-lt spot.place (2 ^ s.d) spot.disk (stripes s) is.place is.disk)

-- parts in range make an address below N
pub address_below : (s : Shape) (spot : Spot) → IsSpot s spot → address_of s spot < 2 ^ s.n
address_below s spot is =
    omega (
      arith,
      area_records s,
      mul-add-lt (spot.place * 2 ^ s.d + spot.disk) (2 ^ s.b) spot.offset (stripes s * 2 ^ s.d)
          (block_below s spot is) is.offset,
    )

-- an address and the block above it fit a word
pub address_fits : (s : Shape) (spot : Spot) → IsSpot s spot → address_of s spot < 2 ^ 64
address_fits s spot is = omega (arith, address_below s spot is, pow_mono {i = s.n} {j = 52} s.keeps.addresses)

pub block_fits : (s : Shape) (spot : Spot) → IsSpot s spot → spot.place * 2 ^ s.d + spot.disk < 2 ^ 64
block_fits s spot is =
    let more : spot.place * 2 ^ s.d + spot.disk ≤ (spot.place * 2 ^ s.d + spot.disk) * 2 ^ s.b =
    le-mul_of_pos_right {m = 2 ^ s.b} (spot.place * 2 ^ s.d + spot.disk) (pow_pos s.b) in
    omega (arith, address_fits s spot is)

-- the shifts of a join wrap nothing
pub joined : (s : Shape) (spot : Spot) → IsSpot s spot
    → (spot.place * 2 ^ s.d % 2 ^ 64 + spot.disk) * 2 ^ s.b % 2 ^ 64 + spot.offset ≡ address_of s spot
joined s spot is =
    let high : spot.place * 2 ^ s.d % 2 ^ 64 ≡ spot.place * 2 ^ s.d = omega (arith, block_fits s spot is) in
    rw high (omega (arith, address_fits s spot is))

same_spot : {a b c : ℕ} (spot : Spot) → a ≡ spot.disk → b ≡ spot.place → c ≡ spot.offset → spot_with a b c ≡ spot
same_spot {b = b} {c = c} spot p q r = ap (λ x. spot_with x b c) p ∙ ap (λ x. spot_with spot.disk x c) q
    ∙ ap (λ x. spot_with spot.disk spot.place x) r

-- an address gives back the parts that it was made of
pub spot_of-address_of : (s : Shape) (spot : Spot) → IsSpot s spot → spot_of s (address_of s spot) ≡ spot
spot_of-address_of s spot is =
    let block : address_of s spot / 2 ^ s.b ≡ spot.place * 2 ^ s.d + spot.disk =
    div-mul-add (spot.place * 2 ^ s.d + spot.disk) (2 ^ s.b) spot.offset is.offset in
    same_spot spot
    (ap (λ y. y % 2 ^ s.d) block ∙ mod-mul-add spot.place (2 ^ s.d) spot.disk is.disk)
    (ap (λ y. y / 2 ^ s.d) block ∙ div-mul-add spot.place (2 ^ s.d) spot.disk is.disk)
    (mod-mul-add (spot.place * 2 ^ s.d + spot.disk) (2 ^ s.b) spot.offset is.offset)
