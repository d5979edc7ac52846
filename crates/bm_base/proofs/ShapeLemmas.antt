-- What the rules of a shape bound.
use Rattle.std.proofs.Common.{◌≡◌, ℕ, ◌+◌, ◌-◌, ◌*◌, ◌^◌, ◌<◌, ◌≤◌, inl, inr, sym, ◌∙◌, ap, arith}
use Rattle.std.proofs.lemmas.Nat.{pow-add}
use Rattle.std.proofs.Math.Pow.{pow_mono}
use Rattle.std.proofs.Math.Nat.{le-mul_of_pos_right, mul-le-mul_left, mul-le-mul_right}
use Rattle.std.proofs.lemmas.Bool.{cases_lt}
use Rattle.bm_base.specs.declared.shape.Shape.{Shape}
use Rattle.bm_base.specs.declared.area.Area.{Area}
use Rattle.bm_base.specs.declared.area.Area.TheVariants.{Input, One, Two}
use Rattle.bm_base.specs.Shape.{stripes, load_stripes}
use Rattle.bm_base.specs.Area.{area_start}

-- a load of 2 ^ 30 bytes has at most 2 ^ 30 records
pub load_bits : (m width : ℕ) → 1 ≤ width → 2 ^ m * width ≤ 2 ^ 30 → m ≤ 30
load_bits m width some fits = elim (cases_lt 30 m) [
  | inl above ↦
      let big : 2 ^ 31 ≤ 2 ^ m = pow_mono {i = 31} {j = m} (omega arith) in
      let more : 2 ^ m ≤ 2 ^ m * width = le-mul_of_pos_right {m = width} (2 ^ m) (omega arith) in
      absurd (omega arith)
  | inr within ↦ within
]

-- a block is no longer than a load
pub block_fits : (b m width : ℕ) → b < m → 2 ^ m * width ≤ 2 ^ 30 → 2 ^ b * width ≤ 2 ^ 30
block_fits b m width below fits =
    let less : 2 ^ b * width ≤ 2 ^ m * width = mul-le-mul_right width (pow_mono {i = b} {j = m} (omega arith)) in
    omega arith

-- the rows of a load lie among those of an area
pub load_in_area : (s : Shape) (load : ℕ) → load < 2 ^ (s.n - s.m) → load * load_stripes s + load_stripes s ≤ stripes s
load_in_area s load below =
    let rows = 2 ^ (s.m - s.b - s.d) in
    let exponent : (s.n - s.m) + (s.m - s.b - s.d) ≡ s.n - s.b - s.d = omega (arith, s.keeps.stripe, s.keeps.memory) in
    let split : 2 ^ (s.n - s.b - s.d) ≡ 2 ^ (s.n - s.m) * rows = ap (λ x. 2 ^ x) (sym exponent) ∙ pow-add 2 (s.n - s.m) (s.m - s.b - s.d) in
    let more : (load + 1) * rows ≤ 2 ^ (s.n - s.m) * rows = mul-le-mul_right rows (omega arith) in
    omega arith

-- the loads of an area hold its rows
pub loads_rows : (s : Shape) → 2 ^ (s.n - s.m) * load_stripes s ≡ stripes s
loads_rows s =
    let exponent : (s.n - s.m) + (s.m - s.b - s.d) ≡ s.n - s.b - s.d = omega (arith, s.keeps.stripe, s.keeps.memory) in
    sym (pow-add 2 (s.n - s.m) (s.m - s.b - s.d)) ∙ ap (λ (x : ℕ). 2 ^ x) exponent

-- and its records
pub loads_records : (s : Shape) → 2 ^ s.m * 2 ^ (s.n - s.m) ≡ 2 ^ s.n
loads_records s =
    let exponent : s.m + (s.n - s.m) ≡ s.n = omega (arith, s.keeps.memory) in
    sym (pow-add 2 s.m (s.n - s.m)) ∙ ap (λ (x : ℕ). 2 ^ x) exponent

-- the records of a load lie among those of an area
pub load_records : (s : Shape) (load : ℕ) → load < 2 ^ (s.n - s.m) → 2 ^ s.m * (load + 1) ≤ 2 ^ s.n
load_records s load below =
    let most : 2 ^ s.m * (load + 1) ≤ 2 ^ s.m * 2 ^ (s.n - s.m) = mul-le-mul_left (2 ^ s.m) (omega arith) in
    omega (arith, loads_records s)

pub stripes_fit : (s : Shape) → stripes s ≤ 2 ^ 52
stripes_fit s = pow_mono {i = s.n - s.b - s.d} {j = 52} (omega (arith, s.keeps.addresses))

pub disks_fit : (s : Shape) → 2 ^ s.d ≤ 64
disks_fit s = pow_mono {i = s.d} {j = 6} s.keeps.disks

-- a load is so many rows of one block a disk
pub load_split : (s : Shape) → 2 ^ s.m ≡ load_stripes s * (2 ^ s.d * 2 ^ s.b)
load_split s =
    let exponent : (s.m - s.b - s.d) + (s.d + s.b) ≡ s.m = omega (arith, s.keeps.stripe) in
    ap (λ x. 2 ^ x) (sym exponent) ∙ pow-add 2 (s.m - s.b - s.d) (s.d + s.b) ∙ ap (λ x. 2 ^ (s.m - s.b - s.d) * x) (pow-add 2 s.d s.b)

-- an area begins at most two thirds up a disk
pub area_fits : (s : Shape) (area : Area) → area_start s area ≤ 2 * stripes s
area_fits s Input = omega arith
area_fits s One = omega arith
area_fits s Two = omega arith
