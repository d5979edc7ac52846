-- Which blocks hold which records.
use Rattle.std.proofs.Common.{◌≡◌, ◌≢◌, ℕ, ◌+◌, ◌-◌, ◌*◌, ◌/◌, ◌%◌, ◌^◌, ◌<◌, List, refl, sym, ◌∙◌, ap, arith}
use Rattle.std.proofs.Math.Pow.{pow_mono}
use Rattle.std.proofs.lemmas.Nat.{div_below, pow_pos, mul-add-lt, div-mul-add, mod-mul-add, div-add-mod', same_from_place, shr-shr}
use Rattle.std.proofs.lemmas.Nat.{field_of}
use Rattle.std.specs.Fork.{slice_chunk}
use Rattle.bm_base.specs.declared.shape.Shape.{Shape}
use Rattle.bm_base.specs.declared.area.Area.{Area}
use Rattle.bm_base.specs.declared.area.Area.TheVariants.{Input, One, Two}
use Rattle.bm_base.specs.Contents.{RackUnit, block_unit, page_unit}
use Rattle.bm_base.specs.Shape.{stripes, load_stripes}
use Rattle.bm_base.specs.Area.{area_start}
use Rattle.bm_base.specs.Records.{record_at}
use Rattle.bm_rack.specs.RackView.{RackView}
use Rattle.bm_rack.specs.Frames.{ChangesOnly}
use Rattle.bm_base.proofs.ShapeLemmas.{area_fits, load_in_area, load_split}
use Rattle.bm_gf2.specs.declared.spread.Spread.{Spread}
use Rattle.bm_gf2.specs.Spread.{spread_value}
use Rattle.bm_stripe.specs.Units.{record_unit, load_block, IsAreaUnit, IsLoadUnit, IsSpreadUnit}
use Rattle.bm_stripe.specs.Rows.{IsRowsUnit, following, spread_place}
use Rattle.bm_stripe.proofs.SpotLemmas.{IsSpot-of}
use Rattle.bm_stripe.proofs.BlockLemmas.{load_blocks, place_of_record}

same_unit : {a b c d : ℕ} → a ≡ c → b ≡ d → block_unit a b ≡ block_unit c d
same_unit p q = cc

-- the number of a block in its load fits a word
pub block_number_fits : (s : Shape) (row disk : ℕ) → row < load_stripes s → disk < 2 ^ s.d → row * 2 ^ s.d + disk < 2 ^ 52
block_number_fits s row disk in_rows in_disks =
    omega (
      arith,
      load_blocks s,
      mul-add-lt row (2 ^ s.d) disk (load_stripes s) in_rows in_disks,
      pow_mono {i = s.m - s.b} {j = 52}
          (omega (arith, s.keeps.addresses, s.keeps.memory)),
    )

-- the number of a block is below M/B
pub block_number_below : (s : Shape) (row disk : ℕ) → row < load_stripes s → disk < 2 ^ s.d → row * 2 ^ s.d + disk < 2 ^ (s.m - s.b)
block_number_below s row disk in_rows in_disks =
    omega (arith, load_blocks s, mul-add-lt row (2 ^ s.d) disk (load_stripes s) in_rows in_disks)

-- the block of a row on a disk, by its number in the load
row_block : (s : Shape) (area : Area) (load row disk : ℕ) → row < load_stripes s → disk < 2 ^ s.d
    → (row * 2 ^ s.d + disk < 2 ^ (s.m - s.b))
    × (block_unit disk (area_start s area + load * load_stripes s + row) ≡ load_block s area load (row * 2 ^ s.d + disk))
row_block s area load row disk in_rows in_disks = (
  omega (arith, load_blocks s, mul-add-lt row (2 ^ s.d) disk (load_stripes s) in_rows in_disks),
  same_unit (sym (mod-mul-add row (2 ^ s.d) disk in_disks))
      (ap (λ x. area_start s area + load * load_stripes s + x) (sym (div-mul-add row (2 ^ s.d) disk in_disks))),
)

-- the rows of a load are its blocks
pub IsLoadUnit-rows : (s : Shape) (area : Area) (load : ℕ) (u : RackUnit)
    → IsRowsUnit (2 ^ s.d) (following (area_start s area + load * load_stripes s)) (load_stripes s) u → IsLoadUnit s area load u
IsLoadUnit-rows s area load (block_unit disk place) is =
    let at = row_block s area load is.0 disk is.1 is.2 in
    (is.0 * 2 ^ s.d + disk, at.0, ap (λ x. block_unit disk x) is.3 ∙ at.1)
IsLoadUnit-rows s area load (page_unit page) is = absurd is

-- the rows of a spread are its blocks
pub IsSpreadUnit-rows : (s : Shape) (area : Area) (spread : Spread) (u : RackUnit)
    → IsRowsUnit (2 ^ s.d) (spread_place s area spread) (load_stripes s) u → IsSpreadUnit s area spread u
IsSpreadUnit-rows s area spread (block_unit disk place) is =
    let t = is.0 * 2 ^ s.d + disk in
    let at = row_block s area (spread_value spread t) is.0 disk is.1 is.2 in
    (t, at.0, ap (λ x. block_unit disk x) is.3 ∙ at.1)
IsSpreadUnit-rows s area spread (page_unit page) is = absurd is

-- a block of a load lies in its area
load_block-area : (s : Shape) (area : Area) (load t : ℕ) (u : RackUnit) → load < 2 ^ (s.n - s.m) → t < 2 ^ (s.m - s.b)
    → u ≡ load_block s area load t → IsAreaUnit s area u
load_block-area s area load t (block_unit disk place) in_area in_load is =
    let row : t / 2 ^ s.d < load_stripes s = div_below t (2 ^ s.d) (load_stripes s) (pow_pos s.d) (omega (arith, load_blocks s)) in
    let at : place ≡ area_start s area + load * load_stripes s + t / 2 ^ s.d = cc in
    (omega arith, omega (arith, load_in_area s load in_area))
load_block-area s area load t (page_unit page) in_area in_load is = absurd (cc)

pub IsLoadUnit-area : (s : Shape) (area : Area) (load : ℕ) (u : RackUnit) → load < 2 ^ (s.n - s.m) → IsLoadUnit s area load u
    → IsAreaUnit s area u
IsLoadUnit-area s area load u in_area is = load_block-area s area load is.0 u in_area is.1 is.2

pub IsSpreadUnit-area : (s : Shape) (area : Area) (spread : Spread) (u : RackUnit)
    → ((t : ℕ) → t < 2 ^ (s.m - s.b) → spread_value spread t < 2 ^ (s.n - s.m)) → IsSpreadUnit s area spread u → IsAreaUnit s area u
IsSpreadUnit-area s area spread u in_area is = load_block-area s area (spread_value spread is.0) is.0 u (in_area is.0 is.1) is.1 is.2

-- a record lies in its area
pub IsAreaUnit-record : (s : Shape) (area : Area) (x : ℕ) → x < 2 ^ s.n → IsAreaUnit s area (record_unit s area x)
IsAreaUnit-record s area x below = (omega arith, omega (arith, (IsSpot-of s x below).place))

-- a block lies in one area
pub IsAreaUnit-apart : (s : Shape) (a b : Area) (u : RackUnit) → IsAreaUnit s a u → IsAreaUnit s b u → a ≡ b
IsAreaUnit-apart s a b (page_unit page) in_a in_b = absurd in_a
IsAreaUnit-apart s Input Input (block_unit disk place) in_a in_b = refl
IsAreaUnit-apart s One One (block_unit disk place) in_a in_b = refl
IsAreaUnit-apart s Two Two (block_unit disk place) in_a in_b = refl
IsAreaUnit-apart s Input One (block_unit disk place) in_a in_b = absurd (omega (arith, in_a.1, in_b.0))
IsAreaUnit-apart s Input Two (block_unit disk place) in_a in_b = absurd (omega (arith, in_a.1, in_b.0))
IsAreaUnit-apart s One Input (block_unit disk place) in_a in_b = absurd (omega (arith, in_a.0, in_b.1))
IsAreaUnit-apart s One Two (block_unit disk place) in_a in_b = absurd (omega (arith, in_a.1, in_b.0))
IsAreaUnit-apart s Two Input (block_unit disk place) in_a in_b = absurd (omega (arith, in_a.0, in_b.1))
IsAreaUnit-apart s Two One (block_unit disk place) in_a in_b = absurd (omega (arith, in_a.0, in_b.1))

-- the records of a block of a load
pub record_unit-load : (s : Shape) (area : Area) (load i : ℕ)
    → record_unit s area (2 ^ s.m * load + i) ≡ load_block s area load (i / 2 ^ s.b)
record_unit-load s area load i =
    let at = place_of_record (2 ^ s.b) (2 ^ s.d) (load_stripes s) load i (pow_pos s.b) (pow_pos s.d) in
    rw (load_split s) (same_unit at.1 (omega (arith, at.2)))

-- the load and the block of a record
block_of_record : (s : Shape) (area : Area) (load t x : ℕ) → t < 2 ^ (s.m - s.b) → record_unit s area x ≡ load_block s area load t
    → (x / 2 ^ s.m ≡ load) × (x % 2 ^ s.m / 2 ^ s.b ≡ t)
block_of_record s area load t x below same =
    let disk : x / 2 ^ s.b % 2 ^ s.d ≡ t % 2 ^ s.d = cc in
    let place : area_start s area + x / 2 ^ s.b / 2 ^ s.d ≡ area_start s area + load * load_stripes s + t / 2 ^ s.d = cc in
    let row : x / 2 ^ s.b / 2 ^ s.d ≡ load * load_stripes s + t / 2 ^ s.d = omega arith in
    let whole : x / 2 ^ s.b ≡ load * 2 ^ (s.m - s.b) + t =
    sym (div-add-mod' (x / 2 ^ s.b) (2 ^ s.d))
    ∙ rw (row, disk) (omega (arith, ap (λ y. load * y) (load_blocks s), div-add-mod' t (2 ^ s.d))) in
    let exponent : s.b + (s.m - s.b) ≡ s.m = omega (arith, s.keeps.block) in
    let exponent_turned : (s.m - s.b) + s.b ≡ s.m = omega (arith, s.keeps.block) in (
      ap (λ y. x / 2 ^ y) (sym exponent) ∙ sym (shr-shr x s.b (s.m - s.b)) ∙ ap (λ y. y / 2 ^ (s.m - s.b)) whole
          ∙ div-mul-add load (2 ^ (s.m - s.b)) t below,
      ap (λ y. x % 2 ^ y / 2 ^ s.b) (sym exponent_turned) ∙ field_of x (s.m - s.b) s.b ∙ ap (λ y. y % 2 ^ (s.m - s.b)) whole
          ∙ mod-mul-add load (2 ^ (s.m - s.b)) t below,
    )

-- a record in a block of a load is one of this load
pub IsLoadUnit-record : (s : Shape) (area : Area) (load x : ℕ) → IsLoadUnit s area load (record_unit s area x) → x / 2 ^ s.m ≡ load
IsLoadUnit-record s area load x is = (block_of_record s area load is.0 x is.1 is.2).0

-- a record in a block of a spread is in the load that the spread gives for the record's block
pub IsSpreadUnit-record : (s : Shape) (area : Area) (spread : Spread) (x : ℕ) → IsSpreadUnit s area spread (record_unit s area x)
    → x / 2 ^ s.m ≡ spread_value spread (x % 2 ^ s.m / 2 ^ s.b)
IsSpreadUnit-record s area spread x is =
    let at = block_of_record s area (spread_value spread is.0) is.0 x is.1 is.2 in
    at.0 ∙ ap (spread_value spread) (sym at.1)

-- a record outside what changed
pub record_at-outside : (P : RackUnit → Type 0) (old new : RackView) (s : Shape) (area : Area) (x : ℕ) → ChangesOnly P old new
    → ¬ P (record_unit s area x) → record_at new.contents s area x ≡ record_at old.contents s area x
record_at-outside P old new s area x only outside =
    ap (λ (block : List ℕ). slice_chunk block s.width (x % 2 ^ s.b)) (only.contents (record_unit s area x) outside)

-- a record of another load than the one that changed
pub record_at-other_load : (old new : RackView) (s : Shape) (area : Area) (load x : ℕ) → ChangesOnly (IsLoadUnit s area load) old new
    → x / 2 ^ s.m ≢ load → record_at new.contents s area x ≡ record_at old.contents s area x
record_at-other_load old new s area load x only other =
    record_at-outside (IsLoadUnit s area load) old new s area x only (λ is. other (IsLoadUnit-record s area load x is))

-- a record of another area than the one that changed
pub record_at-other_area : (P : RackUnit → Type 0) (old new : RackView) (s : Shape) (changed area : Area) (x : ℕ) → ChangesOnly P old new
    → ((u : RackUnit) → P u → IsAreaUnit s changed u) → area ≢ changed → x < 2 ^ s.n
    → record_at new.contents s area x ≡ record_at old.contents s area x
record_at-other_area P old new s changed area x only inside other below =
    record_at-outside P old new s area x only
    (λ is. other (IsAreaUnit-apart s area changed (record_unit s area x) (IsAreaUnit-record s area x below)
    (inside (record_unit s area x) is)))

-- the rows of a spread stand in its area
pub spread_place-area : (s : Shape) (area : Area) (spread : Spread) (row disk : ℕ)
    → ((t : ℕ) → t < 2 ^ (s.m - s.b) → spread_value spread t < 2 ^ (s.n - s.m)) → row < load_stripes s → disk < 2 ^ s.d
    → spread_place s area spread row disk < 3 * stripes s
spread_place-area s area spread row disk in_area in_rows in_disks =
    let t = row * 2 ^ s.d + disk in
    omega (arith, load_in_area s (spread_value spread t) (in_area t (block_number_below s row disk in_rows in_disks)), area_fits s area)

-- two rows of a spread have no place in common on a disk: a place tells the row in its load
pub spread_place-apart : (s : Shape) (area : Area) (spread : Spread) (i row disk : ℕ) → i < row → row < load_stripes s
    → spread_place s area spread i disk ≢ spread_place s area spread row disk
spread_place-apart s area spread i row disk early in_rows same =
    let at = same_from_place (spread_value spread (i * 2 ^ s.d + disk)) i (spread_value spread (row * 2 ^ s.d + disk)) row
    (load_stripes s) (omega arith) in_rows (omega arith) in
    omega (arith, at.1)
