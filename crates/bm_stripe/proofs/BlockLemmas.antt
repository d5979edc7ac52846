-- The blocks of a load and their records, in a buffer and on the disks.
use Rattle.std.proofs.Common.{◌≡◌, ℕ, ◌+◌, ◌-◌, ◌*◌, ◌/◌, ◌%◌, ◌^◌, ◌<◌, ◌≤◌, List, take, drop, sym, ◌∙◌, ap, arith}
use Rattle.std.proofs.Math.Nat.{mul-le-mul_right, mul-add-mod_self_right, mul-add-div_right}
use Rattle.std.proofs.lemmas.Nat.{div_below, mod_below, pow-add, pow_pos, div-add-mod'}
use Rattle.std.specs.Fork.{slice_chunk}
use Rattle.bm_base.specs.declared.shape.Shape.{Shape}
use Rattle.bm_base.specs.declared.area.Area.{Area}
use Rattle.bm_base.specs.declared.dims.Dims.{Dims}
use Rattle.bm_base.specs.Contents.{Contents, block_at}
use Rattle.bm_base.specs.Shape.{load_stripes, dims_of}
use Rattle.bm_base.specs.Area.{area_start}
use Rattle.bm_base.specs.Records.{record_at, record_in}
use Rattle.bm_base.proofs.ShapeLemmas.{load_split}
use Rattle.bm_base.proofs.ChunkLemmas.{chunk_of_part}
use Rattle.bm_gf2.specs.declared.spread.Spread.{Spread}
use Rattle.bm_gf2.specs.Spread.{spread_value}
use Rattle.bm_stripe.specs.Rows.{HoldsRows, following, spread_place}

-- a load has M/B blocks, D in each of its rows
pub load_blocks : (s : Shape) → 2 ^ (s.m - s.b) ≡ load_stripes s * 2 ^ s.d
load_blocks s =
    let exponent : (s.m - s.b - s.d) + s.d ≡ s.m - s.b = omega (arith, s.keeps.stripe) in
    ap (λ x. 2 ^ x) (sym exponent) ∙ pow-add 2 (s.m - s.b - s.d) s.d

-- the bytes of a load are those of its rows
pub load_bytes : (s : Shape) → 2 ^ s.m * s.width ≡ load_stripes s * (2 ^ s.d * (2 ^ s.b * s.width))
load_bytes s = ap (λ x. x * s.width) (load_split s) ∙ omega arith

-- the bytes of a stripe are those of one row
pub stripe_bytes : (s : Shape) → 2 ^ (s.b + s.d) * s.width ≡ 1 * (2 ^ s.d * (2 ^ s.b * s.width))
stripe_bytes s = ap (λ x. x * s.width) (pow-add 2 s.b s.d) ∙ omega arith

-- where record i of a part of R * D blocks stands: the parts before it fill whole rows
pub place_of_record : (B D R part i : ℕ) → 0 < B → 0 < D →
    ((R * (D * B) * part + i) % B ≡ i % B) × ((R * (D * B) * part + i) / B % D ≡ i / B % D)
    × ((R * (D * B) * part + i) / B / D ≡ R * part + i / B / D)
place_of_record B D R part i some_b some_d =
    let whole : R * (D * B) * part + i ≡ (R * D * part) * B + i = omega arith in
    let block : (R * (D * B) * part + i) / B ≡ (R * part) * D + i / B = ap (λ x. x / B) whole
    ∙ mul-add-div_right {m = B} some_b (R * D * part) i ∙ omega arith in (
      ap (λ x. x % B) whole ∙ mul-add-mod_self_right (R * D * part) B i,
      ap (λ x. x % D) block ∙ mul-add-mod_self_right (R * part) D (i / B),
      ap (λ x. x / D) block ∙ mul-add-div_right {m = D} some_d (R * part) (i / B),
    )

-- a record of a block
pub chunk_of_chunk : (B w i : ℕ) (bytes : List ℕ) → 0 < B
    → slice_chunk (slice_chunk bytes (B * w) (i / B)) w (i % B) ≡ slice_chunk bytes w i
chunk_of_chunk B w i bytes some =
    let low : i % B < B = mod_below i B some in
    let inside : (i % B + 1) * w ≤ B * w = mul-le-mul_right w (omega arith) in
    let split : i / B * B + i % B ≡ i = div-add-mod' i B in
    let place : i / B * (B * w) + i % B * w ≡ i * w = omega (arith, ap (λ x. x * w) split) in
    chunk_of_part w (i % B * w) (B * w) (i / B * (B * w)) bytes (omega arith)
    ∙ ap (λ x. take w (drop x bytes)) place

-- a block of rows that the bytes hold
pub held_block : (dims : Dims) (contents : Contents) (place : ℕ → ℕ → ℕ) (rows : ℕ) (bytes : List ℕ)
    → HoldsRows dims contents place rows bytes
    → (q : ℕ) → 0 < dims.disks → q < rows * dims.disks
    → slice_chunk bytes dims.block q ≡ block_at contents (q % dims.disks) (place (q / dims.disks) (q % dims.disks))
held_block dims contents place rows bytes holds q some inside =
    let split : q / dims.disks * dims.disks + q % dims.disks ≡ q = div-add-mod' q dims.disks in
    ap (λ x. slice_chunk bytes dims.block x) (sym split)
    ∙ holds (q / dims.disks) (q % dims.disks) (div_below q dims.disks rows some inside) (mod_below q dims.disks some)

-- the records of a part of an area, from the blocks of its rows
pub record_of_rows : (s : Shape) (area : Area) (R part : ℕ) (contents : Contents) (place : ℕ → ℕ → ℕ) (bytes : List ℕ)
    → HoldsRows (dims_of s) contents place R bytes
    → (i : ℕ) → i < R * (2 ^ s.d * 2 ^ s.b)
    → place (i / 2 ^ s.b / 2 ^ s.d) (i / 2 ^ s.b % 2 ^ s.d) ≡ area_start s area + R * part + i / 2 ^ s.b / 2 ^ s.d
    → record_in s bytes i ≡ record_at contents s area (R * (2 ^ s.d * 2 ^ s.b) * part + i)
record_of_rows s area R part contents place bytes holds i below stands =
    let where_it_is = place_of_record (2 ^ s.b) (2 ^ s.d) R part i (pow_pos s.b) (pow_pos s.d) in
    let x = R * (2 ^ s.d * 2 ^ s.b) * part + i in
    let q_in : i / 2 ^ s.b < R * 2 ^ s.d = div_below i (2 ^ s.b) (R * 2 ^ s.d) (pow_pos s.b) (omega arith) in
    let at : place (i / 2 ^ s.b / 2 ^ s.d) (i / 2 ^ s.b % 2 ^ s.d) ≡ area_start s area + x / 2 ^ s.b / 2 ^ s.d = stands
    ∙ omega (arith, where_it_is.2) in
    sym (chunk_of_chunk (2 ^ s.b) s.width i bytes (pow_pos s.b))
    ∙ ap (λ (xs : List ℕ). slice_chunk xs s.width (i % 2 ^ s.b))
    (held_block (dims_of s) contents place R bytes holds (i / 2 ^ s.b) (pow_pos s.d) q_in)
    ∙ ap (λ y. slice_chunk (block_at contents (i / 2 ^ s.b % 2 ^ s.d) y) s.width (i % 2 ^ s.b)) at
    ∙ ap (λ y. slice_chunk (block_at contents y (area_start s area + x / 2 ^ s.b / 2 ^ s.d)) s.width (i % 2 ^ s.b)) (sym where_it_is.1)
    ∙ ap (λ y. slice_chunk (block_at contents (x / 2 ^ s.b % 2 ^ s.d) (area_start s area + x / 2 ^ s.b / 2 ^ s.d)) s.width y)
    (sym where_it_is.0)

-- the records of a load
pub record_of_load : (s : Shape) (area : Area) (load : ℕ) (contents : Contents) (bytes : List ℕ)
    → HoldsRows (dims_of s) contents (following (area_start s area + load * load_stripes s)) (load_stripes s) bytes
    → (i : ℕ) → i < 2 ^ s.m → record_in s bytes i ≡ record_at contents s area (2 ^ s.m * load + i)
record_of_load s area load contents bytes holds i below =
    let split = load_split s in
    rw split (record_of_rows s area (load_stripes s) load contents (following (area_start s area + load * load_stripes s)) bytes holds i
    (omega arith) (omega arith))

-- the records of a stripe
pub record_of_stripe : (s : Shape) (area : Area) (stripe : ℕ) (contents : Contents) (bytes : List ℕ)
    → HoldsRows (dims_of s) contents (following (area_start s area + stripe)) 1 bytes
    → (i : ℕ) → i < 2 ^ (s.b + s.d) → record_in s bytes i ≡ record_at contents s area (2 ^ (s.b + s.d) * stripe + i)
record_of_stripe s area stripe contents bytes holds i below =
    let split : 2 ^ (s.b + s.d) ≡ 1 * (2 ^ s.d * 2 ^ s.b) = pow-add 2 s.b s.d ∙ omega arith in
    rw split (record_of_rows s area 1 stripe contents (following (area_start s area + stripe)) bytes holds i (omega arith) (omega arith))

-- the records of a spread
pub record_of_spread : (s : Shape) (area : Area) (spread : Spread) (contents : Contents) (bytes : List ℕ)
    → HoldsRows (dims_of s) contents (spread_place s area spread) (load_stripes s) bytes
    → (i : ℕ) → i < 2 ^ s.m → record_in s bytes i ≡ record_at contents s area (2 ^ s.m * spread_value spread (i / 2 ^ s.b) + i)
record_of_spread s area spread contents bytes holds i below =
    let split = load_split s in
    let block = i / 2 ^ s.b in
    let same : block / 2 ^ s.d * 2 ^ s.d + block % 2 ^ s.d ≡ block = div-add-mod' block (2 ^ s.d) in
    let load :
    spread_value spread (block / 2 ^ s.d * 2 ^ s.d + block % 2 ^ s.d) * load_stripes s ≡ load_stripes s * spread_value spread block =
    ap (λ x. spread_value spread x * load_stripes s) same ∙ omega arith in
    rw split (record_of_rows s area (load_stripes s) (spread_value spread block) contents (spread_place s area spread) bytes holds i
    (omega arith) (omega arith))
