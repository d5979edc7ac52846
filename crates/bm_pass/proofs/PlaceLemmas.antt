-- The records of a load, row after row, and the place of each number.
use Rattle.std.proofs.Common.{◌≡◌, ℕ, inl, ⊎_elim, ◌+◌, ◌-◌, ◌*◌, ◌/◌, ◌%◌, ◌^◌, ◌<◌, ◌≤◌, List, length, bit_xor, sym, ap, ◌∙◌, subst}
use Rattle.std.proofs.Common.{arith}
use Rattle.std.specs.Fork.{slice_chunk}
use Rattle.std.proofs.lemmas.Bool.{cases_lt}
use Rattle.std.proofs.lemmas.Nat.{pow_pos, pow-add, xor_lt, shl_whole}
use Rattle.std.proofs.Math.Nat.{mod-lt, mul-le-mul_right, mul-div_cancel}
use Rattle.bm_base.proofs.CaseLemmas.{refill_all}
use Rattle.bm_base.specs.declared.shape.Shape.{Shape}
use Rattle.bm_base.specs.declared.area.Area.{Area}
use Rattle.bm_base.specs.Contents.{Contents}
use Rattle.bm_base.specs.Shape.{load_stripes}
use Rattle.bm_base.specs.Records.{record_at, record_in}
use Rattle.bm_gf2.specs.Matrix.{image}
use Rattle.bm_gf2.proofs.VectorLemmas.{xor_cancel}
use Rattle.bm_gf2.proofs.ShiftLemmas.{image_below}
use Rattle.bm_rank.proofs.DimensionLemmas.{nonsingular_reaches}
use Rattle.bm_forms.proofs.PermutationLemmas.{nonsingular_long, image-cut}
use Rattle.bm_bufs.specs.declared.placing.Placing.{Placing}
use Rattle.bm_bufs.specs.Bufs.{Lists, FitsShape, with_row, with_load}
use Rattle.bm_bufs.specs.Places.{places_by}
use Rattle.bm_bufs.specs.Placing.{row_records, HasPlaces, PlacesRow}
use Rattle.bm_pass.specs.LoadPlaces.{IsOfLoad, HoldsRowsOfLoad}

-- the row list after a read
pub row_read : (lists : Lists) (bytes : List ℕ) → length bytes ≡ length lists.row → (with_row lists bytes).row ≡ bytes
row_read lists bytes same = refill_all lists.row bytes same

-- the load list after the butterflies
pub load_mixed : (lists : Lists) (bytes : List ℕ) → length bytes ≡ length lists.load → (with_load lists bytes).load ≡ bytes
load_mixed lists bytes same = refill_all lists.load bytes same

-- buffers that fit still fit after a read
pub FitsShape-row_read : (s : Shape) (lists : Lists) (bytes : List ℕ) → length bytes ≡ length lists.row → FitsShape s lists
    → FitsShape s (with_row lists bytes)
FitsShape-row_read s lists bytes same fits = record { load = fits.load; row = ap length (row_read lists bytes same) ∙ same ∙ fits.row }

-- the rows of a load have all its records
pub rows_of_load : (s : Shape) → load_stripes s * 2 ^ (s.b + s.d) ≡ 2 ^ s.m
rows_of_load s =
    let exponent : (s.m - s.b - s.d) + (s.b + s.d) ≡ s.m = omega (arith, s.keeps.stripe) in
    sym (pow-add 2 (s.m - s.b - s.d) (s.b + s.d)) ∙ ap (λ x. 2 ^ x) exponent

-- the rows up to one of a load have no more
pub row_room : (s : Shape) (row : ℕ) → row < load_stripes s → row * 2 ^ (s.b + s.d) + 2 ^ (s.b + s.d) ≤ 2 ^ s.m
row_room s row below =
    let more : (row + 1) * 2 ^ (s.b + s.d) ≤ load_stripes s * 2 ^ (s.b + s.d) = mul-le-mul_right (2 ^ (s.b + s.d)) (omega arith) in
    omega (arith, rows_of_load s)

-- the records of the row list
pub records_of_row : (s : Shape) (p : Placing) (lists : Lists) → IsOfLoad s p → FitsShape s lists → row_records p lists ≡ 2 ^ (s.b + s.d)
records_of_row s p lists of fits =
    ap (λ k. length lists.row / k) of.width ∙ ap (λ k. k / s.width) fits.row
    ∙ mul-div_cancel (2 ^ (s.b + s.d)) (let e : 1 ≤ s.width = s.keeps.record_some in omega arith)

-- the number of a row's first record fits a word
pub first_of_row : (s : Shape) (row bits : ℕ) → row < load_stripes s → bits ≡ s.b + s.d → row * 2 ^ bits % 2 ^ 64 ≡ row * 2 ^ (s.b + s.d)
first_of_row s row bits below same =
    rw same (shl_whole row (s.m - s.b - s.d) (s.b + s.d) 64 below (omega (arith, s.keeps.addresses, s.keeps.memory, s.keeps.stripe)))

-- a record of a row is one of the load
pub record_of_row : (s : Shape) (load row r : ℕ)
    → 2 ^ (s.b + s.d) * (load * load_stripes s + row) + r ≡ 2 ^ s.m * load + (row * 2 ^ (s.b + s.d) + r)
record_of_row s load row r =
    let rows = rows_of_load s in
    rw (sym rows) (omega arith)

-- a place is one of the load
pub place_below : (p : Placing) (x : ℕ) → p.plus < 2 ^ p.a.n → places_by p.a p.plus x < 2 ^ p.a.n
place_below p x short = xor_lt p.a.n p.plus (image p.a x) short (image_below p.a x)

-- each place is that of a number
pub place_reached : (s : Shape) (p : Placing) (q : ℕ) → IsOfLoad s p → q < 2 ^ s.m
    → (i : ℕ) × (i < 2 ^ s.m) × (places_by p.a p.plus i ≡ q)
place_reached s p q of below =
    let long : q < 2 ^ p.a.n = subst (λ k. q < 2 ^ k) (sym of.bits) below in
    let at = nonsingular_reaches p.a of.nonsingular (nonsingular_long p.a of.nonsingular) (bit_xor p.plus q)
    (xor_lt p.a.n p.plus q of.plus long) in (
      at.0 % 2 ^ p.a.n,
      subst (λ k. at.0 % 2 ^ p.a.n < 2 ^ k) of.bits (mod-lt at.0 (pow_pos p.a.n)),
      ap (bit_xor p.plus) (image-cut p.a at.0 ∙ at.1) ∙ xor_cancel p.plus q,
    )

-- the row has places
pub HasPlaces-row : (s : Shape) (p : Placing) (row first : ℕ) (lists : Lists) → IsOfLoad s p → FitsShape s lists → row < load_stripes s
    → first ≡ row * 2 ^ (s.b + s.d) → HasPlaces p first lists
HasPlaces-row s p row first lists of fits below here = record {
  nonsingular = of.nonsingular;
  plus = of.plus;
  load = fits.load ∙ ap (λ k. 2 ^ k * s.width) (sym of.bits) ∙ ap (λ k. 2 ^ p.a.n * k) (sym of.width);
  numbers = rw (records_of_row s p lists of fits, of.bits, here) (row_room s row below);
}

-- one row more
pub HoldsRowsOfLoad-row : (s : Shape) (p : Placing) (from : Area) (load row first : ℕ) (contents : Contents) (old new : Lists)
    → IsOfLoad s p → FitsShape s old → row < load_stripes s → first ≡ row * 2 ^ (s.b + s.d)
    → HoldsRowsOfLoad s p from load contents row old.load
    → ((r : ℕ) → r < 2 ^ (s.b + s.d)
    → record_in s old.row r ≡ record_at contents s from (2 ^ (s.b + s.d) * (load * load_stripes s + row) + r))
    → PlacesRow p first old new
    → HoldsRowsOfLoad s p from load contents (row + 1) new.load
HoldsRowsOfLoad-row s p from load row first contents old new of fits below here before read placed i inside =
    let size = 2 ^ (s.b + s.d) in
    let records : row_records p old ≡ size = records_of_row s p old of fits in
    let place = places_by p.a p.plus in
    let room : row * size + size ≤ 2 ^ s.m = row_room s row below in
    let end : (row + 1) * size ≡ row * size + size = omega arith in
    ⊎_elim
    (λ (early : i < first).
    let one_of : i < 2 ^ p.a.n = rw of.bits (omega arith) in
    placed.load.others i one_of (inl early)
    ∙ before i (omega arith))
    (λ (late : first ≤ i).
    let r = i - first in
    let back : first + r ≡ i = omega arith in
    let in_row : r < size = omega arith in
    ap (λ x. slice_chunk new.load p.width (place x)) (sym back)
    ∙ placed.load.placed r (subst (λ k. r < k) (sym records) in_row)
    ∙ ap (λ w. slice_chunk old.row w r) of.width
    ∙ read r in_row
    ∙ ap (record_at contents s from) (record_of_row s load row r ∙ ap (λ x. 2 ^ s.m * load + x) (ap (λ x. x + r) (sym here) ∙ back)))
    (cases_lt i first)
