-- One load, from what is read, mixed, placed and written.
use Rattle.std.proofs.Common.{◌≡◌, ℕ, ◌+◌, ◌-◌, ◌*◌, ◌/◌, ◌%◌, ◌^◌, ◌<◌, ◌≤◌, List, sym, ap, ◌∙◌, subst, arith}
use Rattle.std.specs.Fork.{slice_chunk}
use Rattle.std.proofs.lemmas.Nat.{pow_pos, pow-add}
use Rattle.std.proofs.Math.Nat.{mul_comm, mul-div_cancel, mul-le-mul_right}
use Rattle.bm_base.specs.declared.shape.Shape.{Shape}
use Rattle.bm_base.specs.declared.area.Area.{Area}
use Rattle.bm_base.specs.Contents.{Contents, RackUnit}
use Rattle.bm_base.specs.Records.{SameRecords, record_at, record_in}
use Rattle.bm_base.specs.Butterfly.{butterflies}
use Rattle.bm_base.proofs.ButterflyLemmas.{butterflies-block}
use Rattle.bm_gf2.specs.declared.spread.Spread.{Spread}
use Rattle.bm_gf2.specs.Spread.{spread_value}
use Rattle.bm_gf2.specs.Affine.{affine_image}
use Rattle.bm_forms.specs.declared.pass_form.PassForm.{PassForm}
use Rattle.bm_forms.specs.PassForm.{IsOfShape}
use Rattle.bm_forms.proofs.PassFormLemmas.{fits_of_shape, passed-image}
use Rattle.bm_forms.proofs.MldLemmas.{lands}
use Rattle.bm_bufs.specs.declared.placing.Placing.{Placing}
use Rattle.bm_bufs.specs.Places.{places_by}
use Rattle.bm_stripe.specs.Units.{record_unit, load_block, IsSpreadUnit}
use Rattle.bm_stripe.proofs.UnitLemmas.{record_unit-load}
use Rattle.bm_pass.specs.LoadPlaces.{IsOfLoad, HoldsLoad, placed_record}
use Rattle.bm_pass.specs.LoadMove.{LoadMoved, IsTargetUnit, target}
use Rattle.bm_pass.proofs.PlaceLemmas.{place_below, place_reached}

-- the addresses of a load are below N
pub load_room : (s : Shape) (load : ℕ) → load < 2 ^ (s.n - s.m) → 2 ^ s.m * load + 2 ^ s.m ≤ 2 ^ s.n
load_room s load below =
    let exponent : (s.n - s.m) + s.m ≡ s.n = omega (arith, s.keeps.memory) in
    let all : 2 ^ (s.n - s.m) * 2 ^ s.m ≡ 2 ^ s.n = sym (pow-add 2 (s.n - s.m) s.m) ∙ ap (λ x. 2 ^ x) exponent in
    let more : (load + 1) * 2 ^ s.m ≤ 2 ^ (s.n - s.m) * 2 ^ s.m = mul-le-mul_right (2 ^ s.m) (omega arith) in
    let turned : 2 ^ s.m * load ≡ load * 2 ^ s.m = mul_comm (2 ^ s.m) load in
    omega arith

-- the placing and the spread send each record of a load to its target
pub record SendsToTargets (s : Shape) (pass : PassForm) (load : ℕ) (placing : Placing) (spread : Spread) : Type 0 where
  pub lands : (i : ℕ) → i < 2 ^ s.m
      → target s pass load i
      ≡ 2 ^ s.m * spread_value spread (places_by placing.a placing.plus i / 2 ^ s.b) + places_by placing.a placing.plus i

-- as they do by the places and the loads of an MLD form
pub SendsToTargets-form : (s : Shape) (pass : PassForm) (load : ℕ) (placing : Placing) (spread : Spread) → IsOfShape s pass
    → ((i : ℕ) → i < 2 ^ pass.map.m
    → affine_image pass.map.map (2 ^ pass.map.m * load + i) % 2 ^ pass.map.m ≡ places_by placing.a placing.plus i)
    → ((i : ℕ) → i < 2 ^ pass.map.m → affine_image pass.map.map (2 ^ pass.map.m * load + i) / 2 ^ pass.map.m
    ≡ spread_value spread (affine_image pass.map.map (2 ^ pass.map.m * load + i) % 2 ^ pass.map.m / 2 ^ pass.map.b))
    → SendsToTargets s pass load placing spread
SendsToTargets-form s pass load placing spread of places loads =
    let m : pass.map.m ≡ s.m = of.memory in
    let b : pass.map.b ≡ s.b = of.block in
    let placed = rw m at places in
    let loaded = rw (m, b) at loads in
    record {
      lands = λ i below.
          let place = places_by placing.a placing.plus i in
          lands (target s pass load i) place (spread_value spread (place / 2 ^ s.b)) s.m (placed i below)
          (loaded i below ∙ ap (λ p. spread_value spread (p / 2 ^ s.b)) (placed i below));
    }

-- read, mixed and written by the spread
pub LoadMoved-written : (s : Shape) (pass : PassForm) (from to : Area) (load : ℕ) (placing : Placing) (spread : Spread) (old new : Contents)
    (filled mixed : List ℕ) → IsOfShape s pass → IsOfLoad s placing → load < 2 ^ (s.n - s.m)
    → SendsToTargets s pass load placing spread
    → HoldsLoad s placing from load old filled
    → SameRecords (2 ^ placing.a.n) (placed_record placing mixed) (butterflies pass.low (placed_record placing filled))
    → ((p : ℕ) → p < 2 ^ s.m → record_at new s to (2 ^ s.m * spread_value spread (p / 2 ^ s.b) + p) ≡ record_in s mixed p)
    → LoadMoved s pass from to load old new
LoadMoved-written s pass from to load placing spread old new filled mixed of of_load inside sends read mix written i below =
    let place = places_by placing.a placing.plus i in
    let in_load : place < 2 ^ s.m = subst (λ k. place < 2 ^ k) of_load.bits (place_below placing i of_load.plus) in
    let turned : 2 ^ s.m * load ≡ load * 2 ^ s.m = mul_comm (2 ^ s.m) load in
    let address : 2 ^ s.m * load + i < 2 ^ s.n = omega (arith, load_room s load inside) in
    ap (record_at new s to) (sends.lands i below)
    ∙ written place in_load
    ∙ ap (λ w. slice_chunk mixed w place) (sym of_load.width)
    ∙ mix i (subst (λ k. i < 2 ^ k) (sym of_load.bits) below)
    ∙ sym (butterflies-block pass.low s.m load (record_at old s from) (placed_record placing filled) of.low
    (λ t l. ap (λ c. record_at old s from (c + t)) (sym turned) ∙ sym (read t l)) i below)
    ∙ ap (λ c. butterflies pass.low (record_at old s from) (c + i)) (sym turned)
    ∙ sym (passed-image s.n pass (record_at old s from) (2 ^ s.m * load + i) (fits_of_shape s pass s.keeps.memory of) address)

-- a block of the spread holds a record of the load
pub IsTargetUnit-spread : (s : Shape) (pass : PassForm) (to : Area) (load : ℕ) (placing : Placing) (spread : Spread) (u : RackUnit)
    → IsOfLoad s placing → SendsToTargets s pass load placing spread → IsSpreadUnit s to spread u → IsTargetUnit s pass to load u
IsTargetUnit-spread s pass to load placing spread u of_load sends is =
    let t = is.0 in
    let exponent : (s.m - s.b) + s.b ≡ s.m = omega (arith, s.keeps.block) in
    let whole : 2 ^ (s.m - s.b) * 2 ^ s.b ≡ 2 ^ s.m = sym (pow-add 2 (s.m - s.b) s.b) ∙ ap (λ x. 2 ^ x) exponent in
    let inside : t < 2 ^ (s.m - s.b) = is.1 in
    let more : (t + 1) * 2 ^ s.b ≤ 2 ^ (s.m - s.b) * 2 ^ s.b = mul-le-mul_right (2 ^ s.b) (omega arith) in
    let some : 0 < 2 ^ s.b = pow_pos s.b in
    let first : t * 2 ^ s.b < 2 ^ s.m = omega arith in
    let at = place_reached s placing (t * 2 ^ s.b) of_load first in
    let place = places_by placing.a placing.plus at.0 in
    let block : place / 2 ^ s.b ≡ t = ap (λ x. x / 2 ^ s.b) at.2 ∙ mul-div_cancel t some in (
      at.0,
      at.1,
      is.2 ∙ ap (λ x. load_block s to (spread_value spread x) x) (sym block)
          ∙ sym (record_unit-load s to (spread_value spread (place / 2 ^ s.b)) place)
          ∙ ap (record_unit s to) (sym (sends.lands at.0 at.1)),
    )
