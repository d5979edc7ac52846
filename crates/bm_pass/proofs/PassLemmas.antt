-- Load after load.
use Rattle.std.proofs.Common.{◌≡◌, ◌≢◌, ℕ, ⊎_elim, ◌+◌, ◌-◌, ◌*◌, ◌/◌, ◌%◌, ◌^◌, ◌<◌, ◌≤◌, sym, ap, ◌∙◌, subst, arith}
use Rattle.std.proofs.lemmas.Bool.{cases_lt}
use Rattle.std.proofs.lemmas.Nat.{pow-add, shr_split, div-mul-add}
use Rattle.std.proofs.Math.Nat.{mul_comm, mul-le-mul_right}
use Rattle.bm_base.proofs.CaseLemmas.{plus_same}
use Rattle.bm_base.specs.declared.shape.Shape.{Shape}
use Rattle.bm_base.specs.declared.area.Area.{Area}
use Rattle.bm_base.specs.Contents.{Contents, RackUnit}
use Rattle.bm_base.specs.Shape.{stripes, load_stripes}
use Rattle.bm_base.specs.Area.{area_start}
use Rattle.bm_base.specs.Records.{SameRecords, record_at}
use Rattle.bm_gf2.specs.Affine.{affine_image}
use Rattle.bm_forms.specs.declared.pass_form.PassForm.{PassForm}
use Rattle.bm_forms.specs.Permutation.{source}
use Rattle.bm_forms.specs.PassForm.{passed, IsOfShape}
use Rattle.bm_forms.proofs.PassFormLemmas.{fits_of_shape, passed-same}
use Rattle.bm_forms.proofs.PermutationLemmas.{affine-lt, source-lt, image-source}
use Rattle.bm_forms.proofs.BlockLemmas.{blocks_apart}
use Rattle.bm_rack.specs.RackView.{RackView}
use Rattle.bm_rack.specs.Frames.{ChangesOnly}
use Rattle.bm_stripe.specs.Units.{record_unit, IsAreaUnit}
use Rattle.bm_stripe.proofs.UnitLemmas.{IsAreaUnit-record, record_at-outside, record_at-other_area}
use Rattle.bm_pass.specs.LoadMove.{LoadMoved, LoadsMoved, IsTargetUnit, target}
use Rattle.bm_pass.proofs.LoadLemmas.{load_room}

-- an image is an address of the shape
pub image_below_records : (s : Shape) (pass : PassForm) (x : ℕ) → IsOfShape s pass → affine_image pass.map.map x < 2 ^ s.n
image_below_records s pass x of = subst (λ k. affine_image pass.map.map x < 2 ^ k) of.addresses (affine-lt pass.map.map x)

-- the target of a record lies in the area
pub IsTargetUnit-area : (s : Shape) (pass : PassForm) (to : Area) (load : ℕ) (u : RackUnit) → IsOfShape s pass
    → IsTargetUnit s pass to load u → IsAreaUnit s to u
IsTargetUnit-area s pass to load u of is =
    subst (IsAreaUnit s to) (sym is.2)
    (IsAreaUnit-record s to (target s pass load is.0) (image_below_records s pass (2 ^ s.m * load + is.0) of))

-- records in one block of an area have addresses in one block
same_block : (s : Shape) (area : Area) (x y : ℕ) → record_unit s area x ≡ record_unit s area y → x / 2 ^ s.b ≡ y / 2 ^ s.b
same_block s area x y same =
    let disk : x / 2 ^ s.b % 2 ^ s.d ≡ y / 2 ^ s.b % 2 ^ s.d = cc in
    let place : area_start s area + x / 2 ^ s.b / 2 ^ s.d ≡ area_start s area + y / 2 ^ s.b / 2 ^ s.d = cc in
    let stripe : x / 2 ^ s.b / 2 ^ s.d ≡ y / 2 ^ s.b / 2 ^ s.d = omega arith in
    sym (shr_split (x / 2 ^ s.b) s.d) ∙ plus_same (ap (λ c. c * 2 ^ s.d) stripe) disk ∙ shr_split (y / 2 ^ s.b) s.d

-- the target of a record of another load has none of this load's
pub targets_apart : (s : Shape) (pass : PassForm) (to : Area) (load x : ℕ) → IsOfShape s pass → load < 2 ^ (s.n - s.m) → x < 2 ^ s.m * load
    → ¬ IsTargetUnit s pass to load (record_unit s to (affine_image pass.map.map x))
targets_apart s pass to load x of inside early is =
    let y = 2 ^ s.m * load + is.0 in
    let in_load : is.0 < 2 ^ s.m = is.1 in
    let room : 2 ^ s.m * load + 2 ^ s.m ≤ 2 ^ s.n = load_room s load inside in
    let turned : 2 ^ s.m * load ≡ load * 2 ^ s.m = mul_comm (2 ^ s.m) load in
    let x_below : x < 2 ^ s.n = omega arith in
    let y_below : y < 2 ^ s.n = omega arith in
    let block : affine_image pass.map.map x / 2 ^ s.b ≡ affine_image pass.map.map y / 2 ^ s.b =
    same_block s to (affine_image pass.map.map x) (affine_image pass.map.map y) is.2 in
    let one_load : x / 2 ^ pass.map.m ≡ y / 2 ^ pass.map.m = blocks_apart pass.map x y
    (subst (λ k. x < 2 ^ k) (sym of.addresses) x_below) (subst (λ k. y < 2 ^ k) (sym of.addresses) y_below)
    (subst (λ k. affine_image pass.map.map x / 2 ^ k ≡ affine_image pass.map.map y / 2 ^ k) (sym of.block) block) in
    let same : x / 2 ^ s.m ≡ y / 2 ^ s.m = subst (λ k. x / 2 ^ k ≡ y / 2 ^ k) of.memory one_load in
    let here : y / 2 ^ s.m ≡ load = ap (λ c. (c + is.0) / 2 ^ s.m) turned ∙ div-mul-add load (2 ^ s.m) is.0 in_load in
    let split : x / 2 ^ s.m * 2 ^ s.m + x % 2 ^ s.m ≡ x = shr_split x s.m in
    let first : x / 2 ^ s.m * 2 ^ s.m ≡ load * 2 ^ s.m = ap (λ c. c * 2 ^ s.m) (same ∙ here) in
    omega arith

-- no load is moved yet
pub LoadsMoved-none : (s : Shape) (pass : PassForm) (from to : Area) (old new : Contents) → LoadsMoved s pass from to 0 old new
LoadsMoved-none s pass from to old new x below = absurd (let none : 2 ^ s.m * 0 ≡ 0 = omega arith in omega arith)

-- what a pass writes is apart from what it reads
pub source_stays : (s : Shape) (from to : Area) (old new : RackView) → from ≢ to → ChangesOnly (IsAreaUnit s to) old new
    → SameRecords (2 ^ s.n) (record_at new.contents s from) (record_at old.contents s from)
source_stays s from to old new apart only z below =
    record_at-other_area (IsAreaUnit s to) old new s to from z only (λ u in_area. in_area) apart below

-- the records of the area that is read decide
pub LoadsMoved-same : (s : Shape) (pass : PassForm) (from to : Area) (loads : ℕ) (old other new : Contents) → IsOfShape s pass
    → SameRecords (2 ^ s.n) (record_at old s from) (record_at other s from)
    → LoadsMoved s pass from to loads old new → LoadsMoved s pass from to loads other new
LoadsMoved-same s pass from to loads old other new of same moved x below =
    moved x below
    ∙ passed-same s.n pass (record_at old s from) (record_at other s from) (fits_of_shape s pass s.keeps.memory of) same
    (affine_image pass.map.map x) (image_below_records s pass x of)

-- one load more: what it writes is apart from what those before wrote
pub LoadsMoved-more : (s : Shape) (pass : PassForm) (from to : Area) (load : ℕ) (old : Contents) (mid new : RackView) → IsOfShape s pass
    → load < 2 ^ (s.n - s.m) → SameRecords (2 ^ s.n) (record_at mid.contents s from) (record_at old s from)
    → ChangesOnly (IsTargetUnit s pass to load) mid new
    → LoadsMoved s pass from to load old mid.contents → LoadMoved s pass from to load mid.contents new.contents
    → LoadsMoved s pass from to (load + 1) old new.contents
LoadsMoved-more s pass from to load old mid new of inside source_same now moved one x below =
    let more : 2 ^ s.m * (load + 1) ≡ 2 ^ s.m * load + 2 ^ s.m = omega arith in
    ⊎_elim
    (λ (early : x < 2 ^ s.m * load).
    record_at-outside (IsTargetUnit s pass to load) mid new s to (affine_image pass.map.map x) now
    (targets_apart s pass to load x of inside early)
    ∙ moved x early)
    (λ (late : 2 ^ s.m * load ≤ x).
    let i = x - 2 ^ s.m * load in
    let back : 2 ^ s.m * load + i ≡ x = omega arith in
    let in_load : i < 2 ^ s.m = omega arith in
    let f = pass.map.map in
    subst (λ c. record_at new.contents s to (affine_image f c) ≡ passed pass (record_at old s from) (affine_image f c)) back
    (one i in_load
    ∙ passed-same s.n pass (record_at mid.contents s from) (record_at old s from)
    (fits_of_shape s pass s.keeps.memory of) source_same (target s pass load i) (image_below_records s pass (2 ^ s.m * load + i) of)))
    (cases_lt x (2 ^ s.m * load))

-- all loads are the pass
pub LoadsMoved-all : (s : Shape) (pass : PassForm) (from to : Area) (loads : ℕ) (old new : Contents) → IsOfShape s pass
    → loads ≡ 2 ^ (s.n - s.m) → LoadsMoved s pass from to loads old new
    → SameRecords (2 ^ s.n) (record_at new s to) (passed pass (record_at old s from))
LoadsMoved-all s pass from to loads old new of all moved y below =
    let exponent : s.m + (s.n - s.m) ≡ s.n = omega (arith, s.keeps.memory) in
    let records : 2 ^ s.m * loads ≡ 2 ^ s.n = ap (λ k. 2 ^ s.m * k) all ∙ sym (pow-add 2 s.m (s.n - s.m)) ∙ ap (λ k. 2 ^ k) exponent in
    let f = pass.map.map in
    let found : affine_image f (source f y) ≡ y = image-source f y pass.map.nonsingular (subst (λ k. y < 2 ^ k) (sym of.addresses) below) in
    let from_below : source f y < 2 ^ s.m * loads =
    subst (λ k. source f y < k) (sym records) (subst (λ k. source f y < 2 ^ k) of.addresses (source-lt f y)) in
    subst (λ c. record_at new s to c ≡ passed pass (record_at old s from) c) found (moved (source f y) from_below)

-- the row calls of all loads are the pass's
pub rows_of_pass : (s : Shape) → 2 ^ (s.n - s.m) * (2 * load_stripes s) ≡ 2 * stripes s
rows_of_pass s =
    let exponent : (s.n - s.m) + (s.m - s.b - s.d) ≡ s.n - s.b - s.d = omega (arith, s.keeps.stripe, s.keeps.memory) in
    let all : 2 ^ (s.n - s.m) * load_stripes s ≡ stripes s = sym (pow-add 2 (s.n - s.m) (s.m - s.b - s.d)) ∙ ap (λ k. 2 ^ k) exponent in
    omega arith

-- the row calls of a load are some of the pass's
pub rows_within : (s : Shape) (load : ℕ) → load < 2 ^ (s.n - s.m) → load * (2 * load_stripes s) + 2 * load_stripes s ≤ 2 * stripes s
rows_within s load below =
    let rows = 2 * load_stripes s in
    let more : (load + 1) * rows ≤ 2 ^ (s.n - s.m) * rows = mul-le-mul_right rows (omega arith) in
    omega (arith, rows_of_pass s)
