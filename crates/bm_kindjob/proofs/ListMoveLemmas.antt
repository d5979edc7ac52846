-- Lists of records that a pass writes, load after load.
use Rattle.std.proofs.Common.{◌≡◌, ℕ, zero, suc, ◌+◌, ◌-◌, ◌*◌, ◌/◌, ◌^◌, ◌<◌, ◌≤◌, List, sym, ap, ◌∙◌, subst, arith, ⊎_elim}
use Rattle.std.specs.Fork.{slice_chunk}
use Rattle.std.specs.List.{refill}
use Rattle.std.proofs.Common.{length}
use Rattle.bm_base.proofs.CaseLemmas.{refill_all}
use Rattle.std.specs.Int.{bit_at}
use Rattle.std.proofs.lemmas.Bool.{cases_lt}
use Rattle.std.proofs.lemmas.Nat.{pow-add}
use Rattle.std.proofs.Math.Nat.{mul_comm}
use Rattle.bm_base.specs.declared.shape.Shape.{Shape}
use Rattle.bm_base.specs.declared.area.Area.{Area}
use Rattle.bm_base.specs.Contents.{Contents}
use Rattle.bm_base.specs.Records.{SameRecords, record_at, record_in}
use Rattle.bm_gf2.specs.declared.spread.Spread.{Spread}
use Rattle.bm_gf2.specs.Spread.{spread_value}
use Rattle.bm_gf2.specs.Affine.{affine_image}
use Rattle.bm_forms.specs.declared.pass_form.PassForm.{PassForm}
use Rattle.bm_forms.specs.PassForm.{IsOfShape}
use Rattle.bm_forms.specs.Permutation.{permuted}
use Rattle.bm_forms.proofs.PermutationLemmas.{permuted-unique}
use Rattle.bm_bufs.specs.declared.placing.Placing.{Placing}
use Rattle.bm_bufs.specs.Places.{places_by}
use Rattle.bm_butter.proofs.KernelLemmas.{kernel_on-block}
use Rattle.bm_rack.specs.RackView.{RackView}
use Rattle.bm_rack.specs.Frames.{ChangesOnly}
use Rattle.bm_stripe.proofs.UnitLemmas.{record_at-outside}
use Rattle.bm_pass.specs.LoadPlaces.{IsOfLoad, HoldsLoad, placed_record}
use Rattle.bm_pass.specs.LoadMove.{IsTargetUnit}
use Rattle.bm_pass.proofs.LoadLemmas.{SendsToTargets}
use Rattle.bm_pass.proofs.PassLemmas.{targets_apart}
use Rattle.bm_pass.proofs.PlaceLemmas.{place_below}
use Rattle.bm_kinds.specs.OnBits.{kernel_over}
use Rattle.bm_kinds.proofs.OnBitLemmas.{bit_by}
use Rattle.bm_kinds.proofs.OverLemmas.{kernel_over-left, kernel_over-taken, kernel_over-same}
use Rattle.bm_kindjob.specs.ListMove.{ListMoved, ListsMoved}

-- ---- pairings within a load

-- the bits of a set
over_block : (f : ℕ → ℕ → ℕ × ℕ) (low set m a : ℕ) (xs ys : ℕ → List ℕ) → low ≤ m → ((t : ℕ) → t < 2 ^ m → xs (a * 2 ^ m + t) ≡ ys t)
    → (t : ℕ) → t < 2 ^ m → kernel_over f low set xs (a * 2 ^ m + t) ≡ kernel_over f low set ys t
unfolding kernel_over
over_block f zero set m a xs ys fewer same t short = same t short
over_block f (suc i) set m a xs ys fewer same t short =
    let before = over_block f i set m a xs ys (omega arith) same in
    bit_by set i
    (λ (p : bit_at set i ≡ 0). ap (λ (zs : ℕ → List ℕ). zs (a * 2 ^ m + t)) (kernel_over-left f i set xs p) ∙ before t short
    ∙ sym (ap (λ (zs : ℕ → List ℕ). zs t) (kernel_over-left f i set ys p)))
    (λ (p : bit_at set i ≡ 1). ap (λ (zs : ℕ → List ℕ). zs (a * 2 ^ m + t)) (kernel_over-taken f i set xs p)
    ∙ kernel_on-block f i m a (kernel_over f i set xs) (kernel_over f i set ys) (omega arith) before t short
    ∙ sym (ap (λ (zs : ℕ → List ℕ). zs t) (kernel_over-taken f i set ys p)))

-- ---- one load

-- a load list that was lent out, mixed and taken back
pub mixed_back : (f : ℕ → ℕ → ℕ × ℕ) (n set width : ℕ) (place : ℕ → ℕ) (old lent new : List ℕ) → width ≡ 8 → lent ≡ old
    → length new ≡ length lent
    → ((x : ℕ) → x < 2 ^ n → slice_chunk new 8 (place x) ≡ kernel_over f n set (λ i. slice_chunk lent 8 (place i)) x)
    → (x : ℕ) → x < 2 ^ n
    → slice_chunk (refill (length old) old new) width (place x) ≡ kernel_over f n set (λ i. slice_chunk old width (place i)) x
mixed_back f n set width place old lent new eight value long mix x below =
    ap (λ (b : List ℕ). slice_chunk b width (place x)) (refill_all old new (long ∙ ap (λ (b : List ℕ). length b) value))
    ∙ ap (λ (w : ℕ). slice_chunk new w (place x)) eight
    ∙ mix x below
    ∙ ap (λ (b : List ℕ). kernel_over f n set (λ i. slice_chunk b 8 (place i)) x) value
    ∙ ap (λ (w : ℕ). kernel_over f n set (λ i. slice_chunk old w (place i)) x) (sym eight)

-- read, mixed and written by the spread
pub ListMoved-written : (f : ℕ → ℕ → ℕ × ℕ) (set : ℕ) (s : Shape) (pass : PassForm) (from to : Area) (load : ℕ) (placing : Placing)
    (spread : Spread) (old new : Contents) (filled mixed : List ℕ) → IsOfLoad s placing
    → SendsToTargets s pass load placing spread
    → HoldsLoad s placing from load old filled
    → SameRecords (2 ^ placing.a.n) (placed_record placing mixed) (kernel_over f placing.a.n set (placed_record placing filled))
    → ((p : ℕ) → p < 2 ^ s.m → record_at new s to (2 ^ s.m * spread_value spread (p / 2 ^ s.b) + p) ≡ record_in s mixed p)
    → ListMoved s pass to load (kernel_over f s.m set (record_at old s from)) new
ListMoved-written f set s pass from to load placing spread old new filled mixed of_load sends read mix written i below =
    let place = places_by placing.a placing.plus i in
    let in_load : place < 2 ^ s.m = subst (λ k. place < 2 ^ k) of_load.bits (place_below placing i of_load.plus) in
    let turned : 2 ^ s.m * load ≡ load * 2 ^ s.m = mul_comm (2 ^ s.m) load in
    ap (record_at new s to) (sends.lands i below)
    ∙ written place in_load
    ∙ ap (λ w. slice_chunk mixed w place) (sym of_load.width)
    ∙ mix i (subst (λ k. i < 2 ^ k) (sym of_load.bits) below)
    ∙ ap (λ (k : ℕ). kernel_over f k set (placed_record placing filled) i) of_load.bits
    ∙ sym (over_block f s.m set s.m load (record_at old s from) (placed_record placing filled) (omega arith)
    (λ t l. ap (λ c. record_at old s from (c + t)) (sym turned) ∙ sym (read t l)) i below)
    ∙ ap (λ c. kernel_over f s.m set (record_at old s from) (c + i)) (sym turned)

-- ---- all loads

pub ListsMoved-none : (s : Shape) (pass : PassForm) (to : Area) (xs : ℕ → List ℕ) (new : Contents) → ListsMoved s pass to 0 xs new
ListsMoved-none s pass to xs new x below = absurd (let none : 2 ^ s.m * 0 ≡ 0 = omega arith in omega arith)

-- one load more: what it writes is apart from what those before wrote
pub ListsMoved-more : (s : Shape) (pass : PassForm) (to : Area) (load : ℕ) (xs ys : ℕ → List ℕ) (mid new : RackView) → IsOfShape s pass
    → load < 2 ^ (s.n - s.m) → ((i : ℕ) → i < 2 ^ s.m → ys (2 ^ s.m * load + i) ≡ xs (2 ^ s.m * load + i))
    → ChangesOnly (IsTargetUnit s pass to load) mid new
    → ListsMoved s pass to load xs mid.contents → ListMoved s pass to load ys new.contents
    → ListsMoved s pass to (load + 1) xs new.contents
ListsMoved-more s pass to load xs ys mid new of inside same now moved one x below =
    let more : 2 ^ s.m * (load + 1) ≡ 2 ^ s.m * load + 2 ^ s.m = omega arith in
    ⊎_elim
    (λ (early : x < 2 ^ s.m * load).
    record_at-outside (IsTargetUnit s pass to load) mid new s to (affine_image pass.map.map x) now
    (targets_apart s pass to load x of inside early)
    ∙ moved x early)
    (λ (late : 2 ^ s.m * load ≤ x).
    let i = x - 2 ^ s.m * load in
    let back : 2 ^ s.m * load + i ≡ x = omega arith in
    let in_load : i < 2 ^ s.m = omega arith in
    subst (λ c. record_at new.contents s to (affine_image pass.map.map c) ≡ xs c) back (one i in_load ∙ same i in_load))
    (cases_lt x (2 ^ s.m * load))

-- all loads are the permuted list
pub ListsMoved-all : (s : Shape) (pass : PassForm) (to : Area) (loads : ℕ) (xs : ℕ → List ℕ) (new : Contents) → IsOfShape s pass
    → loads ≡ 2 ^ (s.n - s.m) → ListsMoved s pass to loads xs new
    → SameRecords (2 ^ s.n) (record_at new s to) (permuted pass.map.map xs)
ListsMoved-all s pass to loads xs new of all moved =
    let exponent : s.m + (s.n - s.m) ≡ s.n = omega (arith, s.keeps.memory) in
    let records : 2 ^ s.m * loads ≡ 2 ^ s.n = ap (λ k. 2 ^ s.m * k) all ∙ sym (pow-add 2 s.m (s.n - s.m)) ∙ ap (λ k. 2 ^ k) exponent in
    subst (λ k. SameRecords (2 ^ k) (record_at new s to) (permuted pass.map.map xs)) of.addresses
    (permuted-unique pass.map.map xs (record_at new s to) pass.map.nonsingular
    (λ x below. moved x (subst (λ k. x < k) (sym records) (subst (λ k. x < 2 ^ k) of.addresses below))))

-- the records that are read decide
pub mixed_same : (f : ℕ → ℕ → ℕ × ℕ) (set : ℕ) (s : Shape) (load : ℕ) (xs ys : ℕ → List ℕ) → 2 ^ s.m * load + 2 ^ s.m ≤ 2 ^ s.n
    → SameRecords (2 ^ s.n) ys xs
    → (i : ℕ) → i < 2 ^ s.m → kernel_over f s.m set ys (2 ^ s.m * load + i) ≡ kernel_over f s.m set xs (2 ^ s.m * load + i)
mixed_same f set s load xs ys room same i below =
    kernel_over-same f s.m s.n set ys xs s.keeps.memory same (2 ^ s.m * load + i) (omega arith)
