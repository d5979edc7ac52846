-- The loads of an area: as they are written, and the bytes of those that were read.
use Rattle.std.proofs.Common.{◌≡◌, ◌≢◌, ℕ, ◌+◌, ◌*◌, ◌/◌, ◌%◌, ◌^◌, ◌<◌, ◌≤◌, ⊎_elim, List, [], ◌++◌, length, take, drop, sym, ◌∙◌, ap}
use Rattle.std.proofs.Common.{subst, arith}
use Rattle.std.proofs.lemmas.Nat.{pow_pos, div_below, mod_below, div-add-mod'}
use Rattle.std.proofs.lemmas.Bool.{cases_eq}
use Rattle.std.proofs.Math.Nat.{mul-le-mul_right}
use Rattle.bm_base.specs.declared.shape.Shape.{Shape}
use Rattle.bm_base.specs.declared.area.Area.{Area}
use Rattle.bm_base.specs.Records.{record_at, bytes_of}
use Rattle.bm_base.proofs.RecordLemmas.{bytes_of-same, bytes_of-add, bytes_of-all}
use Rattle.bm_rack.specs.RackView.{RackView}
use Rattle.bm_rack.specs.Frames.{ChangesOnly}
use Rattle.bm_stripe.specs.Units.{IsLoadUnit}
use Rattle.bm_stripe.proofs.UnitLemmas.{record_at-other_load}

-- the records of one load more were written
pub loads_written : (s : Shape) (area : Area) (load : ℕ) (old new : RackView) (records : ℕ → List ℕ)
    → ChangesOnly (IsLoadUnit s area load) old new
    → ((x : ℕ) → x < 2 ^ s.m * load → record_at old.contents s area x ≡ records x)
    → ((i : ℕ) → i < 2 ^ s.m → record_at new.contents s area (2 ^ s.m * load + i) ≡ records (2 ^ s.m * load + i))
    → (x : ℕ) → x < 2 ^ s.m * (load + 1) → record_at new.contents s area x ≡ records x
loads_written s area load old new records only before here x below =
    let split : x / 2 ^ s.m * 2 ^ s.m + x % 2 ^ s.m ≡ x = div-add-mod' x (2 ^ s.m) in
    ⊎_elim
    (λ (p : x / 2 ^ s.m ≡ load).
    let back : 2 ^ s.m * (x / 2 ^ s.m) + x % 2 ^ s.m ≡ x = omega arith in
    let whole : 2 ^ s.m * load + x % 2 ^ s.m ≡ x = ap (λ (n : ℕ). 2 ^ s.m * n + x % 2 ^ s.m) (sym p) ∙ back in
    subst (λ (n : ℕ). record_at new.contents s area n ≡ records n) whole (here (x % 2 ^ s.m) (mod_below x (2 ^ s.m) (pow_pos s.m))))
    (λ (p : x / 2 ^ s.m ≢ load).
    let first : x / 2 ^ s.m < load + 1 = div_below x (2 ^ s.m) (load + 1) (pow_pos s.m) (omega arith) in
    let end : (x / 2 ^ s.m + 1) * 2 ^ s.m ≤ load * 2 ^ s.m = mul-le-mul_right (2 ^ s.m) (omega arith) in
    let within : x % 2 ^ s.m < 2 ^ s.m = mod_below x (2 ^ s.m) (pow_pos s.m) in
    let early : x < 2 ^ s.m * load = omega arith in
    record_at-other_load old new s area load x only p ∙ before x early)
    (cases_eq (x / 2 ^ s.m) load)

-- the bytes of one load more
pub load_added : (size width load : ℕ) (records : ℕ → List ℕ) (buf : List ℕ) → length buf ≡ size * width
    → ((i : ℕ) → i < size → take width (drop (i * width) buf) ≡ records (size * load + i))
    → bytes_of (size * (load + 1)) records ≡ bytes_of (size * load) records ++ buf
load_added size width load records buf long same =
    let more : size * (load + 1) ≡ size * load + size = omega arith in
    let here : bytes_of size (λ i. records (size * load + i)) ≡ buf =
    sym (bytes_of-same size (λ i. take width (drop (i * width) buf)) (λ i. records (size * load + i)) same)
    ∙ bytes_of-all size width buf long in
    ap (λ (n : ℕ). bytes_of n records) more
    ∙ bytes_of-add (size * load) size records
    ∙ ap (λ (z : List ℕ). bytes_of (size * load) records ++ z) here

-- before the first load there are none
pub no_loads : (size : ℕ) (records : ℕ → List ℕ) → [] ≡ bytes_of (size * 0) records
unfolding bytes_of
no_loads size records = ap (λ (n : ℕ). bytes_of n records) (let e : 0 ≡ size * 0 = omega arith in e)
