-- The numbers of a load.
use Rattle.std.proofs.Common.{◌≡◌, ℕ, ◌+◌, ◌-◌, ◌*◌, ◌%◌, ◌^◌, ◌<◌, ◌≤◌, Result, List, sym, ap, subst, ◌∙◌, arith}
use Rattle.std.specs.Fork.{slice_chunk}
use Rattle.std.proofs.lemmas.Nat.{one_shl}
use Rattle.std.proofs.Math.Nat.{mod-eq_of_lt}
use Rattle.std.proofs.Math.Pow.{pow_mono}
use Rattle.bm_base.specs.declared.shape.Shape.{Shape}
use Rattle.bm_base.specs.Butterfly.{number_in}
use Rattle.bm_detect.specs.declared.detect_error.DetectError.{DetectError}
use Rattle.bm_detect.specs.declared.scan_state.Scan.{Scan}
use Rattle.bm_detect.specs.Scan.{Knows, Scanned}
use Rattle.bm_base.proofs.ShapeLemmas.{load_records}

-- the count of a load's records, as the code makes it
pub load_count : (s : Shape) → 1 * 2 ^ s.m % 2 ^ 64 ≡ 2 ^ s.m
load_count s = one_shl s.m 64 (omega (arith, s.keeps.memory, s.keeps.addresses))

-- the address of its first record
pub load_start : (s : Shape) (load : ℕ) → load < 2 ^ (s.n - s.m) → load * 2 ^ s.m % 2 ^ 64 ≡ 2 ^ s.m * load
load_start s load below =
    let most : 2 ^ s.m * (load + 1) ≤ 2 ^ s.n = load_records s load below in
    let few : 2 ^ s.n ≤ 2 ^ 52 = pow_mono {i = s.n} {j = 52} (omega (arith, s.keeps.addresses)) in
    let same : load * 2 ^ s.m ≡ 2 ^ s.m * load = omega arith in
    let grown : 2 ^ s.m * (load + 1) ≡ 2 ^ s.m * load + 2 ^ s.m = omega arith in
    mod-eq_of_lt (omega arith) ∙ same

-- the addresses of a load, as the code counts them
pub load_addresses : (s : Shape) (load n m k : ℕ) → n ≡ s.n → m ≡ s.m → k ≡ s.m → load < 2 ^ (s.n - s.m)
    → load * 2 ^ m % 2 ^ 64 + 1 * 2 ^ k % 2 ^ 64 ≤ 2 ^ n
load_addresses s load n m k en em ek below =
    let most : 2 ^ s.m * (load + 1) ≤ 2 ^ s.n = load_records s load below in
    let start = load_start s load below in
    let count = load_count s in
    let grown : 2 ^ s.m * (load + 1) ≡ 2 ^ s.m * load + 2 ^ s.m = omega arith in
    let whole : load * 2 ^ s.m % 2 ^ 64 + 1 * 2 ^ s.m % 2 ^ 64 ≤ 2 ^ s.n = omega arith in
    subst (λ (a : ℕ). load * 2 ^ m % 2 ^ 64 + 1 * 2 ^ k % 2 ^ 64 ≤ 2 ^ a) (sym en)
    (subst (λ (a : ℕ). load * 2 ^ a % 2 ^ 64 + 1 * 2 ^ k % 2 ^ 64 ≤ 2 ^ s.n) (sym em)
    (subst (λ (a : ℕ). load * 2 ^ s.m % 2 ^ 64 + 1 * 2 ^ a % 2 ^ 64 ≤ 2 ^ s.n) (sym ek) whole))

-- a load's numbers that were taken are those of the list
pub load_taken : (s : Shape) (load n m k : ℕ) (ys : ℕ → ℕ) (bytes : List ℕ) (scan : Scan) (r : Result Scan DetectError)
    → n ≡ s.n → m ≡ s.m → k ≡ s.m → load < 2 ^ (s.n - s.m)
    → ((i : ℕ) → i < 2 ^ s.m → number_in (slice_chunk bytes 8 i) ≡ ys (2 ^ s.m * load + i))
    → (((i : ℕ) → i < 1 * 2 ^ k % 2 ^ 64 → number_in (slice_chunk bytes 8 i) ≡ ys (load * 2 ^ m % 2 ^ 64 + i))
    → Knows n ys (load * 2 ^ m % 2 ^ 64) scan → Scanned n ys (load * 2 ^ m % 2 ^ 64 + 1 * 2 ^ k % 2 ^ 64) r)
    → Knows s.n ys (2 ^ s.m * load) scan → Scanned s.n ys (2 ^ s.m * (load + 1)) r
load_taken s load n m k ys bytes scan r en em ek below same taken knows =
    let start : load * 2 ^ m % 2 ^ 64 ≡ 2 ^ s.m * load = ap (λ (a : ℕ). load * 2 ^ a % 2 ^ 64) em ∙ load_start s load below in
    let count : 1 * 2 ^ k % 2 ^ 64 ≡ 2 ^ s.m = ap (λ (a : ℕ). 1 * 2 ^ a % 2 ^ 64) ek ∙ load_count s in
    let grown : load * 2 ^ m % 2 ^ 64 + 1 * 2 ^ k % 2 ^ 64 ≡ 2 ^ s.m * (load + 1) = omega arith in
    let before : Knows n ys (load * 2 ^ m % 2 ^ 64) scan =
    subst (λ (a : ℕ). Knows a ys (load * 2 ^ m % 2 ^ 64) scan) (sym en) (subst (λ (x : ℕ). Knows s.n ys x scan) (sym start) knows) in
    let numbers : (i : ℕ) → i < 1 * 2 ^ k % 2 ^ 64 → number_in (slice_chunk bytes 8 i) ≡ ys (load * 2 ^ m % 2 ^ 64 + i) =
    λ i few. same i (subst (λ (a : ℕ). i < a) count few) ∙ ap (λ (x : ℕ). ys (x + i)) (sym start) in
    subst (λ (a : ℕ). Scanned a ys (2 ^ s.m * (load + 1)) r) en
    (subst (λ (x : ℕ). Scanned n ys x r) grown (taken numbers before))

-- no load was taken yet
pub start_knows : (n m size : ℕ) (ys : ℕ → ℕ) (scan : Scan) → n ≡ m → Knows n ys 0 scan → Knows m ys (size * 0) scan
start_knows n m size ys scan same knows =
    subst (λ (a : ℕ). Knows a ys (size * 0) scan) same
    (subst (λ (seen : ℕ). Knows n ys seen scan) (let e : 0 ≡ size * 0 = omega arith in e) knows)
