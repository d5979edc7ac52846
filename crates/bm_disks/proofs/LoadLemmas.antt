-- Loads of bytes from a source, as records of an area.
use Rattle.std.proofs.Common.{◌≡◌, ◌≢◌, ℕ, ◌+◌, ◌-◌, ◌*◌, ◌^◌, ◌<◌, ◌≤◌, ⊎_elim, Bool, IsTrue, List, [], ◌∷◌, ◌++◌, length, take, drop}
use Rattle.std.proofs.Common.{refl, sym, ◌∙◌, ap, arith, length-append, length-drop}
use Rattle.std.proofs.lemmas.List.{drop-append-le, take-append-le, drop-drop, drop_at}
use Rattle.std.proofs.lemmas.Nat.{pow_pos}
use Rattle.std.proofs.lemmas.Bool.{cases_lt}
use Rattle.std.proofs.Math.Pow.{pow_mono}
use Rattle.std.proofs.Math.Nat.{mul-le-mul_right, le-mul_of_pos_right}
use Rattle.bm_base.specs.declared.shape.Shape.{Shape}
use Rattle.bm_base.specs.Shape.{input_size, load_size}
use Rattle.bm_disks.specs.Input.{EndsAfter, IsRead}
use Rattle.bm_base.proofs.ShapeLemmas.{load_records, loads_records}

-- a record of the bytes that filled a buffer
pub record_of_fill : (size width load i : ℕ) (all buf rest : List ℕ) → i < size → length buf ≡ size * width
    → drop (size * width * load) all ≡ buf ++ rest
    → take width (drop (i * width) buf) ≡ take width (drop ((size * load + i) * width) all)
record_of_fill size width load i all buf rest below long is =
    let inside : (i + 1) * width ≤ size * width = mul-le-mul_right width (omega arith) in
    let place : (size * load + i) * width ≡ size * width * load + i * width = omega arith in
    let left : length (drop (i * width) buf) ≡ length buf - i * width = length-drop (i * width) buf in
    sym
    (ap (λ (n : ℕ). take width (drop n all)) place
    ∙ ap (λ (z : List ℕ). take width z) (sym (drop-drop (i * width) (size * width * load) all))
    ∙ ap (λ (z : List ℕ). take width (drop (i * width) z)) is
    ∙ ap (λ (z : List ℕ). take width z) (drop-append-le (i * width) buf rest (omega arith))
    ∙ take-append-le width (drop (i * width) buf) rest (omega arith))

-- what is left after one load more
pub left_after_fill : (size load : ℕ) (all now buf left : List ℕ) → size * load ≤ length all → now ≡ drop (size * load) all
    → now ≡ buf ++ left → length buf ≡ size
    → (size * (load + 1) ≤ length all) × (left ≡ drop (size * (load + 1)) all)
left_after_fill size load all now buf left before was is long =
    let rest : length now ≡ length all - size * load = ap length was ∙ length-drop (size * load) all in
    let parts : length now ≡ length buf + length left = ap length is ∙ length-append buf left in
    let more : size * (load + 1) ≡ size * load + size = omega arith in (
      omega arith,
      sym (drop_at buf left size long)
          ∙ ap (λ (z : List ℕ). drop size z) (sym is ∙ was)
          ∙ drop-drop size (size * load) all
          ∙ ap (λ (n : ℕ). drop n all) (sym more),
    )

-- the input's bytes fit a word, but for one
pub input_fits : (s : Shape) → input_size s ≤ 2 ^ 64
input_fits s =
    let few : 2 ^ s.n ≤ 2 ^ 52 = pow_mono {i = s.n} {j = 52} s.keeps.addresses in
    let wide : 2 ^ s.n * s.width ≤ 2 ^ 52 * s.width = mul-le-mul_right s.width few in
    omega (arith, s.keeps.record_few)

-- the bytes of the loads up to this one
pub load_bytes_fit : (s : Shape) (load : ℕ) → load < 2 ^ (s.n - s.m) → load * load_size s + load_size s ≤ input_size s
load_bytes_fit s load below =
    let wide : 2 ^ s.m * (load + 1) * s.width ≤ 2 ^ s.n * s.width = mul-le-mul_right s.width (load_records s load below) in
    omega arith

-- the bytes of all loads
pub all_bytes : (s : Shape) (load : ℕ) → load ≡ 2 ^ (s.n - s.m) → load_size s * load ≡ input_size s
all_bytes s load last =
    ap (λ (k : ℕ). load_size s * k) last
    ∙ (let e : 2 ^ s.m * s.width * 2 ^ (s.n - s.m) ≡ 2 ^ s.m * 2 ^ (s.n - s.m) * s.width = omega arith in e)
    ∙ ap (λ (k : ℕ). k * s.width) (loads_records s)

-- the bytes of the loads before fit a word
pub load_start_fits : (s : Shape) (load : ℕ) → load < 2 ^ (s.n - s.m) → load * load_size s < 2 ^ 64
load_start_fits s load below =
    let some : 2 ^ s.m ≤ 2 ^ s.m * s.width = le-mul_of_pos_right {m = s.width} (2 ^ s.m) (omega (arith, s.keeps.record_some)) in
    let one : 0 < 2 ^ s.m = pow_pos s.m in
    omega (arith, load_bytes_fit s load below, input_fits s)

-- the end of the input within a load
pub ends_in_load : (told : Bool) (s : Shape) (load got : ℕ) (all now left : List ℕ) → load < 2 ^ (s.n - s.m)
    → (IsTrue told → load_size s * load ≤ length all) → (IsTrue told → now ≡ drop (load_size s * load) all)
    → EndsAfter told (load_size s) now left got → EndsAfter told (input_size s) all left (load * load_size s + got)
ends_in_load told s load got all now left below before was ends =
    let fits = load_bytes_fit s load below in (
      omega (arith, ends.0),
      λ t. (omega (arith, before t, (ends.1 t).0, ap length (was t), length-drop (load_size s * load) all), (ends.1 t).1),
    )

-- the source ended after the bytes of all records
pub input_whole : (size : ℕ) (all now left : List ℕ) → size ≤ length all → now ≡ drop size all
    → now ≡ [] → left ≡ drop 1 now
    → (length all ≡ size) × (left ≡ [])
input_whole size all now left some was ended is =
    let none : length now ≡ 0 = ap length ended in
    let rest : length now ≡ length all - size = ap length was ∙ length-drop size all in
    (omega arith, is ∙ ap (λ (z : List ℕ). drop 1 z) ended)

empty_list : (xs : List ℕ) → length xs ≡ 0 → xs ≡ []
empty_list [] h = refl
empty_list (x ∷ xs) h = absurd (omega arith)

-- the source went on after the bytes of all records
pub input_long : (size : ℕ) (all now left : List ℕ) → size ≤ length all → now ≡ drop size all
    → now ≢ [] → left ≡ drop 1 now
    → (size < length all) × (left ≡ drop (size + 1) all)
input_long size all now left some was more is =
    let rest : length now ≡ length all - size = ap length was ∙ length-drop size all in
    let longer : size < length all = ⊎_elim (λ (p : size < length all). p)
    (λ (p : length all ≤ size). absurd (more (empty_list now (omega arith)))) (cases_lt size (length all)) in
    (longer, is ∙ ap (λ (z : List ℕ). drop 1 z) was ∙ drop-drop 1 size all)

-- what was read after so many bytes
pub IsRead-later : (before size most : ℕ) (all now left : List ℕ) → before + size ≤ most → now ≡ drop before all → IsRead size now left
    → IsRead most all left
IsRead-later before size most all now left few was read =
    let short = read.1 in
    (before + read.0, omega (arith, few, short), read.2 ∙ ap (λ (z : List ℕ). drop read.0 z) was ∙ drop-drop read.0 before all)
