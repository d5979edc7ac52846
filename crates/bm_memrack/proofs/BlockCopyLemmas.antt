-- A row that is served disk by disk: one disk more was read or written.
use Rattle.std.proofs.Common.{◌≡◌, ◌≢◌, inl, inr, ℕ, ◌+◌, ◌-◌, ◌*◌, ◌<◌, ◌≤◌, Bool, true, false, List, ◌++◌, length, take, drop}
use Rattle.std.proofs.Common.{slice_index_or, set, Option, Some, None, is_some, sym, ◌∙◌, ap, refl, subst, arith, get_or-set_same}
use Rattle.std.proofs.Common.{get_or-set_other}
use Rattle.std.proofs.lemmas.Nat.{mul-add-lt, same_from_place}
use Rattle.std.proofs.lemmas.Bool.{cases_lt, false≢true}
use Rattle.std.proofs.lemmas.List.{length-take-le, take-take, drop-take, drop_at, drop_all, take_all, append-nil}
use Rattle.std.proofs.Math.Seq.{take-append-add}
use Rattle.std.proofs.Common.{length-take, length-drop}
use borrow.Rule.Slice.PartMut.{put_mid, post_of}
use Rattle.bm_base.specs.declared.dims.Dims.{Dims}
use Rattle.bm_base.proofs.ChunkLemmas.{chunk_other, chunk_same, block_fits_at}
use Rattle.std.specs.Fork.{slice_chunk}
use Rattle.bm_rack.specs.Calls.{place_on, disk_bytes}
use Rattle.bm_memrack.specs.BlockCopy.{number, flat_at, AreOnDisks, BlocksRead, BlocksWritten}

pub chunk_long : (w n j : ℕ) (xs : List ℕ) → length xs ≡ n * w → j < n → length (slice_chunk xs w j) ≡ w
chunk_long w n j xs long below =
    let fits = block_fits_at w j n below in
    simp (length-take, length-drop) (omega arith)

pub number_below : (dims : Dims) (disk place : ℕ) → disk < dims.disks → place < dims.places
    → number dims disk place < dims.disks * dims.places
number_below dims disk place a b = omega (arith, mul-add-lt disk dims.places place dims.disks a b)

-- a disk that takes no part
pub read_skip : (dims : Dims) (k : ℕ) (block_of : ℕ → ℕ → List ℕ) (places : List (Option ℕ)) (old new : List ℕ)
    → k < dims.disks → place_on places k ≡ None
    → BlocksRead dims k block_of places old new → BlocksRead dims (k + 1) block_of places old new
read_skip dims k block_of places old new inside none was = record {
  taking = λ disk place below is. elim (cases_lt disk k) [
    | inl early ↦ was.taking disk place early is
    | inr late ↦ let same : disk ≡ k = omega arith in let e = sym is ∙ ap (λ x. place_on places x) same ∙ none in cc
  ];
  resting = λ disk below is. elim (cases_lt disk k) [
    | inl early ↦ was.resting disk early is
    | inr late ↦ was.later disk (omega arith) (omega arith)
  ];
  later = λ disk above below. was.later disk (omega arith) below;
}

-- a disk that takes part, whose bytes are set to its block
pub read_more : (dims : Dims) (k p : ℕ) (block_of : ℕ → ℕ → List ℕ) (places : List (Option ℕ)) (old new block : List ℕ) → k < dims.disks
    → length new ≡ dims.disks * dims.block → length block ≡ dims.block → block ≡ block_of k p
    → place_on places k ≡ Some p → BlocksRead dims k block_of places old new
    → BlocksRead dims (k + 1) block_of places old (put_mid (k * dims.block) dims.block new block)
read_more dims k p block_of places old new block inside size long block_is some was = record {
  taking = λ disk place below is. elim (cases_lt disk k) [
    | inl early ↦ other disk (omega arith) ∙ was.taking disk place early is
    | inr late ↦
        let same : disk ≡ k = omega arith in
        let e = sym is ∙ ap (λ x. place_on places x) same ∙ some in
        let place_is : place ≡ p = cc in
        ap (λ x. slice_chunk (put_mid (k * dims.block) dims.block new block) dims.block x) same
        ∙ chunk_same dims.block k dims.block new block (omega (arith, block_fits_at dims.block k dims.disks inside)) long
        ∙ block_is ∙ ap (λ x. block_of x p) (sym same) ∙ ap (λ x. block_of disk x) (sym place_is)
  ];
  resting = λ disk below is. elim (cases_lt disk k) [
    | inl early ↦ other disk (omega arith) ∙ was.resting disk early is
    | inr late ↦ let same : disk ≡ k = omega arith in let e = sym is ∙ ap (λ x. place_on places x) same ∙ some in cc
  ];
  later = λ disk above below. other disk (omega arith) ∙ was.later disk (omega arith) below;
}
  where
    other : (disk : ℕ) → disk ≢ k
        → slice_chunk (put_mid (k * dims.block) dims.block new block) dims.block disk ≡ slice_chunk new dims.block disk
    other disk apart =
        let fits : (k + 1) * dims.block ≤ length new = omega (arith, block_fits_at dims.block k dims.disks inside) in
        chunk_other dims.block disk k dims.block dims.block new block apart fits (omega arith) refl long

-- what stands in an option, by its test
pub some_if : {X : Type 0} (o : Option X) → is_some o ≡ true → (x : X) × (o ≡ Some x)
some_if None e = absurd (false≢true e)
some_if (Some x) e = (x, refl)

pub none_if : {X : Type 0} (o : Option X) → is_some o ≡ false → o ≡ None
none_if None e = refl
none_if (Some x) e = absurd (false≢true (sym e))

-- the chunk of which a front was written
pub chunk_front : (w j n : ℕ) (xs ys : List ℕ) → (j + 1) * w ≤ length xs → n ≤ w → length ys ≡ n
    → slice_chunk (put_mid (j * w) n xs ys) w j ≡ ys ++ drop n (slice_chunk xs w j)
chunk_front w j n xs ys fits short long =
    let a = j * w in
    let rest = ys ++ post_of a n xs in
    let front : length (take a xs) ≡ a = length-take-le a xs (omega arith) in
    let size : length ys + (w - n) ≡ w = omega arith in
    let whole : n + (w - n) ≡ w = omega arith in
    let tail : drop n (take w (drop a xs)) ≡ take (w - n) (drop n (drop a xs)) =
    subst (λ (m : ℕ). drop n (take m (drop a xs)) ≡ take (w - n) (drop n (drop a xs))) whole (drop-take n (w - n) (drop a xs)) in
    ap (λ (x : List ℕ). take w x) (drop_at (take a xs) rest a front)
    ∙ ap (λ (m : ℕ). take m rest) (sym size)
    ∙ take-append-add ys (post_of a n xs) (w - n)
    ∙ ap (λ (x : List ℕ). ys ++ x) (sym tail)

pub chunk_short : (w j : ℕ) (xs : List ℕ) → length (slice_chunk xs w j) ≤ w
chunk_short w j xs = simp length-take (omega arith)

-- a unit of which the whole was written
pub whole_unit : (len : ℕ) (bytes old : List ℕ) → length bytes ≤ len → length old ≤ len → take len bytes ++ drop len old ≡ bytes
whole_unit len bytes old a b = ap (λ x. take len bytes ++ x) (drop_all len old b) ∙ append-nil (take len bytes) ∙ take_all len bytes a

-- two blocks with one number are one
pub number_apart : (dims : Dims) (a b k p : ℕ) → b < dims.places → p < dims.places → (a ≡ k → b ≢ p) → number dims a b ≢ number dims k p
number_apart dims a b k p x y apart same = let e = same_from_place a b k p dims.places x y same in apart e.0 e.1

pub write_skip : (dims : Dims) (k len : ℕ) (places : List (Option ℕ)) (bytes old new : List ℕ) (old_dirty new_dirty : List Bool)
    → place_on places k ≡ None
    → BlocksWritten dims k places bytes len old old_dirty new new_dirty
    → BlocksWritten dims (k + 1) places bytes len old old_dirty new new_dirty
write_skip dims k len places bytes old new old_dirty new_dirty none was = record {
  taking = λ disk place below is. was.taking disk place (early disk place below is) is;
  made_dirty = λ disk place below is. was.made_dirty disk place (early disk place below is) is;
  others = λ disk place a b apart. was.others disk place a b (λ is below. apart is (omega arith));
  other_dirty = λ disk place a b apart. was.other_dirty disk place a b (λ is below. apart is (omega arith));
}
  where
    early : (disk place : ℕ) → disk < k + 1 → place_on places disk ≡ Some place → disk < k
    early disk place below is = elim (cases_lt disk k) [
      | inl h ↦ h
      | inr late ↦ let same : disk ≡ k = omega arith in let e = sym is ∙ ap (λ x. place_on places x) same ∙ none in cc
    ]

pub write_more : (dims : Dims) (k p len : ℕ) (places : List (Option ℕ)) (bytes old new : List ℕ) (old_dirty new_dirty : List Bool)
    → k < dims.disks → p < dims.places → AreOnDisks dims places
    → length new ≡ dims.disks * dims.places * dims.block → length new_dirty ≡ dims.disks * dims.places
    → length bytes ≡ dims.disks * dims.block → len ≤ dims.block
    → place_on places k ≡ Some p
    → BlocksWritten dims k places bytes len old old_dirty new new_dirty
    → BlocksWritten dims (k + 1) places bytes len old old_dirty
    (put_mid (number dims k p * dims.block) len new (take len (drop (k * dims.block) bytes))) (set new_dirty (number dims k p) true)
write_more dims k p len places bytes old new old_dirty new_dirty inside in_disk fits long dirty_long bytes_long short some was = record {
  taking = λ disk place below is. elim (cases_lt disk k) [
    | inl early ↦ other disk place (fits disk place (omega arith) is) (λ same _. omega arith) ∙ was.taking disk place early is
    | inr late ↦
        let same : disk ≡ k = omega arith in
        let e = sym is ∙ ap (λ x. place_on places x) same ∙ some in
        let p_is : place ≡ p = cc in
        subst (λ d. Taken d place) (sym same) (subst (λ q. Taken k q) (sym p_is) own)
  ];
  made_dirty = λ disk place below is. elim (cases_lt disk k) [
    | inl early ↦
        get_or-set_other new_dirty (number dims k p) (number dims disk place) true false
        (number_apart dims disk place k p (fits disk place (omega arith) is) in_disk (λ same _. omega arith))
        ∙ was.made_dirty disk place early is
    | inr late ↦
        let same : disk ≡ k = omega arith in
        let e = sym is ∙ ap (λ x. place_on places x) same ∙ some in
        let p_is : place ≡ p = cc in
        let there = ap (λ x. number dims x place) same ∙ ap (λ x. number dims k x) p_is in
        ap (λ x. slice_index_or (set new_dirty (number dims k p) true) x false) there
        ∙ get_or-set_same new_dirty (number dims k p) true false (omega (arith, n_below))
  ];
  others = λ disk place a b apart.
      other disk place b (λ same at. apart (ap (λ x. place_on places x) same ∙ some ∙ ap Some (sym at)) (omega arith))
      ∙ was.others disk place a b (λ is below. apart is (omega arith));
  other_dirty = λ disk place a b apart.
      get_or-set_other new_dirty (number dims k p) (number dims disk place) true false
      (number_apart dims disk place k p b in_disk (λ same at. apart (ap (λ x. place_on places x) same ∙ some ∙ ap Some (sym at))
      (omega arith)))
      ∙ was.other_dirty disk place a b (λ is below. apart is (omega arith));
}
  where
    n_below : number dims k p < dims.disks * dims.places
    n_below = number_below dims k p inside in_disk

    row : List ℕ
    row = take len (drop (k * dims.block) bytes)

    row_long : length row ≡ len
    row_long = let end = block_fits_at dims.block k dims.disks inside in simp (length-take, length-drop) (omega arith)

    other : (disk place : ℕ) → place < dims.places → (disk ≡ k → place ≢ p)
        → flat_at dims (put_mid (number dims k p * dims.block) len new row) disk place ≡ flat_at dims new disk place
    other disk place b apart =
        chunk_other dims.block (number dims disk place) (number dims k p) len len new row (number_apart dims disk place k p b in_disk apart)
        (omega (arith, block_fits_at dims.block (number dims k p) (dims.disks * dims.places) n_below)) short refl row_long

    Taken : ℕ → ℕ → Type 0
    Taken d q =
        flat_at dims (put_mid (number dims k p * dims.block) len new row) d q
        ≡ take len (disk_bytes dims d bytes) ++ drop len (flat_at dims old d q)

    own : Taken k p
    own =
        chunk_front dims.block (number dims k p) len new row
        (omega (arith, block_fits_at dims.block (number dims k p) (dims.disks * dims.places) n_below)) short row_long
        ∙ ap (λ front. front ++ drop len (flat_at dims new k p)) (sym (take-take len dims.block (drop (k * dims.block) bytes) short))
        ∙ ap (λ block. take len (disk_bytes dims k bytes) ++ drop len block) (was.others k p inside in_disk (λ _ below. omega arith))
