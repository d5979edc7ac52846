-- What the calls do to a store, as a contract sees it.
use Rattle.std.proofs.Common.{◌≡◌, inl, inr, ℕ, ◌+◌, ◌*◌, ◌<◌, ◌≤◌, Bool, true, false, List, [], ◌++◌, length, slice_index_or, take, drop}
use Rattle.std.proofs.Common.{set, map, replicate, Option, Some, None, Result, Ok, IsOk, sym, ◌∙◌, ap, refl, subst, arith, length-take}
use Rattle.std.proofs.Common.{length-drop, get_or-set_same, get_or-set_other}
use Rattle.std.specs.List.{range_with_len}
use Rattle.std.specs.Fork.{slice_chunk}
use Rattle.std.proofs.lemmas.List.{get_or_past, take_all, length-replicate, get_or-replicate, get_or-take, get_or-drop, ext_get_or}
use Rattle.std.proofs.lemmas.List.FromFn.{length-map-range_with_len}
use Rattle.std.proofs.lemmas.Bool.{cases_lt, false≢true}
use borrow.Rule.Slice.PartMut.{put_mid}
use Rattle.bm_base.specs.declared.dims.Dims.{Dims}
use Rattle.bm_base.specs.declared.fault.Failed.{Failed}
use Rattle.bm_base.specs.Contents.{Contents, RackUnit, block_unit, page_unit, block_at, page_at, unit_at}
use Rattle.bm_base.proofs.ChunkLemmas.{chunk_other, chunk_same, block_fits_at}
use Rattle.bm_rack.specs.Calls.{RowRead, RowWritten, RowFits, PageWritten, Synced, InRow, IsPage, CreateDone, disk_bytes}
use Rattle.bm_memrack.specs.declared.store.Store.{Store}
use Rattle.bm_memrack.specs.BlockCopy.{number, flat_at, flag_at, AreOnDisks, BlocksRead, BlocksWritten}
use Rattle.bm_memrack.specs.Store.{table, entry_at, blocks_of, flags_of, slate_page, pages_of, contents_of, dirty_of, stands_at}
use Rattle.bm_memrack.specs.Store.{contents_at, attached_at, memory_view}
use Rattle.bm_memrack.specs.SizeLemmas.{table_at, table_row, block_of, page_of}
use Rattle.bm_memrack.proofs.BlockCopyLemmas.{number_below, chunk_short, whole_unit}

pub same_dims : (s : Store) (attached : Bool) (dims : Dims) → attached_at attached (Some s) ≡ Some dims → s.dims ≡ dims
same_dims s true dims e = cc
same_dims s false dims e = cc

pub attached_same : (attached : Bool) (s t : Store) → t.dims ≡ s.dims → attached_at attached (Some t) ≡ attached_at attached (Some s)
attached_same true s t e = ap Some e
attached_same false s t e = refl

-- past the last disk or place a table has the default
past_place : {X : Type 0} (dims : Dims) (f : ℕ → ℕ → X) (d : X) (disk place : ℕ) → disk < dims.disks → dims.places ≤ place
    → entry_at (table dims f) d disk place ≡ d
past_place dims f d disk place on_disk past =
    ap (λ row. slice_index_or row place d) (table_row dims f disk on_disk)
    ∙ get_or_past (map (λ p. f disk p) (range_with_len 0 dims.places)) place d
    (rw (length-map-range_with_len (λ p. f disk p) 0 dims.places) past)

past_disk : {X : Type 0} (dims : Dims) (f : ℕ → ℕ → X) (d : X) (disk place : ℕ) → dims.disks ≤ disk
    → entry_at (table dims f) d disk place ≡ d
unfolding table
past_disk dims f d disk place past =
    let rows = length-map-range_with_len (λ k. map (λ p. f k p) (range_with_len 0 dims.places)) 0 dims.disks in
    ap (λ row. slice_index_or row place d) (get_or_past (table dims f) disk [] (rw rows past))

-- two tables that agree where there is a place
pub table_agree : {X : Type 0} (dims : Dims) (f g : ℕ → ℕ → X) (d : X) (disk place : ℕ)
    → (disk < dims.disks → place < dims.places → f disk place ≡ g disk place)
    → entry_at (table dims f) d disk place ≡ entry_at (table dims g) d disk place
table_agree dims f g d disk place same = elim (cases_lt disk dims.disks) [
  | inl a ↦ elim (cases_lt place dims.places) [
    | inl b ↦ table_at dims f d disk place a b ∙ same a b ∙ sym (table_at dims g d disk place a b)
    | inr past ↦ past_place dims f d disk place a past ∙ sym (past_place dims g d disk place a past)
  ]
  | inr past ↦ past_disk dims f d disk place past ∙ sym (past_disk dims g d disk place past)
]

-- a table that has the default everywhere
table_default : {X : Type 0} (dims : Dims) (f : ℕ → ℕ → X) (d : X) (disk place : ℕ)
    → (disk < dims.disks → place < dims.places → f disk place ≡ d) → entry_at (table dims f) d disk place ≡ d
table_default dims f d disk place same = elim (cases_lt disk dims.disks) [
  | inl a ↦ elim (cases_lt place dims.places) [
    | inl b ↦ table_at dims f d disk place a b ∙ same a b
    | inr past ↦ past_place dims f d disk place a past
  ]
  | inr past ↦ past_disk dims f d disk place past
]

-- there is no page from 516 on
pub past_pages : (s : Store) (page : ℕ) → 516 ≤ page → page_at (contents_of s) page ≡ []
unfolding contents_of
past_pages s page past =
    get_or_past (pages_of s.slate.items) page [] (rw (length-map-range_with_len (λ p. slate_page s.slate.items p) 0 516) past)

pub contents_same : (s t : Store) → t.dims ≡ s.dims → t.flat.items ≡ s.flat.items → t.slate.items ≡ s.slate.items
    → contents_of t ≡ contents_of s
unfolding contents_of
contents_same s t a b c =
    let held : Dims → List ℕ → List ℕ → Contents = λ d flat slate. record { disks = blocks_of d flat; pages = pages_of slate } in
    ap (λ d. held d t.flat.items t.slate.items) a
    ∙ ap (λ flat. held s.dims flat t.slate.items) b
    ∙ ap (λ slate. held s.dims s.flat.items slate) c

-- where no flag is set, no unit is dirty
pub all_clean : (s : Store) → ((k : ℕ) → flag_at s.dirty_blocks.items k ≡ false) → ((k : ℕ) → flag_at s.dirty_pages.items k ≡ false)
    → (u : RackUnit) → dirty_of s u ≡ false
unfolding dirty_of
all_clean s blocks pages (block_unit disk place) =
    table_default s.dims (λ d p. flag_at s.dirty_blocks.items (number s.dims d p)) false disk place
    (λ _ _. blocks (number s.dims disk place))
all_clean s blocks pages (page_unit page) = pages page

-- where the blocks and flags of other disks and places are as before, so are those units
pub block_moved : (s t : Store) (disk place : ℕ) → t.dims ≡ s.dims
    → (disk < s.dims.disks → place < s.dims.places → flat_at s.dims t.flat.items disk place ≡ flat_at s.dims s.flat.items disk place)
    → block_at (contents_of t) disk place ≡ block_at (contents_of s) disk place
unfolding contents_of
block_moved s t disk place d same =
    ap (λ (dims : Dims). entry_at (blocks_of dims t.flat.items) [] disk place) d
    ∙ table_agree s.dims (λ k p. flat_at s.dims t.flat.items k p) (λ k p. flat_at s.dims s.flat.items k p) [] disk place same

flag_moved : (s t : Store) (disk place : ℕ) → t.dims ≡ s.dims
    → (disk < s.dims.disks → place < s.dims.places
    → flag_at t.dirty_blocks.items (number s.dims disk place) ≡ flag_at s.dirty_blocks.items (number s.dims disk place))
    → dirty_of t (block_unit disk place) ≡ dirty_of s (block_unit disk place)
unfolding dirty_of
flag_moved s t disk place d same =
    ap (λ (dims : Dims). entry_at (flags_of dims t.dirty_blocks.items) false disk place) d
    ∙ table_agree s.dims (λ k p. flag_at t.dirty_blocks.items (number s.dims k p)) (λ k p. flag_at s.dirty_blocks.items (number s.dims k p))
    false disk place same

-- a block of a store that has these sizes
pub block_there : (s t : Store) (disk place : ℕ) → t.dims ≡ s.dims → disk < s.dims.disks → place < s.dims.places
    → block_at (contents_of t) disk place ≡ flat_at s.dims t.flat.items disk place
unfolding contents_of
block_there s t disk place d on_disk at_place =
    ap (λ (dims : Dims). entry_at (blocks_of dims t.flat.items) [] disk place) d
    ∙ table_at s.dims (λ k p. flat_at s.dims t.flat.items k p) [] disk place on_disk at_place

pub flag_there : (s t : Store) (disk place : ℕ) → t.dims ≡ s.dims → disk < s.dims.disks → place < s.dims.places
    → dirty_of t (block_unit disk place) ≡ flag_at t.dirty_blocks.items (number s.dims disk place)
unfolding dirty_of
flag_there s t disk place d on_disk at_place =
    ap (λ (dims : Dims). entry_at (flags_of dims t.dirty_blocks.items) false disk place) d
    ∙ table_at s.dims (λ k p. flag_at t.dirty_blocks.items (number s.dims k p)) false disk place on_disk at_place

-- the row of a call is within the disks of the store that is attached
pub row_fits : (store : Option Store) (s : Store) (attached : Bool) (places : List (Option ℕ)) (size : ℕ) → store ≡ Some s
    → RowFits (attached_at attached store) places size → AreOnDisks s.dims places
row_fits store s attached places size is fits =
    let e = same_dims s attached fits.dims (sym (ap (attached_at attached) is) ∙ fits.attached_is) in
    subst (λ (d : Dims). AreOnDisks d places) (sym e) fits.below

pub store_row_read : {T : Type 0} (store : Option Store) (s : Store) (attached : Bool) (places : List (Option ℕ)) (old new : List ℕ)
    (result : Result T Failed) (dims : Dims) → store ≡ Some s
    → AreOnDisks s.dims places
    → BlocksRead s.dims s.dims.disks (flat_at s.dims s.flat.items) places old new
    → attached_at attached store ≡ Some dims → RowRead true dims (contents_at store) places result old new
store_row_read store s attached places old new result dims is fits h ready =
    let here : attached_at attached (Some s) ≡ Some dims = sym (ap (attached_at attached) is) ∙ ready in
    subst (λ x. RowRead true dims (contents_at x) places result old new) (sym is)
    (subst (λ d. RowRead true d (contents_of s) places result old new) (same_dims s attached dims here) (record {
      taking = λ _ _ disk place below at. h.taking disk place below at ∙ sym (block_of s disk place below (fits disk place below at));
      resting = λ disk below at. h.resting disk below at;
    }))

pub store_synced : {T : Type 0} {f a b c f' a' b' c' : ℕ} {y z y' z' : Bool} (store : Option Store) (s t : Store) (attached : Bool) (x : T)
    → store ≡ Some s → t.dims ≡ s.dims → t.flat.items ≡ s.flat.items → t.slate.items ≡ s.slate.items
    → ((k : ℕ) → flag_at t.dirty_blocks.items k ≡ false) → ((k : ℕ) → flag_at t.dirty_pages.items k ≡ false)
    → Synced {T = T} (memory_view store attached f a b c y z) (Ok x) (memory_view (Some t) attached f' a' b' c' y' z')
store_synced {T} {f} {a} {b} {c} {f'} {a'} {b'} {c'} {y} {z} {y'} {z'} store s t attached x is d fl sl m p =
    let new = memory_view (Some t) attached f' a' b' c' y' z' in
    subst (λ v. Synced {T = T} (memory_view v attached f a b c y z) (Ok x) new) (sym is) (record {
      stands = ap Some d;
      contents = contents_same s t d fl sl;
      attached = attached_same attached s t d;
      clean = λ _. all_clean t m p;
      failed = λ e. absurd (false≢true e);
    })

pub store_row_written : {T : Type 0} {f a b c f' a' b' c' : ℕ} {y z y' z' : Bool} (store : Option Store) (s t : Store) (attached : Bool)
    (result : Result T Failed) (places : List (Option ℕ)) (bytes : List ℕ) (len : ℕ) (dims : Dims) → store ≡ Some s
    → AreOnDisks s.dims places
    → t.dims ≡ s.dims → t.slate.items ≡ s.slate.items → t.dirty_pages.items ≡ s.dirty_pages.items
    → BlocksWritten s.dims s.dims.disks places bytes len s.flat.items s.dirty_blocks.items t.flat.items t.dirty_blocks.items
    → (IsOk result → len ≡ s.dims.block) → attached_at attached store ≡ Some dims
    → RowWritten {T = T} true dims (memory_view store attached f a b c y z) places bytes result
    (memory_view (Some t) attached f' a' b' c' y' z')
unfolding dirty_of contents_of
store_row_written {T} {f} {a} {b} {c} {f'} {a'} {b'} {c'} {y} {z} {y'} {z'}
    store s t attached result places bytes len dims is fits d sl pm h whole ready =
    let here : attached_at attached (Some s) ≡ Some dims = sym (ap (attached_at attached) is) ∙ ready in
    let old = memory_view (Some s) attached f a b c y z in
    let new = memory_view (Some t) attached f' a' b' c' y' z' in
    subst (λ v. RowWritten {T = T} true dims (memory_view v attached f a b c y z) places bytes result new) (sym is)
    (subst (λ dims'. RowWritten {T = T} true dims' old places bytes result new) (same_dims s attached dims here) (record {
      only = record {
        stands = ap Some d;
        attached = attached_same attached s t d;
        contents = contents;
        dirty = dirty;
      };
      taking = λ _ good disk place below at.
          block_there s t disk place d below (fits disk place below at) ∙ h.taking disk place below at
          ∙ ap (λ n. take n (disk_bytes s.dims disk bytes) ++ drop n (flat_at s.dims s.flat.items disk place)) (whole good)
          ∙ whole_unit s.dims.block (disk_bytes s.dims disk bytes) (flat_at s.dims s.flat.items disk place)
          (chunk_short s.dims.block disk bytes) (chunk_short s.dims.block (number s.dims disk place) s.flat.items);
      own_dirty = λ _ disk place below at.
          flag_there s t disk place d below (fits disk place below at) ∙ h.made_dirty disk place below at;
    }))
  where
    contents : (u : RackUnit) → ¬ InRow places u → unit_at (contents_of t) u ≡ unit_at (contents_of s) u
    contents (block_unit disk place) apart = block_moved s t disk place d (λ l m. h.others disk place l m (λ at _. apart at))
    contents (page_unit page) apart = ap (λ (slate : List ℕ). slice_index_or (pages_of slate) page []) sl

    dirty : (u : RackUnit) → ¬ InRow places u → dirty_of t u ≡ dirty_of s u
    dirty (block_unit disk place) apart = flag_moved s t disk place d (λ l m. h.other_dirty disk place l m (λ at _. apart at))
    dirty (page_unit page) apart = ap (λ (flags : List Bool). flag_at flags page) pm

pub store_page_written : {T : Type 0} {f a b c f' a' b' c' : ℕ} {y z y' z' : Bool} (store : Option Store) (s t : Store) (attached : Bool)
    (result : Result T Failed) (page : ℕ) (bytes : List ℕ) (len : ℕ) → store ≡ Some s
    → page < 516 → length bytes ≡ 512 → len ≤ 512 → (IsOk result → len ≡ 512)
    → t.dims ≡ s.dims → t.flat.items ≡ s.flat.items → t.dirty_blocks.items ≡ s.dirty_blocks.items
    → t.slate.items ≡ put_mid (page * 512) len s.slate.items (take len bytes) → t.dirty_pages.items ≡ set s.dirty_pages.items page true
    → PageWritten {T = T} true (memory_view store attached f a b c y z) page bytes result
    (memory_view (Some t) attached f' a' b' c' y' z')
unfolding dirty_of contents_of
store_page_written {T} {f} {a} {b} {c} {f'} {a'} {b'} {c'} {y} {z} {y'} {z'}
    store s t attached result page bytes len is below long short whole d fl m sl pm =
    let new = memory_view (Some t) attached f' a' b' c' y' z' in
    subst (λ v. PageWritten {T = T} true (memory_view v attached f a b c y z) page bytes result new) (sym is) (record {
      only = record {
        stands = ap Some d;
        attached = attached_same attached s t d;
        contents = contents;
        dirty = dirty;
      };
      taking = λ _ good. page_of t page below ∙ ap (λ slate. slate_page slate page) sl
          ∙ chunk_same 512 page len s.slate.items (take len bytes) (omega (arith, s.slate_size)) (taken_long ∙ whole good)
          ∙ take_all len bytes (omega (arith, whole good));
      own_dirty = λ _. ap (λ (flags : List Bool). flag_at flags page) pm
          ∙ get_or-set_same s.dirty_pages.items page true false (omega (arith, s.dirty_pages_size));
    })
  where
    taken_long : length (take len bytes) ≡ len
    taken_long = simp length-take (omega arith)

    contents : (u : RackUnit) → ¬ IsPage page u → unit_at (contents_of t) u ≡ unit_at (contents_of s) u
    contents (block_unit disk place) apart = block_moved s t disk place d (λ _ _. ap (λ flat. flat_at s.dims flat disk place) fl)
    contents (page_unit k) apart = elim (cases_lt k 516) [
      | inl inside ↦
          page_of t k inside ∙ ap (λ slate. slate_page slate k) sl
          ∙ chunk_other 512 k page len len s.slate.items (take len bytes) apart (omega (arith, s.slate_size)) short refl taken_long
          ∙ sym (page_of s k inside)
      | inr past ↦ past_pages t k past ∙ sym (past_pages s k past)
    ]

    dirty : (u : RackUnit) → ¬ IsPage page u → dirty_of t u ≡ dirty_of s u
    dirty (block_unit disk place) apart = flag_moved s t disk place d (λ _ _. ap (λ flags. flag_at flags (number s.dims disk place)) m)
    dirty (page_unit k) apart = ap (λ (flags : List Bool). flag_at flags k) pm
        ∙ get_or-set_other s.dirty_pages.items page k true false apart

zeros : ℕ → List ℕ
zeros m = replicate m 0

-- a chunk of zeros
zeros_chunk : (w j m : ℕ) → j * w + w ≤ m → slice_chunk (zeros m) w j ≡ zeros w
unfolding zeros
zeros_chunk w j m fits = ext_get_or 0 (slice_chunk (zeros m) w j) (zeros w) (inside ∙ sym (length-replicate w 0)) each
  where
    inside : length (slice_chunk (zeros m) w j) ≡ w
    inside = simp (length-take, length-drop, length-replicate) (omega arith)

    each : (i : ℕ) → i < length (slice_chunk (zeros m) w j) → slice_index_or (slice_chunk (zeros m) w j) i 0 ≡ slice_index_or (zeros w) i 0
    each i below =
        get_or-take w (drop (j * w) (zeros m)) i 0 (omega (arith, inside))
        ∙ get_or-drop (j * w) (zeros m) i 0
        ∙ get_or-replicate m (j * w + i) 0 0 (omega (arith, inside))
        ∙ sym (get_or-replicate w i 0 0 (omega (arith, inside)))

all_false : (n k : ℕ) → flag_at (replicate n false) k ≡ false
all_false n k = elim (cases_lt k n) [
  | inl below ↦ get_or-replicate n k false false below
  | inr past ↦ get_or_past (replicate n false) k false (rw (length-replicate n false) past)
]

pub store_created : {T : Type 0} {f a b c f' a' b' c' : ℕ} {y z y' z' : Bool} (store : Option Store) (s : Store) (attached : Bool) (x : T)
    (dims : Dims) → store ≡ None
    → s.dims ≡ dims → s.flat.items ≡ replicate (dims.disks * dims.places * dims.block) 0 → s.slate.items ≡ replicate 264192 0
    → s.dirty_blocks.items ≡ replicate (dims.disks * dims.places) false → s.dirty_pages.items ≡ replicate 516 false
    → CreateDone {T = T} true true dims (memory_view store attached f a b c y z) (Ok x) (memory_view (Some s) false f' a' b' c' y' z')
unfolding zeros
store_created store s attached x dims is d fl sl m pm = record {
  answer = λ _. ap stands_at is;
  attached = refl;
  made = λ _ _. ap Some d;
  blank = λ _ _. record {
    blocks = λ disk place on_disk at_place. subst (IsBlankAt disk place) d (blank disk place) on_disk at_place;
    pages = λ page k. page_of s page k ∙ ap (λ slate. slate_page slate page) sl ∙ zeros_chunk 512 page 264192 (omega arith);
  };
  clean = λ _. all_clean s
      (λ k. ap (λ (flags : List Bool). flag_at flags k) m ∙ all_false (dims.disks * dims.places) k)
      (λ k. ap (λ (flags : List Bool). flag_at flags k) pm ∙ all_false 516 k);
  stands = λ e. absurd (false≢true e);
  contents = λ e. absurd (false≢true e);
  dirty = λ e. absurd (false≢true e);
}
  where
    IsBlankAt : ℕ → ℕ → Dims → Type 0
    IsBlankAt disk place dims' = disk < dims'.disks → place < dims'.places → block_at (contents_of s) disk place ≡ replicate dims'.block 0

    blank : (disk place : ℕ) → IsBlankAt disk place s.dims
    blank disk place on_disk at_place =
        let n = number s.dims disk place in
        let below = number_below s.dims disk place on_disk at_place in
        let room : n * s.dims.block + s.dims.block ≤ dims.disks * dims.places * dims.block =
        subst (λ (d' : Dims). n * s.dims.block + s.dims.block ≤ d'.disks * d'.places * d'.block) d
        (omega (arith, block_fits_at s.dims.block n (s.dims.disks * s.dims.places) below)) in
        block_of s disk place on_disk at_place ∙ ap (λ flat. flat_at s.dims flat disk place) fl
        ∙ zeros_chunk s.dims.block n (dims.disks * dims.places * dims.block) room
