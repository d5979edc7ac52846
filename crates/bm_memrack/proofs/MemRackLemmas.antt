-- A rack in memory that fails as it was told, and what a stop leaves of it.
use Rattle.std.proofs.Common.{◌≡◌, inl, inr, ℕ, ◌+◌, ◌*◌, ◌/◌, ◌%◌, ◌^◌, ◌<◌, ◌≤◌, Bool, true, false, if◌then◌else◌, List, ◌++◌, length}
use Rattle.std.proofs.Common.{length-take, take, drop, Option, Some, Result, Ok, Err, IsOk, IsErr, is_err, sym, ◌∙◌, ap, refl, subst, arith}
use Rattle.std.specs.Fork.{slice_chunk}
use Rattle.std.proofs.lemmas.Bool.{cases_lt, false≢true}
use Rattle.std.proofs.Math.Nat.{div-add-mod, div-lt_iff_lt-mul, mod-lt}
use borrow.Rule.Slice.PartMut.{put_mid}
use Rattle.bm_base.specs.declared.dims.Dims.{Dims}
use Rattle.bm_base.specs.declared.fault.Failed.{Failed}
use Rattle.bm_base.specs.Contents.{RackUnit, block_unit, page_unit, unit_at}
use Rattle.bm_rack.specs.Calls.{disk_bytes}
use Rattle.bm_rack.specs.Sessions.{Restarted}
use Rattle.bm_rack.proofs.FrameLemmas.{raised-zero}
use Rattle.bm_memrack.specs.declared.store.Store.{Store}
use Rattle.bm_memrack.specs.MemRack.{torn, IsTornRow, IsTornPage}
use Rattle.bm_memrack.specs.BlockCopy.{number, flat_at, flag_at, AreOnDisks, BlocksWritten}
use Rattle.bm_memrack.specs.CrashChoice.{choice_of, remains_of, dirty_count, unit_after, LeavesChosen}
use Rattle.bm_memrack.specs.Store.{slate_page, contents_of, dirty_of, stands_at, contents_at, dirty_at, attached_at, memory_view}
use Rattle.bm_memrack.specs.SizeLemmas.{block_of, page_of, store_sizes}
use Rattle.bm_memrack.proofs.BlockCopyLemmas.{number_below, chunk_front}
use Rattle.bm_memrack.proofs.CrashChoiceLemmas.{unit_after_clean, dirty_count_agree}
use Rattle.bm_memrack.proofs.StoreLemmas.{same_dims, attached_same, past_pages, block_moved, block_there, flag_there}

-- a write that succeeds sets the whole of its units
pub whole_if_ok : {T : Type 0} (result : Result T Failed) (fails : Bool) (len whole : ℕ) → len ≡ (if fails then whole / 2 else whole)
    → is_err result ≡ fails → IsOk result → len ≡ whole
whole_if_ok (Ok x) false len whole is e ok = is
whole_if_ok (Ok x) true len whole is e ok = absurd (false≢true e)
whole_if_ok (Err x) fails len whole is e ok = absurd (false≢true ok)

-- and one that fails the first half
pub half_if_err : {T : Type 0} (result : Result T Failed) (fails : Bool) (len whole : ℕ) → len ≡ (if fails then whole / 2 else whole)
    → is_err result ≡ fails → IsErr result → len ≡ whole / 2
half_if_err (Err x) true len whole is e err = is
half_if_err (Err x) false len whole is e err = absurd (false≢true (sym e))
half_if_err (Ok x) fails len whole is e err = absurd (false≢true err)

-- no write sets more
pub at_most_whole : (fails : Bool) (len whole : ℕ) → len ≡ (if fails then whole / 2 else whole) → len ≤ whole
at_most_whole true len whole is = omega arith
at_most_whole false len whole is = omega arith

pub store_row_torn : (store : Option Store) (s t : Store) (attached : Bool) (places : List (Option ℕ)) (bytes : List ℕ) (len : ℕ)
    (dims : Dims) → store ≡ Some s → AreOnDisks s.dims places → t.dims ≡ s.dims
    → BlocksWritten s.dims s.dims.disks places bytes len s.flat.items s.dirty_blocks.items t.flat.items t.dirty_blocks.items
    → len ≡ s.dims.block / 2 → attached_at attached store ≡ Some dims
    → IsTornRow dims places bytes (contents_at store) (contents_of t)
store_row_torn store s t attached places bytes len dims is fits d h half ready =
    let here : attached_at attached (Some s) ≡ Some dims = sym (ap (attached_at attached) is) ∙ ready in
    subst (λ v. IsTornRow dims places bytes (contents_at v) (contents_of t)) (sym is)
    (subst (λ d'. IsTornRow d' places bytes (contents_of s) (contents_of t)) (same_dims s attached dims here)
    (λ disk place below at.
    block_there s t disk place d below (fits disk place below at) ∙ h.taking disk place below at
    ∙ ap (λ n. take n (disk_bytes s.dims disk bytes) ++ drop n (flat_at s.dims s.flat.items disk place)) half
    ∙ ap (λ old. torn s.dims.block old (disk_bytes s.dims disk bytes)) (sym (block_of s disk place below (fits disk place below at)))))

pub store_page_torn : (store : Option Store) (s t : Store) (page : ℕ) (bytes : List ℕ) (len : ℕ) → store ≡ Some s
    → page < 516 → length bytes ≡ 512 → len ≡ 512 / 2
    → t.slate.items ≡ put_mid (page * 512) len s.slate.items (take len bytes)
    → IsTornPage page bytes (contents_at store) (contents_of t)
store_page_torn store s t page bytes len is below long half sl =
    let taken_long : length (take len bytes) ≡ len = simp length-take (omega (arith, half, long)) in
    subst (λ v. IsTornPage page bytes (contents_at v) (contents_of t)) (sym is)
    (page_of t page below ∙ ap (λ slate. slate_page slate page) sl
    ∙ chunk_front 512 page len s.slate.items (take len bytes) (omega (arith, s.slate_size)) (omega (arith, half)) taken_long
    ∙ ap (λ n. take n bytes ++ drop n (slate_page s.slate.items page)) half
    ∙ ap (λ old. torn 512 old bytes) (sym (page_of s page below)))

-- a stop left of the slate of s that of t, and of its blocks those of t
abbrev pub LeavesSlate : ℕ → Store → Store → Type 0
LeavesSlate pick s t = (k : ℕ) → k < 516
    → slice_chunk t.slate.items 512 k ≡ unit_after (flag_at s.dirty_pages.items) 0 pick k (slice_chunk s.slate.items 512 k)

abbrev pub LeavesBlocks : ℕ → Store → Store → Type 0
LeavesBlocks pick s t = (k : ℕ) → k < s.dims.disks * s.dims.places
    → slice_chunk t.flat.items s.dims.block k
    ≡ unit_after (flag_at s.dirty_blocks.items) (dirty_count (flag_at s.dirty_pages.items) 516) pick k
    (slice_chunk s.flat.items s.dims.block k)

-- a stop leaves the units that are not dirty
crash_keeps : (s t : Store) (pick : ℕ) → t.dims ≡ s.dims → LeavesSlate pick s t → LeavesBlocks pick s t
    → (u : RackUnit) → dirty_of s u ≡ false → unit_at (contents_of t) u ≡ unit_at (contents_of s) u
unfolding dirty_of
crash_keeps s t pick d pages blocks (block_unit disk place) was =
    let n = number s.dims disk place in
    let first = dirty_count (flag_at s.dirty_pages.items) 516 in
    block_moved s t disk place d (λ on_disk at_place.
    blocks n (number_below s.dims disk place on_disk at_place)
    ∙ unit_after_clean (flag_at s.dirty_blocks.items) first pick n (flat_at s.dims s.flat.items disk place)
    (sym (flag_there s s disk place refl on_disk at_place) ∙ was))
crash_keeps s t pick d pages blocks (page_unit page) was = elim (cases_lt page 516) [
  | inl inside ↦
      page_of t page inside ∙ pages page inside
      ∙ unit_after_clean (flag_at s.dirty_pages.items) 0 pick page (slate_page s.slate.items page) was
      ∙ sym (page_of s page inside)
  | inr past ↦ past_pages t page past ∙ sym (past_pages s page past)
]

-- after a stop the rack holds an image
pub store_restarted : {f a b c : ℕ} {y z : Bool} (store : Option Store) (s t : Store) (attached : Bool) (pick : ℕ) → store ≡ Some s
    → a < 2 ^ 64 → b < 2 ^ 64 → c < 2 ^ 64
    → t.dims ≡ s.dims → LeavesSlate pick s t → LeavesBlocks pick s t → ((u : RackUnit) → dirty_of t u ≡ false)
    → Restarted true true (memory_view store attached f a b c y z) (memory_view (Some t) attached f a b c y false)
store_restarted {f} {a} {b} {c} {y} {z} store s t attached pick is few_moves few_pages few_syncs d pages blocks clean =
    let new = memory_view (Some t) attached f a b c y false in
    subst (λ v. Restarted true true (memory_view v attached f a b c y z) new) (sym is) (record {
      stands = ap Some d;
      attached = attached_same attached s t d;
      image = λ _ _ dims stands. record {
        sizes = store_sizes (Some t) dims (ap Some d ∙ stands);
        clean = crash_keeps s t pick d pages blocks;
      };
      clean_units = λ _. crash_keeps s t pick d pages blocks;
      clean = clean;
      counts = record {
        moves = sym (raised-zero a few_moves);
        pages = sym (raised-zero b few_pages);
        syncs = sym (raised-zero c few_syncs);
      };
      faults = refl;
      steady = λ h. h;
      stopping = refl;
    })

-- the flag of block number n, by its disk and place
flag_of_block : (s : Store) (n : ℕ) → 0 < s.dims.places → n < s.dims.disks * s.dims.places
    → flag_at s.dirty_blocks.items n ≡ dirty_of s (block_unit (n / s.dims.places) (n % s.dims.places))
flag_of_block s n some below =
    let disk = n / s.dims.places in
    let place = n % s.dims.places in
    let at : number s.dims disk place ≡ n = omega (arith, div-add-mod n s.dims.places) in
    sym (flag_there s s disk place refl ((div-lt_iff_lt-mul some).1 below) (mod-lt n some) ∙ ap (flag_at s.dirty_blocks.items) at)

-- each dirty unit has what its digit chooses
pub store_chosen : (store : Option Store) (s t : Store) (pick : ℕ) (dims : Dims) → store ≡ Some s
    → t.dims ≡ s.dims → LeavesSlate pick s t → LeavesBlocks pick s t
    → stands_at store ≡ Some dims → LeavesChosen dims pick (dirty_at store) (contents_at store) (contents_of t)
unfolding dirty_of
store_chosen store s t pick dims is d pages blocks stands =
    let there : Some s.dims ≡ Some dims = sym (ap stands_at is) ∙ stands in
    let same : s.dims ≡ dims = cc in
    subst (λ v. LeavesChosen dims pick (dirty_at v) (contents_at v) (contents_of t)) (sym is)
    (subst (λ d'. LeavesChosen d' pick (dirty_of s) (contents_of s) (contents_of t)) same chosen)
  where
    remains : Bool → ℕ → List ℕ → List ℕ
    remains dirty unit bytes = if dirty then remains_of (choice_of pick unit) bytes else bytes

    page_flags : ℕ → Bool
    page_flags = flag_at s.dirty_pages.items

    block_flags : ℕ → Bool
    block_flags k = dirty_of s (block_unit (k / s.dims.places) (k % s.dims.places))

    chosen : LeavesChosen s.dims pick (dirty_of s) (contents_of s) (contents_of t)
    chosen (page_unit page) inside =
        page_of t page inside ∙ pages page inside
        ∙ ap (λ (unit : ℕ). remains (page_flags page) unit (slate_page s.slate.items page)) (omega arith)
        ∙ ap (λ bytes. remains (page_flags page) (dirty_count page_flags page) bytes) (sym (page_of s page inside))
    chosen (block_unit disk place) inside =
        let n = number s.dims disk place in
        let first = dirty_count page_flags 516 in
        let below = number_below s.dims disk place inside.0 inside.1 in
        let block = flat_at s.dims s.flat.items disk place in
        let dirty = dirty_of s (block_unit disk place) in
        let counted : dirty_count (flag_at s.dirty_blocks.items) n ≡ dirty_count block_flags n =
        dirty_count_agree (flag_at s.dirty_blocks.items) block_flags n
        (λ k before. flag_of_block s k (omega (arith, inside.1)) (omega (arith, before, below))) in
        block_there s t disk place d inside.0 inside.1
        ∙ blocks n below
        ∙ ap (λ flag. remains flag (first + dirty_count (flag_at s.dirty_blocks.items) n) block)
        (sym (flag_there s s disk place refl inside.0 inside.1))
        ∙ ap (λ count. remains dirty (first + count) block) counted
        ∙ ap (λ bytes. remains dirty (first + dirty_count block_flags n) bytes) (sym (block_of s disk place inside.0 inside.1))
