-- The contents of a rack in memory have its sizes. These proofs stand in specs/, since the law of an `impl` takes none from proofs/.
use Rattle.std.proofs.Common.{◌≡◌, ℕ, ◌+◌, ◌*◌, ◌^◌, ◌<◌, ◌≤◌, Bool, true, false, [], length, slice_index_or, map, Option, Some, None, ◌∙◌}
use Rattle.std.proofs.Common.{ap, subst, arith, length-take, length-drop}
use Rattle.std.specs.List.{range_with_len}
use Rattle.std.proofs.lemmas.List.FromFn.{length-map-range_with_len, get_or-map-range_with_len}
use Rattle.std.proofs.lemmas.Nat.{mul-add-lt}
use Rattle.std.proofs.Math.Nat.{mul-le-mul_right}
use Rattle.bm_base.specs.declared.dims.Dims.{Dims}
use Rattle.bm_base.specs.Contents.{HasSizes, block_at, page_at}
use Rattle.bm_rack.specs.RackView.{IsWellFormed}
use Rattle.bm_memrack.specs.declared.store.Store.{Store}
use Rattle.bm_memrack.specs.BlockCopy.{number, flat_at}
use Rattle.bm_memrack.specs.Store.{table, entry_at, slate_page, contents_of, stands_at, contents_at, attached_at, memory_view}

pub table_row : {X : Type 0} (dims : Dims) (f : ℕ → ℕ → X) (disk : ℕ) → disk < dims.disks
    → slice_index_or (table dims f) disk [] ≡ map (λ place. f disk place) (range_with_len 0 dims.places)
unfolding table
table_row dims f disk below =
    get_or-map-range_with_len (λ d. map (λ place. f d place) (range_with_len 0 dims.places)) 0 dims.disks disk disk [] below (omega arith)

pub table_at : {X : Type 0} (dims : Dims) (f : ℕ → ℕ → X) (d : X) (disk place : ℕ) → disk < dims.disks → place < dims.places
    → entry_at (table dims f) d disk place ≡ f disk place
table_at dims f d disk place on_disk at_place =
    ap (λ row. slice_index_or row place d) (table_row dims f disk on_disk)
    ∙ get_or-map-range_with_len (λ p. f disk p) 0 dims.places place place d at_place (omega arith)

pub block_of : (s : Store) (disk place : ℕ) → disk < s.dims.disks → place < s.dims.places
    → block_at (contents_of s) disk place ≡ flat_at s.dims s.flat.items disk place
unfolding contents_of
block_of s disk place on_disk at_place = table_at s.dims (λ d p. flat_at s.dims s.flat.items d p) [] disk place on_disk at_place

pub page_of : (s : Store) (page : ℕ) → page < 516 → page_at (contents_of s) page ≡ slate_page s.slate.items page
unfolding contents_of
page_of s page below = get_or-map-range_with_len (λ p. slate_page s.slate.items p) 0 516 page page [] below (omega arith)

pub sizes_of : (s : Store) → HasSizes s.dims (contents_of s)
unfolding contents_of table
sizes_of s = record {
  disks = length-map-range_with_len (λ d. map (λ p. flat_at s.dims s.flat.items d p) (range_with_len 0 s.dims.places)) 0 s.dims.disks;
  places = λ disk below.
      ap length (table_row s.dims (λ d p. flat_at s.dims s.flat.items d p) disk below)
      ∙ length-map-range_with_len (λ p. flat_at s.dims s.flat.items disk p) 0 s.dims.places;
  block = λ disk place on_disk at_place. ap length (block_of s disk place on_disk at_place) ∙ block_long disk place on_disk at_place;
  pages = length-map-range_with_len (λ page. slate_page s.slate.items page) 0 516;
  page = λ page below. ap length (page_of s page below) ∙ page_long page below;
}
  where
    block_long : (disk place : ℕ) → disk < s.dims.disks → place < s.dims.places
        → length (flat_at s.dims s.flat.items disk place) ≡ s.dims.block
    block_long disk place on_disk at_place =
        let n = number s.dims disk place in
        let below = mul-add-lt disk s.dims.places place s.dims.disks on_disk at_place in
        let fits : (n + 1) * s.dims.block ≤ s.dims.disks * s.dims.places * s.dims.block = mul-le-mul_right s.dims.block (omega arith) in
        let size = s.flat_size in
        simp (length-take, length-drop) (omega arith)

    page_long : (page : ℕ) → page < 516 → length (slate_page s.slate.items page) ≡ 512
    page_long page below = let size = s.slate_size in simp (length-take, length-drop) (omega arith)

stands_if : (attached : Bool) (store : Option Store) (dims : Dims) → attached_at attached store ≡ Some dims → stands_at store ≡ Some dims
stands_if true store dims h = h
stands_if false store dims h = absurd (none h)
  where
    none : None ≡ Some dims → ⊥
    none e = cc

pub store_sizes : (store : Option Store) (dims : Dims) → stands_at store ≡ Some dims → HasSizes dims (contents_at store)
store_sizes None dims h = absurd (none h)
  where
    none : None ≡ Some dims → ⊥
    none e = cc
store_sizes (Some s) dims h = subst (λ d. HasSizes d (contents_of s)) (same h) (sizes_of s)
  where
    same : Some s.dims ≡ Some dims → s.dims ≡ dims
    same e = cc

pub memory_well_formed : (store : Option Store) (attached : Bool) (faults moves pages syncs : ℕ) (steady stopping : Bool)
    → faults < 2 ^ 64 → moves < 2 ^ 64 → pages < 2 ^ 64 → syncs < 2 ^ 64
    → IsWellFormed true true (memory_view store attached faults moves pages syncs steady stopping)
memory_well_formed store attached faults moves pages syncs steady stopping few_faults few_moves few_pages few_syncs = record {
  attached = λ _ dims h. stands_if attached store dims h;
  sizes = λ _ _ dims h. store_sizes store dims h;
  faults = few_faults;
  moves = few_moves;
  pages = few_pages;
  syncs = few_syncs;
}
