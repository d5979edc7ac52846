-- What a contract sees of a rack in memory.
use Rattle.std.specs.Prelude.{ℕ, Bool, true, false, List, [], slice_index_or, map, Option, Some, None}
use Rattle.std.specs.List.{range_with_len}
use Rattle.std.specs.Fork.{slice_chunk}
use Rattle.bm_base.specs.declared.dims.Dims.{Dims}
use Rattle.bm_base.specs.Contents.{Contents, RackUnit, block_unit, page_unit}
use Rattle.bm_rack.specs.RackView.{RackView}
use Rattle.bm_memrack.specs.declared.store.Store.{Store}
use Rattle.bm_memrack.specs.BlockCopy.{number, flat_at, flag_at}

-- f of each disk and place
unfoldable pub table : {X : Type 0} → Dims → (ℕ → ℕ → X) → List (List X)
table dims f = map (λ disk. map (λ place. f disk place) (range_with_len 0 dims.places)) (range_with_len 0 dims.disks)

-- the entry for this disk and place, or d where there is none
abbrev pub entry_at : {X : Type 0} → List (List X) → X → ℕ → ℕ → X
entry_at t d disk place = slice_index_or (slice_index_or t disk []) place d

-- the blocks of one list, by disk and place
abbrev pub blocks_of : Dims → List ℕ → List (List (List ℕ))
blocks_of dims flat = table dims (λ disk place. flat_at dims flat disk place)

-- their flags, by disk and place
abbrev pub flags_of : Dims → List Bool → List (List Bool)
flags_of dims flags = table dims (λ disk place. flag_at flags (number dims disk place))

-- the page of this number in a slate's bytes
abbrev pub slate_page : List ℕ → ℕ → List ℕ
slate_page slate page = slice_chunk slate 512 page

-- the pages of a slate's bytes
abbrev pub pages_of : List ℕ → List (List ℕ)
pages_of slate = map (λ page. slate_page slate page) (range_with_len 0 516)

-- what a store holds
unfoldable pub contents_of : Store → Contents
contents_of s = record { disks = blocks_of s.dims s.flat.items; pages = pages_of s.slate.items }

-- which of its units are dirty; units that it has not are not
unfoldable pub dirty_of : Store → RackUnit → Bool
dirty_of s (block_unit disk place) = entry_at (flags_of s.dims s.dirty_blocks.items) false disk place
dirty_of s (page_unit page) = flag_at s.dirty_pages.items page

-- what stands in memory, or nothing
abbrev pub stands_at : Option Store → Option Dims
stands_at None = None
stands_at (Some s) = Some s.dims

-- no blocks and no pages
abbrev pub no_contents : Contents
no_contents = record { disks = []; pages = [] }

-- what is held, where there is a store
abbrev pub contents_at : Option Store → Contents
contents_at None = no_contents
contents_at (Some s) = contents_of s

-- which units are dirty, where there is a store
abbrev pub dirty_at : Option Store → RackUnit → Bool
dirty_at None = λ u. false
dirty_at (Some s) = dirty_of s

-- what stands is attached, or nothing is
abbrev pub attached_at : Bool → Option Store → Option Dims
attached_at true store = stands_at store
attached_at false store = None

-- the view of a rack in memory
abbrev pub memory_view : Option Store → Bool → ℕ → ℕ → ℕ → ℕ → Bool → Bool → RackView
memory_view store attached faults moves pages syncs steady stopping = record {
  stands = stands_at store;
  contents = contents_at store;
  dirty = dirty_at store;
  attached = attached_at attached store;
  faults = faults;
  moves = moves;
  pages = pages;
  syncs = syncs;
  steady = steady;
  stopping = stopping;
  lasting = λ fact. false;
}

-- the view of a new one: nothing stands, nothing is attached or dirty, and every count is 0
abbrev pub new_view : Bool → RackView
new_view steady = record {
  stands = None;
  contents = no_contents;
  dirty = λ u. false;
  attached = None;
  faults = 0;
  moves = 0;
  pages = 0;
  syncs = 0;
  steady = steady;
  stopping = false;
  lasting = λ fact. false;
}
