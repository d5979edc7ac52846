-- What a rack holds: for each disk the list of its blocks, and the list of the slate's pages.
use Rattle.std.specs.Prelude.{◌≡◌, ℕ, ◌<◌, List, [], length, slice_index_or}
use Rattle.bm_base.specs.declared.dims.Dims.{Dims}

-- blocks and pages, each a list of bytes
pub record Contents : Type 0 where
  pub disks : List (List (List ℕ))
  pub pages : List (List ℕ)

-- a unit is one block or one page
pub data RackUnit : Type 0 where
  -- of this disk at this place
  block_unit : ℕ → ℕ → RackUnit
  page_unit : ℕ → RackUnit

-- the block on this disk at this place
abbrev pub block_at : Contents → ℕ → ℕ → List ℕ
block_at c disk place = slice_index_or (slice_index_or c.disks disk []) place []

-- the page of this number
abbrev pub page_at : Contents → ℕ → List ℕ
page_at c page = slice_index_or c.pages page []

-- the bytes of a unit
abbrev pub unit_at : Contents → RackUnit → List ℕ
unit_at c (block_unit disk place) = block_at c disk place
unit_at c (page_unit page) = page_at c page

-- the contents have these sizes, with a slate of 516 pages of 512 bytes
pub record HasSizes (dims : Dims) (c : Contents) : Type 0 where
  pub disks : length c.disks ≡ dims.disks
  pub places : (disk : ℕ) → disk < dims.disks → length (slice_index_or c.disks disk []) ≡ dims.places
  pub block : (disk place : ℕ) → disk < dims.disks → place < dims.places → length (block_at c disk place) ≡ dims.block
  pub pages : length c.pages ≡ 516
  pub page : (page : ℕ) → page < 516 → length (page_at c page) ≡ 512
