-- Rows of blocks, one block of each disk.
use Rattle.std.specs.Prelude.{◌≡◌, ℕ, ◌+◌, ◌*◌, ◌^◌, ◌<◌, List}
use Rattle.std.specs.Fork.{slice_chunk}
use Rattle.bm_base.specs.declared.dims.Dims.{Dims}
use Rattle.bm_base.specs.declared.shape.Shape.{Shape}
use Rattle.bm_base.specs.declared.area.Area.{Area}
use Rattle.bm_base.specs.Shape.{load_stripes}
use Rattle.bm_base.specs.Area.{area_start}
use Rattle.bm_base.specs.Contents.{Contents, RackUnit, block_unit, page_unit, block_at}
use Rattle.bm_gf2.specs.declared.spread.Spread.{Spread}
use Rattle.bm_gf2.specs.Spread.{spread_value}

-- where the rows stand that follow one another from the first place on: each has one place on all disks
abbrev pub following : ℕ → ℕ → ℕ → ℕ
following first row disk = first + row

-- where the rows of a spread stand: on each disk in the load that the spread gives for its block,
-- and there in the load's row of the same number
abbrev pub spread_place : Shape → Area → Spread → ℕ → ℕ → ℕ
spread_place s area spread row disk = area_start s area + spread_value spread (row * 2 ^ s.d + disk) * load_stripes s + row

-- The bytes are the blocks of these rows, one after another: that of a row on a disk stands at `place row disk`.
abbrev pub HoldsRows : Dims → Contents → (ℕ → ℕ → ℕ) → ℕ → List ℕ → Type 0
HoldsRows dims contents place rows bytes = (row disk : ℕ) → row < rows → disk < dims.disks
    → slice_chunk bytes dims.block (row * dims.disks + disk) ≡ block_at contents disk (place row disk)

-- a block of one of these rows
abbrev pub IsRowsUnit : ℕ → (ℕ → ℕ → ℕ) → ℕ → RackUnit → Type 0
IsRowsUnit disks place rows (block_unit disk at) = (row : ℕ) × (row < rows) × (disk < disks) × (at ≡ place row disk)
IsRowsUnit disks place rows (page_unit page) = ⊥
