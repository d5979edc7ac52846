-- A rack's blocks, one after another in one list, and rows of them that are read and written.
use Rattle.std.specs.Prelude.{◌≡◌, ℕ, ◌+◌, ◌*◌, ◌<◌, ◌≤◌, Bool, true, false, List, ◌++◌, take, drop, slice_index_or, replicate, Option}
use Rattle.std.specs.Prelude.{Some, None}
use Rattle.std.specs.Fork.{slice_chunk}
use Rattle.bm_base.specs.declared.dims.Dims.{Dims}
use Rattle.bm_rack.specs.Calls.{place_on, disk_bytes}

-- the number of a block in that list: disk after disk
abbrev pub number : Dims → ℕ → ℕ → ℕ
number dims disk place = disk * dims.places + place

-- the block on this disk at this place
abbrev pub flat_at : Dims → List ℕ → ℕ → ℕ → List ℕ
flat_at dims flat disk place = slice_chunk flat dims.block (number dims disk place)

-- the flag of unit k of a list
abbrev pub flag_at : List Bool → ℕ → Bool
flag_at flags k = slice_index_or flags k false

-- a block of zeros, whatever its disk and place
abbrev pub zero_block : Dims → ℕ → ℕ → List ℕ
zero_block dims disk place = replicate dims.block 0

-- each place of a row is on its disk
abbrev pub AreOnDisks : Dims → List (Option ℕ) → Type 0
AreOnDisks dims places = (disk place : ℕ) → disk < dims.disks → place_on places disk ≡ Some place → place < dims.places

-- The first disks were served: those that take part give their block, and every other disk keeps its bytes.
pub record BlocksRead (dims : Dims) (disks : ℕ) (block_of : ℕ → ℕ → List ℕ) (places : List (Option ℕ)) (old new : List ℕ) : Type 0 where
  pub taking : (disk place : ℕ) → disk < disks → place_on places disk ≡ Some place → disk_bytes dims disk new ≡ block_of disk place
  pub resting : (disk : ℕ) → disk < disks → place_on places disk ≡ None → disk_bytes dims disk new ≡ disk_bytes dims disk old
  pub later : (disk : ℕ) → disks ≤ disk → disk < dims.disks → disk_bytes dims disk new ≡ disk_bytes dims disk old

-- another block than those of the first disks of a row
abbrev pub IsOther : ℕ → List (Option ℕ) → ℕ → ℕ → Type 0
IsOther disks places disk place = place_on places disk ≡ Some place → ¬ (disk < disks)

-- The first disks were served: each that takes part takes the first bytes of its block, which is dirty; every other block is as before.
pub record BlocksWritten (dims : Dims) (disks : ℕ) (places : List (Option ℕ)) (bytes : List ℕ) (len : ℕ)
    (old : List ℕ) (old_dirty : List Bool) (new : List ℕ) (new_dirty : List Bool) : Type 0 where
  pub taking : (disk place : ℕ) → disk < disks → place_on places disk ≡ Some place
      → flat_at dims new disk place ≡ take len (disk_bytes dims disk bytes) ++ drop len (flat_at dims old disk place)
  pub made_dirty : (disk place : ℕ) → disk < disks → place_on places disk ≡ Some place
      → flag_at new_dirty (number dims disk place) ≡ true
  pub others : (disk place : ℕ) → disk < dims.disks → place < dims.places → IsOther disks places disk place
      → flat_at dims new disk place ≡ flat_at dims old disk place
  pub other_dirty : (disk place : ℕ) → disk < dims.disks → place < dims.places → IsOther disks places disk place
      → flag_at new_dirty (number dims disk place) ≡ flag_at old_dirty (number dims disk place)
