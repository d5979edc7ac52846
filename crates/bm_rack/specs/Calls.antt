-- What each call of a rack needs, answers and changes.
use Rattle.std.specs.Prelude.{Ok, Err, ◌≡◌, ℕ, ◌*◌, ◌<◌, Bool, true, IsTrue, List, length, slice_index_or, replicate, Option, Some, None}
use Rattle.std.specs.Prelude.{Result, IsOk, IsErr}
use Rattle.std.specs.Fork.{slice_chunk}
use Rattle.bm_base.specs.declared.dims.Dims.{Dims}
use Rattle.bm_base.specs.declared.fault.Failed.{Failed}
use Rattle.bm_base.specs.Contents.{Contents, RackUnit, block_unit, page_unit, block_at, page_at}
use Rattle.bm_rack.specs.declared.rack.Found.{Found}
use Rattle.bm_rack.specs.declared.rack.Found.TheVariants.{Ready, Absent, Other}
use Rattle.bm_rack.specs.declared.rack.AttachError.{AttachError}
use Rattle.bm_rack.specs.declared.rack.CreateError.{CreateError}
use Rattle.bm_rack.specs.declared.rack.CreateError.TheVariants.{Present}
use Rattle.bm_rack.specs.RackView.{RackView, IsClean}
use Rattle.bm_rack.specs.Frames.{ChangesOnly}

-- entry k of a row is the place on disk k, or nothing where disk k takes no part
abbrev pub place_on : List (Option ℕ) → ℕ → Option ℕ
place_on places disk = slice_index_or places disk None

-- a row call may be made: an entry for each disk, places on the disk, and a block for each disk
pub record RowFits (attached : Option Dims) (places : List (Option ℕ)) (size : ℕ) : Type 0 where
  pub dims : Dims
  pub attached_is : attached ≡ Some dims
  pub disks : length places ≡ dims.disks
  pub below : (disk place : ℕ) → disk < dims.disks → place_on places disk ≡ Some place → place < dims.places
  pub bytes : size ≡ dims.disks * dims.block

-- the bytes of a disk in a row's bytes
abbrev pub disk_bytes : Dims → ℕ → List ℕ → List ℕ
disk_bytes dims disk bytes = slice_chunk bytes dims.block disk

-- a row was read: a read that succeeds gives the contents, and disks that take no part keep their bytes
pub record RowRead {T : Type 0} (told : Bool) (dims : Dims) (contents : Contents) (places : List (Option ℕ)) (result : Result T Failed)
    (old new : List ℕ) : Type 0 where
  pub taking : IsTrue told → IsOk result → (disk place : ℕ) → disk < dims.disks → place_on places disk ≡ Some place
      → disk_bytes dims disk new ≡ block_at contents disk place
  pub resting : (disk : ℕ) → disk < dims.disks → place_on places disk ≡ None → disk_bytes dims disk new ≡ disk_bytes dims disk old

-- a unit of a row
abbrev pub InRow : List (Option ℕ) → RackUnit → Type 0
InRow places (block_unit disk place) = place_on places disk ≡ Some place
InRow places (page_unit page) = ⊥

-- a row was written: its units take the bytes where it succeeds, hold anything where it fails, and are dirty either way
pub record RowWritten {T : Type 0} (told : Bool) (dims : Dims) (old : RackView) (places : List (Option ℕ)) (bytes : List ℕ)
    (result : Result T Failed) (new : RackView) : Type 0 where
  pub only : ChangesOnly (InRow places) old new
  pub taking : IsTrue told → IsOk result → (disk place : ℕ) → disk < dims.disks → place_on places disk ≡ Some place
      → block_at new.contents disk place ≡ disk_bytes dims disk bytes
  pub own_dirty : IsTrue told → (disk place : ℕ) → disk < dims.disks → place_on places disk ≡ Some place
      → new.dirty (block_unit disk place) ≡ true

-- this page
abbrev pub IsPage : ℕ → RackUnit → Type 0
IsPage page (block_unit disk place) = ⊥
IsPage page (page_unit other) = other ≡ page

-- a page that was read, where the read succeeds
abbrev pub PageRead : {T : Type 0} → Bool → Contents → ℕ → Result T Failed → List ℕ → Type 0
PageRead told contents page result bytes = IsTrue told → IsOk result → bytes ≡ page_at contents page

-- a page was written: it takes the bytes where it succeeds, holds anything where it fails, and is dirty either way
pub record PageWritten {T : Type 0} (told : Bool) (old : RackView) (page : ℕ) (bytes : List ℕ) (result : Result T Failed)
    (new : RackView) : Type 0 where
  pub only : ChangesOnly (IsPage page) old new
  pub taking : IsTrue told → IsOk result → page_at new.contents page ≡ bytes
  pub own_dirty : IsTrue told → new.dirty (page_unit page) ≡ true

-- a sync: nothing is dirty where it succeeds, and nothing changes where it fails
pub record Synced {T : Type 0} (old : RackView) (result : Result T Failed) (new : RackView) : Type 0 where
  pub stands : new.stands ≡ old.stands
  pub contents : new.contents ≡ old.contents
  pub attached : new.attached ≡ old.attached
  pub clean : IsOk result → IsClean new
  pub failed : IsErr result → new.dirty ≡ old.dirty

-- what an attach answers, where what stands is told; the three exclude one another
abbrev pub AttachAnswer : Option Dims → Dims → Result Found AttachError → Type 0
AttachAnswer stands dims (Ok Ready) = stands ≡ Some dims
AttachAnswer stands dims (Ok Absent) = stands ≡ None
AttachAnswer stands dims (Ok Other) = (¬ (stands ≡ None)) × (¬ (stands ≡ Some dims))
AttachAnswer stands dims (Err e) = Unit {0}

-- what is attached after an attach: the sizes on Ready, and nothing on every other answer
abbrev pub attached_after : Dims → Result Found AttachError → Option Dims
attached_after dims (Ok Ready) = Some dims
attached_after dims (Ok Absent) = None
attached_after dims (Ok Other) = None
attached_after dims (Err e) = None

-- an attach looks what stands, and changes nothing but what is attached
pub record AttachDone (told : Bool) (dims : Dims) (old : RackView) (result : Result Found AttachError) (new : RackView) : Type 0 where
  pub answer : IsTrue told → AttachAnswer old.stands dims result
  pub attached : new.attached ≡ attached_after dims result
  pub stands : new.stands ≡ old.stands
  pub contents : new.contents ≡ old.contents
  pub dirty : new.dirty ≡ old.dirty

-- what a create answers, where what stands is told
abbrev pub CreateAnswer : {T : Type 0} → Option Dims → Result T CreateError → Type 0
CreateAnswer stands (Ok x) = stands ≡ None
CreateAnswer stands (Err Present) = ¬ (stands ≡ None)
CreateAnswer stands (Err e) = Unit {0}

-- every byte is zero
pub record IsBlank (dims : Dims) (c : Contents) : Type 0 where
  pub blocks : (disk place : ℕ) → disk < dims.disks → place < dims.places → block_at c disk place ≡ replicate dims.block 0
  pub pages : (page : ℕ) → page < 516 → page_at c page ≡ replicate 512 0

-- a create makes a rack of zeros where nothing stands, and on a refusal leaves what stands; nothing is attached after it
pub record CreateDone {T : Type 0} (told_stands told_contents : Bool) (dims : Dims) (old : RackView) (result : Result T CreateError)
    (new : RackView) : Type 0 where
  pub answer : IsTrue told_stands → CreateAnswer old.stands result
  pub attached : new.attached ≡ None
  pub made : IsTrue told_stands → IsOk result → new.stands ≡ Some dims
  pub blank : IsTrue told_contents → IsOk result → IsBlank dims new.contents
  pub clean : IsOk result → IsClean new
  pub stands : IsErr result → new.stands ≡ old.stands
  pub contents : IsErr result → new.contents ≡ old.contents
  pub dirty : IsErr result → new.dirty ≡ old.dirty
