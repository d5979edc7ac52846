-- What a contract sees of a rack.
use Rattle.std.specs.Prelude.{◌≡◌, ℕ, ◌^◌, ◌<◌, Bool, false, IsTrue, List, Option, Some}
use Rattle.bm_base.specs.declared.dims.Dims.{Dims}
use Rattle.bm_base.specs.Contents.{Contents, RackUnit, HasSizes}

-- Contents, dirty and stands mean something only where the rack tells them.
pub record RackView : Type 0 where
  -- the sizes of what is there, or nothing
  pub stands : Option Dims
  -- all blocks and pages
  pub contents : Contents
  -- the units that were written, with or without success, since the last sync that succeeded
  pub dirty : RackUnit → Bool
  -- the sizes with which the last attach answered Ready, or nothing
  pub attached : Option Dims
  pub faults : ℕ
  -- row calls, page calls and syncs
  pub moves : ℕ
  pub pages : ℕ
  pub syncs : ℕ
  -- no call fails, but for a stop
  pub steady : Bool
  -- a stop is ahead, or was reached
  pub stopping : Bool
  -- Facts of the rack's own that no call takes back, each named by a list of numbers: one that is made of several racks tells so what
  -- became of them. Others have none.
  pub lasting : List ℕ → Bool

-- The parts of a view agree, at every moment.
pub record IsWellFormed (tells_stands tells_contents : Bool) (v : RackView) : Type 0 where
  pub attached : IsTrue tells_stands → (dims : Dims) → v.attached ≡ Some dims → v.stands ≡ Some dims
  pub sizes : IsTrue tells_stands → IsTrue tells_contents → (dims : Dims) → v.stands ≡ Some dims → HasSizes dims v.contents
  pub faults : v.faults < 2 ^ 64
  pub moves : v.moves < 2 ^ 64
  pub pages : v.pages < 2 ^ 64
  pub syncs : v.syncs < 2 ^ 64

-- some sizes are attached
abbrev pub IsAttached : Option Dims → Type 0
IsAttached attached = (dims : Dims) × (attached ≡ Some dims)

-- no unit is dirty
abbrev pub IsClean : RackView → Type 0
IsClean v = (u : RackUnit) → v.dirty u ≡ false
