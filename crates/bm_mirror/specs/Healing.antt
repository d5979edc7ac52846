-- What a heal did to the two sides: one is filled from the other.
use Rattle.std.specs.Prelude.{◌≡◌, ◌⊎◌, ◌&&◌, ℕ, ◌<◌, Bool, IsTrue, IsFalse, Result, Ok, Err, IsOk, Some, None}
use Rattle.bm_base.specs.declared.dims.Dims.{Dims}
use Rattle.bm_base.specs.Contents.{Contents, RackUnit, block_unit, page_unit, block_at, page_at}
use Rattle.bm_base.specs.Count.{Rose}
use Rattle.bm_rack.specs.RackView.{RackView, IsClean}
use Rattle.bm_rack.specs.Frames.{Keeps}
use Rattle.bm_mirror.specs.declared.healing.Healed.{Healed}
use Rattle.bm_mirror.specs.declared.healing.Healed.TheVariants.{Level, Apart}
use Rattle.bm_mirror.specs.declared.healing.HealError.{HealError}
use Rattle.bm_mirror.specs.declared.healing.HealError.TheVariants.{Failed}
use Rattle.bm_mirror.specs.TwoSides.{TwoSides}

-- the blocks at this place of every disk
abbrev pub IsAtPlace : ℕ → RackUnit → Type 0
IsAtPlace place (block_unit disk at) = at ≡ place
IsAtPlace place (page_unit page) = ⊥

-- the blocks at the places below this, on the disks of these sizes, and the pages below that
abbrev pub IsFilled : Dims → ℕ → ℕ → Contents → Contents → Type 0
IsFilled dims places pages from to =
    ((disk place : ℕ) → disk < dims.disks → place < places → block_at to disk place ≡ block_at from disk place)
    × ((page : ℕ) → page < pages → page_at to page ≡ page_at from page)

-- What stands and what is attached stay.
pub record StaysAttached (old new : RackView) : Type 0 where
  pub stands : new.stands ≡ old.stands
  pub attached : new.attached ≡ old.attached
  pub keeps : Keeps old new

-- The side that is in after a heal that answered so: it was synced and read.
pub record HealedFrom (result : Result Healed HealError) (old new : RackView) : Type 0 where
  pub stands : new.stands ≡ old.stands
  pub contents : new.contents ≡ old.contents
  pub attached : new.attached ≡ old.attached
  -- the sync leaves nothing dirty, or failed
  pub dirty : (new.dirty ≡ old.dirty) ⊎ IsClean new
  pub clean : IsOk result → IsClean new
  pub keeps : Keeps old new
  -- the heal fails only where this side's count of faults rose
  pub cause : result ≡ Err Failed → Rose old.faults new.faults

-- The other side after it.
pub record HealedTo (tells_stands told : Bool) (dims : Dims) (result : Result Healed HealError) (old new from : RackView) : Type 0 where
  -- one that is level is attached, has nothing dirty, and holds what the other holds
  pub attached : result ≡ Ok Level → new.attached ≡ Some dims
  pub clean : result ≡ Ok Level → IsClean new
  pub filled : IsTrue told → result ≡ Ok Level → IsFilled dims dims.places 516 from.contents new.contents
  pub keeps : Keeps old new
  -- it stays apart only where its count of faults rose or something else stood there, as far as that is told
  pub apart : result ≡ Ok Apart → IsTrue tells_stands
      → Rose old.faults new.faults ⊎ ((¬ (old.stands ≡ None)) × (¬ (old.stands ≡ Some dims)))

-- What a heal of a mirror did to its sides.
pub record MirrorHeal (left_stands left_contents right_stands right_contents : Bool) (dims : Dims) (result : Result Healed HealError)
    (old new : TwoSides) : Type 0 where
  -- both are in where it is level, and else the same as before
  pub level : result ≡ Ok Level → IsTrue new.sides.left × IsTrue new.sides.right
  pub apart : ¬ (result ≡ Ok Level) → new.sides ≡ old.sides
  -- no call is made where both are in
  pub idle : IsTrue old.sides.left → IsTrue old.sides.right → (result ≡ Ok Level) × (new.left ≡ old.left) × (new.right ≡ old.right)
  -- else the one that is out is filled from the other
  pub from_left : IsFalse old.sides.right → HealedFrom result old.left new.left
  pub to_right : IsFalse old.sides.right
      → HealedTo right_stands (left_contents && right_contents) dims result old.right new.right new.left
  pub from_right : IsFalse old.sides.left → HealedFrom result old.right new.right
  pub to_left : IsFalse old.sides.left
      → HealedTo left_stands (right_contents && left_contents) dims result old.left new.left new.right

-- what a mirror shows after a heal: at most a sync was made of it, and its counts stand but for that of faults
pub record ShowsTheSame (old new : RackView) : Type 0 where
  pub stands : new.stands ≡ old.stands
  pub contents : new.contents ≡ old.contents
  pub dirty : (new.dirty ≡ old.dirty) ⊎ IsClean new
  pub attached : new.attached ≡ old.attached
  pub moves : new.moves ≡ old.moves
  pub pages : new.pages ≡ old.pages
  pub syncs : new.syncs ≡ old.syncs
