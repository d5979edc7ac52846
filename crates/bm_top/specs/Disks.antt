-- Disks that were made or attached, and why they weren't.
use Rattle.std.specs.Prelude.{◌≡◌, ◌⊎◌, Bool, IsTrue, Some, None}
use Rattle.bm_base.specs.declared.dims.Dims.{Dims}
use Rattle.bm_rack.specs.RackView.{RackView, IsClean}
use Rattle.bm_rack.specs.Calls.{IsBlank}
use Rattle.bm_rack.specs.Frames.{SameDisks}
use Rattle.bm_top.specs.declared.disks.DisksError.{DisksError}
use Rattle.bm_top.specs.declared.disks.DisksError.TheVariants.{RackFault, OutOfMemory, Exists, NoDisks, WrongDims}
use Rattle.bm_top.specs.declared.status.Status.{Status}
use Rattle.bm_top.specs.declared.status.Status.TheVariants as status

-- where nothing stood, disks of zeros stand, with nothing dirty
pub record NewDisks (told_stands told_contents : Bool) (dims : Dims) (old new : RackView) : Type 0 where
  pub stood : IsTrue told_stands → old.stands ≡ None
  pub stands : IsTrue told_stands → new.stands ≡ Some dims
  pub blank : IsTrue told_contents → IsBlank dims new.contents
  pub clean : IsClean new

-- why no disks were made
abbrev pub CreateRefusal : Bool → RackView → DisksError → Type 0
CreateRefusal told old RackFault = Unit {0}
CreateRefusal told old OutOfMemory = Unit {0}
CreateRefusal told old Exists = IsTrue told → ¬ (old.stands ≡ None)
CreateRefusal told old NoDisks = ⊥
CreateRefusal told old WrongDims = ⊥

-- why no disks were attached
abbrev pub AttachRefusal : Bool → Dims → RackView → DisksError → Type 0
AttachRefusal told dims old RackFault = Unit {0}
AttachRefusal told dims old OutOfMemory = Unit {0}
AttachRefusal told dims old Exists = ⊥
AttachRefusal told dims old NoDisks = IsTrue told → old.stands ≡ None
AttachRefusal told dims old WrongDims = IsTrue told → (¬ (old.stands ≡ None)) × (¬ (old.stands ≡ Some dims))

-- the disks are as before, or were made
abbrev pub SameOrNewDisks : Bool → Bool → Dims → RackView → RackView → Type 0
SameOrNewDisks told_stands told_contents dims old new = SameDisks old new ⊎ NewDisks told_stands told_contents dims old new

-- Why no disks were made and attached. Those just made are there and of the right sizes, so NoDisks and WrongDims come of a rack alone that
-- doesn't tell what stands.
abbrev pub DisksRefusal : Bool → Bool → Dims → RackView → RackView → DisksError → Type 0
DisksRefusal told_stands told_contents dims old new RackFault = SameOrNewDisks told_stands told_contents dims old new
DisksRefusal told_stands told_contents dims old new OutOfMemory = SameOrNewDisks told_stands told_contents dims old new
DisksRefusal told_stands told_contents dims old new Exists = (IsTrue told_stands → ¬ (old.stands ≡ None)) × SameDisks old new
DisksRefusal told_stands told_contents dims old new NoDisks = (¬ IsTrue told_stands) × NewDisks told_stands told_contents dims old new
DisksRefusal told_stands told_contents dims old new WrongDims = (¬ IsTrue told_stands) × NewDisks told_stands told_contents dims old new

-- the answer of a command whose disks aren't ready
abbrev pub disks_status : DisksError → Status
disks_status RackFault = status.RackFault
disks_status OutOfMemory = status.OutOfMemory
disks_status Exists = status.Exists
disks_status NoDisks = status.NoDisks
disks_status WrongDims = status.WrongDims
