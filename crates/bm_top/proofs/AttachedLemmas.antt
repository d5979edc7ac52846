-- What is told of the moment before the disks were attached.
use Rattle.std.proofs.Common.{◌≡◌, Bool, false, IsTrue, Some, sym, ap, ◌∙◌}
use Rattle.bm_base.specs.declared.dims.Dims.{Dims}
use Rattle.bm_base.specs.Contents.{Contents, RackUnit, unit_at}
use Rattle.bm_base.specs.Shape.{dims_of}
use Rattle.bm_rack.specs.RackView.{RackView, IsWellFormed}
use Rattle.bm_rack.specs.Image.{SameInput}
use Rattle.bm_top.specs.Exits.{AttachedFrom, KeepsUnits}
use Rattle.bm_top.specs.Moment.{Tells}
use Rattle.bm_top.specs.declared.task.Task.{Task}

-- the disks of the shape stood
pub disks_stand : (t : Tells) (task : Task) (before mid : RackView) → IsWellFormed t.stands t.contents mid
    → mid.attached ≡ Some (dims_of task.shape) → AttachedFrom before mid → IsTrue t.stands → before.stands ≡ Some (dims_of task.shape)
disks_stand t task before mid well attached from told = sym from.disks.stands ∙ well.attached told (dims_of task.shape) attached

-- units that a call on attached disks kept
pub units_after : (P : RackUnit → Type 0) (before mid new : RackView) → AttachedFrom before mid
    → ((u : RackUnit) → P u → unit_at new.contents u ≡ unit_at mid.contents u)
    → ((u : RackUnit) → P u → mid.dirty u ≡ false → new.dirty u ≡ false) → KeepsUnits P before new
units_after P before mid new from contents dirty = record {
  contents = λ u p. contents u p ∙ ap (λ (v : Contents). unit_at v u) from.disks.contents;
  dirty = λ u p clean. dirty u p (ap (λ (f : RackUnit → Bool). f u) from.disks.dirty ∙ clean);
}

-- and the input
pub input_after : (dims : Dims) (before mid new : RackView) → AttachedFrom before mid → SameInput dims mid new → SameInput dims before new
input_after dims before mid new from same = record {
  contents = λ u p. same.contents u p ∙ ap (λ (v : Contents). unit_at v u) from.disks.contents;
  dirty = λ u p clean. same.dirty u p (ap (λ (f : RackUnit → Bool). f u) from.disks.dirty ∙ clean);
}
