-- Sound racks: a stop at this moment leaves contents that a run can go on from.
use Rattle.std.specs.Prelude.{◌≡◌, false, Some}
use Rattle.bm_base.specs.declared.dims.Dims.{Dims}
use Rattle.bm_base.specs.Contents.{Contents, RackUnit}
use Rattle.bm_rack.specs.RackView.{RackView}
use Rattle.bm_rack.specs.Image.{IsImage, InEveryImage, IsInputUnit}
use Rattle.bm_control.specs.Consistent.{IsConsistent}
use Rattle.bm_control.specs.Pages.{HasOpenLoad}

-- Every image is consistent, and where the load gate is open in some image no block of the input is dirty.
-- A rack on which nothing stands has no images, and is sound.
pub record IsSound (v : RackView) : Type 0 where
  pub consistent : (dims : Dims) → v.stands ≡ Some dims → InEveryImage (IsConsistent dims) v
  pub input : (dims : Dims) (image : Contents) → v.stands ≡ Some dims → IsImage dims v image → HasOpenLoad image
      → (u : RackUnit) → IsInputUnit dims u → v.dirty u ≡ false
