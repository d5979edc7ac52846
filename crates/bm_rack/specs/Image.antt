-- What a stop may leave, and when the input is the same.
use Rattle.std.specs.Prelude.{◌≡◌, ◌*◌, ◌<◌, false, Some}
use Rattle.bm_base.specs.declared.dims.Dims.{Dims}
use Rattle.bm_base.specs.Contents.{Contents, RackUnit, block_unit, page_unit, unit_at, HasSizes}
use Rattle.bm_rack.specs.RackView.{RackView}

-- An image of a rack: contents of the same sizes that agree with it in every unit that is not dirty.
pub record IsImage (dims : Dims) (v : RackView) (image : Contents) : Type 0 where
  pub sizes : HasSizes dims image
  pub clean : (u : RackUnit) → v.dirty u ≡ false → unit_at image u ≡ unit_at v.contents u

-- a fact holds of every image
abbrev pub InEveryImage : (Contents → Type 0) → RackView → Type 0
InEveryImage P v = (dims : Dims) (image : Contents) → v.stands ≡ Some dims → IsImage dims v image → P image

-- a block of the first third of its disk, where the input stands
abbrev pub IsInputUnit : Dims → RackUnit → Type 0
IsInputUnit dims (block_unit disk place) = 3 * place < dims.places
IsInputUnit dims (page_unit page) = ⊥

-- The same input: its blocks are as before, and each that is dirty was dirty before.
pub record SameInput (dims : Dims) (old new : RackView) : Type 0 where
  pub contents : (u : RackUnit) → IsInputUnit dims u → unit_at new.contents u ≡ unit_at old.contents u
  pub dirty : (u : RackUnit) → IsInputUnit dims u → old.dirty u ≡ false → new.dirty u ≡ false
