-- Stops, and what stands after them.
use Rattle.std.specs.Prelude.{◌≡◌, Bool, false, IsTrue, Some}
use Rattle.bm_base.specs.declared.dims.Dims.{Dims}
use Rattle.bm_base.specs.Contents.{RackUnit, unit_at}
use Rattle.bm_rack.specs.RackView.{RackView, IsClean}
use Rattle.bm_rack.specs.Frames.{SameState, RaisesCounts}
use Rattle.bm_rack.specs.Image.{IsImage}

-- a stop was set ahead, or taken away
pub record StopSet (stops : Bool) (old new : RackView) : Type 0 where
  pub state : SameState old new
  pub counts : RaisesCounts 0 0 0 old new
  pub faults : new.faults ≡ old.faults
  pub steady : IsTrue old.steady → IsTrue new.steady
  pub stopping : new.stopping ≡ stops

-- A stop has ended: the rack holds one image, with nothing dirty.
-- What was clean is as before also where the sizes are not told, or nothing stands.
pub record Restarted (told_stands told_contents : Bool) (old new : RackView) : Type 0 where
  pub stands : new.stands ≡ old.stands
  pub attached : new.attached ≡ old.attached
  pub image : IsTrue told_stands → IsTrue told_contents → (dims : Dims) → old.stands ≡ Some dims → IsImage dims old new.contents
  pub clean_units : IsTrue told_contents → (u : RackUnit) → old.dirty u ≡ false → unit_at new.contents u ≡ unit_at old.contents u
  pub clean : IsClean new
  pub counts : RaisesCounts 0 0 0 old new
  pub faults : new.faults ≡ old.faults
  pub steady : IsTrue old.steady → IsTrue new.steady
  pub stopping : new.stopping ≡ false
