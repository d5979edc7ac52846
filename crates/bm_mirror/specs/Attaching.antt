-- What an attach did to the sides of a mirror.
use Rattle.std.specs.Prelude.{◌≡◌, Bool, IsTrue, IsFalse, Result, Ok, Some}
use Rattle.bm_base.specs.declared.dims.Dims.{Dims}
use Rattle.bm_rack.specs.declared.rack.Found.{Found}
use Rattle.bm_rack.specs.declared.rack.Found.TheVariants.{Ready}
use Rattle.bm_rack.specs.declared.rack.AttachError.{AttachError}
use Rattle.bm_rack.specs.Frames.{SameDisks}
use Rattle.bm_rack.specs.Calls.{AttachAnswer}
use Rattle.bm_mirror.specs.declared.sides.Sides.{Sides}
use Rattle.bm_mirror.specs.TwoSides.{TwoSides, preferred}

-- The right side lapses in an attach: it goes out by its answer, with no fault. Both were in and the left one is ready, and what stands is
-- not told on both.
pub record Lapses (told : Bool) (result : Result Found AttachError) (was is : Bool) (old new : Sides) : Type 0 where
  pub stays : IsTrue was → IsTrue is
  pub since : IsFalse was → IsTrue is
      → IsFalse told × (result ≡ Ok Ready) × IsTrue old.left × IsTrue old.right × IsFalse new.right

-- The sides after they were attached in order.
pub record AttachedSides (told : Bool) (dims : Dims) (result : Result Found AttachError) (old new : TwoSides) : Type 0 where
  -- nothing but what is attached changed on either
  pub left : SameDisks old.left new.left
  pub right : SameDisks old.right new.right
  -- one is in at least
  pub some_in : IsFalse new.sides.left → IsTrue new.sides.right
  -- the answer is true of the side that is then asked first
  pub answer : IsTrue told → AttachAnswer (preferred new).stands dims result
  -- on Ready each that is in is attached
  pub left_ready : result ≡ Ok Ready → IsTrue new.sides.left → new.left.attached ≡ Some dims
  pub right_ready : result ≡ Ok Ready → IsTrue new.sides.right → new.right.attached ≡ Some dims
