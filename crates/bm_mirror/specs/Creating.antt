-- What a create did to the sides of a mirror.
use Rattle.std.specs.Prelude.{◌≡◌, ◌⊎◌, Bool, IsTrue, IsFalse, Result, Err, IsOk, IsErr, IsErrOf, Some, None}
use Rattle.bm_base.specs.declared.dims.Dims.{Dims}
use Rattle.bm_base.specs.Count.{Rose}
use Rattle.bm_rack.specs.declared.rack.CreateError.{CreateError}
use Rattle.bm_rack.specs.declared.rack.CreateError.TheVariants.{Failed, Present, OutOfMemory}
use Rattle.bm_rack.specs.RackView.{RackView, IsClean}
use Rattle.bm_rack.specs.Calls.{CreateAnswer, IsBlank}
use Rattle.bm_rack.specs.Frames.{Keeps, SameDisks}
use Rattle.bm_mirror.specs.TwoSides.{TwoSides}

-- a rack of zeros stands, with nothing dirty
pub record IsMade (tells_stands tells_contents : Bool) (dims : Dims) (v : RackView) : Type 0 where
  pub stands : IsTrue tells_stands → v.stands ≡ Some dims
  pub blank : IsTrue tells_contents → IsBlank dims v.contents
  pub clean : IsClean v

-- What a create did to the side that is asked first.
pub record PreferredCreated {T : Type 0} (tells_stands tells_contents : Bool) (dims : Dims) (result : Result T CreateError)
    (old new : RackView) : Type 0 where
  pub answer : IsTrue tells_stands → CreateAnswer old.stands result
  pub made : IsOk result → IsMade tells_stands tells_contents dims new
  -- a refusal leaves what it holds
  pub kept : IsErr result → SameDisks old new
  pub keeps : Keeps old new
  -- the create fails only where this side's count of faults rose
  pub cause : IsErrOf result Failed → Rose old.faults new.faults

-- What a create did to the other side, which was out before it and is in or out after it.
pub record OtherCreated {T : Type 0} (tells_stands tells_contents : Bool) (dims : Dims) (result : Result T CreateError)
    (is_in starved : Bool) (old new : RackView) : Type 0 where
  -- a refusal leaves it out
  pub refused : IsErr result → IsFalse is_in
  -- one that comes in was made
  pub made : IsOk result → IsTrue is_in → IsMade tells_stands tells_contents dims new
  -- one that was out stays out only where its count of faults rose, or something stood there, as far as that is told
  pub stays_out : IsOk result → IsFalse is_in → Rose old.faults new.faults ⊎ (IsTrue tells_stands → ¬ (old.stands ≡ None))
  -- where memory was refused, it was made only where no other create is begun
  pub spared : result ≡ Err OutOfMemory → IsFalse starved → new.stands ≡ old.stands
  pub keeps : Keeps old new

-- What a create of a mirror did to its sides, of which the left one is asked first where it is in, else the right one.
pub record MirrorCreate {T : Type 0} (left_stands left_contents right_stands right_contents : Bool) (dims : Dims)
    (result : Result T CreateError) (starved : Bool) (old new : TwoSides) : Type 0 where
  -- neither is asked where both are in, as something stands there
  pub idle : IsTrue old.sides.left → IsTrue old.sides.right → (result ≡ Err Present) × (new ≡ old)
  pub left_first : IsTrue old.sides.left → IsFalse old.sides.right
      → PreferredCreated left_stands left_contents dims result old.left new.left
  pub right_other : IsTrue old.sides.left → IsFalse old.sides.right
      → OtherCreated right_stands right_contents dims result new.sides.right starved old.right new.right
  pub left_stays : IsTrue old.sides.left → IsTrue new.sides.left
  pub right_first : IsFalse old.sides.left → PreferredCreated right_stands right_contents dims result old.right new.right
  pub left_other : IsFalse old.sides.left
      → OtherCreated left_stands left_contents dims result new.sides.left starved old.left new.left
  pub right_stays : IsFalse old.sides.left → new.sides.right ≡ old.sides.right

-- Whether no create is begun any more. It becomes so where memory was refused after the other side was made.
pub record Starves {T : Type 0} (left_stands left_contents right_stands right_contents : Bool) (dims : Dims) (result : Result T CreateError)
    (was is : Bool) (old new : TwoSides) : Type 0 where
  -- it stays so, and then none is made or asked
  pub stays : IsTrue was → IsTrue is × IsErr result
  pub rests : IsTrue was → new ≡ old
  pub since : IsFalse was → IsTrue is → result ≡ Err OutOfMemory
  pub right_made : IsFalse was → IsTrue is → IsTrue old.sides.left → IsMade right_stands right_contents dims new.right
  pub left_made : IsFalse was → IsTrue is → IsFalse old.sides.left → IsMade left_stands left_contents dims new.left
