-- What a call of a mirror did to its two sides.
use Rattle.std.specs.Prelude.{◌≡◌, ◌⊎◌, ℕ, Bool, IsTrue, IsFalse, IsOk, IsErr, Result}
use Rattle.bm_base.specs.declared.fault.Failed.{Failed}
use Rattle.bm_base.specs.Count.{Rose}
use Rattle.bm_rack.specs.RackView.{RackView}
use Rattle.bm_rack.specs.Frames.{Keeps, RaisesCounts, SameState}
use Rattle.bm_mirror.specs.declared.sides.Sides.{Sides}
use Rattle.bm_mirror.specs.TwoSides.{TwoSides}

-- What a call did to one side, which was in or out before it and is in or out after it.
pub record SideCall (rows pages syncs : ℕ) (failed by_answer : Type 0) (was_in is_in : Bool) (old new : RackView) : Type 0 where
  -- a side that is out is not asked
  pub untouched : IsFalse was_in → new ≡ old
  -- and not taken in
  pub stays_out : IsFalse was_in → IsFalse is_in
  -- a side is asked once at most
  pub once : (new ≡ old) ⊎ RaisesCounts rows pages syncs old new
  pub keeps : Keeps old new
  -- a side goes out only where its count of faults rose, or by its answer where that may be
  pub fell : IsTrue was_in → IsFalse is_in → Rose old.faults new.faults ⊎ by_answer
  -- the call fails only where each side that was in failed
  pub cause : failed → IsTrue was_in → Rose old.faults new.faults

-- What a row, page, sync or attach call of a mirror did to its sides. Only the right one may go out by its answer.
pub record MirrorCall (rows pages syncs : ℕ) (failed by_answer : Type 0) (old new : TwoSides) : Type 0 where
  pub left : SideCall rows pages syncs failed ⊥ old.sides.left new.sides.left old.left new.left
  pub right : SideCall rows pages syncs failed by_answer old.sides.right new.sides.right old.right new.right

-- A read changes nothing on either side, and asks the right one only where it is alone or the left one failed.
pub record MirrorRead (old new : TwoSides) : Type 0 where
  pub sides : new.sides ≡ old.sides
  pub left : SameState old.left new.left
  pub right : SameState old.right new.right
  pub in_order : IsTrue old.sides.left → (new.right ≡ old.right) ⊎ Rose old.left.faults new.left.faults

-- One side was asked for a write or a sync, where it is in; one that is out is not asked, and does not fail.
pub record SideAsked (rows pages syncs : ℕ) (failed : Type 0) (is_in : Bool) (old new : RackView) : Type 0 where
  pub untouched : IsFalse is_in → new ≡ old
  pub quiet : IsFalse is_in → ¬ failed
  pub counts : IsTrue is_in → RaisesCounts rows pages syncs old new
  pub keeps : Keeps old new
  pub cause : failed → Rose old.faults new.faults

-- One side was asked for a read; one that is not asked gives nothing.
pub record SideRead (rows pages syncs : ℕ) (failed : Type 0) (asked : Bool) (old new : RackView) : Type 0 where
  pub untouched : IsFalse asked → new ≡ old
  pub empty : IsFalse asked → failed
  pub state : SameState old new
  pub counts : IsTrue asked → RaisesCounts rows pages syncs old new
  pub keeps : Keeps old new
  pub cause : IsTrue asked → failed → Rose old.faults new.faults

-- The sides after both were asked: one that failed is out where the other did not. The answer is that of the side that is then first.
pub record IsSettled {T : Type 0} (left right result : Result T Failed) (old new : Sides) : Type 0 where
  pub left_answers : IsTrue new.left → IsTrue old.left × (result ≡ left)
  pub right_answers : IsFalse new.left → IsTrue new.right × (result ≡ right)
  pub right_in : IsTrue new.right → IsTrue old.right
  pub both : IsTrue new.left → IsTrue new.right → IsOk left × IsOk right
  pub left_out : IsTrue old.left → IsFalse new.left → IsErr left
  pub right_out : IsTrue old.right → IsFalse new.right → IsErr right
  pub failed : IsErr result → (IsTrue old.left → IsErr left) × (IsTrue old.right → IsErr right)
