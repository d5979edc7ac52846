-- What the calls of both sides make of a mirror.
use Rattle.std.proofs.Common.{◌≡◌, inl, inr, ◌⊎◌, ◌&&◌, Bool, false, IsTrue, IsFalse, Option, Some, None, Result}
use Rattle.std.proofs.Common.{Ok, Err, IsOk, IsErr, is_err, sym, ◌∙◌, refl}
use Rattle.std.proofs.lemmas.Bool.{false≢true, cases_Bool, and_parts}
use Rattle.bm_base.specs.declared.dims.Dims.{Dims}
use Rattle.bm_base.specs.declared.fault.Failed.{Failed}
use Rattle.bm_base.specs.Contents.{HasSizes}
use Rattle.bm_rack.specs.RackView.{RackView, IsWellFormed}
use Rattle.bm_mirror.specs.TwoSides.{TwoSides, tells_all, IsLevel, IsMirror}
use Rattle.bm_mirror.specs.SideCalls.{IsSettled}

-- what the mirror tells, each rack tells
pub left_stands : (ls gs : Bool) → IsTrue (ls && gs) → IsTrue ls
left_stands ls gs told = (and_parts ls gs told).0

pub right_stands : (ls gs : Bool) → IsTrue (ls && gs) → IsTrue gs
right_stands ls gs told = (and_parts ls gs told).1

module _ (ls lc gs gc : Bool) where
  pub all_stands : IsTrue (tells_all ls gs lc gc) → IsTrue (ls && gs)
  all_stands told = (and_parts (ls && gs) (lc && gc) told).0

  pub left_contents : IsTrue (tells_all ls gs lc gc) → IsTrue lc
  left_contents told = (and_parts lc gc (and_parts (ls && gs) (lc && gc) told).1).0

  pub right_contents : IsTrue (tells_all ls gs lc gc) → IsTrue gc
  right_contents told = (and_parts lc gc (and_parts (ls && gs) (lc && gc) told).1).1

-- the sizes of what an attached rack holds after a call that left what stands
pub sizes_after : (rs rc : Bool) (dims : Dims) (v w : RackView) → IsWellFormed rs rc v → IsWellFormed rs rc w → IsTrue rs → IsTrue rc
    → v.attached ≡ Some dims → w.stands ≡ v.stands → HasSizes dims w.contents
sizes_after rs rc dims v w before after stands contents attached same =
    after.sizes stands contents dims (same ∙ before.attached stands dims attached)

-- a test that is both
pub both_ways : {P : Type 0} (b : Bool) → IsTrue b → IsFalse b → P
both_ways b holds fails = absurd (false≢true (sym fails ∙ holds))

-- something is not nothing
pub some_is_not : (dims : Dims) → Some dims ≡ None → ⊥
some_is_not dims e = cc

-- a side that is in was in before a call that takes none in
pub was_in : (before after : Bool) → (IsFalse before → IsFalse after) → IsTrue after → IsTrue before
was_in before after stays_out holds = elim (cases_Bool before) [
  | inl was ↦ was
  | inr out ↦ both_ways after holds (stays_out out)
]

-- no answer is both
pub ok_not_err : {T : Type 0} {P : Type 0} (r : Result T Failed) → IsOk r → IsErr r → P
ok_not_err (Ok x) ok bad = absurd (false≢true bad)
ok_not_err (Err e) ok bad = absurd (false≢true ok)

-- an answer that is no fault
pub ok_if : {T : Type 0} (r : Result T Failed) → is_err r ≡ false → IsOk r
ok_if (Ok x) fine = refl
ok_if (Err e) fine = absurd (false≢true (sym fine))

-- an answer is one of two
pub ok_or_err : {T : Type 0} (r : Result T Failed) → IsOk r ⊎ IsErr r
ok_or_err (Ok x) = inl refl
ok_or_err (Err e) = inr refl

-- the mirror after both were asked
pub mirror_settled : {T : Type 0} (ts tc : Bool) (old new : TwoSides) (a a' : Option Dims) (x y r : Result T Failed) → a' ≡ a
    → IsMirror ts tc old a → IsSettled x y r old.sides new.sides
    → (IsTrue old.sides.left → new.left.attached ≡ old.left.attached)
    → (IsTrue old.sides.right → new.right.attached ≡ old.right.attached)
    → (IsTrue old.sides.left → IsTrue old.sides.right → IsOk x → IsOk y → IsLevel ts tc old.left old.right
    → IsLevel ts tc new.left new.right)
    → IsMirror ts tc new a'
mirror_settled ts tc old new a a' x y r same k settled left right level = record {
  some_in = λ out. (settled.right_answers out).0;
  level = λ holds too.
      let in_left = (settled.left_answers holds).0 in
      let in_right = settled.right_in too in
      level in_left in_right (settled.both holds too).0 (settled.both holds too).1 (k.level in_left in_right);
  left_attached = λ holds dims is.
      left (settled.left_answers holds).0 ∙ k.left_attached (settled.left_answers holds).0 dims (sym same ∙ is);
  right_attached = λ holds dims is. right (settled.right_in holds) ∙ k.right_attached (settled.right_in holds) dims (sym same ∙ is);
}
