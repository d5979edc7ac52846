-- A heal of a mirror keeps what every call of a rack keeps, and each lasting fact.
use Rattle.std.proofs.Common.{◌≡◌, ◌⊎◌, inl, inr, ⊎_elim, ◌&&◌, ℕ, ◌≤◌, Bool, IsTrue, Option, Some, Result, Err}
use Rattle.std.proofs.Common.{sym, ◌∙◌, ap, arith}
use Rattle.std.proofs.lemmas.Bool.{cases_Bool}
use Rattle.bm_base.specs.declared.dims.Dims.{Dims}
use Rattle.bm_base.specs.Count.{Rose}
use Rattle.bm_rack.specs.RackView.{IsWellFormed}
use Rattle.bm_rack.specs.Frames.{Keeps}
use Rattle.bm_mirror.specs.declared.sides.Sides.{Sides}
use Rattle.bm_mirror.specs.declared.healing.Healed.{Healed}
use Rattle.bm_mirror.specs.declared.healing.HealError.{HealError}
use Rattle.bm_mirror.specs.declared.healing.HealError.TheVariants.{Failed}
use Rattle.bm_mirror.specs.TwoSides.{TwoSides, preferred, tells_all, shown, IsMirror}
use Rattle.bm_mirror.specs.Healing.{MirrorHeal}
use Rattle.bm_mirror.specs.Lasting.{history, IsWell, LevelNow, mirror_facts}
use Rattle.bm_mirror.proofs.LastingLemmas.{IsLater, lasting_kept}
use Rattle.bm_mirror.proofs.KeepingLemmas.{Counted, shown_keeps, attached_begun}
use Rattle.bm_mirror.proofs.HealedLemmas.{is_level, error_is_not}

module _ (ls lc gs gc : Bool) (dims : Dims) (r : Result Healed HealError) (old new : TwoSides) (a : Option Dims)
    (level level' : Sides) (lapsed starved : Bool) (f m p s f' m' p' s' : ℕ)
    (k : IsMirror (ls && gs) (tells_all ls gs lc gc) old a) (at : a ≡ Some dims)
    (left_before : IsWellFormed ls lc old.left) (right_before : IsWellFormed gs gc old.right)
    (left_after : IsWellFormed ls lc new.left) (right_after : IsWellFormed gs gc new.right)
    (counts : Counted (r ≡ Err Failed) f f') (x : MirrorHeal ls lc gs gc dims r old new)
    (left_level : LevelNow f' new.sides.left level.left level'.left)
    (right_level : LevelNow f' new.sides.right level.right level'.right) where
  left_count : old.left.faults ≤ new.left.faults
  left_count = elim (cases_Bool old.sides.left) [
    | inl is_in ↦ elim (cases_Bool old.sides.right) [
      | inl too ↦ let same = ap (λ v. v.faults) (x.idle is_in too).1 in omega arith
      | inr out ↦ (x.from_left out).keeps.faults
    ]
    | inr out ↦ (x.to_left out).keeps.faults
  ]

  right_count : old.right.faults ≤ new.right.faults
  right_count = elim (cases_Bool old.sides.left) [
    | inl is_in ↦ elim (cases_Bool old.sides.right) [
      | inl too ↦ let same = ap (λ v. v.faults) (x.idle is_in too).2 in omega arith
      | inr out ↦ (x.to_right out).keeps.faults
    ]
    | inr out ↦ (x.from_right out).keeps.faults
  ]

  left_stays : IsTrue old.sides.left → IsTrue new.sides.left
  left_stays was = ⊎_elim (λ level. (x.level level).0) (λ apart. ap (λ s. s.left) (x.apart apart) ∙ was) (is_level r)

  right_stays : IsTrue old.sides.right → IsTrue new.sides.right
  right_stays was = ⊎_elim (λ level. (x.level level).1) (λ apart. ap (λ s. s.right) (x.apart apart) ∙ was) (is_level r)

  -- a heal of two sides that are in fails not
  idle_fine : {P : Type 0} → IsTrue old.sides.left → IsTrue old.sides.right → r ≡ Err Failed → P
  idle_fine left right bad = absurd (error_is_not Failed (sym bad ∙ (x.idle left right).0))

  left_well : IsWell (history level lapsed starved f) old.sides.left
      → Rose old.left.faults new.left.faults ⊎ IsWell (history level' lapsed starved f') new.sides.left
  left_well well = elim counts.counts [
    | inl same ↦ inr (same ∙ well.0, left_stays well.1)
    | inr bad ↦ ⊎_elim (λ too. idle_fine well.1 too bad.0) (λ out. inl ((x.from_left out).cause bad.0)) (cases_Bool old.sides.right)
  ]

  right_well : IsWell (history level lapsed starved f) old.sides.right
      → Rose old.right.faults new.right.faults ⊎ (IsTrue lapsed ⊎ IsWell (history level' lapsed starved f') new.sides.right)
  right_well well = elim counts.counts [
    | inl same ↦ inr (inr (same ∙ well.0, right_stays well.1))
    | inr bad ↦ ⊎_elim (λ too. idle_fine too well.1 bad.0) (λ out. inl ((x.from_right out).cause bad.0)) (cases_Bool old.sides.left)
  ]

  healed_later : IsLater (ls && gs) old (history level lapsed starved f) new (history level' lapsed starved f')
  healed_later = record {
    left_count = left_count;
    right_count = right_count;
    left_fits = left_after.faults;
    right_fits = right_after.faults;
    left_level = left_level.stays;
    right_level = right_level.stays;
    lapsed = λ h. h;
    left_since = left_level.since;
    right_since = right_level.since;
    left_well = left_well;
    right_well = right_well;
    both = attached_begun ls lc gs gc old a (history level lapsed starved f) k left_before right_before (dims, at);
  }

  pub heal_keeps : Keeps (shown (ls && gs) (tells_all ls gs lc gc) (preferred old) a f m p s
      (mirror_facts (ls && gs) old (history level lapsed starved f)))
      (shown (ls && gs) (tells_all ls gs lc gc) (preferred new) a f' m' p' s'
      (mirror_facts (ls && gs) new (history level' lapsed starved f')))
  heal_keeps =
      shown_keeps (ls && gs) (tells_all ls gs lc gc) (preferred old) (preferred new) a a f m p s f' m' p' s' _ _ (r ≡ Err Failed) counts
      (lasting_kept (ls && gs) old (history level lapsed starved f) new (history level' lapsed starved f') healed_later)
