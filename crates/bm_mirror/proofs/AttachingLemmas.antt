-- An attach of a mirror keeps each lasting fact.
use Rattle.std.proofs.Common.{◌≡◌, ◌⊎◌, inl, inr, ⊎_elim, ◌&&◌, ℕ, Bool, IsTrue, Option, None, Result, IsErrOf, sym, ◌∙◌, ap}
use Rattle.std.proofs.lemmas.Bool.{cases_Bool}
use Rattle.bm_base.specs.declared.dims.Dims.{Dims}
use Rattle.bm_base.specs.Count.{Rose}
use Rattle.bm_rack.specs.declared.rack.Found.{Found}
use Rattle.bm_rack.specs.declared.rack.AttachError.{AttachError}
use Rattle.bm_rack.specs.declared.rack.AttachError.TheVariants.{Failed}
use Rattle.bm_rack.specs.RackView.{RackView, IsWellFormed}
use Rattle.bm_rack.specs.Frames.{Keeps}
use Rattle.bm_mirror.specs.declared.sides.Sides.{Sides}
use Rattle.bm_mirror.specs.TwoSides.{TwoSides, preferred, tells_all, shown, IsMirror}
use Rattle.bm_mirror.specs.SideCalls.{MirrorCall, SideCall}
use Rattle.bm_mirror.specs.Attaching.{AttachedSides, Lapses}
use Rattle.bm_mirror.specs.Consistent.{told_is, untold_is}
use Rattle.bm_mirror.specs.Lasting.{history, mirror_facts}
use Rattle.bm_mirror.proofs.LastingLemmas.{IsStarved, IsNew, AreLevel, lasting_kept}
use Rattle.bm_mirror.proofs.KeepingLemmas.{Counted, Fate, shown_keeps, later_by_call}

-- what a call did to one side
call_fate : (rows pages syncs : ℕ) (ts tc : Bool) (failed by_answer : Type 0) (was_in is_in : Bool) (old new : RackView)
    → IsWellFormed ts tc new → SideCall rows pages syncs failed by_answer was_in is_in old new → Fate failed by_answer was_in is_in old new
call_fate rows pages syncs ts tc failed by_answer was_in is_in old new formed call = record {
  count = call.keeps.faults;
  fits = formed.faults;
  fell = call.fell;
  cause = call.cause;
}

module _ (ls lc gs gc : Bool) (dims : Dims) (r : Result Found AttachError) (old new : TwoSides) (a a' : Option Dims) (level : Sides)
    (lapsed lapsed' starved : Bool) (f m p s f' m' p' s' : ℕ) (k : IsMirror (ls && gs) (tells_all ls gs lc gc) old a)
    (left_after : IsWellFormed ls lc new.left) (right_after : IsWellFormed gs gc new.right)
    (counts : Counted (IsErrOf r Failed) f f') (x : AttachedSides (ls && gs) dims r old new)
    (y : MirrorCall 0 0 0 (IsErrOf r Failed) (IsTrue lapsed') old new) where
  -- what stands on the side that is asked first, where no count rose
  still_nothing : (preferred old).stands ≡ None → Rose old.left.faults new.left.faults ⊎ ((preferred new).stands ≡ None)
  still_nothing none = elim (cases_Bool old.sides.left) [
    | inl was ↦ elim (cases_Bool new.sides.left) [
      | inl is_in ↦ inr (ap (λ v. v.stands) (told_is new.sides.left new.left new.right is_in) ∙ x.left.stands
          ∙ sym (ap (λ v. v.stands) (told_is old.sides.left old.left old.right was)) ∙ none)
      | inr out ↦ ⊎_elim (λ rose. inl rose) (λ e. absurd e) (y.left.fell was out)
    ]
    | inr out ↦ inr (ap (λ v. v.stands) (untold_is new.sides.left new.left new.right (y.left.stays_out out)) ∙ x.right.stands
        ∙ sym (ap (λ v. v.stands) (untold_is old.sides.left old.left old.right out)) ∙ none)
  ]

  both_after : IsStarved old (history level lapsed starved f) ⊎ IsNew old (history level lapsed starved f)
      → (Rose old.left.faults new.left.faults ⊎ Rose old.right.faults new.right.faults)
      ⊎ (AreLevel (history level lapsed' starved f')
      ⊎ (IsStarved new (history level lapsed' starved f') ⊎ IsNew new (history level lapsed' starved f')))
  both_after (inl starves) = ⊎_elim (λ rose. inl (inl rose)) (λ none. inr (inr (inl (starves.0, none)))) (still_nothing starves.1)
  both_after (inr fresh) = elim counts.counts [
    | inl same ↦ inr (inr (inr (same ∙ fresh.0, (x.left.stands ∙ fresh.1.0, x.right.stands ∙ fresh.1.1))))
    | inr bad ↦ inl (⊎_elim (λ is_in. inl (y.left.cause bad.0 is_in)) (λ out. inr (y.right.cause bad.0 (k.some_in out)))
        (cases_Bool old.sides.left))
  ]

  pub attach_keeps : Lapses (ls && gs) r lapsed lapsed' old.sides new.sides
      → Keeps (shown (ls && gs) (tells_all ls gs lc gc) (preferred old) a f m p s
      (mirror_facts (ls && gs) old (history level lapsed starved f)))
      (shown (ls && gs) (tells_all ls gs lc gc) (preferred new) a' f' m' p' s'
      (mirror_facts (ls && gs) new (history level lapsed' starved f')))
  attach_keeps lapses =
      shown_keeps (ls && gs) (tells_all ls gs lc gc) (preferred old) (preferred new) a a' f m p s f' m' p' s' _ _ (IsErrOf r Failed) counts
      (lasting_kept (ls && gs) old (history level lapsed starved f) new (history level lapsed' starved f')
      (later_by_call (ls && gs) old new level lapsed lapsed' starved f f' (IsErrOf r Failed) counts lapses.stays
      (call_fate 0 0 0 ls lc (IsErrOf r Failed) ⊥ old.sides.left new.sides.left old.left new.left left_after y.left)
      (call_fate 0 0 0 gs gc (IsErrOf r Failed) (IsTrue lapsed') old.sides.right new.sides.right old.right new.right right_after y.right)
      (λ told before. both_after before)))
