-- A mirror after a heal.
use Rattle.std.proofs.Common.{◌≡◌, ◌⊎◌, inl, inr, ⊎_elim, ◌&&◌, ℕ, Bool, false, IsTrue, IsFalse, List, Option, Some, None}
use Rattle.std.proofs.Common.{Result, Ok, Err, IsOk, sym, ◌∙◌, ap, refl, subst}
use Rattle.std.proofs.lemmas.Bool.{cases_Bool, and_from}
use Rattle.bm_base.specs.declared.dims.Dims.{Dims}
use Rattle.bm_rack.specs.RackView.{RackView, IsWellFormed, IsClean}
use Rattle.bm_rack.specs.Untold.{untold_contents}
use Rattle.bm_mirror.specs.declared.healing.Healed.{Healed}
use Rattle.bm_mirror.specs.declared.healing.Healed.TheVariants.{Level, Apart}
use Rattle.bm_mirror.specs.declared.healing.HealError.{HealError}
use Rattle.bm_mirror.specs.TwoSides.{TwoSides, preferred, tells_all, shown, IsLevel, IsMirror}
use Rattle.bm_mirror.specs.Healing.{HealedFrom, HealedTo, MirrorHeal, ShowsTheSame}
use Rattle.bm_mirror.specs.Consistent.{told_same}
use Rattle.bm_mirror.proofs.ShownLemmas.{told_clean, shown_left, shown_right}
use Rattle.bm_mirror.proofs.LevelLemmas.{contents_same, clean_same, level_kept}
use Rattle.bm_mirror.proofs.SideLemmas.{both_ways, some_is_not, all_stands, left_stands, right_stands, left_contents, right_contents}

apart_is_not : ◌≡◌ {A = Result Healed HealError} (Ok Apart) (Ok Level) → ⊥
apart_is_not e = cc

pub error_is_not : (error : HealError) → ◌≡◌ {A = Result Healed HealError} (Err error) (Ok Level) → ⊥
error_is_not error e = cc

-- an answer is level, or it is not
pub is_level : (r : Result Healed HealError) → (r ≡ Ok Level) ⊎ (¬ (r ≡ Ok Level))
is_level (Ok Level) = inl refl
is_level (Ok Apart) = inr apart_is_not
is_level (Err error) = inr (error_is_not error)

-- a side that was filled is level with the one that it was filled from
filled_level : (ws wc fs fc ts tc : Bool) (dims : Dims) (was from before to : RackView)
    → (IsTrue ws → IsTrue fs) → (IsTrue ws → IsTrue ts) → (IsTrue wc → IsTrue ws) → (IsTrue wc → IsTrue fc) → (IsTrue wc → IsTrue tc)
    → IsWellFormed fs fc from → IsWellFormed ts tc to → from.attached ≡ Some dims
    → HealedFrom (Ok Level) was from → HealedTo ts (fc && tc) dims (Ok Level) before to from → IsLevel ws wc from to
filled_level ws wc fs fc ts tc dims was from before to from_stands to_stands all from_told to_told x y attached a b = record {
  stands = λ told. here told ∙ sym (there told);
  something = λ told none. some_is_not dims (sym (here told) ∙ none);
  contents = λ told.
      (let filled = b.filled (and_from fc tc (from_told told) (to_told told)) refl in
      contents_same dims from.contents to.contents
      (x.sizes (from_stands (all told)) (from_told told) dims (here (all told)))
      (y.sizes (to_stands (all told)) (to_told told) dims (there (all told)))
      (λ disk place on below. sym (filled.0 disk place on below)) (λ page below. sym (filled.1 page below)));
  dirty = λ _. clean_same from to (a.clean refl) (b.clean refl);
}
  where
    here : IsTrue ws → from.stands ≡ Some dims
    here told = x.attached (from_stands told) dims attached

    there : IsTrue ws → to.stands ≡ Some dims
    there told = y.attached (to_stands told) dims (b.attached refl)

IsLevel-sym : (ws wc : Bool) (l r : RackView) → IsLevel ws wc l r → IsLevel ws wc r l
IsLevel-sym ws wc l r k = record {
  stands = λ told. sym (k.stands told);
  something = λ told none. k.something told (k.stands told ∙ none);
  contents = λ told. sym (k.contents told);
  dirty = λ told. sym (k.dirty told);
}

-- a rack that was synced at most
record IsSyncedAtMost (old new : RackView) : Type 0 where
  stands : new.stands ≡ old.stands
  contents : new.contents ≡ old.contents
  dirty : (new.dirty ≡ old.dirty) ⊎ IsClean new

shown_synced_at_most : (ts tc : Bool) (a : Option Dims) (f f' m p s : ℕ) (facts facts' : List ℕ → Bool) (v w : RackView)
    → IsSyncedAtMost v w
    → ShowsTheSame (shown ts tc v a f m p s facts) (shown ts tc w a f' m p s facts')
shown_synced_at_most ts tc a f f' m p s facts facts' v w x = record {
  stands = told_same ts w.stands v.stands None (λ _. x.stands);
  contents = told_same tc w.contents v.contents untold_contents (λ _. x.contents);
  dirty = ⊎_elim (λ same. inl (told_same tc w.dirty v.dirty (λ u. false) (λ _. same)))
      (λ clean. inr (λ u. told_clean tc w.dirty u (clean u)))
      x.dirty;
  attached = refl;
  moves = refl;
  pages = refl;
  syncs = refl;
}

by_from : (r : Result Healed HealError) (v w : RackView) → HealedFrom r v w → IsSyncedAtMost v w
by_from r v w x = record { stands = x.stands; contents = x.contents; dirty = x.dirty }

by_same : (v w : RackView) → w ≡ v → IsSyncedAtMost v w
by_same v w same = record {
  stands = ap (λ z. z.stands) same;
  contents = ap (λ z. z.contents) same;
  dirty = inl (ap (λ z. z.dirty) same);
}

module _ (ls lc gs gc : Bool) (dims : Dims) (r : Result Healed HealError) (old new : TwoSides) (a : Option Dims)
    (k : IsMirror (ls && gs) (tells_all ls gs lc gc) old a) (at : a ≡ Some dims) (x : MirrorHeal ls lc gs gc dims r old new)
    (left_formed : IsWellFormed ls lc new.left) (right_formed : IsWellFormed gs gc new.right) where
  left_stays : IsTrue old.sides.left → IsTrue new.sides.left
  left_stays was = elim (is_level r) [
    | inl level ↦ (x.level level).0
    | inr apart ↦ ap (λ s. s.left) (x.apart apart) ∙ was
  ]

  right_stays : IsTrue old.sides.right → IsTrue new.sides.right
  right_stays was = elim (is_level r) [
    | inl level ↦ (x.level level).1
    | inr apart ↦ ap (λ s. s.right) (x.apart apart) ∙ was
  ]

  -- a side that comes in makes the answer level
  left_level : IsFalse old.sides.left → IsTrue new.sides.left → r ≡ Ok Level
  left_level out holds = elim (is_level r) [
    | inl level ↦ level
    | inr apart ↦ both_ways new.sides.left holds (ap (λ s. s.left) (x.apart apart) ∙ out)
  ]

  right_level : IsFalse old.sides.right → IsTrue new.sides.right → r ≡ Ok Level
  right_level out holds = elim (is_level r) [
    | inl level ↦ level
    | inr apart ↦ both_ways new.sides.right holds (ap (λ s. s.right) (x.apart apart) ∙ out)
  ]

  level_after : IsTrue new.sides.left → IsTrue new.sides.right → IsLevel (ls && gs) (tells_all ls gs lc gc) new.left new.right
  level_after left_in right_in = elim (cases_Bool old.sides.left) [
    | inl was ↦ elim (cases_Bool old.sides.right) [
      | inl too ↦
          let same = x.idle was too in
          let l = same.1 in
          let g = same.2 in
          level_kept (ls && gs) (tells_all ls gs lc gc) old.left old.right new.left new.right (ap (λ v. v.stands) l)
          (ap (λ v. v.contents) l) (ap (λ v. v.dirty) l) (ap (λ v. v.stands) g) (ap (λ v. v.contents) g) (ap (λ v. v.dirty) g)
          (k.level was too)
      | inr out ↦
          let level = right_level out right_in in
          filled_level (ls && gs) (tells_all ls gs lc gc) ls lc gs gc dims old.left new.left old.right new.right
          (left_stands ls gs) (right_stands ls gs) (all_stands ls lc gs gc) (left_contents ls lc gs gc) (right_contents ls lc gs gc)
          left_formed right_formed ((x.from_left out).attached ∙ k.left_attached was dims at)
          (subst (λ z. HealedFrom z old.left new.left) level (x.from_left out))
          (subst (λ z. HealedTo gs (lc && gc) dims z old.right new.right new.left) level (x.to_right out))
    ]
    | inr out ↦
        let level = left_level out left_in in
        IsLevel-sym (ls && gs) (tells_all ls gs lc gc) new.right new.left
        (filled_level (ls && gs) (tells_all ls gs lc gc) gs gc ls lc dims old.right new.right old.left new.left
        (right_stands ls gs) (left_stands ls gs) (all_stands ls lc gs gc) (right_contents ls lc gs gc) (left_contents ls lc gs gc)
        right_formed left_formed ((x.from_right out).attached ∙ k.right_attached (k.some_in out) dims at)
        (subst (λ z. HealedFrom z old.right new.right) level (x.from_right out))
        (subst (λ z. HealedTo ls (gc && lc) dims z old.left new.left new.right) level (x.to_left out)))
  ]

  left_attached_after : IsTrue new.sides.left → (d : Dims) → a ≡ Some d → new.left.attached ≡ Some d
  left_attached_after left_in d is = elim (cases_Bool old.sides.left) [
    | inl was ↦ elim (cases_Bool old.sides.right) [
      | inl too ↦ ap (λ v. v.attached) (x.idle was too).1 ∙ k.left_attached was d is
      | inr out ↦ (x.from_left out).attached ∙ k.left_attached was d is
    ]
    | inr out ↦ (x.to_left out).attached (left_level out left_in) ∙ sym at ∙ is
  ]

  right_attached_after : IsTrue new.sides.right → (d : Dims) → a ≡ Some d → new.right.attached ≡ Some d
  right_attached_after right_in d is = elim (cases_Bool old.sides.right) [
    | inl was ↦ elim (cases_Bool old.sides.left) [
      | inl too ↦ ap (λ v. v.attached) (x.idle too was).2 ∙ k.right_attached was d is
      | inr out ↦ (x.from_right out).attached ∙ k.right_attached was d is
    ]
    | inr out ↦ (x.to_right out).attached (right_level out right_in) ∙ sym at ∙ is
  ]

  pub mirror_healed : IsMirror (ls && gs) (tells_all ls gs lc gc) new a
  mirror_healed = record {
    some_in = λ out. elim (cases_Bool old.sides.left) [
      | inl was ↦ both_ways new.sides.left (left_stays was) out
      | inr before ↦ right_stays (k.some_in before)
    ];
    level = level_after;
    left_attached = left_attached_after;
    right_attached = right_attached_after;
  }

  left_synced : IsTrue old.sides.left → IsSyncedAtMost old.left new.left
  left_synced was = elim (cases_Bool old.sides.right) [
    | inl too ↦ by_same old.left new.left (x.idle was too).1
    | inr out ↦ by_from r old.left new.left (x.from_left out)
  ]

  pub healed_shows : (f f' m p s : ℕ) (facts facts' : List ℕ → Bool)
      → ShowsTheSame (shown (ls && gs) (tells_all ls gs lc gc) (preferred old) a f m p s facts)
      (shown (ls && gs) (tells_all ls gs lc gc) (preferred new) a f' m p s facts')
  healed_shows f f' m p s facts facts' =
      let ts = ls && gs in
      let tc = tells_all ls gs lc gc in
      elim (cases_Bool old.sides.left) [
        | inl was ↦
            subst (λ v. ShowsTheSame v (shown ts tc (preferred new) a f' m p s facts')) (sym (shown_left ts tc old a f m p s facts was))
            (subst (λ w. ShowsTheSame (shown ts tc old.left a f m p s facts) w)
            (sym (shown_left ts tc new a f' m p s facts' (left_stays was)))
            (shown_synced_at_most ts tc a f f' m p s facts facts' old.left new.left (left_synced was)))
        | inr out ↦
            let was = k.some_in out in
            subst (λ v. ShowsTheSame v (shown ts tc (preferred new) a f' m p s facts'))
            (sym (shown_right ts tc old a f m p s facts k.level was))
            (subst (λ w. ShowsTheSame (shown ts tc old.right a f m p s facts) w)
            (sym (shown_right ts tc new a f' m p s facts' level_after (right_stays was)))
            (shown_synced_at_most ts tc a f f' m p s facts facts' old.right new.right (by_from r old.right new.right (x.from_right out))))
      ]

  pub healed_clean : (f m p s : ℕ) (facts : List ℕ → Bool) → (¬ (IsTrue old.sides.left × IsTrue old.sides.right)) → IsOk r
      → IsClean (shown (ls && gs) (tells_all ls gs lc gc) (preferred new) a f m p s facts)
  healed_clean f m p s facts apart ok =
      let ts = ls && gs in
      let tc = tells_all ls gs lc gc in
      elim (cases_Bool old.sides.left) [
        | inl was ↦
            let out : IsFalse old.sides.right = ⊎_elim (λ too. absurd (apart (was, too))) (λ out. out) (cases_Bool old.sides.right) in
            subst IsClean (sym (shown_left ts tc new a f m p s facts (left_stays was)))
            (λ u. told_clean tc new.left.dirty u ((x.from_left out).clean ok u))
        | inr out ↦
            subst IsClean (sym (shown_right ts tc new a f m p s facts level_after (right_stays (k.some_in out))))
            (λ u. told_clean tc new.right.dirty u ((x.from_right out).clean ok u))
      ]
