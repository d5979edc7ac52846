-- A create of a mirror.
use Rattle.std.proofs.Common.{◌≡◌, ◌⊎◌, inl, inr, ◌&&◌, ℕ, Bool, IsTrue, IsFalse, if◌then◌else◌, List, Option, Some, None}
use Rattle.std.proofs.Common.{Result, Ok, Err, IsOk, IsErr, sym, ◌∙◌, ap, refl, subst}
use Rattle.std.proofs.lemmas.Bool.{false≢true, cases_Bool}
use Rattle.bm_base.specs.declared.dims.Dims.{Dims}
use Rattle.bm_base.specs.Contents.{HasSizes}
use Rattle.bm_rack.specs.declared.rack.CreateError.{CreateError}
use Rattle.bm_rack.specs.declared.rack.CreateError.TheVariants.{Present}
use Rattle.bm_rack.specs.RackView.{RackView, IsWellFormed}
use Rattle.bm_rack.specs.Frames.{SameDisks}
use Rattle.bm_rack.specs.Calls.{CreateAnswer, CreateDone, IsBlank}
use Rattle.bm_rack.specs.Untold.{untold_contents}
use Rattle.bm_mirror.specs.TwoSides.{TwoSides, preferred, tells_all, shown, IsLevel, IsMirror}
use Rattle.bm_mirror.specs.Creating.{IsMade, PreferredCreated, MirrorCreate}
use Rattle.bm_mirror.specs.Consistent.{told_is}
use Rattle.bm_mirror.proofs.ShownLemmas.{told_clean, shown_held, shown_left, shown_right}
use Rattle.bm_mirror.proofs.LevelLemmas.{blank_level, level_kept}
use Rattle.bm_mirror.proofs.SideLemmas.{both_ways, all_stands, left_stands, right_stands, left_contents, right_contents}

ok_or_refused : {T : Type 0} (r : Result T CreateError) → IsOk r ⊎ IsErr r
ok_or_refused (Ok x) = inl refl
ok_or_refused (Err e) = inr refl

-- the sizes of a rack that was made
made_sizes : (rs rc : Bool) (dims : Dims) (v : RackView) → IsWellFormed rs rc v → IsMade rs rc dims v → IsTrue rs → IsTrue rc
    → HasSizes dims v.contents
made_sizes rs rc dims v k made stands contents = k.sizes stands contents dims (made.stands stands)

-- two racks that were made are level
made_level : (ls lc gs gc : Bool) (dims : Dims) (l r : RackView) → IsWellFormed ls lc l → IsWellFormed gs gc r
    → IsMade ls lc dims l → IsMade gs gc dims r → IsLevel (ls && gs) (tells_all ls gs lc gc) l r
made_level ls lc gs gc dims l r left right a b =
    blank_level (ls && gs) (tells_all ls gs lc gc) dims l r
    (λ told. a.stands (left_stands ls gs told)) (λ told. b.stands (right_stands ls gs told))
    (λ told. made_sizes ls lc dims l left a (left_stands ls gs (all_stands ls lc gs gc told)) (left_contents ls lc gs gc told))
    (λ told. made_sizes gs gc dims r right b (right_stands ls gs (all_stands ls lc gs gc told)) (right_contents ls lc gs gc told))
    (λ told. a.blank (left_contents ls lc gs gc told)) (λ told. b.blank (right_contents ls lc gs gc told)) a.clean b.clean

-- a mirror that shows the side that was asked first
shown_created : {T : Type 0} (ts tc rs rc : Bool) (a : Option Dims) (f m p s f' m' p' s' : ℕ) (facts facts' : List ℕ → Bool)
    (v w : RackView) (dims : Dims) (r : Result T CreateError)
    → (IsTrue ts → IsTrue rs) → (IsTrue tc → IsTrue rc) → PreferredCreated rs rc dims r v w
    → CreateDone ts tc dims (shown ts tc v a f m p s facts) r (shown ts tc w None f' m' p' s' facts')
shown_created ts tc rs rc a f m p s f' m' p' s' facts facts' v w dims r stands contents k = record {
  answer = λ told. subst (λ z. CreateAnswer z r) (sym (told_is ts v.stands None told)) (k.answer (stands told));
  attached = refl;
  made = λ told ok. told_is ts w.stands None told ∙ (k.made ok).stands (stands told);
  blank = λ told ok. subst (IsBlank dims) (sym (told_is tc w.contents untold_contents told)) ((k.made ok).blank (contents told));
  clean = λ ok u. told_clean tc w.dirty u ((k.made ok).clean u);
  stands = λ bad. (held bad).stands;
  contents = λ bad. (held bad).contents;
  dirty = λ bad. (held bad).dirty;
}
  where
    held : IsErr r → SameDisks (shown ts tc v a f m p s facts) (shown ts tc w None f' m' p' s' facts')
    held bad = shown_held ts tc a None f m p s f' m' p' s' facts facts' v w (k.kept bad)

-- a mirror on which something stands
shown_present : {T : Type 0} (ts tc : Bool) (a : Option Dims) (f m p s f' m' p' s' : ℕ) (facts facts' : List ℕ → Bool) (v w : RackView)
    (dims : Dims) (r : Result T CreateError) → r ≡ Err Present → w ≡ v → (IsTrue ts → ¬ (v.stands ≡ None))
    → CreateDone ts tc dims (shown ts tc v a f m p s facts) r (shown ts tc w None f' m' p' s' facts')
shown_present {T} ts tc a f m p s f' m' p' s' facts facts' v w dims r present same something = record {
  answer = λ told. subst (λ z. CreateAnswer (if ts then v.stands else None) z) (sym present)
      (λ none. something told (sym (told_is ts v.stands None told) ∙ none));
  attached = refl;
  made = λ told ok. not_ok ok;
  blank = λ told ok. not_ok ok;
  clean = λ ok. not_ok ok;
  stands = λ _. held.stands;
  contents = λ _. held.contents;
  dirty = λ _. held.dirty;
}
  where
    not_ok : {P : Type 0} → IsOk r → P
    not_ok ok = absurd (false≢true (subst (λ (z : Result T CreateError). IsOk z) present ok))

    held : SameDisks (shown ts tc v a f m p s facts) (shown ts tc w None f' m' p' s' facts')
    held = shown_held ts tc a None f m p s f' m' p' s' facts facts' v w
        (record { stands = ap (λ z. z.stands) same; contents = ap (λ z. z.contents) same; dirty = ap (λ z. z.dirty) same })

none_attached : {P : Type 0} (dims : Dims) → None ≡ Some dims → P
none_attached {P} dims e = absurd (apart e)
  where
    apart : None ≡ Some dims → ⊥
    apart e = cc

module _ {T : Type 0} (ls lc gs gc : Bool) (dims : Dims) (r : Result T CreateError) (starved : Bool) (old new : TwoSides) (a : Option Dims)
    (k : IsMirror (ls && gs) (tells_all ls gs lc gc) old a) (x : MirrorCreate ls lc gs gc dims r starved old new)
    (left_formed : IsWellFormed ls lc new.left) (right_formed : IsWellFormed gs gc new.right) where
  level_after : IsTrue new.sides.left → IsTrue new.sides.right → IsLevel (ls && gs) (tells_all ls gs lc gc) new.left new.right
  level_after left_in right_in = elim (cases_Bool old.sides.left) [
    | inl first ↦ elim (cases_Bool old.sides.right) [
      | inl too ↦ level_same new.left new.right (ap (λ z. z.left) (x.idle first too).1) (ap (λ z. z.right) (x.idle first too).1)
          (k.level first too)
      | inr apart ↦ elim (ok_or_refused r) [
        | inl ok ↦ made_level ls lc gs gc dims new.left new.right left_formed right_formed ((x.left_first first apart).made ok)
            ((x.right_other first apart).made ok right_in)
        | inr bad ↦ both_ways new.sides.right right_in ((x.right_other first apart).refused bad)
      ]
    ]
    | inr out ↦ elim (ok_or_refused r) [
      | inl ok ↦ made_level ls lc gs gc dims new.left new.right left_formed right_formed ((x.left_other out).made ok left_in)
          ((x.right_first out).made ok)
      | inr bad ↦ both_ways new.sides.left left_in ((x.left_other out).refused bad)
    ]
  ]
    where
      level_same : (v w : RackView) → v ≡ old.left → w ≡ old.right → IsLevel (ls && gs) (tells_all ls gs lc gc) old.left old.right
          → IsLevel (ls && gs) (tells_all ls gs lc gc) v w
      level_same v w here there level =
          level_kept (ls && gs) (tells_all ls gs lc gc) old.left old.right v w (ap (λ z. z.stands) here) (ap (λ z. z.contents) here)
          (ap (λ z. z.dirty) here) (ap (λ z. z.stands) there) (ap (λ z. z.contents) there) (ap (λ z. z.dirty) there) level

  some_after : IsFalse new.sides.left → IsTrue new.sides.right
  some_after out = elim (cases_Bool old.sides.left) [
    | inl first ↦ both_ways new.sides.left (x.left_stays first) out
    | inr before ↦ x.right_stays before ∙ k.some_in before
  ]

  pub mirror_created : IsMirror (ls && gs) (tells_all ls gs lc gc) new None
  mirror_created = record {
    some_in = some_after;
    level = level_after;
    left_attached = λ _ d is. none_attached d is;
    right_attached = λ _ d is. none_attached d is;
  }

  pub created : (f m p s f' m' p' s' : ℕ) (facts facts' : List ℕ → Bool)
      → CreateDone (ls && gs) (tells_all ls gs lc gc) dims (shown (ls && gs) (tells_all ls gs lc gc) (preferred old) a f m p s facts) r
      (shown (ls && gs) (tells_all ls gs lc gc) (preferred new) None f' m' p' s' facts')
  created f m p s f' m' p' s' facts facts' =
      let ts = ls && gs in
      let tc = tells_all ls gs lc gc in
      elim (cases_Bool old.sides.left) [
        | inl first ↦ elim (cases_Bool old.sides.right) [
          | inl too ↦
              subst (λ v. CreateDone ts tc dims v r (shown ts tc (preferred new) None f' m' p' s' facts'))
              (sym (shown_left ts tc old a f m p s facts first))
              (subst (λ w. CreateDone ts tc dims (shown ts tc old.left a f m p s facts) r w)
              (sym (shown_left ts tc new None f' m' p' s' facts' (x.left_stays first)))
              (shown_present ts tc a f m p s f' m' p' s' facts facts' old.left new.left dims r (x.idle first too).0
              (ap (λ z. z.left) (x.idle first too).1) (k.level first too).something))
          | inr apart ↦
              subst (λ v. CreateDone ts tc dims v r (shown ts tc (preferred new) None f' m' p' s' facts'))
              (sym (shown_left ts tc old a f m p s facts first))
              (subst (λ w. CreateDone ts tc dims (shown ts tc old.left a f m p s facts) r w)
              (sym (shown_left ts tc new None f' m' p' s' facts' (x.left_stays first)))
              (shown_created ts tc ls lc a f m p s f' m' p' s' facts facts' old.left new.left dims r (left_stands ls gs)
              (left_contents ls lc gs gc) (x.left_first first apart)))
        ]
        | inr out ↦
            let was = k.some_in out in
            subst (λ v. CreateDone ts tc dims v r (shown ts tc (preferred new) None f' m' p' s' facts'))
            (sym (shown_right ts tc old a f m p s facts k.level was))
            (subst (λ w. CreateDone ts tc dims (shown ts tc old.right a f m p s facts) r w)
            (sym (shown_right ts tc new None f' m' p' s' facts' level_after (x.right_stays out ∙ was)))
            (shown_created ts tc gs gc a f m p s f' m' p' s' facts facts' old.right new.right dims r (right_stands ls gs)
            (right_contents ls lc gs gc) (x.right_first out)))
      ]
