-- A create of a mirror keeps each lasting fact.
use Rattle.std.proofs.Common.{◌≡◌, ◌⊎◌, inl, inr, ⊎_elim, ◌&&◌, ℕ, ◌≤◌, Bool, IsTrue, IsFalse, Option, None, Result, Ok, Err}
use Rattle.std.proofs.Common.{IsOk, IsErr, IsErrOf, sym, ◌∙◌, ap, refl, arith}
use Rattle.std.proofs.lemmas.Bool.{cases_Bool}
use Rattle.bm_base.specs.declared.dims.Dims.{Dims}
use Rattle.bm_base.specs.Count.{Rose}
use Rattle.bm_rack.specs.declared.rack.CreateError.{CreateError}
use Rattle.bm_rack.specs.declared.rack.CreateError.TheVariants.{Failed, Present, OutOfMemory}
use Rattle.bm_rack.specs.RackView.{RackView, IsWellFormed}
use Rattle.bm_rack.specs.Frames.{Keeps}
use Rattle.bm_mirror.specs.declared.sides.Sides.{Sides}
use Rattle.bm_mirror.specs.TwoSides.{TwoSides, preferred, tells_all, shown, IsMirror}
use Rattle.bm_mirror.specs.Creating.{PreferredCreated, OtherCreated, MirrorCreate, Starves}
use Rattle.bm_mirror.specs.Consistent.{told_is, untold_is}
use Rattle.bm_mirror.specs.Lasting.{history, IsWell, LevelNow, mirror_facts}
use Rattle.bm_mirror.proofs.SideLemmas.{left_stands, right_stands}
use Rattle.bm_mirror.proofs.LastingLemmas.{IsStarved, IsNew, AreLevel, IsLater, lasting_kept}
use Rattle.bm_mirror.proofs.KeepingLemmas.{Counted, shown_keeps}

-- what a create comes to where nothing stood on either side: a count rose, or both were made, or memory was refused
abbrev Outcome : {T : Type 0} → Result T CreateError → Bool → Bool → RackView → RackView → RackView → RackView → Type 0
Outcome r is_in starved p p' o o' =
    (Rose p.faults p'.faults ⊎ Rose o.faults o'.faults)
    ⊎ ((IsOk r × IsTrue is_in) ⊎ (((IsTrue starved × IsErr r) × (p'.stands ≡ None)) ⊎ ((p'.stands ≡ None) × (o'.stands ≡ None))))

outcome : {T : Type 0} (ps pc os oc : Bool) (dims : Dims) (r : Result T CreateError) (is_in starved : Bool) (p p' o o' : RackView)
    → PreferredCreated ps pc dims r p p' → OtherCreated os oc dims r is_in starved o o' → IsTrue ps → IsTrue os
    → p.stands ≡ None → o.stands ≡ None → Outcome r is_in starved p p' o o'
outcome ps pc os oc dims (Ok x) is_in starved p p' o o' first other tells tells_other none nothing = elim (cases_Bool is_in) [
  | inl made ↦ inr (inl (refl, made))
  | inr out ↦ ⊎_elim (λ rose. inl (inr rose)) (λ stood. absurd (stood tells_other nothing)) (other.stays_out refl out)
]
outcome ps pc os oc dims (Err Failed) is_in starved p p' o o' first other tells tells_other none nothing = inl (inl (first.cause refl))
outcome ps pc os oc dims (Err Present) is_in starved p p' o o' first other tells tells_other none nothing = absurd (first.answer tells none)
outcome ps pc os oc dims (Err OutOfMemory) is_in starved p p' o o' first other tells tells_other none nothing =
    let still = (first.kept refl).stands ∙ none in
    elim (cases_Bool starved) [
      | inl starves ↦ inr (inr (inl ((starves, refl), still)))
      | inr fine ↦ inr (inr (inr (still, other.spared refl fine ∙ nothing)))
    ]

present_not_failed : {T : Type 0} {P : Type 0} (r : Result T CreateError) → r ≡ Err Present → IsErrOf r Failed → P
present_not_failed {T} {P} r present failed = absurd (apart (sym present ∙ failed))
  where
    apart : ◌≡◌ {A = Result T CreateError} (Err Present) (Err Failed) → ⊥
    apart e = cc

module _ {T : Type 0} (ls lc gs gc : Bool) (dims : Dims) (r : Result T CreateError) (old new : TwoSides) (a a' : Option Dims)
    (level level' : Sides) (lapsed starved starved' : Bool) (f m p s f' m' p' s' : ℕ)
    (k : IsMirror (ls && gs) (tells_all ls gs lc gc) old a)
    (left_after : IsWellFormed ls lc new.left) (right_after : IsWellFormed gs gc new.right)
    (counts : Counted (IsErrOf r Failed) f f') (x : MirrorCreate ls lc gs gc dims r starved' old new)
    (y : Starves ls lc gs gc dims r starved starved' old new)
    (left_level : LevelNow f' new.sides.left level.left level'.left)
    (right_level : LevelNow f' new.sides.right level.right level'.right) where
  left_count : old.left.faults ≤ new.left.faults
  left_count = elim (cases_Bool old.sides.left) [
    | inl is_in ↦ elim (cases_Bool old.sides.right) [
      | inl too ↦ let same = ap (λ z. z.left.faults) (x.idle is_in too).1 in omega arith
      | inr out ↦ (x.left_first is_in out).keeps.faults
    ]
    | inr out ↦ (x.left_other out).keeps.faults
  ]

  right_count : old.right.faults ≤ new.right.faults
  right_count = elim (cases_Bool old.sides.left) [
    | inl is_in ↦ elim (cases_Bool old.sides.right) [
      | inl too ↦ let same = ap (λ z. z.right.faults) (x.idle is_in too).1 in omega arith
      | inr out ↦ (x.right_other is_in out).keeps.faults
    ]
    | inr out ↦ (x.right_first out).keeps.faults
  ]

  left_well : IsWell (history level lapsed starved f) old.sides.left
      → Rose old.left.faults new.left.faults ⊎ IsWell (history level' lapsed starved' f') new.sides.left
  left_well well = elim counts.counts [
    | inl same ↦ inr (same ∙ well.0, x.left_stays well.1)
    | inr bad ↦ elim (cases_Bool old.sides.right) [
      | inl too ↦ present_not_failed r (x.idle well.1 too).0 bad.0
      | inr out ↦ inl ((x.left_first well.1 out).cause bad.0)
    ]
  ]

  right_well : IsWell (history level lapsed starved f) old.sides.right
      → Rose old.right.faults new.right.faults ⊎ (IsTrue lapsed ⊎ IsWell (history level' lapsed starved' f') new.sides.right)
  right_well well = elim (cases_Bool old.sides.left) [
    | inl is_in ↦
        let idle = x.idle is_in well.1 in
        elim counts.counts [
          | inl same ↦ inr (inr (same ∙ well.0, ap (λ z. z.sides.right) idle.1 ∙ well.1))
          | inr bad ↦ present_not_failed r idle.0 bad.0
        ]
    | inr out ↦ elim counts.counts [
      | inl same ↦ inr (inr (same ∙ well.0, x.right_stays out ∙ well.1))
      | inr bad ↦ inl ((x.right_first out).cause bad.0)
    ]
  ]

  Both : Type 0
  Both = (Rose old.left.faults new.left.faults ⊎ Rose old.right.faults new.right.faults)
      ⊎ (AreLevel (history level' lapsed starved' f')
      ⊎ (IsStarved new (history level' lapsed starved' f') ⊎ IsNew new (history level' lapsed starved' f')))

  -- where left was asked first
  from_left : f ≡ 0 → IsTrue old.sides.left
      → Outcome r new.sides.right starved' old.left new.left old.right new.right → Both
  unfolding Both
  from_left zero is_in what = elim what [
    | inl rose ↦ inl rose
    | inr rest ↦ elim counts.counts [
      | inl same ↦
          let first = x.left_stays is_in in
          let none_failed = same ∙ zero in
          elim rest [
            | inl made ↦ inr (inl (left_level.taken none_failed first, right_level.taken none_failed made.1))
            | inr refused ↦ elim refused [
              | inl starves ↦ inr (inr (inl (
                starves.0.0,
                ap (λ v. v.stands) (told_is new.sides.left new.left new.right first) ∙ starves.1,
              )))
              | inr nothing ↦ inr (inr (inr (none_failed, nothing)))
            ]
          ]
      | inr bad ↦ ⊎_elim (λ too. present_not_failed r (x.idle is_in too).0 bad.0)
          (λ out. inl (inl ((x.left_first is_in out).cause bad.0))) (cases_Bool old.sides.right)
    ]
  ]

  -- where right was, which is in alone
  from_right : f ≡ 0 → IsFalse old.sides.left
      → Outcome r new.sides.left starved' old.right new.right old.left new.left → Both
  unfolding Both
  from_right zero out what = elim what [
    | inl rose ↦ inl (⊎_elim (λ right. inr right) (λ left. inl left) rose)
    | inr rest ↦ elim counts.counts [
      | inl same ↦
          let none_failed = same ∙ zero in
          elim rest [
            | inl made ↦ inr (inl (
              left_level.taken none_failed made.1,
              right_level.taken none_failed (x.right_stays out ∙ k.some_in out),
            ))
            | inr refused ↦ elim refused [
              | inl starves ↦ inr (inr (inl (
                starves.0.0,
                ap (λ v. v.stands) (untold_is new.sides.left new.left new.right ((x.left_other out).refused starves.0.1)) ∙ starves.1,
              )))
              | inr nothing ↦ inr (inr (inr (none_failed, (nothing.1, nothing.0))))
            ]
          ]
      | inr bad ↦ inl (inr ((x.right_first out).cause bad.0))
    ]
  ]

  both : IsTrue (ls && gs) → IsStarved old (history level lapsed starved f) ⊎ IsNew old (history level lapsed starved f) → Both
  unfolding Both
  both told (inl starves) =
      inr (inr (inl ((y.stays starves.0).0, ap (λ z. (preferred z).stands) (y.rests starves.0) ∙ starves.1)))
  both told (inr fresh) = elim (cases_Bool old.sides.left) [
    | inl is_in ↦ elim (cases_Bool old.sides.right) [
      | inl too ↦ absurd ((k.level is_in too).something told fresh.1.0)
      | inr out ↦ from_left fresh.0 is_in (outcome ls lc gs gc dims r new.sides.right starved' old.left new.left old.right new.right
          (x.left_first is_in out) (x.right_other is_in out) (left_stands ls gs told) (right_stands ls gs told) fresh.1.0 fresh.1.1)
    ]
    | inr out ↦ from_right fresh.0 out (outcome gs gc ls lc dims r new.sides.left starved' old.right new.right old.left new.left
        (x.right_first out) (x.left_other out) (right_stands ls gs told) (left_stands ls gs told) fresh.1.1 fresh.1.0)
  ]

  created_later : IsLater (ls && gs) old (history level lapsed starved f) new (history level' lapsed starved' f')
  unfolding Both
  created_later = record {
    left_count = left_count;
    right_count = right_count;
    left_fits = left_after.faults;
    right_fits = right_after.faults;
    left_level = left_level.stays;
    right_level = right_level.stays;
    lapsed = λ h. h;
    left_since = left_level.since;
    right_since = right_level.since;
    left_well = left_well;
    right_well = right_well;
    both = both;
  }

  pub create_keeps : Keeps (shown (ls && gs) (tells_all ls gs lc gc) (preferred old) a f m p s
      (mirror_facts (ls && gs) old (history level lapsed starved f)))
      (shown (ls && gs) (tells_all ls gs lc gc) (preferred new) a' f' m' p' s'
      (mirror_facts (ls && gs) new (history level' lapsed starved' f')))
  create_keeps =
      shown_keeps (ls && gs) (tells_all ls gs lc gc) (preferred old) (preferred new) a a' f m p s f' m' p' s' _ _ (IsErrOf r Failed) counts
      (lasting_kept (ls && gs) old (history level lapsed starved f) new (history level' lapsed starved' f') created_later)
