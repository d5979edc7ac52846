-- A row, page, sync or attach call of a mirror keeps what every call of a rack keeps, and each lasting fact.
use Rattle.std.proofs.Common.{◌≡◌, ◌⊎◌, inl, inr, ⊎_elim, ◌&&◌, ℕ, ◌^◌, ◌<◌, ◌≤◌, Bool, IsTrue, IsFalse, List, Option, Some, None}
use Rattle.std.proofs.Common.{Result, IsOk, IsErr, is_err, sym, ◌∙◌, ap, refl, arith}
use Rattle.std.proofs.lemmas.Bool.{false≢true, cases_Bool}
use Rattle.bm_base.specs.declared.dims.Dims.{Dims}
use Rattle.bm_base.specs.declared.fault.Failed.{Failed}
use Rattle.bm_base.specs.Count.{raised, Rose}
use Rattle.bm_rack.specs.RackView.{RackView, IsWellFormed, IsAttached}
use Rattle.bm_rack.specs.Frames.{Keeps}
use Rattle.bm_mirror.specs.declared.sides.Sides.{Sides}
use Rattle.bm_mirror.specs.TwoSides.{TwoSides, preferred, tells_all, shown, IsMirror}
use Rattle.bm_mirror.specs.SideCalls.{SideAsked, SideRead, IsSettled}
use Rattle.bm_mirror.specs.Consistent.{told_is, untold_is}
use Rattle.bm_mirror.specs.Lasting.{History, history, IsWell, mirror_facts}
use Rattle.bm_mirror.proofs.SideLemmas.{both_ways, some_is_not, ok_or_err, left_stands, right_stands}
use Rattle.bm_mirror.proofs.LastingLemmas.{IsLater, IsStarved, IsNew, AreLevel, lasting_kept}

-- the count of a mirror after a call, which failed or did not
pub record Counted (failed : Type 0) (old new : ℕ) : Type 0 where
  pub fits : old < 2 ^ 64
  pub counts : ((new ≡ old) ⊎ (failed × (new ≡ raised old 1)))

pub counted : {failed : Type 0} (b : Bool) (old new : ℕ) → old < 2 ^ 64 → (IsTrue b → failed) → (IsTrue b → new ≡ raised old 1)
    → (IsFalse b → new ≡ old) → Counted failed old new
counted b old new fits is rose same = record {
  fits = fits;
  counts = ⊎_elim (λ bad. inr (is bad, rose bad)) (λ fine. inl (same fine)) (cases_Bool b);
}

-- what a mirror shows keeps what every call keeps
pub shown_keeps : (ts tc : Bool) (v w : RackView) (a a' : Option Dims) (f m p s f' m' p' s' : ℕ) (facts facts' : List ℕ → Bool)
    (failed : Type 0) → Counted failed f f' → ((fact : List ℕ) → IsTrue (facts fact) → IsTrue (facts' fact))
    → Keeps (shown ts tc v a f m p s facts) (shown ts tc w a' f' m' p' s' facts')
shown_keeps ts tc v w a a' f m p s f' m' p' s' facts facts' failed k later = record {
  faults = ⊎_elim (λ same. omega arith) (λ rose. let is = rose.1 in omega (arith, k.fits)) k.counts;
  steady = λ h. h;
  stopping = refl;
  sure = λ h _. absurd (false≢true h);
  lasting = later;
}

-- What a call did to one side, as far as lasting facts speak of it.
pub record Fate (failed by_answer : Type 0) (was_in is_in : Bool) (old new : RackView) : Type 0 where
  pub count : old.faults ≤ new.faults
  pub fits : new.faults < 2 ^ 64
  pub fell : IsTrue was_in → IsFalse is_in → Rose old.faults new.faults ⊎ by_answer
  pub cause : failed → IsTrue was_in → Rose old.faults new.faults

-- a side that was in while no call failed, after a call
well_after : (failed by_answer : Type 0) (h h' : History) (was_in is_in : Bool) (old new : RackView)
    → Counted failed h.faults h'.faults → Fate failed by_answer was_in is_in old new → IsWell h was_in
    → Rose old.faults new.faults ⊎ (by_answer ⊎ IsWell h' is_in)
well_after failed by_answer h h' was_in is_in old new k fate well = elim k.counts [
  | inr bad ↦ inl (fate.cause bad.0 well.1)
  | inl same ↦ elim (cases_Bool is_in) [
    | inl stays ↦ inr (inr (same ∙ well.0, stays))
    | inr out ↦ ⊎_elim (λ rose. inl rose) (λ answer. inr (inl answer)) (fate.fell well.1 out)
  ]
]

no_answer : {P Q : Type 0} → P ⊎ (⊥ ⊎ Q) → P ⊎ Q
no_answer x = ⊎_elim (λ p. inl p) (λ rest. ⊎_elim (λ e. absurd e) (λ q. inr q) rest) x

-- after a call that took no side in
pub later_by_call : (told : Bool) (old new : TwoSides) (level : Sides) (lapsed lapsed' starved : Bool) (f f' : ℕ) (failed : Type 0)
    → Counted failed f f' → (IsTrue lapsed → IsTrue lapsed')
    → Fate failed ⊥ old.sides.left new.sides.left old.left new.left
    → Fate failed (IsTrue lapsed') old.sides.right new.sides.right old.right new.right
    → (IsTrue told → IsStarved old (history level lapsed starved f) ⊎ IsNew old (history level lapsed starved f)
    → (Rose old.left.faults new.left.faults ⊎ Rose old.right.faults new.right.faults)
    ⊎ (AreLevel (history level lapsed' starved f')
    ⊎ (IsStarved new (history level lapsed' starved f') ⊎ IsNew new (history level lapsed' starved f'))))
    → IsLater told old (history level lapsed starved f) new (history level lapsed' starved f')
later_by_call told old new level lapsed lapsed' starved f f' failed k stays left right both = record {
  left_count = left.count;
  right_count = right.count;
  left_fits = left.fits;
  right_fits = right.fits;
  left_level = λ h. h;
  right_level = λ h. h;
  lapsed = stays;
  left_since = λ out is. both_ways level.left is out;
  right_since = λ out is. both_ways level.right is out;
  left_well = λ well. no_answer (well_after failed ⊥ (history level lapsed starved f) (history level lapsed' starved f')
      old.sides.left new.sides.left old.left new.left k left well);
  right_well = λ well. well_after failed (IsTrue lapsed') (history level lapsed starved f) (history level lapsed' starved f')
      old.sides.right new.sides.right old.right new.right k right well;
  both = both;
}

-- something stands on a mirror that is attached
pub attached_stands : (ls lc gs gc : Bool) (s : TwoSides) (a : Option Dims) → IsMirror (ls && gs) (tells_all ls gs lc gc) s a
    → IsWellFormed ls lc s.left → IsWellFormed gs gc s.right → IsAttached a → IsTrue (ls && gs)
    → ¬ ((preferred s).stands ≡ None) × (¬ ((s.left.stands ≡ None) × (s.right.stands ≡ None)))
attached_stands ls lc gs gc s a k left right at told = elim (cases_Bool s.sides.left) [
  | inl is_in ↦
      let is : s.left.stands ≡ Some at.0 = left.attached (left_stands ls gs told) at.0 (k.left_attached is_in at.0 at.1) in (
        λ none. some_is_not at.0 (sym is ∙ sym (ap (λ v. v.stands) (told_is s.sides.left s.left s.right is_in)) ∙ none),
        λ none. some_is_not at.0 (sym is ∙ none.0),
      )
  | inr out ↦
      let is : s.right.stands ≡ Some at.0 =
      right.attached (right_stands ls gs told) at.0 (k.right_attached (k.some_in out) at.0 at.1) in (
        λ none. some_is_not at.0 (sym is ∙ sym (ap (λ v. v.stands) (untold_is s.sides.left s.left s.right out)) ∙ none),
        λ none. some_is_not at.0 (sym is ∙ none.1),
      )
]

-- so nothing is to be made there
pub attached_begun : {P : Type 0} (ls lc gs gc : Bool) (s : TwoSides) (a : Option Dims) (h : History)
    → IsMirror (ls && gs) (tells_all ls gs lc gc) s a → IsWellFormed ls lc s.left → IsWellFormed gs gc s.right → IsAttached a
    → IsTrue (ls && gs) → IsStarved s h ⊎ IsNew s h → P
attached_begun ls lc gs gc s a h k left right at told before =
    let stands = attached_stands ls lc gs gc s a k left right at told in
    absurd (⊎_elim (λ starved. stands.0 starved.1) (λ new. stands.1 new.1) before)

-- what was asked of one side for a write or a sync
asked_fate : {T : Type 0} (rows pages syncs : ℕ) (ts tc was_in is_in : Bool) (x r : Result T Failed) (old new : RackView)
    → IsWellFormed ts tc new → SideAsked rows pages syncs (IsErr x) was_in old new → (IsTrue was_in → IsFalse is_in → IsErr x)
    → (IsErr r → IsTrue was_in → IsErr x) → (P : Type 0) → Fate (IsErr r) P was_in is_in old new
asked_fate rows pages syncs ts tc was_in is_in x r old new formed asked out failed P = record {
  count = asked.keeps.faults;
  fits = formed.faults;
  fell = λ was is. inl (asked.cause (out was is));
  cause = λ bad was. asked.cause (failed bad was);
}

module _ (ls lc gs gc : Bool) (old new : TwoSides) (a : Option Dims) (level : Sides) (lapsed starved : Bool)
    (f m p s f' m' p' s' : ℕ) (k : IsMirror (ls && gs) (tells_all ls gs lc gc) old a)
    (left_before : IsWellFormed ls lc old.left) (right_before : IsWellFormed gs gc old.right)
    (left_after : IsWellFormed ls lc new.left) (right_after : IsWellFormed gs gc new.right) (at : IsAttached a) where
  keeps_by_fates : (failed : Type 0) → Counted failed f f' → Fate failed ⊥ old.sides.left new.sides.left old.left new.left
      → Fate failed (IsTrue lapsed) old.sides.right new.sides.right old.right new.right
      → Keeps (shown (ls && gs) (tells_all ls gs lc gc) (preferred old) a f m p s
      (mirror_facts (ls && gs) old (history level lapsed starved f)))
      (shown (ls && gs) (tells_all ls gs lc gc) (preferred new) a f' m' p' s'
      (mirror_facts (ls && gs) new (history level lapsed starved f')))
  keeps_by_fates failed counts left right =
      shown_keeps (ls && gs) (tells_all ls gs lc gc) (preferred old) (preferred new) a a f m p s f' m' p' s' _ _ failed counts
      (lasting_kept (ls && gs) old (history level lapsed starved f) new (history level lapsed starved f')
      (later_by_call (ls && gs) old new level lapsed lapsed starved f f' failed counts (λ h. h) left right
      (attached_begun ls lc gs gc old a (history level lapsed starved f) k left_before right_before at)))

  -- a write or a sync, asked of both
  pub settled_keeps : {T : Type 0} (rows pages syncs : ℕ) (x y r : Result T Failed) → Counted (IsErr r) f f'
      → SideAsked rows pages syncs (IsErr x) old.sides.left old.left new.left
      → SideAsked rows pages syncs (IsErr y) old.sides.right old.right new.right
      → IsSettled x y r old.sides new.sides
      → Keeps (shown (ls && gs) (tells_all ls gs lc gc) (preferred old) a f m p s
      (mirror_facts (ls && gs) old (history level lapsed starved f)))
      (shown (ls && gs) (tells_all ls gs lc gc) (preferred new) a f' m' p' s'
      (mirror_facts (ls && gs) new (history level lapsed starved f')))
  settled_keeps {T} rows pages syncs x y r counts left right settled =
      keeps_by_fates (IsErr r) counts
      (asked_fate rows pages syncs ls lc old.sides.left new.sides.left x r old.left new.left left_after left settled.left_out
      (λ bad was. (settled.failed bad).0 was) ⊥)
      (asked_fate rows pages syncs gs gc old.sides.right new.sides.right y r old.right new.right right_after right settled.right_out
      (λ bad was. (settled.failed bad).1 was) (IsTrue lapsed))

  -- a read, which asks the right side where the left one gave nothing
  pub read_keeps : {T : Type 0} (rows pages syncs : ℕ) (x y r : Result T Failed) (asked : Bool) → Counted (IsErr r) f f'
      → new.sides ≡ old.sides → asked ≡ (old.sides.right && is_err x) → (IsOk x → r ≡ x) → (IsErr x → r ≡ y)
      → SideRead rows pages syncs (IsErr x) old.sides.left old.left new.left
      → SideRead rows pages syncs (IsErr y) asked old.right new.right
      → Keeps (shown (ls && gs) (tells_all ls gs lc gc) (preferred old) a f m p s
      (mirror_facts (ls && gs) old (history level lapsed starved f)))
      (shown (ls && gs) (tells_all ls gs lc gc) (preferred new) a f' m' p' s'
      (mirror_facts (ls && gs) new (history level lapsed starved f')))
  read_keeps {T} rows pages syncs x y r asked counts same is good other left right =
      keeps_by_fates (IsErr r) counts
      (record {
        count = left.keeps.faults;
        fits = left_after.faults;
        fell = λ was out. both_ways old.sides.left was (sym (ap (λ z. z.left) same) ∙ out);
        cause = λ bad was. left.cause was (left_bad bad);
      })
      (record {
        count = right.keeps.faults;
        fits = right_after.faults;
        fell = λ was out. both_ways old.sides.right was (sym (ap (λ z. z.right) same) ∙ out);
        cause = λ bad was. right.cause (asked_right bad was) (sym (ap is_err (other (left_bad bad))) ∙ bad);
      })
    where
      left_bad : IsErr r → IsErr x
      left_bad bad = elim (ok_or_err x) [
        | inl fine ↦ sym (ap is_err (good fine)) ∙ bad
        | inr fails ↦ fails
      ]

      asked_right : IsErr r → IsTrue old.sides.right → IsTrue asked
      asked_right bad was = is ∙ ap (λ b. b && is_err x) was ∙ left_bad bad
