-- A mirror shows one rack: what a call did to that rack, the mirror did.
use Rattle.std.proofs.Common.{◌≡◌, inl, inr, ℕ, Bool, true, false, IsTrue, IsFalse, if◌then◌else◌, List, Option, None, Result}
use Rattle.std.proofs.Common.{sym, ◌∙◌, ap, refl, subst}
use Rattle.std.proofs.lemmas.Bool.{cases_Bool}
use Rattle.bm_base.specs.declared.dims.Dims.{Dims}
use Rattle.bm_base.specs.declared.fault.Failed.{Failed}
use Rattle.bm_base.specs.Contents.{Contents, RackUnit, block_unit, unit_at, block_at}
use Rattle.bm_rack.specs.RackView.{RackView}
use Rattle.bm_rack.specs.Frames.{ChangesOnly, SameDisks}
use Rattle.bm_rack.specs.declared.rack.Found.{Found}
use Rattle.bm_rack.specs.declared.rack.AttachError.{AttachError}
use Rattle.bm_rack.specs.Calls.{RowWritten, Synced, InRow, AttachAnswer, attached_after, AttachDone}
use Rattle.bm_rack.specs.Untold.{untold_contents}
use Rattle.bm_mirror.specs.TwoSides.{TwoSides, preferred, shown, IsLevel, IsMirror}
use Rattle.bm_mirror.specs.SideCalls.{IsSettled}
use Rattle.bm_mirror.specs.Attaching.{AttachedSides}
use Rattle.bm_mirror.specs.Consistent.{told_same, told_is, untold_is}

-- a unit of what is shown
told_unit : (told : Bool) (c d z : Contents) (u : RackUnit) → unit_at c u ≡ unit_at d u
    → unit_at (if told then c else z) u ≡ unit_at (if told then d else z) u
told_unit true c d z u same = same
told_unit false c d z u same = refl

told_flag : (told : Bool) (c d z : RackUnit → Bool) (u : RackUnit) → c u ≡ d u
    → (if told then c else z) u ≡ (if told then d else z) u
told_flag true c d z u same = same
told_flag false c d z u same = refl

-- whether a unit of what is shown is dirty
pub told_clean : (told : Bool) (d : RackUnit → Bool) (u : RackUnit) → d u ≡ false → (if told then d else (λ w. false)) u ≡ false
told_clean true d u clean = clean
told_clean false d u clean = refl

module _ (ts tc : Bool) (a a' : Option Dims) (f m p s f' m' p' s' : ℕ) (facts facts' : List ℕ → Bool) (v w : RackView) where
  pub shown_changes : (P : RackUnit → Type 0) → a' ≡ a → ChangesOnly P v w
      → ChangesOnly P (shown ts tc v a f m p s facts) (shown ts tc w a' f' m' p' s' facts')
  shown_changes P same x = record {
    stands = told_same ts w.stands v.stands None (λ _. x.stands);
    attached = same;
    contents = λ u h. told_unit tc w.contents v.contents untold_contents u (x.contents u h);
    dirty = λ u h. told_flag tc w.dirty v.dirty (λ u. false) u (x.dirty u h);
  }

  pub shown_row_written : {T : Type 0} (rc : Bool) (dims : Dims) (places : List (Option ℕ)) (bytes : List ℕ) (r : Result T Failed)
      → (IsTrue tc → IsTrue rc) → a' ≡ a → RowWritten rc dims v places bytes r w
      → RowWritten tc dims (shown ts tc v a f m p s facts) places bytes r (shown ts tc w a' f' m' p' s' facts')
  shown_row_written rc dims places bytes r tells same x = record {
    only = shown_changes (InRow places) same x.only;
    taking = λ told ok disk place below is.
        ap (λ c. block_at c disk place) (told_is tc w.contents untold_contents told) ∙ x.taking (tells told) ok disk place below is;
    own_dirty = λ told disk place below is.
        ap (λ (d : RackUnit → Bool). d (block_unit disk place)) (told_is tc w.dirty (λ u. false) told)
        ∙ x.own_dirty (tells told) disk place below is;
  }

  pub shown_synced : {T : Type 0} (r : Result T Failed) → a' ≡ a → Synced v r w
      → Synced (shown ts tc v a f m p s facts) r (shown ts tc w a' f' m' p' s' facts')
  shown_synced r same x = record {
    stands = told_same ts w.stands v.stands None (λ _. x.stands);
    contents = told_same tc w.contents v.contents untold_contents (λ _. x.contents);
    attached = same;
    clean = λ ok u. told_clean tc w.dirty u (x.clean ok u);
    failed = λ bad. told_same tc w.dirty v.dirty (λ u. false) (λ _. x.failed bad);
  }

-- a mirror shows two level racks alike
pub shown_level : (ts tc : Bool) (v w : RackView) (a : Option Dims) (f m p s : ℕ) (facts : List ℕ → Bool) → IsLevel ts tc v w
    → shown ts tc v a f m p s facts ≡ shown ts tc w a f m p s facts
shown_level ts tc v w a f m p s facts k =
    let look : Option Dims → Contents → (RackUnit → Bool) → RackView = λ x c d. record {
      stands = x;
      contents = c;
      dirty = d;
      attached = a;
      faults = f;
      moves = m;
      pages = p;
      syncs = s;
      steady = false;
      stopping = false;
      lasting = facts;
    } in
    let z : RackUnit → Bool = λ u. false in
    ap (λ x. look x (if tc then v.contents else untold_contents) (if tc then v.dirty else z)) (told_same ts v.stands w.stands None k.stands)
    ∙ ap (λ c. look (if ts then w.stands else None) c (if tc then v.dirty else z))
    (told_same tc v.contents w.contents untold_contents k.contents)
    ∙ ap (λ d. look (if ts then w.stands else None) (if tc then w.contents else untold_contents) d) (told_same tc v.dirty w.dirty z k.dirty)

-- a mirror whose left side is in shows that side
pub shown_left : (ts tc : Bool) (t : TwoSides) (a : Option Dims) (f m p s : ℕ) (facts : List ℕ → Bool) → IsTrue t.sides.left
    → shown ts tc (preferred t) a f m p s facts ≡ shown ts tc t.left a f m p s facts
shown_left ts tc t a f m p s facts holds = ap (λ v. shown ts tc v a f m p s facts) (told_is t.sides.left t.left t.right holds)

-- and one whose right side is in that one, as the two are level where both are in
pub shown_right : (ts tc : Bool) (t : TwoSides) (a : Option Dims) (f m p s : ℕ) (facts : List ℕ → Bool)
    → (IsTrue t.sides.left → IsTrue t.sides.right → IsLevel ts tc t.left t.right) → IsTrue t.sides.right
    → shown ts tc (preferred t) a f m p s facts ≡ shown ts tc t.right a f m p s facts
shown_right ts tc t a f m p s facts level holds = elim (cases_Bool t.sides.left) [
  | inl first ↦ shown_left ts tc t a f m p s facts first ∙ shown_level ts tc t.left t.right a f m p s facts (level first holds)
  | inr fails ↦ ap (λ v. shown ts tc v a f m p s facts) (untold_is t.sides.left t.left t.right fails)
]

-- what a call did to each side that was in, and answered of it, the mirror did and answered
pub by_settled : {T : Type 0} (ts tc : Bool) (old new : TwoSides) (a a' : Option Dims) (f m p s f' m' p' s' : ℕ)
    (facts facts' : List ℕ → Bool) (x y r answer : Result T Failed) (Q : RackView → Result T Failed → RackView → Type 0)
    → answer ≡ r → IsMirror ts tc old a → IsSettled x y r old.sides new.sides
    → (IsTrue old.sides.left → Q (shown ts tc old.left a f m p s facts) x (shown ts tc new.left a' f' m' p' s' facts'))
    → (IsTrue old.sides.right → Q (shown ts tc old.right a f m p s facts) y (shown ts tc new.right a' f' m' p' s' facts'))
    → Q (shown ts tc (preferred old) a f m p s facts) answer (shown ts tc (preferred new) a' f' m' p' s' facts')
by_settled {T} ts tc old new a a' f m p s f' m' p' s' facts facts' x y r answer Q same k settled left right =
    subst (λ z. Q (shown ts tc (preferred old) a f m p s facts) z (shown ts tc (preferred new) a' f' m' p' s' facts')) (sym same)
    (elim (cases_Bool new.sides.left) [
      | inl holds ↦
          let was : IsTrue old.sides.left = (settled.left_answers holds).0 in
          subst (λ v. Q v r (shown ts tc (preferred new) a' f' m' p' s' facts')) (sym (shown_left ts tc old a f m p s facts was))
          (subst (λ w. Q (shown ts tc old.left a f m p s facts) r w) (sym (shown_left ts tc new a' f' m' p' s' facts' holds))
          (subst (λ z. Q (shown ts tc old.left a f m p s facts) z (shown ts tc new.left a' f' m' p' s' facts'))
          (sym (settled.left_answers holds).1) (left was)))
      | inr fails ↦
          let was : IsTrue old.sides.right = settled.right_in (settled.right_answers fails).0 in
          let is : shown ts tc (preferred new) a' f' m' p' s' facts' ≡ shown ts tc new.right a' f' m' p' s' facts' =
          ap (λ v. shown ts tc v a' f' m' p' s' facts') (untold_is new.sides.left new.left new.right fails) in
          subst (λ v. Q v r (shown ts tc (preferred new) a' f' m' p' s' facts')) (sym (shown_right ts tc old a f m p s facts k.level was))
          (subst (λ w. Q (shown ts tc old.right a f m p s facts) r w) (sym is)
          (subst (λ z. Q (shown ts tc old.right a f m p s facts) z (shown ts tc new.right a' f' m' p' s' facts'))
          (sym (settled.right_answers fails).1) (right was)))
    ])

-- a mirror shows two racks that hold the same alike
pub shown_held : (ts tc : Bool) (a a' : Option Dims) (f m p s f' m' p' s' : ℕ) (facts facts' : List ℕ → Bool) (v w : RackView)
    → SameDisks v w → SameDisks (shown ts tc v a f m p s facts) (shown ts tc w a' f' m' p' s' facts')
shown_held ts tc a a' f m p s f' m' p' s' facts facts' v w x = record {
  stands = told_same ts w.stands v.stands None (λ _. x.stands);
  contents = told_same tc w.contents v.contents untold_contents (λ _. x.contents);
  dirty = told_same tc w.dirty v.dirty (λ u. false) (λ _. x.dirty);
}

-- a mirror shows the same after a call that took sides out and changed on none what it holds
pub mirror_held : (ts tc : Bool) (old new : TwoSides) (a a' : Option Dims) (f m p s f' m' p' s' : ℕ) (facts facts' : List ℕ → Bool)
    → IsMirror ts tc old a → SameDisks old.left new.left → SameDisks old.right new.right
    → (IsFalse new.sides.left → IsTrue new.sides.right)
    → (IsTrue new.sides.left → IsTrue old.sides.left) → (IsTrue new.sides.right → IsTrue old.sides.right)
    → SameDisks (shown ts tc (preferred old) a f m p s facts) (shown ts tc (preferred new) a' f' m' p' s' facts')
mirror_held ts tc old new a a' f m p s f' m' p' s' facts facts' k left right some_in left_was right_was = elim (cases_Bool new.sides.left) [
  | inl holds ↦
      subst (λ v. SameDisks v (shown ts tc (preferred new) a' f' m' p' s' facts'))
      (sym (shown_left ts tc old a f m p s facts (left_was holds)))
      (subst (λ w. SameDisks (shown ts tc old.left a f m p s facts) w) (sym (shown_left ts tc new a' f' m' p' s' facts' holds))
      (shown_held ts tc a a' f m p s f' m' p' s' facts facts' old.left new.left left))
  | inr fails ↦
      let is : shown ts tc (preferred new) a' f' m' p' s' facts' ≡ shown ts tc new.right a' f' m' p' s' facts' =
      ap (λ v. shown ts tc v a' f' m' p' s' facts') (untold_is new.sides.left new.left new.right fails) in
      subst (λ v. SameDisks v (shown ts tc (preferred new) a' f' m' p' s' facts'))
      (sym (shown_right ts tc old a f m p s facts k.level (right_was (some_in fails))))
      (subst (λ w. SameDisks (shown ts tc old.right a f m p s facts) w) (sym is)
      (shown_held ts tc a a' f m p s f' m' p' s' facts facts' old.right new.right right))
]

-- an attach of a mirror
pub mirror_attached : (ts tc : Bool) (old new : TwoSides) (a a' : Option Dims) (f m p s f' m' p' s' : ℕ) (facts facts' : List ℕ → Bool)
    (dims : Dims) (r : Result Found AttachError) → a' ≡ attached_after dims r → IsMirror ts tc old a → AttachedSides ts dims r old new
    → (IsTrue new.sides.left → IsTrue old.sides.left) → (IsTrue new.sides.right → IsTrue old.sides.right)
    → AttachDone ts dims (shown ts tc (preferred old) a f m p s facts) r (shown ts tc (preferred new) a' f' m' p' s' facts')
mirror_attached ts tc old new a a' f m p s f' m' p' s' facts facts' dims r is k x left_was right_was =
    let same = mirror_held ts tc old new a a' f m p s f' m' p' s' facts facts' k x.left x.right x.some_in left_was right_was in
    record {
      answer = λ told.
          subst (λ z. AttachAnswer z dims r) (sym (told_is ts (preferred new).stands None told) ∙ same.stands) (x.answer told);
      attached = is;
      stands = same.stands;
      contents = same.contents;
      dirty = same.dirty;
    }
