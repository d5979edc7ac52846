-- A read of a mirror, which asks the right side where the left one gave nothing.
use Rattle.std.proofs.Common.{◌≡◌, inl, inr, ◌&&◌, ℕ, ◌<◌, Bool, false, IsTrue, IsFalse, List, Option, None, Result}
use Rattle.std.proofs.Common.{Ok, Err, IsOk, IsErr, is_err, sym, ◌∙◌, ap, refl, subst}
use Rattle.std.proofs.lemmas.Bool.{false≢true, cases_Bool, and_parts, and_right}
use Rattle.bm_base.specs.declared.dims.Dims.{Dims}
use Rattle.bm_base.specs.declared.fault.Failed.{Failed}
use Rattle.bm_base.specs.Contents.{Contents, block_at}
use Rattle.bm_rack.specs.Calls.{place_on, disk_bytes, RowRead}
use Rattle.bm_rack.specs.Untold.{untold_contents}
use Rattle.bm_mirror.specs.TwoSides.{TwoSides, preferred, shown, IsMirror}
use Rattle.bm_mirror.specs.Consistent.{told_is}
use Rattle.bm_mirror.proofs.ShownLemmas.{shown_left, shown_right}
use Rattle.bm_mirror.proofs.SideLemmas.{ok_not_err, ok_or_err}

-- an answer that is no fault
ok_is_not_err : {T : Type 0} (r : Result T Failed) → IsOk r → is_err r ≡ false
ok_is_not_err (Ok x) ok = refl
ok_is_not_err (Err e) ok = absurd (false≢true ok)

-- a side that gave something was asked
pub in_if_ok : {T : Type 0} (asked : Bool) (x : Result T Failed) → (IsFalse asked → IsErr x) → IsOk x → IsTrue asked
in_if_ok asked x empty ok = elim (cases_Bool asked) [ inl holds ↦ holds | inr fails ↦ ok_not_err x ok (empty fails) ]

-- the right side was asked exactly where it is in and the left one gave nothing
module _ {T : Type 0} (old : TwoSides) (x y r : Result T Failed) (asked : Bool) (is : asked ≡ (old.sides.right && is_err x)) where
  pub not_asked_after : IsOk x → IsFalse asked
  not_asked_after ok = is ∙ and_right old.sides.right (is_err x) (ok_is_not_err x ok)

  pub asked_in : IsTrue asked → IsTrue old.sides.right
  asked_in holds = (and_parts old.sides.right (is_err x) (sym is ∙ holds)).0

  -- what was read is what the mirror holds
  module _ (ts tc lc gc : Bool) (a : Option Dims) (f m p s : ℕ) (facts : List ℕ → Bool)
      (lt : IsTrue tc → IsTrue lc) (gt : IsTrue tc → IsTrue gc) (k : IsMirror ts tc old a)
      (left_in : IsOk x → IsTrue old.sides.left) (right_asked : IsOk y → IsTrue asked)
      (good : IsOk x → r ≡ x) (other : IsErr x → r ≡ y) where
    -- what the mirror holds, which each side holds that is in
    held : Contents
    held = (shown ts tc (preferred old) a f m p s facts).contents

    from_left : IsTrue tc → IsTrue old.sides.left → old.left.contents ≡ held
    unfolding held
    from_left told holds =
        sym (ap (λ v. v.contents) (shown_left ts tc old a f m p s facts holds) ∙ told_is tc old.left.contents untold_contents told)

    from_right : IsTrue tc → IsTrue old.sides.right → old.right.contents ≡ held
    unfolding held
    from_right told holds =
        sym (ap (λ v. v.contents) (shown_right ts tc old a f m p s facts k.level holds)
        ∙ told_is tc old.right.contents untold_contents told)

    -- by one read after the other
    pub row_read : (dims : Dims) (places : List (Option ℕ)) (first second third : List ℕ)
        → (IsTrue old.sides.left → RowRead lc dims old.left.contents places x first second)
        → (IsFalse old.sides.left → second ≡ first)
        → (IsTrue asked → RowRead gc dims old.right.contents places y second third)
        → (IsFalse asked → third ≡ second)
        → RowRead tc dims (shown ts tc (preferred old) a f m p s facts).contents places r first third
    unfolding held
    row_read dims places first second third left left_rests right right_rests = record {
      taking = λ told ok disk place on at. elim (ok_or_err x) [
        | inl fine ↦
            ap (λ b. disk_bytes dims disk b) (right_rests (not_asked_after fine))
            ∙ (left (left_in fine)).taking (lt told) fine disk place on at
            ∙ ap (λ c. block_at c disk place) (from_left told (left_in fine))
        | inr bad ↦
            let fine : IsOk y = subst (λ z. IsOk z) (other bad) ok in
            (right (right_asked fine)).taking (gt told) fine disk place on at
            ∙ ap (λ c. block_at c disk place) (from_right told (asked_in (right_asked fine)))
      ];
      resting = λ disk on at. later disk on at ∙ earlier disk on at;
    }
      where
        later : (disk : ℕ) → disk < dims.disks → place_on places disk ≡ None → disk_bytes dims disk third ≡ disk_bytes dims disk second
        later disk on at = elim (cases_Bool asked) [
          | inl holds ↦ (right holds).resting disk on at
          | inr fails ↦ ap (λ b. disk_bytes dims disk b) (right_rests fails)
        ]

        earlier : (disk : ℕ) → disk < dims.disks → place_on places disk ≡ None → disk_bytes dims disk second ≡ disk_bytes dims disk first
        earlier disk on at = elim (cases_Bool old.sides.left) [
          | inl holds ↦ (left holds).resting disk on at
          | inr fails ↦ ap (λ b. disk_bytes dims disk b) (left_rests fails)
        ]
