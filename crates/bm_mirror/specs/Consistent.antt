-- The view of a mirror is well formed. The proof stands in specs/, since the law of an `impl` takes none from proofs/.
use Rattle.std.proofs.Common.{◌≡◌, inl, inr, refl, ◌&&◌, ℕ, ◌^◌, ◌<◌, Bool, true, false, IsTrue, if◌then◌else◌, List, Option, Some, None}
use Rattle.std.proofs.Common.{sym, ◌∙◌, ap, subst}
use Rattle.std.proofs.lemmas.Bool.{and_parts, cases_Bool}
use Rattle.bm_base.specs.declared.dims.Dims.{Dims}
use Rattle.bm_base.specs.Contents.{HasSizes}
use Rattle.bm_rack.specs.RackView.{RackView, IsWellFormed}
use Rattle.bm_mirror.specs.TwoSides.{TwoSides, preferred, tells_all, shown, IsMirror}

-- of two choices by one test, where they agree if it is true
pub told_same : {X : Type 0} (told : Bool) (x y z : X) → (IsTrue told → x ≡ y) → (if told then x else z) ≡ (if told then y else z)
told_same true x y z same = same refl
told_same false x y z same = refl

-- the choice where the test is true, and where it is false
pub told_is : {X : Type 0} (told : Bool) (x z : X) → IsTrue told → (if told then x else z) ≡ x
told_is told x z holds = ap (λ b. if b then x else z) holds

pub untold_is : {X : Type 0} (told : Bool) (x z : X) → told ≡ false → (if told then x else z) ≡ z
untold_is told x z fails = ap (λ b. if b then x else z) fails

-- the side that is asked first is one that is in
preferred_is : (tells_stands tells_contents : Bool) (s : TwoSides) (attached : Option Dims) (P : RackView → Type 0)
    → IsMirror tells_stands tells_contents s attached → (IsTrue s.sides.left → P s.left) → (IsTrue s.sides.right → P s.right)
    → P (preferred s)
preferred_is tells_stands tells_contents s attached P k left right = elim (cases_Bool s.sides.left) [
  | inl holds ↦ subst P (sym (told_is s.sides.left s.left s.right holds)) (left holds)
  | inr fails ↦ subst P (sym (untold_is s.sides.left s.left s.right fails))
      (right (k.some_in fails))
]

-- what the law asks of a side that is in, where the mirror tells
record IsAttachedRight (tells_stands tells_contents : Bool) (attached : Option Dims) (v : RackView) : Type 0 where
  stands : IsTrue tells_stands → (dims : Dims) → attached ≡ Some dims → v.stands ≡ Some dims
  sizes : IsTrue tells_stands → IsTrue tells_contents → (dims : Dims) → v.stands ≡ Some dims → HasSizes dims v.contents

pub mirror_is_consistent : (ls lc gs gc : Bool) (s : TwoSides) (attached : Option Dims) (faults moves pages syncs : ℕ)
    (facts : List ℕ → Bool)
    → IsMirror (ls && gs) (tells_all ls gs lc gc) s attached
    → IsWellFormed ls lc s.left → IsWellFormed gs gc s.right
    → faults < 2 ^ 64 → moves < 2 ^ 64 → pages < 2 ^ 64 → syncs < 2 ^ 64
    → IsWellFormed (ls && gs) (tells_all ls gs lc gc)
    (shown (ls && gs) (tells_all ls gs lc gc) (preferred s) attached faults moves pages syncs facts)
mirror_is_consistent ls lc gs gc s attached faults moves pages syncs facts k left right few_faults few_moves few_pages few_syncs = record {
  attached = λ told dims h. told_is (ls && gs) (preferred s).stands None told ∙ whole.stands told dims h;
  sizes = λ told all dims h.
      subst (HasSizes dims) (sym (told_is (tells_all ls gs lc gc) (preferred s).contents _ all))
      (whole.sizes told all dims (sym (told_is (ls && gs) (preferred s).stands None told) ∙ h));
  faults = few_faults;
  moves = few_moves;
  pages = few_pages;
  syncs = few_syncs;
}
  where
    whole : IsAttachedRight (ls && gs) (tells_all ls gs lc gc) attached (preferred s)
    whole = preferred_is (ls && gs) (tells_all ls gs lc gc) s attached (IsAttachedRight (ls && gs) (tells_all ls gs lc gc) attached) k
        (λ holds. record {
          stands = λ told dims h. left.attached (and_parts ls gs told).0 dims (k.left_attached holds dims h);
          sizes = λ told all dims h.
              left.sizes (and_parts ls gs told).0 (and_parts lc gc (and_parts (ls && gs) (lc && gc) all).1).0 dims h;
        })
        (λ holds. record {
          stands = λ told dims h. right.attached (and_parts ls gs told).1 dims (k.right_attached holds dims h);
          sizes = λ told all dims h.
              right.sizes (and_parts ls gs told).1 (and_parts lc gc (and_parts (ls && gs) (lc && gc) all).1).1 dims h;
        })
