-- Records that are placed one after another.
use Rattle.std.proofs.Common.{◌≡◌, ◌≢◌, ℕ, ◌+◌, ◌^◌, ◌<◌, ◌≤◌, inl, inr, ⊎_elim, List, length, refl, sym, ap, ◌∙◌, arith}
use Rattle.std.specs.Fork.{slice_chunk}
use Rattle.std.proofs.lemmas.Bool.{cases_eq}
use Rattle.bm_gf2.specs.declared.matrix.Matrix.{Matrix}
use Rattle.bm_gf2.specs.Matrix.{IsNonsingular}
use Rattle.bm_gf2.proofs.MapLemmas.{images_apart}
use Rattle.bm_bufs.specs.Places.{places_by, PlacesRecords}

-- different numbers have different places
pub record IsInjective (place : ℕ → ℕ) (n : ℕ) : Type 0 where
  pub apart : (x y : ℕ) → x < 2 ^ n → y < 2 ^ n → x ≢ y → place x ≢ place y

-- a nonsingular matrix keeps different numbers apart
pub places_by-injective : (a : Matrix) (plus : ℕ) → IsNonsingular a → IsInjective (places_by a plus) a.n
places_by-injective a plus nonsingular =
    record { apart = λ x y short_x short_y differ. images_apart a plus x y nonsingular short_x short_y differ }

-- no record is placed yet
pub PlacesRecords-none : (place : ℕ → ℕ) (n width first : ℕ) (row load : List ℕ) → PlacesRecords place n width first 0 row load load
PlacesRecords-none place n width first row load =
    record { placed = λ r none. absurd (omega arith); others = λ x short apart. refl; size = refl }

-- one record more
pub PlacesRecords-more : (place : ℕ → ℕ) (n width first r to : ℕ) (row old load new : List ℕ)
    → IsInjective place n → first + r < 2 ^ n → to ≡ place (first + r)
    → PlacesRecords place n width first r row old load
    → slice_chunk new width to ≡ slice_chunk row width r
    → ((k : ℕ) → k ≢ to → slice_chunk new width k ≡ slice_chunk load width k)
    → length new ≡ length load
    → PlacesRecords place n width first (r + 1) row old new
PlacesRecords-more place n width first r to row old load new injective short here before copied kept size = record {
  placed = λ q below.
      ⊎_elim
      (λ (p : q ≡ r). rw p (ap (slice_chunk new width) (sym here) ∙ copied))
      (λ (p : q ≢ r). kept (place (first + q)) (λ e. injective.apart (first + q) (first + r) (omega arith) short (omega arith) (e ∙ here))
      ∙ before.placed q (omega arith))
      (cases_eq q r);
  others = λ x inside apart.
      kept (place x) (λ e. injective.apart x (first + r) inside short
      (⊎_elim (λ (p : x < first). λ (s : x ≡ first + r). absurd (omega arith))
      (λ (p : first + (r + 1) ≤ x). λ (s : x ≡ first + r). absurd (omega arith)) apart) (e ∙ here))
      ∙ before.others x inside (⊎_elim (λ (p : x < first). inl p) (λ (p : first + (r + 1) ≤ x). inr (omega arith)) apart);
  size = size ∙ before.size;
}
