-- Passes in order.
use Rattle.std.proofs.Common.{ℕ, zero, suc, ◌≡◌, ◌+◌, ◌^◌, ◌<◌, List, [], ◌∷◌, ◌++◌, length, take, slice_index_or, All, refl, sym, ap, ◌∙◌}
use Rattle.std.proofs.Common.{subst, arith}
use Rattle.bm_gf2.specs.declared.affine.Affine.{Affine}
use Rattle.bm_gf2.specs.Matrix.{IsNonsingular}
use Rattle.bm_gf2.specs.Affine.{affine_image}
use Rattle.bm_base.specs.Records.{SameRecords}
use Rattle.bm_base.specs.Butterfly.{butterflies}
use Rattle.bm_forms.specs.declared.pass_form.PassForm.{PassForm}
use Rattle.bm_forms.specs.declared.job.Job.TheVariants.{Permute}
use Rattle.bm_forms.specs.Permutation.{permuted}
use Rattle.bm_forms.specs.PassForm.{passed}
use Rattle.bm_forms.specs.Plan.{all_passed, DoJob}
use Rattle.bm_forms.proofs.PermutationLemmas.{permuted-unique, affine-lt}
use Rattle.bm_forms.proofs.PassFormLemmas.{FitsBits, passed-image, passed-same}

-- what holds of all holds of the first
first_of_all : (P : PassForm → Type 0) (p : PassForm) (ps : List PassForm) → All P (p ∷ ps) → P p
first_of_all P p ps h = h 0 p (let e : 0 < suc (length ps) = omega arith in e)

-- and of the others
rest_of_all : (P : PassForm → Type 0) (p : PassForm) (ps : List PassForm) → All P (p ∷ ps) → All P ps
rest_of_all P p ps h k d l = h (suc k) d (let e : suc k < suc (length ps) = omega arith in e)

-- the records in the range decide
pub all_passed-same : (n : ℕ) (ps : List PassForm) (xs ys : ℕ → List ℕ) → All (FitsBits n) ps → SameRecords (2 ^ n) xs ys
    → SameRecords (2 ^ n) (all_passed ps xs) (all_passed ps ys)
unfolding all_passed
all_passed-same n [] xs ys f h = h
all_passed-same n (p ∷ ps) xs ys f h =
    all_passed-same n ps (passed p xs) (passed p ys) (rest_of_all (FitsBits n) p ps f)
    (passed-same n p xs ys (first_of_all (FitsBits n) p ps f) h)

-- passes after passes
pub all_passed-append : (ps qs : List PassForm) (xs : ℕ → List ℕ) → all_passed (ps ++ qs) xs ≡ all_passed qs (all_passed ps xs)
unfolding all_passed
all_passed-append [] qs xs = refl
all_passed-append (p ∷ ps) qs xs = all_passed-append ps qs (passed p xs)

-- no passes
pub all_passed-none : (xs : ℕ → List ℕ) → all_passed [] xs ≡ xs
unfolding all_passed
all_passed-none xs = refl

-- one pass, then the others
pub all_passed-cons : (p : PassForm) (ps : List PassForm) (xs : ℕ → List ℕ) → all_passed (p ∷ ps) xs ≡ all_passed ps (passed p xs)
unfolding all_passed
all_passed-cons p ps xs = refl

-- one more pass
pub all_passed-more : (ps : List PassForm) (k : ℕ) (d : PassForm) (xs : ℕ → List ℕ) → k < length ps
    → all_passed (take (k + 1) ps) xs ≡ passed (slice_index_or ps k d) (all_passed (take k ps) xs)
unfolding all_passed
all_passed-more [] k d xs l = absurd (omega arith)
all_passed-more (p ∷ ps) zero d xs l = refl
all_passed-more (p ∷ ps) (suc k) d xs l =
    let e : suc k + 1 ≡ suc (k + 1) = omega arith in
    rw e (all_passed-more ps k d (passed p xs) (omega arith))

-- where the maps in order take an address
unfoldable pub route : List PassForm → ℕ → ℕ
route [] x = x
route (p ∷ ps) x = route ps (affine_image p.map.map x)

-- one more map
pub route-append : (ps qs : List PassForm) (x : ℕ) → route (ps ++ qs) x ≡ route qs (route ps x)
unfolding route
route-append [] qs x = refl
route-append (p ∷ ps) qs x = route-append ps qs (affine_image p.map.map x)

-- a pass of n bits without butterflies
pub record IsPlainOf (n : ℕ) (p : PassForm) : Type 0 where
  pub fits : FitsBits n p
  pub plain : p.low ≡ 0

-- it puts record x at the image of x
plain_image : (n : ℕ) (p : PassForm) (xs : ℕ → List ℕ) (x : ℕ) → IsPlainOf n p → x < 2 ^ n → passed p xs (affine_image p.map.map x) ≡ xs x
unfolding butterflies
plain_image n p xs x f h = passed-image n p xs x f.fits h ∙ ap (λ (c : ℕ). butterflies c xs x) f.plain

-- so do such passes in order
pub all_passed-route : (n : ℕ) (ps : List PassForm) (xs : ℕ → List ℕ) (x : ℕ) → All (IsPlainOf n) ps → x < 2 ^ n
    → all_passed ps xs (route ps x) ≡ xs x
unfolding all_passed route
all_passed-route n [] xs x f h = refl
all_passed-route n (p ∷ ps) xs x f h =
    let g : IsPlainOf n p = first_of_all (IsPlainOf n) p ps f in
    let below : affine_image p.map.map x < 2 ^ n =
    subst (λ (c : ℕ). affine_image p.map.map x < 2 ^ c) g.fits.bits (affine-lt p.map.map x) in
    all_passed-route n ps (passed p xs) (affine_image p.map.map x) (rest_of_all (IsPlainOf n) p ps f) below
    ∙ plain_image n p xs x g h

-- plain passes whose maps in order are a nonsingular map do its permutation
pub plain_do : (n : ℕ) (ps : List PassForm) (f : Affine) → All (IsPlainOf n) ps → f.a.n ≡ n → IsNonsingular f.a
    → ((x : ℕ) → x < 2 ^ n → route ps x ≡ affine_image f x) → DoJob ps n (Permute f)
plain_do n ps f all e g h xs =
    subst (λ (c : ℕ). SameRecords (2 ^ c) (all_passed ps xs) (permuted f xs)) e
    (permuted-unique f xs (all_passed ps xs) g
    (λ x l. let inside : x < 2 ^ n = subst (λ (c : ℕ). x < 2 ^ c) e l in ap (all_passed ps xs) (sym (h x inside))
    ∙ all_passed-route n ps xs x all inside))
