-- What one pass makes of a list of records.
use Rattle.std.proofs.Common.{ℕ, zero, suc, ◌≡◌, ◌^◌, ◌<◌, ◌≤◌, List, refl, sym, ap, ◌∙◌, subst, arith}
use Rattle.bm_base.specs.declared.shape.Shape.{Shape}
use Rattle.bm_gf2.specs.declared.affine.Affine.{Affine}
use Rattle.bm_gf2.specs.Vector.{xor_sum}
use Rattle.bm_gf2.specs.Matrix.{column}
use Rattle.bm_gf2.specs.Affine.{affine_image}
use Rattle.bm_gf2.proofs.VectorLemmas.{xor_sum-ext, xor_same}
use Rattle.bm_base.specs.Records.{SameRecords}
use Rattle.bm_base.specs.Butterfly.{butterflies}
use Rattle.bm_base.proofs.ButterflyLemmas.{butterflies-same}
use Rattle.bm_forms.specs.declared.pass_form.PassForm.{PassForm}
use Rattle.bm_forms.specs.Permutation.{source_below, source}
use Rattle.bm_forms.specs.PassForm.{passed, IsOfShape}
use Rattle.bm_forms.proofs.PermutationLemmas.{permuted-image, permuted-unique, permuted-same}

-- a pass of n bits
pub record FitsBits (n : ℕ) (p : PassForm) : Type 0 where
  pub bits : p.map.map.a.n ≡ n
  pub low : p.low ≤ n

-- a pass of a shape fits its addresses
pub fits_of_shape : (s : Shape) (p : PassForm) → s.m ≤ s.n → IsOfShape s p → FitsBits s.n p
fits_of_shape s p l i = record { bits = i.addresses; low = (let h : p.low ≤ s.m = i.low in omega arith) }

-- record x of the butterflies stands at the image of x
pub passed-image : (n : ℕ) (p : PassForm) (xs : ℕ → List ℕ) (x : ℕ) → FitsBits n p → x < 2 ^ n
    → passed p xs (affine_image p.map.map x) ≡ butterflies p.low xs x
passed-image n p xs x f h =
    permuted-image p.map.map (butterflies p.low xs) x p.map.nonsingular (subst (λ (c : ℕ). x < 2 ^ c) (sym f.bits) h)

-- a list of which this holds is the pass's
pub passed-unique : (n : ℕ) (p : PassForm) (xs ys : ℕ → List ℕ) → FitsBits n p
    → ((x : ℕ) → x < 2 ^ n → ys (affine_image p.map.map x) ≡ butterflies p.low xs x) → SameRecords (2 ^ n) ys (passed p xs)
passed-unique n p xs ys f h =
    subst (λ (c : ℕ). SameRecords (2 ^ c) ys (passed p xs)) f.bits
    (permuted-unique p.map.map (butterflies p.low xs) ys p.map.nonsingular (λ x l. h x (subst (λ (c : ℕ). x < 2 ^ c) f.bits l)))

-- the records in the range decide
pub passed-same : (n : ℕ) (p : PassForm) (xs ys : ℕ → List ℕ) → FitsBits n p → SameRecords (2 ^ n) xs ys
    → SameRecords (2 ^ n) (passed p xs) (passed p ys)
passed-same n p xs ys f h y hy =
    permuted-same p.map.map (butterflies p.low xs) (butterflies p.low ys)
    (subst (λ (c : ℕ). SameRecords (2 ^ c) (butterflies p.low xs) (butterflies p.low ys)) (sym f.bits)
    (butterflies-same p.low n xs ys f.low h)) y

-- equal columns and constants have equal images
pub image-same : (f g : Affine) (x : ℕ) → f.a.n ≡ g.a.n → f.c ≡ g.c → ((j : ℕ) → j < g.a.n → column f.a j ≡ column g.a j)
    → affine_image f x ≡ affine_image g x
image-same f g x n c h =
    xor_same c (ap (λ (k : ℕ). xor_sum (column f.a) k x) n ∙ xor_sum-ext (column f.a) (column g.a) g.a.n x h)

-- equal images have equal sources
pub source_below-same : (f g : Affine) (k y : ℕ) → ((x : ℕ) → affine_image f x ≡ affine_image g x) → source_below f k y ≡ source_below g k y
unfolding source_below
source_below-same f g zero y h = refl
source_below-same f g (suc x) y h =
    let e : affine_image f x ≡ affine_image g x = h x in
    let ih : source_below f x y ≡ source_below g x y = source_below-same f g x y h in
    rw (e, ih) refl

-- equal numbers make equal passes
pub passed-numbers : (p q : PassForm) (xs : ℕ → List ℕ) (y : ℕ) → p.low ≡ q.low → p.map.map.a.n ≡ q.map.map.a.n → p.map.map.c ≡ q.map.map.c
    → ((j : ℕ) → j < q.map.map.a.n → column p.map.map.a j ≡ column q.map.map.a j) → passed p xs y ≡ passed q xs y
passed-numbers p q xs y l n c h =
    ap (λ (k : ℕ). butterflies k xs (source p.map.map y)) l
    ∙ ap (butterflies q.low xs)
    (source_below-same p.map.map q.map.map (2 ^ p.map.map.a.n) y (λ x. image-same p.map.map q.map.map x n c h)
    ∙ ap (λ (k : ℕ). source_below q.map.map (2 ^ k) y) n)
