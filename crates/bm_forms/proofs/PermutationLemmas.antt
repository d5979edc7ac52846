-- Laws of permuted lists.
use Rattle.std.proofs.Common.{ℕ, zero, suc, ◌≡◌, ◌/◌, ◌%◌, ◌^◌, ◌<◌, ◌≤◌, List, length, bit_xor, refl, sym, ap, ◌∙◌, subst, arith, ⊎_elim}
use Rattle.std.proofs.lemmas.Bool.{cases_lt, cases_eq}
use Rattle.std.proofs.lemmas.Nat.{pow_pos, pow_below, xor_lt}
use Rattle.std.proofs.Math.Nat.{mod-lt}
use Rattle.std.specs.Int.Bits.{xor_self}
use Rattle.std.proofs.lemmas.Nat.Bits.{bit_at_cat_low}
use Rattle.std.proofs.lemmas.Nat.{shr_split}
use Rattle.std.specs.Int.{bit_at}
use Rattle.std.proofs.lemmas.List.{get_or_past}
use Rattle.bm_gf2.specs.declared.matrix.Matrix.{Matrix}
use Rattle.bm_gf2.specs.declared.affine.Affine.{Affine}
use Rattle.bm_gf2.specs.Matrix.{column, image, IsNonsingular}
use Rattle.bm_gf2.specs.Affine.{affine_image}
use Rattle.bm_gf2.proofs.VectorLemmas.{xor_sum-xor, xor_sum-bits, xor_sum-pow, xor_cancel, eq_of_xor-zero, bit_of_low}
use Rattle.bm_gf2.proofs.ShiftLemmas.{image_below}
use Rattle.bm_rank.proofs.DimensionLemmas.{nonsingular_reaches}
use Rattle.bm_base.specs.Records.{SameRecords}
use Rattle.bm_forms.specs.Permutation.{source_below, source, permuted}
use Rattle.bm_base.proofs.CaseLemmas.{if_same, if_other}

-- the search finds an address where there is one
pub source_below-found : (f : Affine) (k x y : ℕ) → x < k → affine_image f x ≡ y → affine_image f (source_below f k y) ≡ y
unfolding source_below
source_below-found f zero x y l h = absurd (omega arith)
source_below-found f (suc k) x y l h =
    ⊎_elim
    (λ (p : affine_image f k ≡ y). ap (affine_image f) (if_same (affine_image f k) y k (source_below f k y) p) ∙ p)
    (λ (p : affine_image f k ≡ y → ⊥). ap (affine_image f) (if_other (affine_image f k) y k (source_below f k y) p)
    ∙ source_below-found f k x y (let e : x ≡ k → ⊥ = λ q. p (ap (affine_image f) (sym q) ∙ h) in omega arith) h)
    (cases_eq (affine_image f k) y)

-- what it answers is in the range
pub source_below-lt : (f : Affine) (k y : ℕ) → 0 < k → source_below f k y < k
unfolding source_below
source_below-lt f zero y l = absurd (omega arith)
source_below-lt f (suc zero) y l =
    ⊎_elim
    (λ (p : affine_image f 0 ≡ y). rw (if_same {A = ℕ} (affine_image f 0) y 0 0 p) (omega arith))
    (λ (p : affine_image f 0 ≡ y → ⊥). rw (if_other {A = ℕ} (affine_image f 0) y 0 0 p) (omega arith))
    (cases_eq (affine_image f 0) y)
source_below-lt f (suc (suc k)) y l =
    let ih : source_below f (suc k) y < suc k = source_below-lt f (suc k) y (omega arith) in
    ⊎_elim
    (λ (p : affine_image f (suc k) ≡ y). rw (if_same (affine_image f (suc k)) y (suc k) (source_below f (suc k) y) p) (omega arith))
    (λ (p : affine_image f (suc k) ≡ y → ⊥). rw (if_other (affine_image f (suc k)) y (suc k) (source_below f (suc k) y) p) (omega arith))
    (cases_eq (affine_image f (suc k)) y)

-- a source is an address
pub source-lt : (f : Affine) (y : ℕ) → source f y < 2 ^ f.a.n
source-lt f y = source_below-lt f (2 ^ f.a.n) y (pow_pos f.a.n)

-- an affine map of a nonsingular matrix takes no two addresses to one
pub one_source : (f : Affine) (x y : ℕ) → IsNonsingular f.a → x < 2 ^ f.a.n → y < 2 ^ f.a.n → affine_image f x ≡ affine_image f y → x ≡ y
one_source f x y g hx hy h =
    let same : image f.a x ≡ image f.a y = sym (xor_cancel f.c (image f.a x)) ∙ ap (bit_xor f.c) h ∙ xor_cancel f.c (image f.a y) in
    let none : image f.a (bit_xor x y) ≡ 0 = xor_sum-xor (column f.a) f.a.n x y ∙ ap (λ (c : ℕ). bit_xor c (image f.a y)) same
    ∙ xor_self (image f.a y) in
    eq_of_xor-zero x y (g (bit_xor x y) (xor_lt f.a.n x y hx hy) none)

-- the address that the map takes to the image of x is x
pub source-image : (f : Affine) (x : ℕ) → IsNonsingular f.a → x < 2 ^ f.a.n → source f (affine_image f x) ≡ x
source-image f x g h =
    one_source f (source f (affine_image f x)) x g (source-lt f (affine_image f x)) h
    (source_below-found f (2 ^ f.a.n) x (affine_image f x) h refl)

-- a vector cut to n bits has the same image
pub image-cut : (a : Matrix) (x : ℕ) → image a (x % 2 ^ a.n) ≡ image a x
image-cut a x = xor_sum-bits (column a) a.n (x % 2 ^ a.n) x (λ j l. bit_of_low x a.n j l)

-- a nonsingular matrix has all its columns
pub nonsingular_long : (a : Matrix) → IsNonsingular a → a.n ≤ length a.cols
nonsingular_long a g =
    ⊎_elim
    (λ (p : length a.cols < a.n).
    let z : column a (length a.cols) ≡ 0 = get_or_past a.cols (length a.cols) 0 (omega arith) in
    let n : 2 ^ length a.cols ≡ 0 = g (2 ^ length a.cols) (pow_below (length a.cols) a.n p)
    (xor_sum-pow (column a) a.n (length a.cols) p ∙ z) in
    let q : 0 < 2 ^ length a.cols = pow_pos (length a.cols) in
    absurd (omega arith))
    (λ (p : a.n ≤ length a.cols). p)
    (cases_lt (length a.cols) a.n)

-- an image is an address
pub affine-lt : (f : Affine) (x : ℕ) → affine_image f x < 2 ^ f.a.n
affine-lt f x = xor_lt f.a.n f.c (image f.a x) f.below (image_below f.a x)

-- each address is an image
pub image-source : (f : Affine) (y : ℕ) → IsNonsingular f.a → y < 2 ^ f.a.n → affine_image f (source f y) ≡ y
image-source f y g h =
    let r = nonsingular_reaches f.a g (nonsingular_long f.a g) (bit_xor f.c y) (xor_lt f.a.n f.c y f.below h) in
    source_below-found f (2 ^ f.a.n) (r.0 % 2 ^ f.a.n) y (mod-lt r.0 (pow_pos f.a.n))
    (ap (bit_xor f.c) (image-cut f.a r.0 ∙ r.1) ∙ xor_cancel f.c y)

-- The permuted list as an equation: record x stands at the image of x
pub permuted-image : (f : Affine) (xs : ℕ → List ℕ) (x : ℕ) → IsNonsingular f.a → x < 2 ^ f.a.n → permuted f xs (affine_image f x) ≡ xs x
permuted-image f xs x g h = ap xs (source-image f x g h)

-- and no other list has this
pub permuted-unique : (f : Affine) (xs ys : ℕ → List ℕ) → IsNonsingular f.a
    → ((x : ℕ) → x < 2 ^ f.a.n → ys (affine_image f x) ≡ xs x) → SameRecords (2 ^ f.a.n) ys (permuted f xs)
permuted-unique f xs ys g h y hy =
    ap ys (sym (image-source f y g hy)) ∙ h (source f y) (source-lt f y)

-- the records in the range decide
pub permuted-same : (f : Affine) (xs ys : ℕ → List ℕ) → SameRecords (2 ^ f.a.n) xs ys → (y : ℕ) → permuted f xs y ≡ permuted f ys y
permuted-same f xs ys h y = h (source f y) (source-lt f y)

-- one permutation after another is that of the product map
pub permuted-after : (f g p : Affine) (xs : ℕ → List ℕ) → IsNonsingular f.a → IsNonsingular g.a → IsNonsingular p.a → f.a.n ≡ p.a.n
    → g.a.n ≡ p.a.n
    → ((x : ℕ) → affine_image p x ≡ affine_image g (affine_image f x))
    → SameRecords (2 ^ p.a.n) (permuted g (permuted f xs)) (permuted p xs)
permuted-after f g p xs hf hg hp ef eg e =
    permuted-unique p xs (permuted g (permuted f xs)) hp
    (λ x h.
    let outer : x < 2 ^ f.a.n = subst (λ (k : ℕ). x < 2 ^ k) (sym ef) h in
    let inner : affine_image f x < 2 ^ g.a.n = subst (λ (k : ℕ). affine_image f x < 2 ^ k) (ef ∙ sym eg) (affine-lt f x) in
    ap (permuted g (permuted f xs)) (e x)
    ∙ permuted-image g (permuted f xs) (affine_image f x) hg inner
    ∙ permuted-image f xs x hf outer)
