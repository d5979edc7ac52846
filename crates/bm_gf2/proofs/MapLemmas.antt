-- Matrices and maps with equal numbers are equal, and nonsingular matrices keep numbers apart.
use Rattle.std.proofs.Common.{◌≡◌, ◌≢◌, ℕ, ◌^◌, ◌<◌, ◌≤◌, List, length, slice_index, bit_xor, sym, ap, ◌∙◌}
use Rattle.std.specs.Int.Bits.{xor_self}
use Rattle.std.proofs.lemmas.Nat.{xor_lt}
use denote.Struct.Props.{props}
use Rattle.std.proofs.Math.Path.{subst₂}
use Rattle.bm_gf2.specs.declared.matrix.Matrix.{Matrix}
use Rattle.bm_gf2.specs.declared.affine.Affine.{Affine}
use Rattle.bm_gf2.specs.Matrix.{column, image, IsNonsingular}
use Rattle.bm_gf2.proofs.VectorLemmas.{xor_sum-xor, xor_cancel, eq_of_xor-zero}

-- matrices of one size with the same columns are equal
pub matrix_equal : (a b : Matrix) → a.n ≡ b.n → a.cols ≡ b.cols → a ≡ b
matrix_equal a b n cols =
    let some_prop : (m : ℕ) → IsProp (1 ≤ m) = hlevel props in
    let few_prop : (m : ℕ) → IsProp (m ≤ 52) = hlevel props in
    let long_prop : (ws : List ℕ) → IsProp (length ws ≡ 52) = hlevel props in
    let below_prop : (m : ℕ) (ws : List ℕ) → IsProp ((j : ℕ) → j < m → slice_index ws j < 2 ^ m) = hlevel props in
    let rest_prop : (m : ℕ) (ws : List ℕ) → IsProp ((j : ℕ) → m ≤ j → slice_index ws j ≡ 0) = hlevel props in
    subst₂ (λ (m : ℕ) (ws : List ℕ). (some : 1 ≤ m) (few : m ≤ 52) (long : length ws ≡ 52) (below : (j : ℕ) → j < m
    → slice_index ws j < 2 ^ m)
    (rest : (j : ℕ) → m ≤ j → slice_index ws j ≡ 0)
    → a ≡ record { n = m; cols = ws; some = some; few = few; long = long; below = below; rest = rest })
    n cols
    (λ some few long below rest i. record {
      n = a.n;
      cols = a.cols;
      some = some_prop a.n a.some some i;
      few = few_prop a.n a.few few i;
      long = long_prop a.cols a.long long i;
      below = below_prop a.n a.cols a.below below i;
      rest = rest_prop a.n a.cols a.rest rest i;
    })
    b.some b.few b.long b.below b.rest

-- affine maps of the same matrix and constant are equal
pub affine_equal : (f g : Affine) → f.a ≡ g.a → f.c ≡ g.c → f ≡ g
affine_equal f g a c =
    let below_prop : (m : Matrix) (k : ℕ) → IsProp (k < 2 ^ m.n) = hlevel props in
    subst₂ (λ (m : Matrix) (k : ℕ). (below : k < 2 ^ m.n) → f ≡ record { a = m; c = k; below = below })
    a c
    (λ below i. record { a = f.a; c = f.c; below = below_prop f.a f.c f.below below i })
    g.below

-- a nonsingular matrix and a constant send different numbers to different ones
pub images_apart : (a : Matrix) (plus x y : ℕ) → IsNonsingular a → x < 2 ^ a.n → y < 2 ^ a.n → x ≢ y
    → bit_xor plus (image a x) ≢ bit_xor plus (image a y)
images_apart a plus x y nonsingular short_x short_y differ same =
    let images : image a x ≡ image a y = sym (xor_cancel plus (image a x)) ∙ ap (bit_xor plus) same ∙ xor_cancel plus (image a y) in
    differ (eq_of_xor-zero x y (nonsingular (bit_xor x y) (xor_lt a.n x y short_x short_y)
    (xor_sum-xor (column a) a.n x y ∙ ap (λ c. bit_xor c (image a y)) images ∙ xor_self (image a y))))
