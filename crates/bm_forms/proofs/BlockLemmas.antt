-- No block of a target holds records of two loads.
use Rattle.std.proofs.Common.{ℕ, ◌≡◌, ◌+◌, ◌*◌, ◌/◌, ◌%◌, ◌^◌, ◌<◌, ◌≤◌, List, length, length-take, get_or-take, take, map, slice_index}
use Rattle.std.proofs.Common.{bit_xor, sym, ap, ◌∙◌, subst, arith, zero-mul}
use Rattle.std.specs.Int.Bits.{xor_self, xor_shr, xor_zero_l}
use Rattle.std.proofs.lemmas.List.{get_or-map, length-map}
use Rattle.std.proofs.lemmas.Nat.{xor_lt, pow_pos, shr_split}
use Rattle.std.proofs.Math.Nat.{mod-lt, div-eq_of_lt, pow-le-pow_right}
use Rattle.bm_gf2.specs.Vector.{xor_sum}
use Rattle.bm_gf2.specs.declared.matrix.Matrix.{Matrix}
use Rattle.bm_gf2.specs.Matrix.{image, column, IsNonsingular}
use Rattle.bm_gf2.specs.Affine.{affine_image}
use Rattle.bm_gf2.proofs.VectorLemmas.{xor_sum-xor, xor_sum-ext, xor_sum-mod, xor_sum-above, xor_sum-bits, xor_swap, eq_of_xor-zero}
use Rattle.bm_gf2.proofs.VectorLemmas.{bit_of_low}
use Rattle.bm_rank.specs.RowSolution.{IsCovered, middle_rows}
use Rattle.bm_rank.proofs.KernelLemmas.{IsIndependent}
use Rattle.bm_rank.proofs.SpanLemmas.{sum_of_span}
use Rattle.bm_rank.proofs.DimensionLemmas.{rank-independent, full_rank_spans}
use Rattle.bm_rank.proofs.RowCutLemmas.{low_zero, middle_of_low}
use Rattle.bm_forms.specs.declared.mld_form.MldForm.{MldForm}
use Rattle.bm_forms.proofs.MldLemmas.{covered_of_solution, below_of_none}
use Rattle.bm_forms.proofs.PermutationLemmas.{nonsingular_long}

-- the first m columns cut below row m
low_columns : Matrix → ℕ → List ℕ
low_columns a m = map (λ v. v % 2 ^ m) (take m a.cols)

-- there are m of them
length-low : (a : Matrix) (m : ℕ) → m ≤ length a.cols → length (low_columns a m) ≡ m
unfolding low_columns
length-low a m h = length-map (take m a.cols) (λ (v : ℕ). v % 2 ^ m)
    ∙ (let e : length (take m a.cols) ≡ m = simp length-take (omega arith) in e)

-- column j of them
low_at : (a : Matrix) (m j : ℕ) → m ≤ length a.cols → j < m → slice_index (low_columns a m) j ≡ column a j % 2 ^ m
unfolding low_columns
low_at a m j h l =
    let e : length (take m a.cols) ≡ m = simp length-take (omega arith) in
    get_or-map (λ (v : ℕ). v % 2 ^ m) (take m a.cols) j 0 0 (omega arith) ∙ ap (λ (v : ℕ). v % 2 ^ m) (get_or-take m a.cols j 0 l)

-- their sums are the rows below m of the images
low_xor_sum : (a : Matrix) (m x : ℕ) → m ≤ a.n → m ≤ length a.cols → x < 2 ^ m
    → xor_sum (slice_index (low_columns a m)) m x ≡ image a x % 2 ^ m
low_xor_sum a m x l h b =
    xor_sum-ext (slice_index (low_columns a m)) (λ j. column a j % 2 ^ m) m x (λ j k. low_at a m j h k)
    ∙ sym (xor_sum-mod (column a) m m x)
    ∙ ap (λ (v : ℕ). v % 2 ^ m) (sym (xor_sum-above (column a) m a.n x l b))

-- the rows below m of the images of one load are all vectors below 2 ^ m
pub low_reaches : (a : Matrix) (b m v : ℕ) → IsNonsingular a → b ≤ m → m ≤ a.n → IsCovered a b m → v < 2 ^ m
    → (x : ℕ) × (x < 2 ^ m) × (image a x % 2 ^ m ≡ v)
low_reaches a b m v ns l le c h =
    let long : m ≤ length a.cols = (let k = nonsingular_long a ns in omega arith) in
    let ws : List ℕ = low_columns a m in
    let len : length ws ≡ m = length-low a m long in
    let wide : 2 ^ m ≤ 2 ^ a.n = pow-le-pow_right (let e : 0 < 2 = omega arith in e) le in
    let few : a.n ≤ 52 = a.few in
    let ind : IsIndependent (slice_index ws) (length ws) = record {
      only = λ x b2 z.
          let xm : x < 2 ^ m = subst (λ (k : ℕ). x < 2 ^ k) len b2 in
          ns x (omega arith) (low_zero a b m x l c xm
          (sym (low_xor_sum a m x le long xm) ∙ ap (λ (k : ℕ). xor_sum (slice_index ws) k x) (sym len) ∙ z));
    } in
    let below : (i : ℕ) → i < length ws → slice_index ws i < 2 ^ m = λ i b2.
    subst (λ (w : ℕ). w < 2 ^ m) (sym (low_at a m i long (subst (λ (k : ℕ). i < k) len b2))) (mod-lt (column a i) (pow_pos m)) in
    let s = sum_of_span ws v (full_rank_spans m ws (omega arith) below (rank-independent ws ind ∙ len) v h) in
    let cut : s.0 % 2 ^ m < 2 ^ m = mod-lt s.0 (pow_pos m) in (
      s.0 % 2 ^ m,
      cut,
      sym (low_xor_sum a m (s.0 % 2 ^ m) le long cut)
          ∙ xor_sum-bits (slice_index ws) m (s.0 % 2 ^ m) s.0 (λ j k. bit_of_low s.0 m j k)
          ∙ ap (λ (k : ℕ). xor_sum (slice_index ws) k s.0) (sym len) ∙ s.1,
    )

-- a number that is 0 from bit m on is known by the bits below m
whole_of_low : (v w m : ℕ) → v / 2 ^ m ≡ 0 → v % 2 ^ m ≡ w → v ≡ w
whole_of_low v w m h e =
    let s : v / 2 ^ m * 2 ^ m + v % 2 ^ m ≡ v = shr_split v m in
    let z : v / 2 ^ m * 2 ^ m ≡ 0 = ap (λ (c : ℕ). c * 2 ^ m) h ∙ zero-mul (2 ^ m) in
    omega arith

-- addresses whose images lie in one block are of one load
pub blocks_apart : (f : MldForm) (x y : ℕ) → x < 2 ^ f.map.a.n → y < 2 ^ f.map.a.n
    → affine_image f.map x / 2 ^ f.b ≡ affine_image f.map y / 2 ^ f.b → x / 2 ^ f.m ≡ y / 2 ^ f.m
blocks_apart f x y hx hy e =
    let a : Matrix = f.map.a in
    let b : ℕ = f.b in
    let m : ℕ = f.m in
    let z : ℕ = bit_xor x y in
    let zb : z < 2 ^ a.n = xor_lt a.n x y hx hy in
    let bm : b ≤ m = (let k = f.block in omega arith) in
    let c : IsCovered a b m = covered_of_solution a f.k b m f.solved in
    let v : image a z ≡ bit_xor (affine_image f.map x) (affine_image f.map y)
    = xor_sum-xor (column a) a.n x y ∙ sym (xor_zero_l (bit_xor (image a x) (image a y)))
    ∙ ap (λ (w : ℕ). bit_xor w (bit_xor (image a x) (image a y))) (sym (xor_self f.map.c))
    ∙ xor_swap f.map.c f.map.c (image a x) (image a y) in
    let none : image a z / 2 ^ b ≡ 0
    = ap (λ (w : ℕ). w / 2 ^ b) v ∙ xor_shr (affine_image f.map x) (affine_image f.map y) b
    ∙ ap (λ (w : ℕ). bit_xor w (affine_image f.map y / 2 ^ b)) e ∙ xor_self (affine_image f.map y / 2 ^ b) in
    let small : image a z < 2 ^ b = below_of_none (image a z) b none in
    let wide : 2 ^ b ≤ 2 ^ m = pow-le-pow_right (let e : 0 < 2 = omega arith in e) bm in
    let wider : 2 ^ m ≤ 2 ^ a.n = pow-le-pow_right (let e : 0 < 2 = omega arith in e) f.memory in
    let r = low_reaches a b m (image a z) f.nonsingular bm f.memory c (omega arith) in
    let rb : r.0 < 2 ^ m = r.1 in
    let mid : middle_rows a b m r.0 ≡ 0 = middle_of_low (image a r.0) b m bm ∙ ap (λ (w : ℕ). w / 2 ^ b) r.2 ∙ none in
    let top : image a r.0 / 2 ^ m ≡ 0 = c r.0 r.1 mid in
    let same : image a r.0 ≡ image a z = whole_of_low (image a r.0) (image a z) m top r.2 in
    let q : r.0 ≡ z = eq_of_xor-zero r.0 z (f.nonsingular (bit_xor r.0 z) (xor_lt a.n r.0 z (omega arith) zb)
    (xor_sum-xor (column a) a.n r.0 z ∙ ap (λ (w : ℕ). bit_xor w (image a z)) same ∙ xor_self (image a z))) in
    eq_of_xor-zero (x / 2 ^ m) (y / 2 ^ m) (sym (xor_shr x y m) ∙ div-eq_of_lt (subst (λ (w : ℕ). w < 2 ^ m) q r.1))
