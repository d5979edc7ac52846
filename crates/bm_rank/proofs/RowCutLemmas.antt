-- Some rows of the first columns of a matrix.
use Rattle.std.proofs.Common.{◌≡◌, ℕ, ◌+◌, ◌-◌, ◌*◌, ◌/◌, ◌%◌, ◌^◌, ◌<◌, ◌≤◌, List, slice_index, bit_xor, sym, ap, ◌∙◌, subst, arith}
use Rattle.std.specs.Int.Bits.{xor_self, xor_shr, xor_mod}
use Rattle.std.specs.Int.{bit_at}
use Rattle.std.proofs.lemmas.Nat.Bits.{bit_at_cat_low}
use Rattle.std.proofs.lemmas.Nat.{pow_pos, shr_below, shr_split, xor_lt, shl-shr, shl_below, field_of}
use Rattle.std.proofs.Math.Nat.{mod-lt, mod-eq_of_lt, zero-div, div-one, pow-le-pow_right}
use Rattle.bm_gf2.specs.Vector.{xor_sum}
use Rattle.bm_gf2.specs.declared.matrix.Matrix.{Matrix}
use Rattle.bm_gf2.specs.Matrix.{image, column, IsNonsingular}
use Rattle.bm_gf2.proofs.VectorLemmas.{xor_sum-above, xor_sum-ext, xor_sum-shr, xor_sum-mod, xor_sum-xor, xor_sum-split, xor_sum-xor_sum}
use Rattle.bm_gf2.proofs.VectorLemmas.{xor_sum-zero, xor_sum-bits, xor_sum-lt, eq_of_xor-zero, xor_same}
use Rattle.bm_rank.specs.RowSolution.{IsCovered, IsLeastOutside, IsLeastSplit, IsCut, middle_rows, top_rows}
use Rattle.bm_gf2.specs.Kernel.{IsLeastKernel}
use Rattle.bm_gf2.proofs.ShiftLemmas.{image_below}
use Rattle.bm_rank.specs.Inverse.{IsInverse}

-- the cut columns give those rows of the image
pub cut_xor_sum : (a : Matrix) (m from width x : ℕ) (cols : List ℕ) → IsCut a m from width cols → m ≤ a.n → x < 2 ^ m
    → xor_sum (slice_index cols) m x ≡ image a x / 2 ^ from % 2 ^ width
cut_xor_sum a m from width x cols c l h =
    xor_sum-ext (slice_index cols) (λ j. column a j / 2 ^ from % 2 ^ width) m x c.each
    ∙ sym (xor_sum-mod (λ j. column a j / 2 ^ from) m width x)
    ∙ ap (λ (v : ℕ). v % 2 ^ width) (sym (xor_sum-shr (column a) m from x))
    ∙ ap (λ (v : ℕ). v / 2 ^ from % 2 ^ width) (sym (xor_sum-above (column a) m a.n x l h))

-- the rows from m on, all of them
pub top_is_cut : (a : Matrix) (m x : ℕ) → m ≤ a.n → image a x / 2 ^ m % 2 ^ (a.n - m) ≡ top_rows a m x
top_is_cut a m x l =
    let e : (a.n - m) + m ≡ a.n = omega arith in
    mod-eq_of_lt (shr_below (image a x) (a.n - m) m (subst (λ (k : ℕ). image a x < 2 ^ k) (sym e) (image_below a x)))

-- rows b..m-1 are those of the rows below m
pub middle_of_low : (v b m : ℕ) → b ≤ m → v / 2 ^ b % 2 ^ (m - b) ≡ v % 2 ^ m / 2 ^ b
middle_of_low v b m l = let e : (m - b) + b ≡ m = omega arith in sym (ap (λ (k : ℕ). v % 2 ^ k / 2 ^ b) (sym e) ∙ field_of v (m - b) b)

-- where the rows below m are 0 and the rows b..m-1 decide, the image is 0
pub low_zero : (a : Matrix) (b m x : ℕ) → b ≤ m → IsCovered a b m → x < 2 ^ m → image a x % 2 ^ m ≡ 0 → image a x ≡ 0
low_zero a b m x l c h z =
    let mid : middle_rows a b m x ≡ 0 = middle_of_low (image a x) b m l ∙ ap (λ (v : ℕ). v / 2 ^ b) z ∙ zero-div (2 ^ b) in
    let top : image a x / 2 ^ m ≡ 0 = c x h mid in
    sym (shr_split (image a x) m)
    ∙ (let e : image a x / 2 ^ m * 2 ^ m + image a x % 2 ^ m ≡ 0 * 2 ^ m + 0 = ap (λ (v : ℕ). v * 2 ^ m + image a x % 2 ^ m) top
    ∙ ap (λ (v : ℕ). 0 * 2 ^ m + v) z in
    e ∙ (let f : 0 * 2 ^ m + 0 ≡ 0 = omega arith in f))

-- the leading block of a map whose middle rows decide is nonsingular
pub leading_nonsingular : (a g : Matrix) (b m : ℕ) → IsNonsingular a → b ≤ m → m ≤ a.n → IsCovered a b m → g.n ≡ m → IsCut a m 0 m g.cols
    → IsNonsingular g
leading_nonsingular a g b m ns l le c ge cut x h z =
    let hm : x < 2 ^ m = subst (λ (k : ℕ). x < 2 ^ k) ge h in
    let p : image a x / 2 ^ 0 % 2 ^ m ≡ 0 = sym (cut_xor_sum a m 0 m x g.cols cut le hm)
    ∙ ap (λ (k : ℕ). xor_sum (slice_index g.cols) k x) (sym ge) ∙ z in
    let q : image a x % 2 ^ m ≡ 0 = ap (λ (v : ℕ). v % 2 ^ m) (sym (div-one (image a x))) ∙ p in
    let two : 0 < 2 = omega arith in
    let wide : 2 ^ m ≤ 2 ^ a.n = pow-le-pow_right two le in
    ns x (omega arith) (low_zero a b m x l c hm q)

-- the columns b.. of the block's inverse, seen through the rows from m on, solve
pub solution_solves : (a g back : Matrix) (b m : ℕ) (highs k : List ℕ) → b ≤ m → m ≤ a.n → IsCovered a b m → g.n ≡ m → IsCut a m 0 m g.cols
    → IsCut a m m (a.n - m) highs → IsInverse g back
    → ((i : ℕ) → i < m - b → slice_index k i ≡ xor_sum (slice_index highs) m (column back (b + i)))
    → (x : ℕ) → x < 2 ^ m → xor_sum (slice_index k) (m - b) (middle_rows a b m x) ≡ top_rows a m x
solution_solves a g back b m highs k l le c ge cut high inv ke x h =
    let hi : ℕ → ℕ = slice_index highs in
    let t : ℕ = middle_rows a b m x in
    let tb : t < 2 ^ (m - b) = mod-lt (image a x / 2 ^ b) (pow_pos (m - b)) in
    let v : ℕ = t * 2 ^ b in
    let e : (m - b) + b ≡ m = omega arith in
    let vb : v < 2 ^ m = subst (λ (n : ℕ). v < 2 ^ n) e (shl_below t (m - b) b tb) in
    let z : ℕ = xor_sum (column back) m v in
    let bn : back.n ≡ m = inv.size ∙ ge in
    let zb : z < 2 ^ m = xor_sum-lt (column back) m m v
    (λ j q. subst (λ (n : ℕ). column back j < 2 ^ n) bn (back.below j (subst (λ (n : ℕ). j < n) (sym bn) q))) in
    let gz : image g z ≡ v = ap (λ (n : ℕ). image g (xor_sum (column back) n v)) (sym bn)
    ∙ inv.right v (subst (λ (n : ℕ). v < 2 ^ n) (sym ge) vb) in
    let az : image a z % 2 ^ m ≡ v =
    ap (λ (w : ℕ). w % 2 ^ m) (sym (div-one (image a z))) ∙ sym (cut_xor_sum a m 0 m z g.cols cut le zb)
    ∙ ap (λ (n : ℕ). xor_sum (slice_index g.cols) n z) (sym ge) ∙ gz in
    let mid : middle_rows a b m z ≡ t = middle_of_low (image a z) b m l ∙ ap (λ (w : ℕ). w / 2 ^ b) az ∙ shl-shr t b in
    let both : image a (bit_xor z x) ≡ bit_xor (image a z) (image a x) = xor_sum-xor (column a) a.n z x in
    let none : middle_rows a b m (bit_xor z x) ≡ 0 =
    ap (λ (w : ℕ). w / 2 ^ b % 2 ^ (m - b)) both ∙ ap (λ (w : ℕ). w % 2 ^ (m - b)) (xor_shr (image a z) (image a x) b)
    ∙ xor_mod (image a z / 2 ^ b) (image a x / 2 ^ b) (m - b) ∙ ap (λ (w : ℕ). bit_xor w t) mid ∙ xor_self t in
    let none_above : top_rows a m (bit_xor z x) ≡ 0 = c (bit_xor z x) (xor_lt m z x zb h) none in
    let same : top_rows a m z ≡ top_rows a m x =
    eq_of_xor-zero (top_rows a m z) (top_rows a m x)
    (sym (ap (λ (w : ℕ). w / 2 ^ m) both ∙ xor_shr (image a z) (image a x) m) ∙ none_above) in
    let w : ℕ → ℕ = column back in
    let front : xor_sum w b v ≡ 0 =
    xor_sum-bits w b v 0 (λ j q. ap (λ (n : ℕ). bit_at n j) (let f : v ≡ v + 0 = omega arith in f) ∙ bit_at_cat_low t b 0 j q)
    ∙ xor_sum-zero w b in
    let parts : z ≡ xor_sum (λ i. w (b + i)) (m - b) t =
    ap (λ (n : ℕ). xor_sum w n v) (let f : m ≡ b + (m - b) = omega arith in f) ∙ xor_sum-split w b (m - b) v
    ∙ xor_same front (ap (xor_sum (λ i. w (b + i)) (m - b)) (shl-shr t b)) in
    let through : xor_sum (slice_index k) (m - b) t ≡ xor_sum hi m z =
    xor_sum-ext (slice_index k) (λ i. xor_sum hi m (w (b + i))) (m - b) t ke
    ∙ sym (xor_sum-xor_sum hi (λ i. w (b + i)) m (m - b) t) ∙ ap (xor_sum hi m) (sym parts) in
    through ∙ cut_xor_sum a m m (a.n - m) z highs high le zb ∙ top_is_cut a m z le ∙ same

-- a split of the cut columns is one of the matrix
pub split_is_outside : (a : Matrix) (b m x : ℕ) (lows highs : List ℕ) → b ≤ m → m ≤ a.n → IsCut a m b (m - b) lows
    → IsCut a m m (a.n - m) highs
    → IsLeastSplit lows highs m x → IsLeastOutside a b m x
split_is_outside a b m x lows highs l le lo hi s = record {
  below = s.below;
  middle = sym (cut_xor_sum a m b (m - b) x lows lo le s.below) ∙ s.low;
  top = λ z. s.high (cut_xor_sum a m m (a.n - m) x highs hi le s.below ∙ top_is_cut a m x le ∙ z);
  least = λ y h z nz. s.least y h (cut_xor_sum a m b (m - b) y lows lo le h ∙ z)
      (λ w. nz (sym (top_is_cut a m y le) ∙ sym (cut_xor_sum a m m (a.n - m) y highs hi le h) ∙ w));
}

-- .. and no split of them says that the map is covered
pub covered_by_cut : (a : Matrix) (b m : ℕ) (lows highs : List ℕ) → b ≤ m → m ≤ a.n → IsCut a m b (m - b) lows → IsCut a m m (a.n - m) highs
    → ((y : ℕ) → y < 2 ^ m → xor_sum (slice_index lows) m y ≡ 0 → xor_sum (slice_index highs) m y ≡ 0) → IsCovered a b m
covered_by_cut a b m lows highs l le lo hi f = λ x h z.
    sym (top_is_cut a m x le) ∙ sym (cut_xor_sum a m m (a.n - m) x highs hi le h) ∙ f x h (cut_xor_sum a m b (m - b) x lows lo le h ∙ z)

-- a map is no solution's fault: some vector shows that there is none
pub covered_not_outside : (a : Matrix) (b m x : ℕ) → IsCovered a b m → IsLeastOutside a b m x → ⊥
covered_not_outside a b m x c o = o.top (c x o.below o.middle)

-- the leading block of such a map has no kernel vector
pub leading_no_kernel : (a g : Matrix) (b m x : ℕ) → IsNonsingular a → b ≤ m → m ≤ a.n → IsCovered a b m → g.n ≡ m → IsCut a m 0 m g.cols
    → IsLeastKernel g x → ⊥
leading_no_kernel a g b m x ns l le c ge cut k = k.some (leading_nonsingular a g b m ns l le c ge cut x k.below k.sent)

-- sums of the rows from m on
pub solution_below : (a : Matrix) (m v : ℕ) (highs : List ℕ) → IsCut a m m (a.n - m) highs → xor_sum (slice_index highs) m v < 2 ^ (a.n - m)
solution_below a m v highs cut =
    xor_sum-lt (slice_index highs) m (a.n - m) v
    (λ j l. subst (λ (w : ℕ). w < 2 ^ (a.n - m)) (sym (cut.each j l)) (mod-lt (column a j / 2 ^ m) (pow_pos (a.n - m))))
