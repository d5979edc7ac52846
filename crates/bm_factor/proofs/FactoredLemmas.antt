-- Products of a matrix and its factors, and what undoes them.
use Rattle.std.proofs.Common.{pow-add, ◌≡◌, ℕ, ◌+◌, ◌-◌, ◌/◌, ◌^◌, ◌<◌, ◌≤◌, length, sym, ap, ◌∙◌, subst, arith}
use Rattle.std.specs.Int.Bits.{xor_shr, xor_zero_l}
use Rattle.std.proofs.Math.Nat.{pow-le-pow_right, div-eq_of_lt, mod-eq_of_lt}
use Rattle.std.proofs.lemmas.Nat.{shl-shr, shr_below}
use Rattle.bm_gf2.specs.Vector.{xor_sum}
use Rattle.bm_gf2.specs.declared.matrix.Matrix.{Matrix}
use Rattle.bm_gf2.specs.Matrix.{image, column, IsNonsingular}
use Rattle.bm_gf2.proofs.VectorLemmas.{xor_sum-zero, xor_sum-above, xor_sum-pow, xor_sum-ext, xor_sum-lt, xor_sum-shr, xor_sum-split}
use Rattle.bm_gf2.proofs.VectorLemmas.{xor_sum-units, xor_same}
use Rattle.bm_gf2.proofs.ShiftLemmas.{image_below}
use Rattle.bm_rank.specs.Inverse.{IsInverse}
use Rattle.bm_rank.specs.Rank.{rank_of_rows}
use Rattle.bm_forms.proofs.MldLemmas.{nonsingular_after, nonsingular_of_involution, below_of_none}
use Rattle.bm_forms.proofs.PassLimitLemmas.{cut_same}
use Rattle.bm_forms.proofs.PermutationLemmas.{nonsingular_long}
use Rattle.bm_factor.specs.Columns.{product, top_count, HasTrailingBlock, IsOwnInverse}
use Rattle.bm_factor.specs.Trailer.{IsTrailer}
use Rattle.bm_factor.specs.Reducer.{IsReducer}
use Rattle.bm_factor.specs.Swapper.{IsSwapper}
use Rattle.bm_factor.specs.Eraser.{IsEraser}
use Rattle.bm_factor.specs.Factoring.{IsFactored}
use Rattle.bm_factor.proofs.TopCountLemmas.{top_count-ext, top_count-split, top_count-none}

-- a matrix, a factor t that is its own inverse and a factor r, and what undoes their product
pub split_of_inverses : (a t r back at rest done : Matrix) → IsNonsingular a → t.n ≡ a.n → r.n ≡ a.n → at.n ≡ a.n → rest.n ≡ a.n
    → done.n ≡ a.n → IsOwnInverse t → IsInverse r back → ((x : ℕ) → image at x ≡ image a (image t x))
    → ((x : ℕ) → image rest x ≡ image at (image r x)) → ((x : ℕ) → image done x ≡ image back (image t x)) → IsFactored a rest done
split_of_inverses a t r back at rest done na tn rn atn restn donen it ir ca cr cd =
    let nt : IsNonsingular t = nonsingular_of_involution t it in
    let backn : back.n ≡ a.n = ir.size ∙ rn in
    let nr : IsNonsingular r = λ x h z. sym (ir.left x h) ∙ ap (image back) z ∙ xor_sum-zero (column back) back.n in
    let nb : IsNonsingular back = λ x h z.
    sym (ir.right x (subst (λ (k : ℕ). x < 2 ^ k) ir.size h)) ∙ ap (image r) z ∙ xor_sum-zero (column r) r.n in
    let nat : IsNonsingular at = nonsingular_after a t at (sym atn) (tn ∙ sym atn) ca na nt in
    record {
      size_rest = restn;
      size_done = donen;
      rest_nonsingular = nonsingular_after at r rest (atn ∙ sym restn) (rn ∙ sym restn) cr nat nr;
      done_nonsingular = nonsingular_after back t done (backn ∙ sym donen) (tn ∙ sym donen) cd nb nt;
      undone = λ x h.
          let inner : image t x < 2 ^ r.n = subst (λ (k : ℕ). image t x < 2 ^ k) (tn ∙ sym rn) (image_below t x) in
          cr (image done x) ∙ ap (λ (v : ℕ). image at (image r v)) (cd x) ∙ ap (image at) (ir.right (image t x) inner)
          ∙ ca (image t x) ∙ ap (image a) (it x (subst (λ (k : ℕ). x < 2 ^ k) (sym tn) h));
    }

-- two factors that are their own inverses
pub split_of_involutions : (a t r at rest done : Matrix) → IsNonsingular a → t.n ≡ a.n → r.n ≡ a.n → at.n ≡ a.n → rest.n ≡ a.n
    → done.n ≡ a.n
    → IsOwnInverse t → IsOwnInverse r → ((x : ℕ) → image at x ≡ image a (image t x)) → ((x : ℕ) → image rest x ≡ image at (image r x))
    → ((x : ℕ) → image done x ≡ image r (image t x)) → IsFactored a rest done
split_of_involutions a t r at rest done na tn rn atn restn donen it ir ca cr cd =
    split_of_inverses a t r r at rest done na tn rn atn restn donen it (record { size = λ i. r.n; right = ir; left = ir }) ca cr cd

-- a vector below 2 ^ m is the image of one there, where r acts within columns 0..m-1
pub undone_low : (r back : Matrix) (m x : ℕ) → m ≤ r.n → IsInverse r back → ((j : ℕ) → j < m → column r j < 2 ^ m)
    → ((j : ℕ) → m ≤ j → j < r.n → column r j ≡ 2 ^ j) → x < 2 ^ m → image back x < 2 ^ m
undone_low r back m x mn inv within kept short =
    let v : ℕ = image back x in
    let w : ℕ → ℕ = column r in
    let d : ℕ = r.n - m in
    let whole : r.n ≡ m + d = omega arith in
    let vb : v < 2 ^ (d + m) = subst (λ (k : ℕ). v < 2 ^ k) (inv.size ∙ (let e : r.n ≡ d + m = omega arith in e)) (image_below back x) in
    let wide : x < 2 ^ r.n = let up : 2 ^ m ≤ 2 ^ r.n = pow-le-pow_right (let t : 0 < 2 = omega arith in t) mn in omega arith in
    let sent : image r v ≡ x = inv.right x wide in
    let low : xor_sum w m v / 2 ^ m ≡ 0 = div-eq_of_lt (xor_sum-lt w m m v within) in
    let parts : image r v / 2 ^ m ≡ v / 2 ^ m =
    ap (λ (n : ℕ). xor_sum w n v / 2 ^ m) whole ∙ ap (λ (c : ℕ). c / 2 ^ m) (xor_sum-split w m d v)
    ∙ xor_shr (xor_sum w m v) (xor_sum (λ j. w (m + j)) d (v / 2 ^ m)) m
    ∙ xor_same low (xor_sum-shr (λ j. w (m + j)) d m (v / 2 ^ m)
    ∙ xor_sum-ext (λ j. w (m + j) / 2 ^ m) (λ j. 2 ^ j) d (v / 2 ^ m)
    (λ j l. ap (λ (c : ℕ). c / 2 ^ m) (kept (m + j) (omega arith) (omega arith)) ∙ pow-shr m j)
    ∙ xor_sum-units d (v / 2 ^ m) ∙ mod-eq_of_lt (shr_below v d m vb))
    ∙ xor_zero_l (v / 2 ^ m) in
    below_of_none v m (sym parts ∙ ap (λ (c : ℕ). c / 2 ^ m) sent ∙ div-eq_of_lt short)
  where
    -- a unit vector without its lowest rows
    pow-shr : (m j : ℕ) → 2 ^ (m + j) / 2 ^ m ≡ 2 ^ j
    pow-shr m j =
        ap (λ (c : ℕ). c / 2 ^ m) ((let e : m + j ≡ j + m = omega arith in ap (λ (k : ℕ). 2 ^ k) e) ∙ pow-add 2 j m) ∙ shl-shr (2 ^ j) m

-- the trailing rows of the columns from m on decide
pub block-ext : (v w : ℕ → ℕ) (n m : ℕ) → ((j : ℕ) → m ≤ j → j < n → v j ≡ w j) → HasTrailingBlock w n m → HasTrailingBlock v n m
block-ext v w n m same block = λ y h z.
    block y h (xor_sum-ext (λ k. w (m + k) / 2 ^ m) (λ k. v (m + k) / 2 ^ m) (n - m) y
    (λ k l. ap (λ (c : ℕ). c / 2 ^ m) (sym (same (m + k) (omega arith) (omega arith)))) ∙ z)

-- a unit column of the second factor leaves a column
pub column_kept : (a t p : Matrix) (j : ℕ) → p.n ≡ a.n → ((k : ℕ) → k < p.n → column p k ≡ image a (column t k)) → j < a.n
    → column t j ≡ 2 ^ j
    → column p j ≡ column a j
column_kept a t p j pn cols l unit = cols j (omega arith) ∙ ap (image a) unit ∙ xor_sum-pow (column a) a.n j l

-- columns below 2 ^ m keep vectors below 2 ^ m there
pub stays_low : (t : Matrix) (m x : ℕ) → m ≤ t.n → ((j : ℕ) → j < m → column t j < 2 ^ m) → x < 2 ^ m → image t x < 2 ^ m
stays_low t m x l short h = subst (λ (v : ℕ). v < 2 ^ m) (sym (xor_sum-above (column t) m t.n x l h)) (xor_sum-lt (column t) m m x short)

-- the count after the trailer and the reducer is the rank
pub reduced_count : (a t at r rest : Matrix) (m : ℕ) → IsTrailer a t m → IsReducer at r m → m ≤ a.n → IsNonsingular a → IsNonsingular at
    → at.n ≡ a.n → rest.n ≡ a.n → ((k : ℕ) → k < at.n → column at k ≡ image a (column t k))
    → ((k : ℕ) → k < rest.n → column rest k ≡ image at (column r k)) → top_count (column rest) m m ≡ rank_of_rows a.cols m m
reduced_count a t at r rest m st sr mn na nat atn restn ca cr =
    let la : m ≤ length a.cols = (let k = nonsingular_long a na in omega arith) in
    let lat : m ≤ length at.cols = (let k = nonsingular_long at nat in omega arith) in
    top_count-ext (column rest) (product at r) m m (λ j l. ap (λ (c : ℕ). c / 2 ^ m) (cr j (omega arith)))
    ∙ sr.count ∙ cut_same at.cols a.cols m m lat la (λ j l. column_kept a t at j atn ca (omega arith) (st.kept j l))

-- after the swapper and the eraser m - b columns fewer have something in rows m and above
pub erased_count : (a s sw e rest : Matrix) (b m : ℕ) → IsSwapper a s b m → IsEraser sw e b m → b < m → m ≤ a.n → sw.n ≡ a.n → rest.n ≡ a.n
    → ((k : ℕ) → k < sw.n → column sw k ≡ image a (column s k)) → ((k : ℕ) → k < rest.n → column rest k ≡ image sw (column e k))
    → top_count (column rest) m m ≡ top_count (column a) m m - (m - b)
erased_count a s sw e rest b m ss se bm mn asn restn cs ce =
    let d : ℕ = m - b in
    let v : ℕ → ℕ = product a s in
    let whole : m ≡ b + d = omega arith in
    let parts : top_count v m m ≡ top_count v m b + top_count (λ k. v (b + k)) m d = ap (top_count v m) whole ∙ top_count-split v m b d in
    let all = ss.same in
    let most = ss.most in
    let left : top_count (column rest) m m ≡ top_count (column rest) m b + top_count (λ k. column rest (b + k)) m d =
    ap (top_count (column rest) m) whole ∙ top_count-split (column rest) m b d in
    let none : top_count (λ k. column rest (b + k)) m d ≡ 0 =
    top_count-none (λ k. column rest (b + k)) m d
    (λ k l. ap (λ (c : ℕ). c / 2 ^ m) (ce (b + k) (omega arith)) ∙ se.erased (b + k) (omega arith) (omega arith)) in
    let first : top_count (column rest) m b ≡ top_count v m b =
    top_count-ext (column rest) v m b
    (λ j l. ap (λ (c : ℕ). c / 2 ^ m) (column_kept sw e rest j (restn ∙ sym asn) ce (omega arith) (se.first j l) ∙ cs j (omega arith))) in
    omega arith
