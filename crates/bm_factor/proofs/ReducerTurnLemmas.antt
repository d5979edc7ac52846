-- A turn of the reducer's loop, as the code makes it, where column j is next; and the loop's end.
use Rattle.std.proofs.Common.{◌≡◌, ◌≢◌, ℕ, zero, suc, ◌+◌, ◌-◌, ◌*◌, ◌/◌, ◌%◌, ◌^◌, ◌<◌, ◌≤◌, Bool, true, false, not, if◌then◌else◌, List}
use Rattle.std.proofs.Common.{[], ◌∷◌, ◌++◌, length, slice_index, set, get_or-set_other, get_or-set_same, bit_xor, refl, sym, ap, ◌∙◌}
use Rattle.std.proofs.Common.{subst, arith, ⊎_elim}
use Rattle.std.specs.Int.Bits.{xor_zero_l}
use Rattle.std.proofs.lemmas.Nat.{xor_lt, pow_pos, pow_below, one_shl}
use Rattle.std.proofs.Math.Nat.{pow-le-pow_right}
use Rattle.std.proofs.lemmas.Bool.{cases_lt}
use Rattle.bm_gf2.specs.Vector.{xor_sum}
use Rattle.bm_gf2.specs.declared.matrix.Matrix.{Matrix}
use Rattle.bm_gf2.specs.Matrix.{column, IsNonsingular}
use Rattle.bm_gf2.proofs.VectorLemmas.{xor_sum-lt, xor_sum-above, xor_sum-xor, xor_sum-pow, xor_pow_above, eq_of_xor-zero, xor_same}
use Rattle.bm_rank.specs.Span.{in_span, sum_of}
use Rattle.bm_rank.specs.Rank.{cut_columns}
use Rattle.bm_rank.proofs.DimensionLawLemmas.{rank-dimension, cut_short}
use Rattle.bm_rank.proofs.RowSolutionLemmas.{halves}
use Rattle.bm_factor.specs.Columns.{product}
use Rattle.bm_factor.specs.Reducer.{IsReducer}
use Rattle.bm_factor.proofs.TopCountLemmas.{top_count-le}
use Rattle.bm_factor.proofs.InsertLemmas.{insert_fresh, insert_known, insert_done, insert_same}
use Rattle.bm_factor.proofs.ReducerLemmas.{IsReducing, AddsEarlier, reducing_fresh, reducing_known}

-- no more were kept than columns are done
pub few_kept : (a r : Matrix) (m j : ℕ) (kept : List ℕ) (pivots : ℕ → ℕ) → IsReducing a r m j kept pivots → length kept ≤ j
few_kept a r m j kept pivots s = let l = top_count-le (product a r) m j in let e = s.counted in omega arith

-- it is kept, and its unit vector is written as a pivot
pub turn_fresh : (a r : Matrix) (m j : ℕ) (kept kept2 pivots : List ℕ) (from count at : ℕ) (b : Bool)
    → IsReducing a r m j kept (slice_index pivots) → j < a.n → a.n ≤ length a.cols → from ≡ j
    → b ≡ not (in_span kept (slice_index a.cols from / 2 ^ m))
    → kept2 ≡ (if b then kept ++ (slice_index a.cols from / 2 ^ m) ∷ [] else kept) → b ≡ true
    → length kept ≡ count → at ≡ count → length pivots ≡ 52
    → IsReducing a r m (j + 1) kept2 (slice_index (set pivots at (1 * 2 ^ j % 2 ^ 64)))
turn_fresh a r m j kept kept2 pivots from count at b s inside room fe be ke is_true long ae wide =
    let few : a.n ≤ 52 = a.few in
    let u : ℕ = slice_index a.cols from / 2 ^ m in
    let here : u ≡ column a j / 2 ^ m = ap (λ (k : ℕ). slice_index a.cols k / 2 ^ m) fe in
    let fresh : in_span kept u ≡ false = insert_fresh (in_span kept u) b be is_true in
    let kept_few = few_kept a r m j kept (slice_index pivots) s in
    let unit : 1 * 2 ^ j % 2 ^ 64 ≡ 2 ^ j = one_shl j 64 (omega arith) in
    let place : length kept ≡ at = long ∙ sym ae in
    reducing_fresh a r m j kept kept2 (slice_index pivots) (slice_index (set pivots at (1 * 2 ^ j % 2 ^ 64))) s inside room
    (subst (λ (v : ℕ). in_span kept v ≡ false) here fresh)
    (insert_done kept kept2 u (in_span kept u) b be ke fresh ∙ ap (λ (v : ℕ). kept ++ v ∷ []) here)
    (λ k l. let ne : k ≢ at = omega arith in rw get_or-set_other refl)
    (let fits : at < length pivots = omega arith in rw (place, get_or-set_same) unit)

-- it is a sum of pivots, and these are added
pub turn_known : (a r r2 : Matrix) (m j : ℕ) (kept kept2 pivots : List ℕ) (from count set v : ℕ) (b : Bool)
    → IsReducing a r m j kept (slice_index pivots) → j < a.n → a.n ≤ length a.cols → from ≡ j
    → b ≡ not (in_span kept (slice_index a.cols from / 2 ^ m))
    → kept2 ≡ (if b then kept ++ (slice_index a.cols from / 2 ^ m) ∷ [] else kept) → b ≡ false
    → length kept ≡ count → sum_of kept2 set ≡ slice_index a.cols from / 2 ^ m → v ≡ xor_sum (slice_index pivots) count set
    → r2.n ≡ r.n → column r2 j ≡ bit_xor v (1 * 2 ^ j % 2 ^ 64) → ((k : ℕ) → k ≢ j → column r2 k ≡ column r k)
    → IsReducing a r2 m (j + 1) kept2 (slice_index pivots)
turn_known a r r2 m j kept kept2 pivots from count set v b s inside room fe be ke is_false long sum ve size changed others =
    let few : a.n ≤ 52 = a.few in
    let u : ℕ = slice_index a.cols from / 2 ^ m in
    let here : u ≡ column a j / 2 ^ m = ap (λ (k : ℕ). slice_index a.cols k / 2 ^ m) fe in
    let same : kept2 ≡ kept = insert_same kept kept2 u b ke is_false in
    let unit : 1 * 2 ^ j % 2 ^ 64 ≡ 2 ^ j = one_shl j 64 (omega arith) in
    subst (λ (l : List ℕ). IsReducing a r2 m (j + 1) l (slice_index pivots)) (sym same)
    (reducing_known a r r2 m j kept (slice_index pivots) set s inside room size others
    (changed ∙ xor_same (ve ∙ ap (λ (k : ℕ). xor_sum (slice_index pivots) k set) (sym long)) unit)
    (ap (λ (l : List ℕ). sum_of l set) (sym same) ∙ sum ∙ here)
    (subst (λ (w : ℕ). in_span kept w ≡ true) here (insert_known (in_span kept u) b be is_false)))

-- the changed column is short
pub turn_below : (a r : Matrix) (m j : ℕ) (kept pivots : List ℕ) (count set v : ℕ) → IsReducing a r m j kept (slice_index pivots) → j < a.n
    → length kept ≡ count → v ≡ xor_sum (slice_index pivots) count set → bit_xor v (1 * 2 ^ j % 2 ^ 64) < 2 ^ r.n
turn_below a r m j kept pivots count set v s inside long ve =
    let size : r.n ≡ a.n = s.size in
    let few : a.n ≤ 52 = a.few in
    let unit : 1 * 2 ^ j % 2 ^ 64 ≡ 2 ^ j = one_shl j 64 (omega arith) in
    let wide : 2 ^ j ≤ 2 ^ r.n = pow-le-pow_right (let t : 0 < 2 = omega arith in t) (let t : j ≤ r.n = omega arith in t) in
    let short : xor_sum (slice_index pivots) count set < 2 ^ j =
    xor_sum-lt (slice_index pivots) count j set (λ i l. s.pivot_below i (omega arith)) in
    rw (unit, ve) (xor_lt r.n (xor_sum (slice_index pivots) count set) (2 ^ j) (omega arith) (pow_below j r.n (omega arith)))

-- columns 0..m-1 are done
pub reducing_all : (a r : Matrix) (m : ℕ) (kept : List ℕ) (pivots : ℕ → ℕ) → IsReducing a r m m kept pivots → m ≤ a.n
    → a.n ≤ length a.cols → IsReducer a r m
reducing_all a r m kept pivots s mn room = record {
  size = s.size;
  within = λ j l.
      let d = s.done j l in
      let up : 2 ^ j ≤ 2 ^ m = pow-le-pow_right (let t : 0 < 2 = omega arith in t) (let t : j ≤ m = omega arith in t) in
      subst (λ (v : ℕ). v < 2 ^ m) (sym d.is) (xor_lt m d.added (2 ^ j) (let b = d.below in omega arith) (pow_below j m l));
  kept = s.rest;
  independent = s.independent;
  count = s.counted ∙ rank-dimension (a.n - m) kept (cut_columns a.cols m m) (let few = a.few in omega arith)
      (cut_short a m m mn mn room) s.basis;
}

-- unit vectors with earlier ones added are independent
triangular : (r : Matrix) (k : ℕ) → ((j : ℕ) → j < k → AddsEarlier r j) → (x : ℕ) → x < 2 ^ k → xor_sum (column r) k x ≡ 0 → x ≡ 0
triangular r zero adds x short sum = omega arith
triangular r (suc k) adds x short sum =
    let w : ℕ → ℕ = column r in
    let next : suc k ≡ k + 1 = omega arith in
    let zero_sum : xor_sum w (k + 1) x ≡ 0 = ap (λ (n : ℕ). xor_sum w n x) (sym next) ∙ sum in
    ⊎_elim
    (λ (p : x < 2 ^ k).
    triangular r k (λ j l. adds j (omega arith)) x p (sym (xor_sum-above w k (k + 1) x (omega arith) p) ∙ zero_sum))
    (λ (p : (y : ℕ) × (y < 2 ^ k) × (x ≡ bit_xor y (2 ^ k)) × (x ≡ 2 ^ k + y)).
    let y : ℕ = p.0 in
    let parts : bit_xor (xor_sum w k y) (w k) ≡ 0 =
    sym (ap (xor_sum w (k + 1)) p.2 ∙ xor_sum-xor w (k + 1) y (2 ^ k)
    ∙ xor_same (xor_sum-above w k (k + 1) y (omega arith) p.1) (xor_sum-pow w (k + 1) k (omega arith))) ∙ zero_sum in
    let d = adds k (omega arith) in
    let high : w k ≡ 2 ^ k + d.added = d.is ∙ xor_pow_above d.added k d.below in
    let low : xor_sum w k y < 2 ^ k = xor_sum-lt w k k y (λ j l.
    let e = adds j (omega arith) in
    let up : 2 ^ j ≤ 2 ^ k = pow-le-pow_right (let t : 0 < 2 = omega arith in t) (let t : j ≤ k = omega arith in t) in
    subst (λ (v : ℕ). v < 2 ^ k) (sym e.is) (xor_lt k e.added (2 ^ j) (let b = e.below in omega arith) (pow_below j k l))) in
    absurd (let same = eq_of_xor-zero (xor_sum w k y) (w k) parts in omega arith))
    (halves x k (subst (λ (n : ℕ). x < 2 ^ n) next short))

-- so the matrix is nonsingular
pub reducing_nonsingular : (a r : Matrix) (m : ℕ) (kept : List ℕ) (pivots : ℕ → ℕ) → IsReducing a r m m kept pivots → IsNonsingular r
reducing_nonsingular a r m kept pivots s =
    let size : r.n ≡ a.n = s.size in
    triangular r r.n (λ j l.
    ⊎_elim
    (λ (p : j < m). s.done j p)
    (λ (p : m ≤ j). record { added = 0; below = pow_pos j; is = s.rest j p (omega arith) ∙ sym (xor_zero_l (2 ^ j)) })
    (cases_lt j m))
