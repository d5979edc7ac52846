-- The rank is the dimension of the span.
use Rattle.std.proofs.Common.{◌≡◌, ◌≢◌, ℕ, zero, suc, ◌+◌, ◌-◌, ◌*◌, ◌/◌, ◌%◌, ◌^◌, ◌<◌, ◌≤◌, ◌↔◌, true, false, List, [], ◌∷◌, length, take}
use Rattle.std.proofs.Common.{slice_index, bit_xor, sym, ap, ◌∙◌, subst, arith, inl, inr, ⊎_elim, ◌⊎◌}
use Rattle.std.specs.Int.{bit_at}
use Rattle.std.specs.Int.Bits.{xor_zero_l, xor_zero_r}
use Rattle.std.proofs.Math.Nat.{pow-le-pow_right, two-pow-succ, div-one}
use Rattle.std.proofs.lemmas.Nat.{pow_below, pow_pos, shr_below, xor_lt}
use Rattle.std.proofs.lemmas.Nat.Bits.{bit_at-lt, bit_at_above, bit_at_lowest}
use Rattle.std.proofs.lemmas.Bool.{cases_lt, cases_eq, false≢true}
use Rattle.bm_gf2.specs.Vector.{xor_sum}
use Rattle.bm_gf2.specs.declared.matrix.Matrix.{Matrix}
use Rattle.bm_gf2.specs.Matrix.{image, IsNonsingular}
use Rattle.bm_gf2.proofs.VectorLemmas.{xor_sum_start, xor_sum-more, xor_sum-ext, xor_sum-lt, xor_same, bit_cases, bit_of_xor}
use Rattle.bm_gf2.proofs.VectorLemmas.{eq_of_xor-zero}
use Rattle.bm_rank.specs.Echelon.{IsRowEchelon, IsReduced, IsEchelon, pivot_count, weight}
use Rattle.bm_rank.specs.Span.{in_span, sum_of}
use Rattle.bm_rank.specs.Rank.{rank, cut_columns, rank_of_rows, IsBasis}
use Rattle.bm_rank.proofs.SpanLemmas.{sum_of-cons, sum_of_span, sum_of-take, in_span-sum, in_span-member}
use Rattle.bm_rank.proofs.ReductionLemmas.{row_below}
use Rattle.bm_rank.proofs.PivotLemmas.{one_row}
use Rattle.bm_rank.proofs.EchelonLemmas.{rest_of_span, count_le}
use Rattle.bm_rank.proofs.RankLemmas.{cut_at, length-cut}
use Rattle.bm_rank.proofs.RankBoundLemmas.{rank-step, rank-le-length}
use Rattle.bm_rank.proofs.DimensionLemmas.{echelon_of, reduction_of, rank-independent}

-- ---- leading bits

-- a sum of rows is 0, or its leading bit is that of a row
top_pivot : (rows : List ℕ) (k used : ℕ) → IsRowEchelon rows k
    → (xor_sum (slice_index rows) k used ≡ 0)
    ⊎ ((i : ℕ) × (i < k) × (slice_index rows i ≢ 0) × (bit_at (xor_sum (slice_index rows) k used) i ≡ 1) ×
    (xor_sum (slice_index rows) k used < 2 ^ (i + 1)))
top_pivot rows zero used stairs = inl (xor_sum_start (slice_index rows) used)
top_pivot rows (suc k) used stairs =
    let w : ℕ → ℕ = slice_index rows in
    let fewer : IsRowEchelon rows k = record { short = λ i l. stairs.short i (omega arith); leads = λ i l. stairs.leads i (omega arith) } in
    let one_more : xor_sum w (suc k) used ≡ bit_xor (xor_sum w k used) (bit_at used k * w k) =
    ap (λ (j : ℕ). xor_sum w j used) (let e : suc k ≡ k + 1 = omega arith in e) ∙ xor_sum-more w k used in
    ⊎_elim
    (λ (p : (bit_at used k ≡ 0) × (bit_at used k * w k ≡ 0)).
    same_top rows k used (one_more ∙ ap (bit_xor (xor_sum w k used)) p.1 ∙ xor_zero_r (xor_sum w k used)) (top_pivot rows k used fewer))
    (λ (p : (bit_at used k ≡ 1) × (bit_at used k * w k ≡ w k)).
    ⊎_elim
    (λ (q : w k ≡ 0).
    same_top rows k used (one_more ∙ ap (bit_xor (xor_sum w k used)) (p.1 ∙ q) ∙ xor_zero_r (xor_sum w k used))
    (top_pivot rows k used fewer))
    (λ (q : w k ≢ 0).
    let low : xor_sum w k used < 2 ^ k = xor_sum-lt w k k used (λ j l. row_below rows k j fewer l) in
    let sum : xor_sum w (suc k) used ≡ bit_xor (xor_sum w k used) (w k) = one_more ∙ ap (bit_xor (xor_sum w k used)) p.1 in
    let wide : 2 ^ k < 2 ^ (k + 1) = pow_below k (k + 1) (omega arith) in
    let lead : bit_at (xor_sum w (suc k) used) k ≡ 1 =
    ap (λ (c : ℕ). bit_at c k) sum ∙ bit_of_xor (xor_sum w k used) (w k) k
    ∙ xor_same (bit_at_above (xor_sum w k used) k k low (omega arith)) (stairs.leads k (omega arith) q) in
    let short : xor_sum w (suc k) used < 2 ^ (k + 1) =
    subst (λ (c : ℕ). c < 2 ^ (k + 1)) (sym sum) (xor_lt (k + 1) (xor_sum w k used) (w k) (omega arith) (stairs.short k (omega arith))) in
    inr (k, omega arith, q, lead, short))
    (cases_eq (w k) 0))
    (bit_cases (bit_at used k) (w k) (bit_at-lt used k))
  where
    same_top : (rows : List ℕ) (k used : ℕ) → xor_sum (slice_index rows) (suc k) used ≡ xor_sum (slice_index rows) k used
        → (xor_sum (slice_index rows) k used ≡ 0)
        ⊎ ((i : ℕ) × (i < k) × (slice_index rows i ≢ 0) × (bit_at (xor_sum (slice_index rows) k used) i ≡ 1) ×
        (xor_sum (slice_index rows) k used < 2 ^ (i + 1)))
        → (xor_sum (slice_index rows) (suc k) used ≡ 0)
        ⊎ ((i : ℕ) × (i < suc k) × (slice_index rows i ≢ 0) × (bit_at (xor_sum (slice_index rows) (suc k) used) i ≡ 1) ×
        (xor_sum (slice_index rows) (suc k) used < 2 ^ (i + 1)))
    same_top rows k used same (inl none) = inl (same ∙ none)
    same_top rows k used same (inr t) =
        inr (
          t.0,
          (let l : t.0 < k = t.1 in omega arith),
          t.2,
          ap (λ (c : ℕ). bit_at c t.0) same
              ∙ t.3,
          subst (λ (c : ℕ). c < 2 ^ (t.0 + 1)) (sym same) t.4,
        )

-- a bit that is set bounds the number
at_least_bit : (v i : ℕ) → bit_at v i ≡ 1 → 2 ^ i ≤ v
at_least_bit v i one =
    ⊎_elim
    (λ (p : v < 2 ^ i). let clear : bit_at v i ≡ 0 = bit_at_above v i i p (omega arith) in absurd (omega arith))
    (λ (p : 2 ^ i ≤ v). p)
    (cases_lt v (2 ^ i))

-- the place of the leading bit is one
same_lead : (v i k : ℕ) → bit_at v i ≡ 1 → v < 2 ^ (i + 1) → bit_at v k ≡ 1 → v < 2 ^ (k + 1) → i ≡ k
same_lead v i k one_i short_i one_k short_k =
    let above_i : k < i + 1 = ⊎_elim
    (λ (p : k < i + 1). p)
    (λ (p : i + 1 ≤ k). let clear : bit_at v k ≡ 0 = bit_at_above v (i + 1) k short_i p in absurd (omega arith))
    (cases_lt k (i + 1)) in
    let above_k : i < k + 1 = ⊎_elim
    (λ (p : i < k + 1). p)
    (λ (p : k + 1 ≤ i). let clear : bit_at v i ≡ 0 = bit_at_above v (k + 1) i short_k p in absurd (omega arith))
    (cases_lt i (k + 1)) in
    omega arith

-- the leading bit of a vector of the span is that of a row
pivot_of_span : (n count : ℕ) (kept rows marks : List ℕ) → IsEchelon n count kept rows marks → count ≤ length kept
    → (v i : ℕ) → v < 2 ^ n → bit_at v i ≡ 1 → v < 2 ^ (i + 1) → in_span (take count kept) v ≡ true → slice_index rows i ≢ 0
pivot_of_span n count kept rows marks e long v i below one short inside =
    let c = reduction_of rows n v e.stairs e.few below 0 n (omega arith) in
    let reduced : IsReduced rows n c.0 = λ j l pivot. c.2.done j (omega arith) l pivot in
    let nothing : c.0 ≡ 0 = rest_of_span n count kept rows marks e long v c.0 c.1 c.2.sum reduced inside in
    let v_is : v ≡ xor_sum (slice_index rows) n c.1 = eq_of_xor-zero v (xor_sum (slice_index rows) n c.1) (sym c.2.sum ∙ nothing) in
    let some : 2 ^ i ≤ v = at_least_bit v i one in
    let positive : 0 < 2 ^ i = pow_pos i in
    ⊎_elim
    (λ (none : xor_sum (slice_index rows) n c.1 ≡ 0). absurd (omega arith))
    (λ (t : (k : ℕ) × (k < n) × (slice_index rows k ≢ 0) × (bit_at (xor_sum (slice_index rows) n c.1) k ≡ 1) ×
    (xor_sum (slice_index rows) n c.1 < 2 ^ (k + 1))).
    let same : i ≡ t.0 = same_lead v i t.0 one short (ap (λ (x : ℕ). bit_at x t.0) v_is ∙ t.3)
    (subst (λ (x : ℕ). x < 2 ^ (t.0 + 1)) (sym v_is) t.4) in
    subst (λ (k : ℕ). slice_index rows k ≢ 0) (sym same) t.2)
    (top_pivot rows n c.1 e.stairs)

-- a row that is not 0 is a vector of the span
row_of_span : (n count : ℕ) (kept rows marks : List ℕ) → IsEchelon n count kept rows marks → count ≤ length kept
    → (i : ℕ) → i < n → in_span (take count kept) (slice_index rows i) ≡ true
row_of_span n count kept rows marks e long i l =
    subst (λ (v : ℕ). in_span (take count kept) v ≡ true) (sum_of-take kept count (slice_index marks i) long ∙ e.marked i l)
    (in_span-sum (take count kept) (slice_index marks i))

-- where each pivot of one is a pivot of the other, it has no more
pivot_count-mono : (us ws : List ℕ) (k : ℕ) → ((i : ℕ) → i < k → slice_index us i ≢ 0 → slice_index ws i ≢ 0)
    → pivot_count us k ≤ pivot_count ws k
unfolding pivot_count
pivot_count-mono us ws zero more = omega arith
pivot_count-mono us ws (suc k) more =
    let before = pivot_count-mono us ws k (λ i l. more i (omega arith)) in
    ⊎_elim
    (λ (p : (slice_index us k ≡ 0) × (weight (slice_index us k) ≡ 0)). omega (arith, p.1, before))
    (λ (p : (slice_index us k ≢ 0) × (weight (slice_index us k) ≡ 1)).
    ⊎_elim
    (λ (q : (slice_index ws k ≡ 0) × (weight (slice_index ws k) ≡ 0)). absurd (more k (omega arith) p.0 q.0))
    (λ (q : (slice_index ws k ≢ 0) × (weight (slice_index ws k) ≡ 1)). omega (arith, p.1, q.1, before))
    (one_row (slice_index ws k)))
    (one_row (slice_index us k))

-- ---- spans and ranks

-- a span within another has no greater rank
pub rank-mono : (n : ℕ) (us ws : List ℕ) → n ≤ 52 → ((i : ℕ) → i < length us → slice_index us i < 2 ^ n)
    → ((i : ℕ) → i < length ws → slice_index ws i < 2 ^ n)
    → ((v : ℕ) → in_span us v ≡ true → in_span ws v ≡ true) → rank us ≤ rank ws
rank-mono n us ws few short_us short_ws within =
    let e = echelon_of n us few short_us in
    let f = echelon_of n ws few short_ws in
    let long_e : e.count ≤ length e.kept = let a = count_le n e.count e.kept e.rows e.marks e.is in let b = e.long_kept in omega arith in
    let long_f : f.count ≤ length f.kept = let a = count_le n f.count f.kept f.rows f.marks f.is in let b = f.long_kept in omega arith in
    let pivots : (i : ℕ) → i < n → slice_index e.rows i ≢ 0 → slice_index f.rows i ≢ 0 = λ i l pivot.
    let v : ℕ = slice_index e.rows i in
    let short : v < 2 ^ (i + 1) = e.is.stairs.short i l in
    let two : 0 < 2 = omega arith in
    let up : i + 1 ≤ n = omega arith in
    let more : 2 ^ (i + 1) ≤ 2 ^ n = pow-le-pow_right two up in
    let inside : in_span ws v ≡ true = within v (sym (e.spans v) ∙ row_of_span n e.count e.kept e.rows e.marks e.is long_e i l) in
    pivot_of_span n f.count f.kept f.rows f.marks f.is long_f v i (omega arith) (e.is.stairs.leads i l pivot) short (f.spans v ∙ inside) in
    let le = pivot_count-mono e.rows f.rows n pivots in
    let a = e.ranked in
    let b = e.is.counted in
    let c = f.ranked in
    let d = f.is.counted in
    omega arith

-- what is in the span of short vectors is short
in_span-short : (n : ℕ) (ws : List ℕ) → ((i : ℕ) → i < length ws → slice_index ws i < 2 ^ n) → (v : ℕ) → in_span ws v ≡ true → v < 2 ^ n
in_span-short n ws short v inside =
    let s = sum_of_span ws v inside in
    subst (λ (x : ℕ). x < 2 ^ n) s.1 (xor_sum-lt (slice_index ws) (length ws) n s.0 short)

-- each basis has as many vectors as the rank says
pub rank-dimension : (n : ℕ) (basis ws : List ℕ) → n ≤ 52 → ((i : ℕ) → i < length ws → slice_index ws i < 2 ^ n) → IsBasis basis ws
    → length basis ≡ rank ws
rank-dimension n basis ws few short b =
    let short_basis : (i : ℕ) → i < length basis → slice_index basis i < 2 ^ n = λ i l.
    in_span-short n ws short (slice_index basis i) (sym (b.spans (slice_index basis i)) ∙ in_span-member basis i l) in
    let up : rank basis ≤ rank ws = rank-mono n basis ws few short_basis short (λ v h. sym (b.spans v) ∙ h) in
    let down : rank ws ≤ rank basis = rank-mono n ws basis few short short_basis (λ v h. b.spans v ∙ h) in
    let all : rank basis ≡ length basis = rank-independent basis (record { only = b.independent }) in
    omega arith

-- vectors whose rank is their number are independent
pub independent-full_rank : (ws : List ℕ) → rank ws ≡ length ws → (x : ℕ) → x < 2 ^ length ws → sum_of ws x ≡ 0 → x ≡ 0
independent-full_rank [] full x short sum = omega arith
independent-full_rank (w ∷ ws) full x short sum =
    let most = rank-le-length ws in
    ⊎_elim
    (λ (p : (in_span ws w ≡ true) × (rank (w ∷ ws) ≡ rank ws)). absurd (let same = p.1 in omega arith))
    (λ (p : (in_span ws w ≡ false) × (rank (w ∷ ws) ≡ rank ws + 1)).
    let full_rest : rank ws ≡ length ws = (let more = p.1 in omega arith) in
    let parts : bit_xor (bit_at x 0 * w) (sum_of ws (x / 2)) ≡ 0 = sym (sum_of-cons w ws x) ∙ sum in
    let half : x / 2 < 2 ^ length ws = (let t = two-pow-succ (length ws) in omega arith) in
    ⊎_elim
    (λ (q : (bit_at x 0 ≡ 0) × (bit_at x 0 * w ≡ 0)).
    let rest : sum_of ws (x / 2) ≡ 0 = sym (xor_zero_l (sum_of ws (x / 2))) ∙ ap (λ (c : ℕ). bit_xor c (sum_of ws (x / 2))) (sym q.1)
    ∙ parts in
    let none : x / 2 ≡ 0 = independent-full_rank ws full_rest (x / 2) half rest in
    let even : x % 2 ≡ 0 = sym (bit_at_lowest x) ∙ q.0 in
    omega arith)
    (λ (q : (bit_at x 0 ≡ 1) × (bit_at x 0 * w ≡ w)).
    let known : sum_of ws (x / 2) ≡ w = sym (sym q.1 ∙ eq_of_xor-zero (bit_at x 0 * w) (sum_of ws (x / 2)) parts) in
    absurd (false≢true (sym p.0 ∙ subst (λ (v : ℕ). in_span ws v ≡ true) known (in_span-sum ws (x / 2)))))
    (bit_cases (bit_at x 0) w (bit_at-lt x 0)))
    (rank-step w ws)

-- ---- the columns of a matrix

-- the cut columns have as many bits as there are rows left
pub cut_short : (a : Matrix) (row k : ℕ) → row ≤ a.n → k ≤ a.n → a.n ≤ length a.cols
    → (i : ℕ) → i < length (cut_columns a.cols row k) → slice_index (cut_columns a.cols row k) i < 2 ^ (a.n - row)
cut_short a row k rows cols long i l =
    let len : length (cut_columns a.cols row k) ≡ k = length-cut a.cols row k (omega arith) in
    let inside : i < a.n = omega arith in
    let whole : a.n - row + row ≡ a.n = omega arith in
    subst (λ (v : ℕ). v < 2 ^ (a.n - row)) (sym (cut_at a.cols row k i (omega arith) (omega arith)))
    (shr_below (slice_index a.cols i) (a.n - row) row (subst (λ (m : ℕ). slice_index a.cols i < 2 ^ m) (sym whole) (a.below i inside)))

-- all columns, whole
sum_of_columns-whole : (a : Matrix) (x : ℕ) → a.n ≤ length a.cols → sum_of (cut_columns a.cols 0 a.n) x ≡ image a x
sum_of_columns-whole a x long =
    ap (λ (k : ℕ). xor_sum (slice_index (cut_columns a.cols 0 a.n)) k x) (length-cut a.cols 0 a.n long)
    ∙ xor_sum-ext (slice_index (cut_columns a.cols 0 a.n)) (slice_index a.cols) a.n x
    (λ j l. cut_at a.cols 0 a.n j l long ∙ div-one (slice_index a.cols j))

-- the rank of all columns is n exactly where the matrix is nonsingular
pub rank-nonsingular : (a : Matrix) → a.n ≤ length a.cols → (rank_of_rows a.cols 0 a.n ≡ a.n) ↔ IsNonsingular a
rank-nonsingular a long =
    let ws : List ℕ = cut_columns a.cols 0 a.n in
    let len : length ws ≡ a.n = length-cut a.cols 0 a.n long in (
      λ full x short sent.
          independent-full_rank ws (full ∙ sym len) x (subst (λ (k : ℕ). x < 2 ^ k) (sym len) short) (sum_of_columns-whole a x long ∙ sent),
      λ nonsingular.
          rank-independent ws (record {
            only = λ x short sum. nonsingular x (subst (λ (k : ℕ). x < 2 ^ k) len short) (sym (sum_of_columns-whole a x long) ∙ sum);
          })
          ∙ len,
    )
