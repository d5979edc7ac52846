-- Fewer than n vectors do not span all vectors below 2 ^ n.
use Rattle.std.proofs.Common.{◌≡◌, ◌≢◌, ℕ, zero, suc, ◌+◌, ◌*◌, ◌/◌, ◌%◌, ◌^◌, ◌<◌, ◌≤◌, true, false, List, [], ◌∷◌, length, length-take}
use Rattle.std.proofs.Common.{get_or-take, take, set, replicate, slice_index, bit_and, bit_xor, refl, sym, ap, ◌∙◌, subst, arith, add-one}
use Rattle.std.proofs.Common.{inl, inr, ⊎_elim, zero-mul}
use Rattle.std.specs.Int.Bits.{xor_zero_r, xor_self}
use Rattle.std.proofs.Math.Nat.{mod-lt, two-pow-succ}
use Rattle.std.proofs.lemmas.Nat.{pow_pos, pow_below, leading_top}
use Rattle.std.proofs.lemmas.Nat.Bits.{bit_at-pow_other}
use Rattle.std.proofs.lemmas.Bool.{cases_Bool, cases_eq}
use Rattle.std.proofs.lemmas.Grind.{take-set_at}
use Rattle.std.proofs.lemmas.List.{length-set}
use Rattle.bm_gf2.specs.Vector.{xor_sum}
use Rattle.bm_gf2.proofs.VectorLemmas.{xor_sum-low, xor_sum-zero, zero_at, xor_same}
use Rattle.bm_gf2.specs.declared.matrix.Matrix.{Matrix}
use Rattle.bm_gf2.specs.Matrix.{image, IsNonsingular}
use Rattle.bm_rank.specs.Echelon.{IsRowEchelon, IsReduced, pivot_count, weight}
use Rattle.bm_rank.specs.Span.{in_span}
use Rattle.bm_rank.specs.Rank.{rank}
use Rattle.bm_rank.proofs.RankLemmas.{rank-fresh, rank-known}
use Rattle.bm_rank.proofs.RankBoundLemmas.{rank-nil, rank-le-length}
use Rattle.bm_rank.proofs.KernelLemmas.{IsIndependent}
use Rattle.bm_rank.specs.Echelon.{IsEchelon}
use Rattle.bm_rank.specs.Span.{sum_of}
use Rattle.bm_rank.proofs.SpanLemmas.{sum_of_span, sum_of-cons, lowest_odd, lowest_even, in_span-cons_known, in_span-cons_same}
use Rattle.bm_rank.proofs.SpanLemmas.{in_span-push}
use Rattle.bm_rank.proofs.ReductionLemmas.{IsReduction, reduction_start, reduction_taken, reduction_left}
use Rattle.bm_rank.proofs.PivotLemmas.{one_row}
use Rattle.bm_rank.proofs.EchelonLemmas.{none_kept, grown, count_fits, count_le, in_span_of_rest, no_span_of_rest}
use Rattle.bm_rank.proofs.SpanLemmas.{sum_of-take}

-- what the rows leave of a vector
pub reduction_of : (rows : List ℕ) (n v : ℕ) → IsRowEchelon rows n → n ≤ 52 → v < 2 ^ n → (i d : ℕ) → i + d ≡ n
    → (r : ℕ) × (u : ℕ) × IsReduction rows n i v r u
reduction_of rows n v s few h i zero e =
    (v, 0, let k : n ≡ i = omega arith in subst (λ (x : ℕ). IsReduction rows n x v v 0) k (reduction_start rows n v h))
reduction_of rows n v s few h i (suc d) e =
    let next = reduction_of rows n v s few h (i + 1) d (omega arith) in
    let r : ℕ = next.0 in
    let u : ℕ = next.1 in
    let l : i < n = omega arith in
    ⊎_elim
    (λ (p : slice_index rows i ≡ 0). (r, u, reduction_left rows n i v r u l next.2 (inl p)))
    (λ (p : slice_index rows i ≢ 0).
    ⊎_elim
    (λ (q : bit_and (r / 2 ^ i) 1 ≡ 1).
    (bit_xor r (slice_index rows i), bit_xor u (1 * 2 ^ i % 2 ^ 64), reduction_taken rows n i v r u s l few next.2 p q))
    (λ (q : bit_and (r / 2 ^ i) 1 ≢ 1). (r, u, reduction_left rows n i v r u l next.2 (inr q)))
    (cases_eq (bit_and (r / 2 ^ i) 1) 1))
    (cases_eq (slice_index rows i) 0)

-- an echelon of a list's span
pub record HasEchelon (n : ℕ) (ws : List ℕ) : Type 0 where
  pub count : ℕ
  pub kept : List ℕ
  pub rows : List ℕ
  pub marks : List ℕ
  pub is : IsEchelon n count kept rows marks
  pub long_kept : length kept ≡ 52
  pub long_rows : length rows ≡ 52
  pub long_marks : length marks ≡ 52
  pub ranked : count ≡ rank ws
  pub spans : (v : ℕ) → in_span (take count kept) v ≡ in_span ws v

-- nothing is left of one vector more: the echelon serves the longer list
echelon_same : (n w : ℕ) (ws : List ℕ) (e : HasEchelon n ws) → in_span ws w ≡ true → HasEchelon n (w ∷ ws)
echelon_same n w ws e known = record {
  count = e.count;
  kept = e.kept;
  rows = e.rows;
  marks = e.marks;
  is = e.is;
  long_kept = e.long_kept;
  long_rows = e.long_rows;
  long_marks = e.long_marks;
  ranked = e.ranked ∙ sym (rank-known w ws known);
  spans = λ v. e.spans v ∙ sym (in_span-cons_known w ws v known);
}

-- something is left of it: a row more
echelon_more : (n w : ℕ) (ws : List ℕ) (e : HasEchelon n ws) → w < 2 ^ n → (rest used lead : ℕ) → IsReduction e.rows n 0 w rest used
    → 2 ^ lead ≤ rest → rest < 2 ^ (lead + 1) → in_span ws w ≡ false → HasEchelon n (w ∷ ws)
echelon_more n w ws e short rest used lead left top top_below fresh =
    let reduced : IsReduced e.rows n rest = λ i l pivot. left.done i (omega arith) l pivot in
    let fits : e.count < n = count_fits n e.count e.kept e.rows e.marks e.is e.long_kept e.long_rows e.long_marks w rest used lead short
    left.sum reduced top top_below left.rest_below in
    let few : n ≤ 52 = e.is.few in
    let long : length e.kept ≡ 52 = e.long_kept in
    let room : e.count < length e.kept = omega arith in
    record {
      count = e.count + 1;
      kept = set e.kept e.count w;
      rows = set e.rows lead rest;
      marks = set e.marks lead (bit_xor (xor_sum (slice_index e.marks) n used) (2 ^ e.count));
      is = grown n e.count e.kept e.rows e.marks e.is e.long_kept e.long_rows e.long_marks w rest used lead short left.sum reduced top
          top_below left.rest_below;
      long_kept = length-set e.kept e.count w ∙ e.long_kept;
      long_rows = length-set e.rows lead rest ∙ e.long_rows;
      long_marks = length-set e.marks lead _ ∙ e.long_marks;
      ranked = ap (λ (k : ℕ). k + 1) e.ranked ∙ sym (rank-fresh w ws fresh);
      spans = λ v.
          ap (λ (k : List ℕ). in_span k v) (take-set_at e.kept e.count (e.count + 1) w refl room)
          ∙ in_span-push w (take e.count e.kept) v ∙ in_span-cons_same w (take e.count e.kept) ws e.spans v;
    }

-- one vector more
echelon_next : (n w : ℕ) (ws : List ℕ) (e : HasEchelon n ws) → w < 2 ^ n → (rest used : ℕ) → IsReduction e.rows n 0 w rest used
    → HasEchelon n (w ∷ ws)
echelon_next n w ws e short rest used left =
    let reduced : IsReduced e.rows n rest = λ i l pivot. left.done i (omega arith) l pivot in
    let long : e.count ≤ length e.kept = let a = count_le n e.count e.kept e.rows e.marks e.is in let b = e.long_kept in
    let few : n ≤ 52 = e.is.few in omega arith in
    ⊎_elim
    (λ (p : rest ≡ 0).
    echelon_same n w ws e (sym (e.spans w) ∙ in_span_of_rest n e.count e.kept e.rows e.marks e.is long w rest used left.sum p))
    (λ (p : rest ≢ 0).
    let t = leading_top n rest (omega arith) left.rest_below in
    echelon_more n w ws e short rest used t.0 left t.2 (rw add-one t.3)
    (sym (e.spans w) ∙ no_span_of_rest n e.count e.kept e.rows e.marks e.is long w rest used left.sum reduced p))
    (cases_eq rest 0)

-- an echelon of any short vectors, as the code would find it from the last to the first
pub echelon_of : (n : ℕ) (ws : List ℕ) → n ≤ 52 → ((i : ℕ) → i < length ws → slice_index ws i < 2 ^ n) → HasEchelon n ws
echelon_of n [] few h = record {
  count = 0;
  kept = replicate 52 0;
  rows = replicate 52 0;
  marks = replicate 52 0;
  is = none_kept n (replicate 52 0) (replicate 52 0) (replicate 52 0) few (zero_at 52) (zero_at 52);
  long_kept = refl;
  long_rows = refl;
  long_marks = refl;
  ranked = sym rank-nil;
  spans = λ v. refl;
}
echelon_of n (w ∷ ws) few h =
    reduced_next (echelon_of n ws few (λ i l. at_next w ws i (h (suc i) (omega arith)))) (h 0 (omega arith))
  where
    at_next : (w : ℕ) (ws : List ℕ) (i : ℕ) → slice_index (w ∷ ws) (suc i) < 2 ^ n → slice_index ws i < 2 ^ n
    at_next w ws i l = l

    reduced_next : HasEchelon n ws → w < 2 ^ n → HasEchelon n (w ∷ ws)
    reduced_next e short =
        let c = reduction_of e.rows n w e.is.stairs few short 0 n (omega arith) in
        echelon_next n w ws e short c.0 c.1 c.2

-- a row that is no pivot
empty_row : (rows : List ℕ) (k : ℕ) → pivot_count rows k < k → (i : ℕ) × (i < k) × (slice_index rows i ≡ 0)
unfolding pivot_count
empty_row rows zero h = absurd (omega arith)
empty_row rows (suc k) h =
    ⊎_elim
    (λ (p : (slice_index rows k ≡ 0) × (weight (slice_index rows k) ≡ 0)). (k, omega arith, p.0))
    (λ (p : (slice_index rows k ≢ 0) × (weight (slice_index rows k) ≡ 1)).
    let r = empty_row rows k (omega (arith, p.1)) in (r.0, (let b = r.1 in omega arith), r.2))
    (one_row (slice_index rows k))

-- some vector is no sum of fewer than n vectors
pub short_misses : (n : ℕ) (ws : List ℕ) → n ≤ 52 → ((i : ℕ) → i < length ws → slice_index ws i < 2 ^ n) → length ws < n
    → (v : ℕ) × (v < 2 ^ n) × (in_span ws v ≡ false)
short_misses n ws few h short =
    let e = echelon_of n ws few h in
    let c = e.is.counted in
    let s = e.ranked in
    let le = rank-le-length ws in
    let i = empty_row e.rows n (omega arith) in
    let v : ℕ = 2 ^ i.0 in
    let cl : e.count ≤ length e.kept = let a = count_le n e.count e.kept e.rows e.marks e.is in let b = e.long_kept in omega arith in
    let red : IsReduced e.rows n v = λ j l nz. bit_at-pow_other i.0 j (λ q. nz (ap (slice_index e.rows) q ∙ i.2)) in
    let pos : v ≢ 0 = let p : 0 < 2 ^ i.0 = pow_pos i.0 in omega arith in (
      v,
      pow_below i.0 n i.1,
      sym (e.spans v) ∙ no_span_of_rest n e.count e.kept e.rows e.marks e.is cl v v 0
          (sym (ap (bit_xor v) (xor_sum-zero (slice_index e.rows) n) ∙ xor_zero_r v)) red pos,
    )

-- no more than n vectors below 2 ^ n are independent
pub rank-le : (n : ℕ) (ws : List ℕ) → n ≤ 52 → ((i : ℕ) → i < length ws → slice_index ws i < 2 ^ n) → rank ws ≤ n
rank-le n ws few h =
    let e = echelon_of n ws few h in
    let r = e.ranked in
    let c = count_le n e.count e.kept e.rows e.marks e.is in
    omega arith

-- n vectors below 2 ^ n of rank n span all
pub full_rank_spans : (n : ℕ) (ws : List ℕ) → n ≤ 52 → ((i : ℕ) → i < length ws → slice_index ws i < 2 ^ n) → rank ws ≡ n
    → (v : ℕ) → v < 2 ^ n → in_span ws v ≡ true
full_rank_spans n ws few h full v b =
    ⊎_elim
    (λ (p : in_span ws v ≡ true). p)
    (λ (p : in_span ws v ≡ false).
    let more : rank (v ∷ ws) ≡ rank ws + 1 = rank-fresh v ws p in
    let le : rank (v ∷ ws) ≤ n = rank-le n (v ∷ ws) few (bounded v ws b h) in
    absurd (omega arith))
    (cases_Bool (in_span ws v))
  where
    bounded : (v : ℕ) (ws : List ℕ) → v < 2 ^ n → ((i : ℕ) → i < length ws → slice_index ws i < 2 ^ n)
        → (i : ℕ) → i < length (v ∷ ws) → slice_index (v ∷ ws) i < 2 ^ n
    bounded v ws b h zero l = b
    bounded v ws b h (suc i) l = h i (omega arith)

-- a set with the first vector
sum_of_odd : (w : ℕ) (ws : List ℕ) (x : ℕ) → sum_of (w ∷ ws) (x * 2 + 1) ≡ bit_xor w (sum_of ws x)
sum_of_odd w ws x =
    sum_of-cons w ws (x * 2 + 1)
    ∙ xor_same (ap (λ (c : ℕ). c * w) (lowest_odd x) ∙ (let o : 1 * w ≡ w = omega arith in o))
    (ap (sum_of ws) (let e : (x * 2 + 1) / 2 ≡ x = omega arith in e))

-- a set without it
sum_of_even : (w : ℕ) (ws : List ℕ) (x : ℕ) → sum_of (w ∷ ws) (x * 2) ≡ sum_of ws x
sum_of_even w ws x =
    sum_of-cons w ws (x * 2)
    ∙ xor_same (ap (λ (c : ℕ). c * w) (lowest_even x) ∙ zero-mul w)
    (ap (sum_of ws) (let e : x * 2 / 2 ≡ x = omega arith in e))

-- independent vectors have the rank of their number
pub rank-independent : (ws : List ℕ) → IsIndependent (slice_index ws) (length ws) → rank ws ≡ length ws
rank-independent [] i = rank-nil
rank-independent (w ∷ ws) i =
    ⊎_elim
    (λ (p : in_span ws w ≡ true).
    let s = sum_of_span ws w p in
    let x : ℕ = s.0 % 2 ^ length ws in
    let xb : x < 2 ^ length ws = mod-lt s.0 (pow_pos (length ws)) in
    let same : sum_of ws x ≡ w =
    xor_sum-low (slice_index ws) (length ws) s.0 ∙ s.1 in
    let odd : ℕ = x * 2 + 1 in
    let ob : odd < 2 ^ suc (length ws) = let t = two-pow-succ (length ws) in omega arith in
    let z : sum_of (w ∷ ws) odd ≡ 0 = sum_of_odd w ws x ∙ ap (bit_xor w) same ∙ xor_self w in
    let no_sum : odd ≡ 0 = i.only odd ob z in absurd (omega arith))
    (λ (p : in_span ws w ≡ false).
    rank-fresh w ws p ∙ ap (λ (k : ℕ). k + 1) (rank-independent ws (record {
      only = λ x l h.
          let db : x * 2 < 2 ^ suc (length ws) = let t = two-pow-succ (length ws) in omega arith in
          let d : x * 2 ≡ 0 = i.only (x * 2) db (sum_of_even w ws x ∙ h) in omega arith;
    })) ∙ (let e : length ws + 1 ≡ suc (length ws) = omega arith in e))
    (cases_Bool (in_span ws w))

-- a sum of the columns is an image
column_sum : (a : Matrix) → a.n ≤ length a.cols → (v : ℕ) → (x : ℕ) × (sum_of (take a.n a.cols) x ≡ v) → (x : ℕ) × (image a x ≡ v)
column_sum a long v s = (s.0, sym (sum_of-take a.cols a.n s.0 long) ∙ s.1)

-- a nonsingular matrix reaches every vector
pub nonsingular_reaches : (a : Matrix) → IsNonsingular a → a.n ≤ length a.cols → (v : ℕ) → v < 2 ^ a.n → (x : ℕ) × (image a x ≡ v)
nonsingular_reaches a ns long v b =
    let ws : List ℕ = take a.n a.cols in
    let len : length ws ≡ a.n = simp length-take (omega arith) in
    let few : a.n ≤ 52 = a.few in
    let ind : IsIndependent (slice_index ws) (length ws) = record {
      only = λ x l h. ns x (subst (λ (k : ℕ). x < 2 ^ k) len l) (sym (sum_of-take a.cols a.n x long) ∙ h);
    } in
    let full : rank ws ≡ a.n = rank-independent ws ind ∙ len in
    let below : (i : ℕ) → i < length ws → slice_index ws i < 2 ^ a.n = λ i l.
    let m : i < a.n = omega arith in rw get_or-take (a.below i m) in
    column_sum a long v (sum_of_span ws v (full_rank_spans a.n ws (omega arith) below full v b))
