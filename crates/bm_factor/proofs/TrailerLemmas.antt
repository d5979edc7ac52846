-- The loop of the trailer: each column from m on gets another one where it needs it.
use Rattle.std.proofs.Common.{◌≡◌, ◌≢◌, ℕ, ◌+◌, ◌-◌, ◌*◌, ◌/◌, ◌^◌, ◌<◌, ◌≤◌, Bool, true, false, not, if◌then◌else◌, List, [], ◌∷◌, ◌++◌}
use Rattle.std.proofs.Common.{length, length-append, slice_index, bit_xor, map, refl, sym, ap, ◌∙◌, subst, arith, ⊎_elim}
use Rattle.std.specs.List.{range_with_len}
use Rattle.std.specs.Int.Bits.{xor_shr}
use Rattle.std.proofs.lemmas.Nat.{xor_comm, pow_pos, pow_below, shl-shr, shl_below}
use Rattle.std.proofs.lemmas.Bool.{cases_lt, cases_eq, false≢true}
use Rattle.std.proofs.lemmas.List.{get_or_append_left, get_or-append-add}
use Rattle.std.proofs.lemmas.List.FromFn.{length-map-range_with_len, get_or-map-range_with_len}
use Rattle.bm_gf2.specs.Vector.{xor_sum}
use Rattle.bm_gf2.specs.declared.matrix.Matrix.{Matrix}
use Rattle.bm_gf2.specs.Matrix.{image, column, IsNonsingular}
use Rattle.bm_gf2.proofs.VectorLemmas.{xor_sum-xor, xor_sum-pow, xor_sum-shr, xor_sum-above, xor_sum-ext, xor_same, xor_cancel}
use Rattle.bm_gf2.proofs.ShiftLemmas.{image_below}
use Rattle.bm_rank.specs.Span.{in_span, sum_of}
use Rattle.bm_rank.proofs.SpanLemmas.{in_span-member, in_span-sum, in_span-xor}
use Rattle.bm_rank.proofs.RankBoundLemmas.{in_span-append_left}
use Rattle.bm_rank.proofs.KernelLemmas.{IsIndependent, independent_more, independent_none}
use Rattle.std.proofs.Math.Seq.{get_or-append_seam}
use Rattle.bm_rank.proofs.DimensionLemmas.{short_misses, nonsingular_reaches}
use Rattle.bm_factor.specs.Columns.{product, IsOwnInverse}
use Rattle.bm_factor.specs.Trailer.{AddsInto, IsTrailer}
use Rattle.bm_factor.proofs.ColumnLemmas.{own_inverse, unit_back, added_back, unchanged_low}
use Rattle.bm_factor.proofs.InsertLemmas.{in_span-xor_sum, no_member, insert_known, insert_fresh, insert_done, insert_same}
use Rattle.bm_base.proofs.PowerLemmas.{cut_below}

-- column j of the product a t, without the rows below m
abbrev pub cut_column : Matrix → Matrix → ℕ → ℕ → ℕ
cut_column a t m j = product a t j / 2 ^ m

-- columns m..j-1 are done
pub record IsTrailing (a t : Matrix) (m j : ℕ) (kept : List ℕ) : Type 0 where
  pub size : t.n ≡ a.n
  pub low : (k : ℕ) → k < m → column t k ≡ 2 ^ k
  pub done : (k : ℕ) → m ≤ k → k < j → AddsInto t m k
  pub rest : (k : ℕ) → j ≤ k → k < a.n → column t k ≡ 2 ^ k
  pub long : length kept ≡ j - m
  pub is : (k : ℕ) → k < j - m → slice_index kept k ≡ cut_column a t m (m + k)
  pub independent : IsIndependent (slice_index kept) (j - m)

-- the tail of cut columns of a, from j + 1 on
tail_of : Matrix → ℕ → ℕ → List ℕ
tail_of a m j = map (λ k. column a k / 2 ^ m) (range_with_len (j + 1) (a.n - (j + 1)))

-- how many they are
length-tail : (a : Matrix) (m j : ℕ) → length (tail_of a m j) ≡ a.n - (j + 1)
unfolding tail_of
length-tail a m j = length-map-range_with_len (λ k. column a k / 2 ^ m) (j + 1) (a.n - (j + 1))

-- one of them
tail_at : (a : Matrix) (m j q k : ℕ) → q < a.n - (j + 1) → j + 1 + q ≡ k → slice_index (tail_of a m j) q ≡ column a k / 2 ^ m
unfolding tail_of
tail_at a m j q k l e = get_or-map-range_with_len (λ i. column a i / 2 ^ m) (j + 1) (a.n - (j + 1)) q k 0 l e

-- a column is its new self and some columns below m
column_back : (a t : Matrix) (m k : ℕ) (s : AddsInto t m k) → m ≤ a.n → k < a.n
    → column a k / 2 ^ m ≡ bit_xor (xor_sum (λ i. column a i / 2 ^ m) m s.added) (cut_column a t m k)
column_back a t m k s l h =
    let p : ℕ = image a s.added in
    let q : ℕ = column a k in
    let e : image a (column t k) ≡ bit_xor p q = ap (image a) s.is ∙ xor_sum-xor (column a) a.n s.added (2 ^ k)
    ∙ ap (bit_xor p) (xor_sum-pow (column a) a.n k h) in
    let c : cut_column a t m k ≡ bit_xor (p / 2 ^ m) (q / 2 ^ m) = ap (λ (x : ℕ). x / 2 ^ m) e ∙ xor_shr p q m in
    let r : p / 2 ^ m ≡ xor_sum (λ i. column a i / 2 ^ m) m s.added =
    ap (λ (x : ℕ). x / 2 ^ m) (xor_sum-above (column a) m a.n s.added l s.below) ∙ xor_sum-shr (column a) m m s.added in
    sym (xor_same (sym r) c ∙ xor_cancel (p / 2 ^ m) (q / 2 ^ m))

-- ---- a column to add: where column j and every column below m are in the span, the matrix is singular

module _ (a t : Matrix) (m j : ℕ) (kept : List ℕ) (s : IsTrailing a t m j kept) (from : m ≤ j) (inside : j < a.n)
    (lead : (i : ℕ) → i < m → in_span kept (column a i / 2 ^ m) ≡ true) (own : in_span kept (column a j / 2 ^ m) ≡ true) where
  -- what was kept, and the columns to come
  abbrev all_of : List ℕ
  all_of = kept ++ tail_of a m j

  -- one column less than there are rows
  length-all : length all_of ≡ (j - m) + (a.n - (j + 1))
  length-all = omega (arith, length-append kept (tail_of a m j), s.long, length-tail a m j)

  -- a column that is done
  done_spanned : (k : ℕ) → m ≤ k → k < j → in_span kept (column a k / 2 ^ m) ≡ true
  done_spanned k low high =
      let d = s.done k low high in
      let long : length kept ≡ j - m = s.long in
      let place : k - m < j - m = omega arith in
      let sum : ℕ = xor_sum (λ i. column a i / 2 ^ m) m d.added in
      let here : slice_index kept (k - m) ≡ cut_column a t m k =
      s.is (k - m) place ∙ ap (cut_column a t m) (let e : m + (k - m) ≡ k = omega arith in e) in
      let member : in_span kept (cut_column a t m k) ≡ true =
      ap (in_span kept) (sym here) ∙ in_span-member kept (k - m) (omega arith) in
      ap (in_span kept) (column_back a t m k d (omega arith) (omega arith))
      ∙ in_span-xor kept sum (cut_column a t m k) (in_span-xor_sum kept (λ i. column a i / 2 ^ m) m d.added (λ i l _. lead i l)) member

  -- a column to come
  tail_spanned : (k : ℕ) → j < k → k < a.n → in_span all_of (column a k / 2 ^ m) ≡ true
  tail_spanned k low high =
      let i : ℕ = k - (j + 1) in
      let tail : List ℕ = tail_of a m j in
      let long = length-all in
      let kept_long = s.long in
      let here : slice_index all_of (length kept + i) ≡ column a k / 2 ^ m =
      get_or-append-add kept tail i 0 ∙ tail_at a m j i k (omega arith) (omega arith) in
      ap (in_span all_of) (sym here) ∙ in_span-member all_of (length kept + i) (omega arith)

  -- every column
  all_spanned : (k : ℕ) → k < a.n → in_span all_of (column a k / 2 ^ m) ≡ true
  all_spanned k l =
      let wider : in_span kept (column a k / 2 ^ m) ≡ true → in_span all_of (column a k / 2 ^ m) ≡ true =
      in_span-append_left kept (tail_of a m j) (column a k / 2 ^ m) in
      ⊎_elim
      (λ (p : k < m). wider (lead k p))
      (λ (p : m ≤ k).
      ⊎_elim
      (λ (q : k < j). wider (done_spanned k p q))
      (λ (q : j ≤ k).
      ⊎_elim
      (λ (e : k ≡ j). wider (ap (λ (x : ℕ). in_span kept (column a x / 2 ^ m)) e ∙ own))
      (λ (e : k ≢ j). tail_spanned k (omega arith) l)
      (cases_eq k j))
      (cases_lt k j))
      (cases_lt k m)

  -- they have n - m rows
  all_short : (i : ℕ) → i < length all_of → slice_index all_of i < 2 ^ (a.n - m)
  all_short i l =
      let tail : List ℕ = tail_of a m j in
      let long = length-all in
      let kept_long = s.long in
      ⊎_elim
      (λ (p : i < length kept).
      subst (λ (v : ℕ). v < 2 ^ (a.n - m)) (sym (get_or_append_left kept tail 0 i p ∙ s.is i (omega arith)))
      (cut_below a.n m (image a (column t (m + i))) (omega arith) (image_below a (column t (m + i)))))
      (λ (p : length kept ≤ i).
      let q : ℕ = i - length kept in
      let e : i ≡ length kept + q = omega arith in
      let k : ℕ = j + 1 + q in
      subst (λ (v : ℕ). v < 2 ^ (a.n - m))
      (sym (ap (slice_index all_of) e ∙ get_or-append-add kept tail q 0 ∙ tail_at a m j q k (omega arith) refl))
      (cut_below a.n m (column a k) (omega arith) (a.below k (omega arith))))
      (cases_lt i (length kept))

  -- but fewer than n - m vectors do not span the rows of a nonsingular matrix
  pub some_free : IsNonsingular a → a.n ≤ length a.cols → ⊥
  some_free nonsingular long =
      let width : ℕ = a.n - m in
      let few : a.n ≤ 52 = a.few in
      let count = length-all in
      let missed = short_misses width all_of (omega arith) all_short (omega arith) in
      let wide : width + m ≡ a.n = omega arith in
      let v : ℕ = missed.0 in
      let up : v * 2 ^ m < 2 ^ a.n = subst (λ (k : ℕ). v * 2 ^ m < 2 ^ k) wide (shl_below v width m missed.1) in
      let reach = nonsingular_reaches a nonsingular long (v * 2 ^ m) up in
      let e : v ≡ xor_sum (λ k. column a k / 2 ^ m) a.n reach.0 =
      sym (shl-shr v m) ∙ ap (λ (x : ℕ). x / 2 ^ m) (sym reach.1) ∙ xor_sum-shr (column a) a.n m reach.0 in
      let member : in_span all_of v ≡ true =
      ap (in_span all_of) e ∙ in_span-xor_sum all_of (λ k. column a k / 2 ^ m) a.n reach.0 (λ k l _. all_spanned k l) in
      false≢true (sym missed.2 ∙ member)

-- one more column is done
pub trailing_more : (a t t2 : Matrix) (m j : ℕ) (kept kept2 : List ℕ) (c w : ℕ) → IsTrailing a t m j kept → m ≤ j → j < a.n → t2.n ≡ a.n
    → c < 2 ^ m → column t2 j ≡ bit_xor c (2 ^ j) → ((k : ℕ) → k ≢ j → column t2 k ≡ column t k)
    → w ≡ cut_column a t2 m j → in_span kept w ≡ false → kept2 ≡ kept ++ w ∷ [] → IsTrailing a t2 m (j + 1) kept2
trailing_more a t t2 m j kept kept2 c w s above inside size short column_is others new_is f kept2_is =
    let n : ℕ = j - m in
    let count : length kept ≡ n = s.long in
    let next : (j + 1) - m ≡ n + 1 = omega arith in
    let old : (k : ℕ) → k < n → slice_index kept2 k ≡ slice_index kept k = λ k h.
    ap (λ (l : List ℕ). slice_index l k) kept2_is ∙ get_or_append_left kept (w ∷ []) 0 k (omega arith) in
    let last : slice_index kept2 n ≡ w =
    ap (λ (l : List ℕ). slice_index l n) kept2_is ∙ ap (slice_index (kept ++ w ∷ [])) (sym count) ∙ get_or-append_seam kept w [] 0 in
    let ind : IsIndependent (slice_index kept2) n = record {
      only = λ x l h. s.independent.only x l (sym (xor_sum-ext (slice_index kept2) (slice_index kept) n x old) ∙ h);
    } in
    let new : (x : ℕ) → xor_sum (slice_index kept2) n x ≢ slice_index kept2 n = λ x h.
    let e : sum_of kept x ≡ w = ap (λ (k : ℕ). xor_sum (slice_index kept) k x) count
    ∙ sym (xor_sum-ext (slice_index kept2) (slice_index kept) n x old) ∙ h ∙ last in
    false≢true (sym f ∙ subst (λ (v : ℕ). in_span kept v ≡ true) e (in_span-sum kept x)) in
    record {
      size = size;
      low = λ k h. others k (omega arith) ∙ s.low k h;
      done = λ k p q.
          ⊎_elim
          (λ (e : k ≡ j). subst (λ (x : ℕ). AddsInto t2 m x) (sym e) (record { added = c; below = short; is = column_is }))
          (λ (e : k ≢ j). let d = s.done k p (omega arith) in record { added = d.added; below = d.below; is = others k e ∙ d.is })
          (cases_eq k j);
      rest = λ k p q. others k (omega arith) ∙ s.rest k (omega arith) q;
      long = ap length kept2_is ∙ length-append kept (w ∷ []) ∙ (let e : length kept + 1 ≡ (j + 1) - m = omega arith in e);
      is = λ k h.
          ⊎_elim
          (λ (e : k ≡ n). ap (slice_index kept2) e ∙ last ∙ new_is ∙ ap (cut_column a t2 m) (let g : j ≡ m + k = omega arith in g))
          (λ (e : k ≢ n). let l : k < n = omega arith in let ne : m + k ≢ j = omega arith in
          old k l ∙ s.is k l ∙ ap (λ (x : ℕ). image a x / 2 ^ m) (sym (others (m + k) ne)))
          (cases_eq k n);
      independent = subst (λ (x : ℕ). IsIndependent (slice_index kept2) x) (sym next) (independent_more (slice_index kept2) n ind new);
    }

-- nothing done yet
pub trailing_none : (a t : Matrix) (m : ℕ) → t.n ≡ a.n → ((k : ℕ) → k < a.n → column t k ≡ 2 ^ k) → m ≤ a.n → IsTrailing a t m m []
trailing_none a t m size e l =
    let z : m - m ≡ 0 = omega arith in
    record {
      size = size;
      low = λ k h. e k (omega arith);
      done = λ k p q. absurd (omega arith);
      rest = λ k p q. e k q;
      long = sym z;
      is = λ k h. absurd (omega arith);
      independent = subst (λ (x : ℕ). IsIndependent (slice_index []) x) (sym z) (independent_none (slice_index []));
    }

-- all columns are done
pub trailing_all : (a t : Matrix) (m j : ℕ) (kept : List ℕ) → IsTrailing a t m j kept → j ≡ a.n → IsTrailer a t m
trailing_all a t m j kept s e = record {
  size = s.size;
  kept = s.low;
  adds = λ k p q. s.done k p (omega arith);
  trailing = λ y h z.
      let w : j - m ≡ a.n - m = ap (λ (x : ℕ). x - m) e in
      s.independent.only y (subst (λ (x : ℕ). y < 2 ^ x) (sym w) h)
      (xor_sum-ext (slice_index kept) (λ k. cut_column a t m (m + k)) (j - m) y s.is
      ∙ ap (λ (x : ℕ). xor_sum (λ k. cut_column a t m (m + k)) x y) w ∙ z);
}

-- the new column's rows from m on: its own
pub cut_unit : (a t : Matrix) (m j : ℕ) → j < a.n → column t j ≡ 2 ^ j → cut_column a t m j ≡ column a j / 2 ^ m
cut_unit a t m j h e = ap (λ (x : ℕ). image a x / 2 ^ m) e ∙ ap (λ (x : ℕ). x / 2 ^ m) (xor_sum-pow (column a) a.n j h)

-- .. with those of the column that is added
pub cut_added : (a t : Matrix) (m j i : ℕ) → j < a.n → i < a.n → column t j ≡ bit_xor (2 ^ j) (2 ^ i)
    → cut_column a t m j ≡ bit_xor (column a j / 2 ^ m) (column a i / 2 ^ m)
cut_added a t m j i h l e =
    ap (λ (x : ℕ). image a x / 2 ^ m) e
    ∙ ap (λ (x : ℕ). x / 2 ^ m) (xor_sum-xor (column a) a.n (2 ^ j) (2 ^ i)
    ∙ xor_same (xor_sum-pow (column a) a.n j h) (xor_sum-pow (column a) a.n i l))
    ∙ xor_shr (column a j) (column a i) m

-- the turn where the column gets another
pub turn_added : (a t t2 : Matrix) (m j i : ℕ) (kept kept1 kept2 : List ℕ) (b1 b2 : Bool) → IsTrailing a t m j kept → m ≤ j → j < a.n
    → i < m → t2.n ≡ t.n
    → b1 ≡ false → b1 ≡ not (in_span kept (column a j / 2 ^ m)) → kept1 ≡ (if b1 then kept ++ (column a j / 2 ^ m) ∷ [] else kept)
    → in_span kept1 (column a i / 2 ^ m) ≡ false
    → column t2 j ≡ bit_xor (column t j) (column t i) → ((k : ℕ) → k ≢ j → column t2 k ≡ column t k)
    → b2 ≡ not (in_span kept1 (bit_xor (column a j / 2 ^ m) (column a i / 2 ^ m)))
    → kept2 ≡ (if b2 then kept1 ++ (bit_xor (column a j / 2 ^ m) (column a i / 2 ^ m)) ∷ [] else kept1)
    → IsTrailing a t2 m (j + 1) kept2
turn_added a t t2 m j i kept kept1 kept2 b1 b2 s above inside below size is_refused refused_is kept_is free changed others fresh_is kept2_is
    =
    let u : ℕ = column a j / 2 ^ m in
    let v : ℕ = column a i / 2 ^ m in
    let same : kept1 ≡ kept = insert_same kept kept1 u b1 kept_is is_refused in
    let own : in_span kept u ≡ true = insert_known (in_span kept u) b1 refused_is is_refused in
    let fresh1 : in_span kept1 (bit_xor u v) ≡ false =
    no_member kept1 u v (subst (λ (l : List ℕ). in_span l u ≡ true) (sym same) own) free in
    let done2 : kept2 ≡ kept1 ++ (bit_xor u v) ∷ [] =
    insert_done kept1 kept2 (bit_xor u v) (in_span kept1 (bit_xor u v)) b2 fresh_is kept2_is fresh1 in
    let two : column t2 j ≡ bit_xor (2 ^ j) (2 ^ i) = changed ∙ xor_same (s.rest j (omega arith) inside) (s.low i below) in
    trailing_more a t t2 m j kept kept2 (2 ^ i) (bit_xor u v) s above inside (size ∙ s.size) (pow_below i m below)
    (two ∙ xor_comm (2 ^ j) (2 ^ i)) others
    (sym (cut_added a t2 m j i inside (omega arith) two))
    (subst (λ (l : List ℕ). in_span l (bit_xor u v) ≡ false) same fresh1)
    (done2 ∙ ap (λ (l : List ℕ). l ++ (bit_xor u v) ∷ []) same)

-- the turn where the column is new by itself
pub turn_kept : (a t : Matrix) (m j : ℕ) (kept kept1 : List ℕ) (b1 : Bool) → IsTrailing a t m j kept → m ≤ j → j < a.n
    → b1 ≡ true → b1 ≡ not (in_span kept (column a j / 2 ^ m)) → kept1 ≡ (if b1 then kept ++ (column a j / 2 ^ m) ∷ [] else kept)
    → IsTrailing a t m (j + 1) kept1
turn_kept a t m j kept kept1 b1 s above inside is_refused refused_is kept_is =
    let u : ℕ = column a j / 2 ^ m in
    let fresh1 : in_span kept u ≡ false = insert_fresh (in_span kept u) b1 refused_is is_refused in
    let unit : column t j ≡ 2 ^ j = s.rest j (omega arith) inside in
    trailing_more a t t m j kept kept1 0 u s above inside s.size (pow_pos m) unit (λ k ne. refl)
    (sym (cut_unit a t m j inside unit)) fresh1 (insert_done kept kept1 u (in_span kept u) b1 refused_is kept_is fresh1)

-- the search has something to find
pub turn_free : (a t : Matrix) (m j : ℕ) (kept kept1 : List ℕ) (b1 : Bool) → IsNonsingular a → a.n ≤ length a.cols
    → IsTrailing a t m j kept → m ≤ j → j < a.n
    → b1 ≡ false → b1 ≡ not (in_span kept (column a j / 2 ^ m)) → kept1 ≡ (if b1 then kept ++ (column a j / 2 ^ m) ∷ [] else kept)
    → ((i : ℕ) → i < m → in_span kept1 (column a i / 2 ^ m) ≡ true) → ⊥
turn_free a t m j kept kept1 b1 nonsingular columns s above inside is_refused refused_is kept_is all =
    let u : ℕ = column a j / 2 ^ m in
    let same : kept1 ≡ kept = insert_same kept kept1 u b1 kept_is is_refused in
    some_free a t m j kept s above inside (λ i l. subst (λ (k : List ℕ). in_span k (column a i / 2 ^ m) ≡ true) same (all i l))
    (insert_known (in_span kept u) b1 refused_is is_refused) nonsingular columns

-- a trailer is its own inverse: it adds nothing to what it adds
pub trailer_inverse : (a t : Matrix) (m : ℕ) → IsTrailer a t m → m ≤ a.n → IsOwnInverse t
trailer_inverse a t m s l =
    let size : t.n ≡ a.n = s.size in
    own_inverse t
    (λ j inside.
    ⊎_elim
    (λ (p : j < m). unit_back t j inside (s.kept j p))
    (λ (p : m ≤ j).
    let d = s.adds j p (omega arith) in
    added_back t j d.added inside d.is (unchanged_low t m d.added (omega arith) s.kept d.below))
    (cases_lt j m))
