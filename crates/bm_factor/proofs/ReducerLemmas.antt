-- The loop of the reducer, from column 0 on: a column that is new in rows m and above stays, another one becomes 0 there.
use Rattle.std.proofs.Common.{◌≡◌, ◌≢◌, ℕ, ◌+◌, ◌/◌, ◌^◌, ◌<◌, ◌≤◌, true, false, List, [], ◌∷◌, ◌++◌, length, length-append, slice_index}
use Rattle.std.proofs.Common.{map, take, bit_xor, refl, sym, ap, ◌∙◌, subst, arith, add-one, ⊎_elim, inl, inr, ◌⊎◌}
use Rattle.std.specs.Int.{bit_at}
use Rattle.std.specs.Int.Bits.{xor_shr, xor_self, xor_zero_l}
use Rattle.std.proofs.Math.Nat.{pow-le-pow_right}
use Rattle.std.proofs.Math.Seq.{take-suc}
use Rattle.std.proofs.lemmas.Nat.{pow_pos, pow_below}
use Rattle.std.proofs.lemmas.Nat.Bits.{bit_at-pow_same, bit_at_above}
use Rattle.std.proofs.lemmas.Bool.{cases_eq, false≢true}
use Rattle.std.proofs.lemmas.List.{map-append}
use Rattle.bm_gf2.specs.Vector.{xor_sum}
use Rattle.bm_gf2.specs.declared.matrix.Matrix.{Matrix}
use Rattle.bm_gf2.specs.Matrix.{image, column}
use Rattle.bm_gf2.proofs.VectorLemmas.{xor_sum-xor, xor_sum-pow, xor_sum-shr, xor_sum-xor_sum, xor_sum-ext, xor_sum-above, xor_sum-lt}
use Rattle.bm_gf2.proofs.VectorLemmas.{bit_of_xor, eq_of_xor-zero, xor_same}
use Rattle.bm_rank.specs.Span.{in_span, sum_of}
use Rattle.bm_rank.specs.Rank.{cut_columns, IsBasis}
use Rattle.bm_rank.specs.Echelon.{weight}
use Rattle.bm_rank.proofs.SpanLemmas.{in_span-member, kept_old, kept_last, in_span-zero, in_span-cons_known, in_span-cons_same}
use Rattle.bm_rank.proofs.SpanLemmas.{in_span-push, in_span-sum}
use Rattle.bm_rank.proofs.RankBoundLemmas.{in_span-append_left}
use Rattle.bm_rank.proofs.KernelLemmas.{IsIndependent, independent_more}
use Rattle.bm_rank.proofs.RowSolutionLemmas.{halves}
use Rattle.bm_factor.specs.Columns.{product, top_count}
use Rattle.bm_factor.proofs.TopCountLemmas.{top_count-ext, top_count-more, weight-none, weight-some}
use Rattle.bm_factor.proofs.InsertLemmas.{in_span-xor_sum}

-- ---- bases

-- no vectors
basis_none : IsBasis [] []
basis_none = record { independent = λ x l h. omega arith; spans = λ v. refl }

-- one vector more, which is a sum of those before it
basis_known : (basis ws : List ℕ) (w : ℕ) → IsBasis basis ws → in_span basis w ≡ true → IsBasis basis (ws ++ w ∷ [])
basis_known basis ws w b known = record {
  independent = b.independent;
  spans = λ v. sym (in_span-cons_known w basis v known) ∙ in_span-cons_same w basis ws b.spans v ∙ sym (in_span-push w ws v);
}

-- one vector more, which is none
basis_fresh : (basis ws : List ℕ) (w : ℕ) → IsBasis basis ws → in_span basis w ≡ false → IsBasis (basis ++ w ∷ []) (ws ++ w ∷ [])
basis_fresh basis ws w b fresh =
    let all : List ℕ = basis ++ w ∷ [] in
    let k : ℕ = length basis in
    let long : length all ≡ k + 1 = length-append basis (w ∷ []) in
    let old : (x : ℕ) → xor_sum (slice_index all) k x ≡ sum_of basis x = λ x.
    xor_sum-ext (slice_index all) (slice_index basis) k x (λ j l. kept_old basis w j l) in
    let first : IsIndependent (slice_index all) k = record { only = λ x l h. b.independent x l (sym (old x) ∙ h) } in
    let more : IsIndependent (slice_index all) (k + 1) = independent_more (slice_index all) k first
    (λ x e. false≢true (sym fresh
    ∙ subst (λ (v : ℕ). in_span basis v ≡ true) (sym (old x) ∙ e ∙ kept_last basis w) (in_span-sum basis x))) in
    record {
      independent = λ x l h.
          more.only x (subst (λ (n : ℕ). x < 2 ^ n) long l) (ap (λ (n : ℕ). xor_sum (slice_index all) n x) (sym long) ∙ h);
      spans = λ v. in_span-push w basis v ∙ in_span-cons_same w basis ws b.spans v ∙ sym (in_span-push w ws v);
    }

-- one column more in rows m and above
cut_more : (cols : List ℕ) (m j : ℕ) → j < length cols
    → cut_columns cols m (j + 1) ≡ cut_columns cols m j ++ (slice_index cols j / 2 ^ m) ∷ []
cut_more cols m j l =
    ap (map (λ (w : ℕ). w / 2 ^ m)) (rw add-one (take-suc cols j 0 l))
    ∙ map-append (λ (w : ℕ). w / 2 ^ m) (take j cols) (slice_index cols j ∷ [])

-- ---- the loop

-- column k is the unit vector with earlier ones added
pub record AddsEarlier (r : Matrix) (k : ℕ) : Type 0 where
  pub added : ℕ
  pub below : added < 2 ^ k
  pub is : column r k ≡ bit_xor added (2 ^ k)

-- the columns below j are done: `kept` are their rows m and above, of the pivot columns that `pivots` names by unit vectors
pub record IsReducing (a r : Matrix) (m j : ℕ) (kept : List ℕ) (pivots : ℕ → ℕ) : Type 0 where
  pub size : r.n ≡ a.n
  pub done : (k : ℕ) → k < j → AddsEarlier r k
  pub rest : (k : ℕ) → j ≤ k → k < a.n → column r k ≡ 2 ^ k
  pub pivot_below : (i : ℕ) → i < length kept → pivots i < 2 ^ j
  pub pivot_top : (i : ℕ) → i < length kept → image a (pivots i) / 2 ^ m ≡ slice_index kept i
  pub spanned : (k : ℕ) → k < j → in_span kept (product a r k / 2 ^ m) ≡ true
  pub independent : (x : ℕ) → x < 2 ^ j → ((k : ℕ) → k < j → product a r k / 2 ^ m ≡ 0 → bit_at x k ≡ 0)
      → xor_sum (λ k. product a r k / 2 ^ m) j x ≡ 0 → x ≡ 0
  pub counted : top_count (product a r) m j ≡ length kept
  pub basis : IsBasis kept (cut_columns a.cols m j)

-- nothing done yet
pub reducing_none : (a r : Matrix) (m : ℕ) (pivots : ℕ → ℕ) → r.n ≡ a.n → ((k : ℕ) → k < a.n → column r k ≡ 2 ^ k)
    → IsReducing a r m 0 [] pivots
unfolding top_count
reducing_none a r m pivots size units = record {
  size = size;
  done = λ k l. absurd (omega arith);
  rest = λ k p q. units k q;
  pivot_below = λ i h. absurd (omega arith);
  pivot_top = λ i h. absurd (omega arith);
  spanned = λ k l. absurd (omega arith);
  independent = λ x h _ _. omega arith;
  counted = refl;
  basis = basis_none;
}

-- column j with earlier ones added: what the others keep, and what the sum of tops says
module _ (a r r2 : Matrix) (m j : ℕ) (kept : List ℕ) (pivots : ℕ → ℕ) (s : IsReducing a r m j kept pivots)
    (others : (k : ℕ) → k ≢ j → column r2 k ≡ column r k) where
  -- the tops of the other columns
  same_top : (k : ℕ) → k ≢ j → product a r2 k / 2 ^ m ≡ product a r k / 2 ^ m
  same_top k ne = ap (λ (v : ℕ). image a v / 2 ^ m) (others k ne)

  -- the count with column j
  count_more : top_count (product a r2) m (j + 1) ≡ length kept + weight (product a r2 j / 2 ^ m)
  count_more =
      top_count-more (product a r2) m j
      ∙ ap (λ (c : ℕ). c + weight (product a r2 j / 2 ^ m))
      (top_count-ext (product a r2) (product a r) m j (λ k l. same_top k (omega arith)) ∙ s.counted)

  -- column j is done too
  done_more : AddsEarlier r2 j → (k : ℕ) → k < j + 1 → AddsEarlier r2 k
  done_more new k l =
      ⊎_elim
      (λ (e : k ≡ j). subst (λ (x : ℕ). AddsEarlier r2 x) (sym e) new)
      (λ (e : k ≢ j). let d = s.done k (omega arith) in record { added = d.added; below = d.below; is = others k e ∙ d.is })
      (cases_eq k j)

  -- the columns up to j are independent where they aren't 0
  independent_top : (product a r2 j / 2 ^ m ≡ 0) ⊎ (in_span kept (product a r2 j / 2 ^ m) ≡ false)
      → (x : ℕ) → x < 2 ^ (j + 1) → ((k : ℕ) → k < j + 1 → product a r2 k / 2 ^ m ≡ 0 → bit_at x k ≡ 0)
      → xor_sum (λ k. product a r2 k / 2 ^ m) (j + 1) x ≡ 0 → x ≡ 0
  independent_top new x h zeros sum =
      let top : ℕ → ℕ = λ k. product a r2 k / 2 ^ m in
      let old : ℕ → ℕ = λ k. product a r k / 2 ^ m in
      let same : (y : ℕ) → y < 2 ^ j → xor_sum top (j + 1) y ≡ xor_sum old j y = λ y yb.
      xor_sum-above top j (j + 1) y (omega arith) yb ∙ xor_sum-ext top old j y (λ k l. same_top k (omega arith)) in
      ⊎_elim
      (λ (p : x < 2 ^ j).
      s.independent x p (λ k l z. zeros k (omega arith) (same_top k (omega arith) ∙ z)) (sym (same x p) ∙ sum))
      (λ (p : (y : ℕ) × (y < 2 ^ j) × (x ≡ bit_xor y (2 ^ j)) × (x ≡ 2 ^ j + y)).
      let y : ℕ = p.0 in
      let one : bit_at x j ≡ 1 =
      ap (λ (v : ℕ). bit_at v j) p.2 ∙ bit_of_xor y (2 ^ j) j ∙ xor_same (bit_at_above y j j p.1 (omega arith)) (bit_at-pow_same j) in
      let parts : bit_xor (xor_sum old j y) (top j) ≡ 0 =
      sym (ap (xor_sum top (j + 1)) p.2 ∙ xor_sum-xor top (j + 1) y (2 ^ j)
      ∙ xor_same (same y p.1) (xor_sum-pow top (j + 1) j (omega arith))) ∙ sum in
      ⊎_elim
      (λ (z : top j ≡ 0). absurd (let none = zeros j (omega arith) z in omega arith))
      (λ (f : in_span kept (top j) ≡ false).
      absurd (false≢true (sym f ∙ subst (λ (v : ℕ). in_span kept v ≡ true) (eq_of_xor-zero (xor_sum old j y) (top j) parts)
      (in_span-xor_sum kept old j y (λ k l _. s.spanned k l)))))
      new)
      (halves x j h)

-- column j is new in rows m and above: it stays, and is a pivot
pub reducing_fresh : (a r : Matrix) (m j : ℕ) (kept kept2 : List ℕ) (pivots pivots2 : ℕ → ℕ) → IsReducing a r m j kept pivots → j < a.n
    → a.n ≤ length a.cols → in_span kept (column a j / 2 ^ m) ≡ false → kept2 ≡ kept ++ (column a j / 2 ^ m) ∷ []
    → ((k : ℕ) → k < length kept → pivots2 k ≡ pivots k) → pivots2 (length kept) ≡ 2 ^ j → IsReducing a r m (j + 1) kept2 pivots2
reducing_fresh a r m j kept kept2 pivots pivots2 s inside room fresh ke old new =
    let size : r.n ≡ a.n = s.size in
    let unit : column r j ≡ 2 ^ j = s.rest j (omega arith) inside in
    let same : (k : ℕ) → k ≢ j → column r k ≡ column r k = λ k ne. refl in
    let top : product a r j / 2 ^ m ≡ column a j / 2 ^ m =
    ap (λ (v : ℕ). image a v / 2 ^ m) unit ∙ ap (λ (v : ℕ). v / 2 ^ m) (xor_sum-pow (column a) a.n j inside) in
    let outside : in_span kept (product a r j / 2 ^ m) ≡ false = subst (λ (v : ℕ). in_span kept v ≡ false) (sym top) fresh in
    let long : length kept2 ≡ length kept + 1 = ap length ke ∙ length-append kept ((column a j / 2 ^ m) ∷ []) in
    let up : 2 ^ j ≤ 2 ^ (j + 1) = pow-le-pow_right (let t : 0 < 2 = omega arith in t) (let t : j ≤ j + 1 = omega arith in t) in
    let wider : (v : ℕ) → in_span kept v ≡ true → in_span kept2 v ≡ true = λ v h.
    subst (λ (l : List ℕ). in_span l v ≡ true) (sym ke) (in_span-append_left kept ((column a j / 2 ^ m) ∷ []) v h) in
    let old_kept : (k : ℕ) → k < length kept → slice_index kept2 k ≡ slice_index kept k = λ k l.
    ap (λ (l : List ℕ). slice_index l k) ke ∙ kept_old kept (column a j / 2 ^ m) k l in
    let last_kept : slice_index kept2 (length kept) ≡ column a j / 2 ^ m =
    ap (λ (l : List ℕ). slice_index l (length kept)) ke ∙ kept_last kept (column a j / 2 ^ m) in
    let by_place : (P : ℕ → Type 0) → ((k : ℕ) → k < length kept → P k) → P (length kept) → (k : ℕ) → k < length kept2 → P k = λ P f g k l.
    ⊎_elim
    (λ (e : k ≡ length kept). subst P (sym e) g)
    (λ (e : k ≢ length kept). f k (omega arith))
    (cases_eq k (length kept)) in
    record {
      size = size;
      done = done_more a r r m j kept pivots s same
          (record { added = 0; below = pow_pos j; is = unit ∙ sym (xor_zero_l (2 ^ j)) });
      rest = λ k p q. s.rest k (omega arith) q;
      pivot_below = by_place (λ (k : ℕ). pivots2 k < 2 ^ (j + 1))
          (λ k l. let b = s.pivot_below k l in let e = old k l in omega arith)
          (subst (λ (v : ℕ). v < 2 ^ (j + 1)) (sym new) (pow_below j (j + 1) (omega arith)));
      pivot_top = by_place (λ (k : ℕ). image a (pivots2 k) / 2 ^ m ≡ slice_index kept2 k)
          (λ k l. ap (λ (v : ℕ). image a v / 2 ^ m) (old k l) ∙ s.pivot_top k l ∙ sym (old_kept k l))
          (ap (λ (v : ℕ). image a v / 2 ^ m) new ∙ ap (λ (v : ℕ). v / 2 ^ m) (xor_sum-pow (column a) a.n j inside) ∙ sym last_kept);
      spanned = λ k l.
          ⊎_elim
          (λ (e : k ≡ j). subst (λ (x : ℕ). in_span kept2 (product a r x / 2 ^ m) ≡ true) (sym e)
          (subst (λ (v : ℕ). in_span kept2 v ≡ true) (last_kept ∙ sym top) (in_span-member kept2 (length kept) (omega arith))))
          (λ (e : k ≢ j). wider (product a r k / 2 ^ m) (s.spanned k (omega arith)))
          (cases_eq k j);
      independent = independent_top a r r m j kept pivots s same (inr outside);
      counted = count_more a r r m j kept pivots s same
          ∙ (let w = weight-some (product a r j / 2 ^ m)
          (λ z. false≢true (sym outside ∙ subst (λ (v : ℕ). in_span kept v ≡ true) (sym z) (in_span-zero kept))) in omega arith);
      basis = subst (λ l. IsBasis kept2 l) (sym (cut_more a.cols m j (omega arith)))
          (subst (λ l. IsBasis l (cut_columns a.cols m j ++ (column a j / 2 ^ m) ∷ [])) (sym ke)
          (basis_fresh kept (cut_columns a.cols m j) (column a j / 2 ^ m) s.basis fresh));
    }

-- column j is a sum of pivots in rows m and above: these are added, and it becomes 0 there
pub reducing_known : (a r r2 : Matrix) (m j : ℕ) (kept : List ℕ) (pivots : ℕ → ℕ) (set : ℕ) → IsReducing a r m j kept pivots → j < a.n
    → a.n ≤ length a.cols → r2.n ≡ r.n → ((k : ℕ) → k ≢ j → column r2 k ≡ column r k)
    → column r2 j ≡ bit_xor (xor_sum pivots (length kept) set) (2 ^ j) → sum_of kept set ≡ column a j / 2 ^ m
    → in_span kept (column a j / 2 ^ m) ≡ true → IsReducing a r2 m (j + 1) kept pivots
reducing_known a r r2 m j kept pivots set s inside room size2 others is sum known =
    let size : r.n ≡ a.n = s.size in
    let count : ℕ = length kept in
    let c : ℕ = xor_sum pivots count set in
    let tops : image a c / 2 ^ m ≡ column a j / 2 ^ m =
    ap (λ (v : ℕ). v / 2 ^ m) (xor_sum-xor_sum (column a) pivots a.n count set)
    ∙ xor_sum-shr (λ k. image a (pivots k)) count m set
    ∙ xor_sum-ext (λ k. image a (pivots k) / 2 ^ m) (slice_index kept) count set s.pivot_top ∙ sum in
    let top : product a r2 j / 2 ^ m ≡ 0 =
    ap (λ (v : ℕ). image a v / 2 ^ m) is
    ∙ ap (λ (v : ℕ). v / 2 ^ m) (xor_sum-xor (column a) a.n c (2 ^ j)) ∙ xor_shr (image a c) (image a (2 ^ j)) m
    ∙ xor_same tops (ap (λ (v : ℕ). v / 2 ^ m) (xor_sum-pow (column a) a.n j inside)) ∙ xor_self (column a j / 2 ^ m) in
    let up : 2 ^ j ≤ 2 ^ (j + 1) = pow-le-pow_right (let t : 0 < 2 = omega arith in t) (let t : j ≤ j + 1 = omega arith in t) in
    record {
      size = size2 ∙ size;
      done = done_more a r r2 m j kept pivots s others (record { added = c; below = xor_sum-lt pivots count j set s.pivot_below; is = is });
      rest = λ k p q. others k (omega arith) ∙ s.rest k (omega arith) q;
      pivot_below = λ k l. let b = s.pivot_below k l in omega arith;
      pivot_top = s.pivot_top;
      spanned = λ k l.
          ⊎_elim
          (λ (e : k ≡ j). subst (λ (x : ℕ). in_span kept (product a r2 x / 2 ^ m) ≡ true) (sym e)
          (subst (λ (v : ℕ). in_span kept v ≡ true) (sym top) (in_span-zero kept)))
          (λ (e : k ≢ j). subst (λ (v : ℕ). in_span kept v ≡ true) (sym (same_top a r r2 m j kept pivots s others k e))
          (s.spanned k (omega arith)))
          (cases_eq k j);
      independent = independent_top a r r2 m j kept pivots s others (inl top);
      counted = count_more a r r2 m j kept pivots s others
          ∙ (let w = weight-none (product a r2 j / 2 ^ m) top in omega arith);
      basis = subst (λ l. IsBasis kept l) (sym (cut_more a.cols m j (omega arith)))
          (basis_known kept (cut_columns a.cols m j) (column a j / 2 ^ m) s.basis known);
    }
