-- A rank, found from the last vector to the first.
use Rattle.std.proofs.Common.{◌≡◌, ℕ, zero, suc, ◌+◌, ◌-◌, ◌/◌, ◌^◌, ◌<◌, ◌≤◌, Bool, true, false, not, if◌then◌else◌, List, [], ◌∷◌, ◌++◌}
use Rattle.std.proofs.Common.{length, take, drop, get_or, slice_index, refl, sym, ap, ◌∙◌, subst, arith, ⊎_elim, drop-cons, get_or-take}
use Rattle.std.proofs.Common.{length-take}
use Rattle.std.proofs.lemmas.Bool.{cases_Bool}
use Rattle.std.proofs.lemmas.List.{get_or-map, length-map}
use Rattle.bm_rank.specs.Span.{in_span}
use Rattle.bm_rank.specs.Rank.{rank, cut_columns}
use Rattle.bm_rank.proofs.SpanLemmas.{in_span-push, in_span-cons_same, in_span-cons_known}

-- the vectors from j on have been seen
pub record IsRanked (ws : List ℕ) (j : ℕ) (kept : List ℕ) (r : ℕ) : Type 0 where
  pub rank_is : r ≡ rank (drop j ws)
  pub spans : (v : ℕ) → in_span kept v ≡ in_span (drop j ws) v

-- a vector that is no sum of the others
pub rank-fresh : (w : ℕ) (us : List ℕ) → in_span us w ≡ false → rank (w ∷ us) ≡ rank us + 1
unfolding rank
rank-fresh w us h = rw h refl

-- one that is
pub rank-known : (w : ℕ) (us : List ℕ) → in_span us w ≡ true → rank (w ∷ us) ≡ rank us
unfolding rank
rank-known w us h = rw h (let e : rank us + 0 ≡ rank us = omega arith in e)

-- one vector more, from its place in the list
pub ranked_more : (ws : List ℕ) (j : ℕ) (kept kept2 : List ℕ) (r w : ℕ) (b : Bool) → IsRanked ws (suc j) kept r → j < length ws
    → w ≡ get_or ws j 0 → b ≡ not (in_span kept w) → kept2 ≡ (if b then kept ++ w ∷ [] else kept)
    → IsRanked ws j kept2 (if b then r + 1 else r)
ranked_more ws j kept kept2 r w b s l we be ke =
    let us : List ℕ = drop (suc j) ws in
    let cut : drop j ws ≡ w ∷ us = drop-cons ws j 0 l ∙ ap (λ (x : ℕ). x ∷ us) (sym we) in
    ⊎_elim
    (λ (p : in_span kept w ≡ true).
    let b0 : b ≡ false = be ∙ rw p refl in
    let k0 : kept2 ≡ kept = ke ∙ rw b0 refl in
    let known : in_span us w ≡ true = sym (s.spans w) ∙ p in
    rw b0 (record {
      rank_is = s.rank_is ∙ sym (rank-known w us known) ∙ ap rank (sym cut);
      spans = λ v. ap (λ (k : List ℕ). in_span k v) k0 ∙ s.spans v ∙ sym (in_span-cons_known w us v known)
          ∙ ap (λ (k : List ℕ). in_span k v) (sym cut);
    }))
    (λ (p : in_span kept w ≡ false).
    let b1 : b ≡ true = be ∙ rw p refl in
    let k1 : kept2 ≡ kept ++ w ∷ [] = ke ∙ rw b1 refl in
    let fresh : in_span us w ≡ false = sym (s.spans w) ∙ p in
    rw b1 (record {
      rank_is = ap (λ (n : ℕ). n + 1) s.rank_is ∙ sym (rank-fresh w us fresh) ∙ ap rank (sym cut);
      spans = λ v. ap (λ (k : List ℕ). in_span k v) k1 ∙ in_span-push w kept v ∙ in_span-cons_same w kept us s.spans v
          ∙ ap (λ (k : List ℕ). in_span k v) (sym cut);
    }))
    (cases_Bool (in_span kept w))

-- nothing is left past the end
drop_past : (ws : List ℕ) (j : ℕ) → length ws ≤ j → drop j ws ≡ []
drop_past [] zero l = refl
drop_past [] (suc j) l = refl
drop_past (w ∷ ws) zero l = absurd (omega arith)
drop_past (w ∷ ws) (suc j) l = drop_past ws j (omega arith)

-- a column of the cut list
pub cut_at : (cols : List ℕ) (r k j : ℕ) → j < k → k ≤ length cols → get_or (cut_columns cols r k) j 0 ≡ slice_index cols j / 2 ^ r
cut_at cols r k j l m =
    let n : j < length (take k cols) = simp length-take (omega arith) in
    get_or-map (λ (w : ℕ). w / 2 ^ r) (take k cols) j 0 0 n ∙ ap (λ (w : ℕ). w / 2 ^ r) (rw get_or-take refl)

-- as many as were taken
pub length-cut : (cols : List ℕ) (r k : ℕ) → k ≤ length cols → length (cut_columns cols r k) ≡ k
length-cut cols r k m = simp (length-map, length-take) (omega arith)

-- none seen yet
pub ranked_none : (ws : List ℕ) (j : ℕ) → length ws ≤ j → IsRanked ws j [] 0
unfolding rank
ranked_none ws j l =
    let e : drop j ws ≡ [] = drop_past ws j l in
    record {
      rank_is = rw e refl;
      spans = λ v. rw e refl;
    }

-- one turn of the loop, at the place j - 1
pub ranked_turn : (cols : List ℕ) (row k j : ℕ) → k ≤ length cols → 0 < j → j ≤ k → (kept kept2 : List ℕ) (r : ℕ) (b : Bool)
    → IsRanked (cut_columns cols row k) j kept r → (at : ℕ) → at ≡ j - 1
    → b ≡ not (in_span kept (slice_index cols at / 2 ^ row))
    → kept2 ≡ (if b then kept ++ (slice_index cols at / 2 ^ row) ∷ [] else kept)
    → IsRanked (cut_columns cols row k) (j - 1) kept2 (if b then r + 1 else r)
ranked_turn cols row k j long pos le kept kept2 r b s at ae be ke =
    let e : j ≡ suc (j - 1) = omega arith in
    let len : length (cut_columns cols row k) ≡ k = length-cut cols row k long in
    let here : slice_index cols at / 2 ^ row ≡ get_or (cut_columns cols row k) (j - 1) 0 =
    ap (λ (x : ℕ). slice_index cols x / 2 ^ row) ae ∙ sym (cut_at cols row k (j - 1) (omega arith) long) in
    ranked_more (cut_columns cols row k) (j - 1) kept kept2 r (slice_index cols at / 2 ^ row) b
    (subst (λ (x : ℕ). IsRanked (cut_columns cols row k) x kept r) e s) (omega arith) here be ke
