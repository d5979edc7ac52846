-- The basis whose first numbers are those of a tile.
use Rattle.std.proofs.Common.{◌≡◌, ℕ, ◌+◌, ◌-◌, ◌*◌, ◌/◌, ◌%◌, ◌^◌, ◌<◌, ◌≤◌, true, List, length, take, slice_index, get_or-take, sym, ap}
use Rattle.std.proofs.Common.{◌∙◌, subst, arith, ⊎_elim}
use Rattle.std.proofs.Math.Nat.{mod-eq_of_lt, mod-lt}
use Rattle.std.proofs.Math.Pow.{pow_mono}
use Rattle.std.proofs.lemmas.Bool.{cases_lt, false≢true}
use Rattle.std.proofs.lemmas.List.{ext_get_or, length-take-le}
use Rattle.std.proofs.lemmas.Nat.{pow_pos, shl_below}
use Rattle.bm_gf2.specs.Vector.{xor_sum}
use Rattle.bm_gf2.specs.declared.matrix.Matrix.{Matrix}
use Rattle.bm_gf2.specs.Matrix.{column, image, IsNonsingular}
use Rattle.bm_gf2.proofs.VectorLemmas.{xor_sum-above, xor_sum-low, xor_sum-shr, xor_sum-units}
use Rattle.bm_rank.specs.Span.{in_span}
use Rattle.bm_rank.specs.Rank.{rank, cut_columns, rank_of_rows, IsBasis}
use Rattle.bm_rank.proofs.DimensionLemmas.{rank-independent, rank-le, short_misses}
use Rattle.bm_rank.proofs.DimensionLawLemmas.{cut_short, rank-dimension}
use Rattle.bm_rank.proofs.RankLemmas.{cut_at, length-cut}
use Rattle.bm_rank.proofs.SpanLemmas.{sum_of-take, sum_of_span}
use Rattle.bm_factor.proofs.InsertLemmas.{in_span-member, in_span-xor_sum}
use Rattle.bm_split.specs.Bases.{HasBasis}
use Rattle.bm_split.specs.RunMap.{IsRunMap}
use Rattle.bm_split.specs.Tiling.{IsInTile}
use Rattle.bm_split.proofs.RunMapLemmas.{run_map_nonsingular, run_map_shifted}

-- the vectors that were cut from the low columns
cut_vectors : (a : Matrix) (low : ℕ) (vectors : List ℕ) → low ≤ length a.cols → low ≤ length vectors
    → ((i : ℕ) → i < low → slice_index vectors i ≡ column a i / 2 ^ low) → take low vectors ≡ cut_columns a.cols low low
cut_vectors a low vectors long room cut =
    let len : length (take low vectors) ≡ low = length-take-le low vectors room in
    let len2 : length (cut_columns a.cols low low) ≡ low = length-cut a.cols low low long in
    ext_get_or 0 (take low vectors) (cut_columns a.cols low low) (len ∙ sym len2)
    (λ i l. let h : i < low = omega arith in rw get_or-take (cut i h ∙ sym (cut_at a.cols low low i h long)))

-- the image of a place of the first run, without its low bits, has a number of the first tile
pub images_in_tile : (a basis : Matrix) (low : ℕ) (vectors ones : List ℕ) → low < a.n → a.n ≤ length a.cols → a.n ≤ length vectors
    → 52 ≤ length ones → basis.n ≡ a.n → IsRunMap basis low ones
    → ((i : ℕ) → i < low → slice_index vectors i ≡ column a i / 2 ^ low) → HasBasis ones (take low vectors)
    → (x : ℕ) → x < 2 ^ low → IsInTile basis (low + rank_of_rows a.cols low low) (image a x / 2 ^ low * 2 ^ low)
images_in_tile a basis low vectors ones inside long room wide size is cut has x l =
    let ws : List ℕ = cut_columns a.cols low low in
    let same : take low vectors ≡ ws = cut_vectors a low vectors (omega arith) (omega arith) cut in
    let r : ℕ = has.number in
    let few : r ≤ 52 = has.few in
    let base : List ℕ = take r ones in
    let is_base : IsBasis base ws = subst (λ k. IsBasis base k) same has.is in
    let len : length base ≡ r = length-take-le r ones (omega arith) in
    let small : a.n ≤ 52 = a.few in
    let short = cut_short a low low (omega arith) (omega arith) long in
    let dimension : length base ≡ rank ws = rank-dimension (a.n - low) base ws (omega arith) short is_base in
    let most : rank ws ≤ a.n - low = rank-le (a.n - low) ws (omega arith) short in
    let is_rank : r ≡ rank ws = sym len ∙ dimension in
    let v : ℕ = image a x / 2 ^ low in
    let v_is : v ≡ xor_sum (λ j. column a j / 2 ^ low) low x =
    ap (λ c. c / 2 ^ low) (xor_sum-above (column a) low a.n x (omega arith) l) ∙ xor_sum-shr (column a) low low x in
    let member : (j : ℕ) → j < low → in_span ws (column a j / 2 ^ low) ≡ true = λ j h.
    let lw : length ws ≡ low = length-cut a.cols low low (omega arith) in
    ap (in_span ws) (sym (cut_at a.cols low low j h (omega arith))) ∙ in_span-member ws j (omega arith) in
    let spanned : in_span base v ≡ true =
    is_base.spans v ∙ ap (in_span ws) v_is ∙ in_span-xor_sum ws (λ j. column a j / 2 ^ low) low x (λ j h _. member j h) in
    let s = sum_of_span base v spanned in
    let y : ℕ = s.0 % 2 ^ r in
    let y_in : y < 2 ^ r = mod-lt s.0 (pow_pos r) in
    let sum : xor_sum (slice_index ones) r y ≡ v =
    xor_sum-low (slice_index ones) r s.0 ∙ sym (sum_of-take ones r s.0 (omega arith)) ∙ s.1 in
    let more : xor_sum (slice_index ones) (basis.n - low) y ≡ v =
    xor_sum-above (slice_index ones) r (basis.n - low) y (omega arith) y_in ∙ sum in
    let e : r + low ≡ low + rank ws = omega arith in
    let y_up : y < 2 ^ (basis.n - low) =
    subst (λ c. c < 2 ^ (basis.n - low)) (mod-eq_of_lt y_in) (within r (basis.n - low) y (omega arith) y_in) in
    record {
      number = y * 2 ^ low;
      below = subst (λ k. y * 2 ^ low < 2 ^ k) e (shl_below y r low y_in);
      place = run_map_shifted basis low y ones (omega arith) is y_up ∙ ap (λ c. c * 2 ^ low) more;
    }
  where
    within : (i k y : ℕ) → i ≤ k → y < 2 ^ i → y % 2 ^ i < 2 ^ k
    within i k y l h = let p : 2 ^ i ≤ 2 ^ k = pow_mono {i = i} {j = k} l in let e : y % 2 ^ i ≡ y = mod-eq_of_lt h in omega arith

-- the numbers name every place once
pub basis_nonsingular : (n low : ℕ) (basis : Matrix) (vectors ones : List ℕ) → low < n → n ≤ 52 → n ≤ length vectors
    → 52 ≤ length ones → basis.n ≡ n → IsRunMap basis low ones
    → ((i : ℕ) → low ≤ i → i < n → slice_index vectors i ≡ 2 ^ (i - low)) → ((i : ℕ) → slice_index ones i < 2 ^ (n - low))
    → HasBasis ones (take n vectors) → IsNonsingular basis
basis_nonsingular n low basis vectors ones inside small room wide size is units below has =
    let k : ℕ = n - low in
    let ws : List ℕ = take n vectors in
    let r : ℕ = has.number in
    let few : r ≤ 52 = has.few in
    let base : List ℕ = take r ones in
    let len : length base ≡ r = length-take-le r ones (omega arith) in
    let lw : length ws ≡ n = length-take-le n vectors room in
    let member : (j : ℕ) → j < k → in_span ws (2 ^ j) ≡ true = λ j h.
    let e : (low + j) - low ≡ j = omega arith in
    let m : low + j < n = omega arith in
    let here : slice_index ws (low + j) ≡ 2 ^ j = rw get_or-take (units (low + j) (omega arith) m ∙ ap (λ c. 2 ^ c) e) in
    ap (in_span ws) (sym here) ∙ in_span-member ws (low + j) (omega arith) in
    let all : (v : ℕ) → v < 2 ^ k → in_span base v ≡ true = λ v l.
    has.is.spans v
    ∙ ap (in_span ws) (sym (xor_sum-units k v ∙ mod-eq_of_lt l)) ∙ in_span-xor_sum ws (λ j. 2 ^ j) k v (λ j h _. member j h) in
    let short : (i : ℕ) → i < length base → slice_index base i < 2 ^ k = λ i l. let h : i < r = omega arith in rw get_or-take (below i) in
    let full : rank base ≡ length base = rank-independent base (record { only = has.is.independent }) in
    let most : rank base ≤ k = rank-le k base (omega arith) short in
    let enough : k ≤ r =
    ⊎_elim
    (λ (p : r < k).
    let m = short_misses k base (omega arith) short (omega arith) in
    absurd (false≢true (sym m.2 ∙ all m.0 m.1)))
    (λ (p : k ≤ r). p)
    (cases_lt r k) in
    let e : r ≡ basis.n - low = omega arith in
    run_map_nonsingular basis low ones (omega arith) is
    (λ y l z. has.is.independent y (subst (λ c. y < 2 ^ c) (sym (len ∙ e)) l)
    (sum_of-take ones r y (omega arith) ∙ ap (λ c. xor_sum (slice_index ones) c y) e ∙ z))
