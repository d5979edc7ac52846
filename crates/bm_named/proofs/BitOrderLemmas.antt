-- Lists in which each bit stands once.
use Rattle.std.proofs.Common.{ℕ, ◌≡◌, ◌≢◌, ◌^◌, ◌<◌, ◌≤◌, List, length, map, slice_index, sym, ap, ◌∙◌, subst, arith, ⊎_elim}
use Rattle.std.specs.Int.{bit_at}
use Rattle.std.proofs.lemmas.Bool.{cases_lt, cases_eq}
use Rattle.std.proofs.lemmas.List.{get_or-map, length-map}
use Rattle.std.proofs.lemmas.Nat.{pow_pos, pow_below}
use Rattle.std.proofs.lemmas.Nat.Bits.{bit_at-zero, bit_at-pow_same, bit_at-pow_other, same_from_bits_below}
use Rattle.bm_gf2.specs.Vector.{xor_sum}
use Rattle.bm_gf2.specs.declared.matrix.Matrix.{Matrix}
use Rattle.bm_gf2.specs.Matrix.{image, IsNonsingular}
use Rattle.bm_gf2.proofs.VectorLemmas.{xor_sum-zero, xor_sum-bits}
use Rattle.bm_rank.proofs.KernelLemmas.{IsIndependent}
use Rattle.bm_rank.proofs.SpanLemmas.{sum_of_span}
use Rattle.bm_rank.proofs.DimensionLemmas.{rank-independent, full_rank_spans}
use Rattle.bm_named.specs.BitOrder.{IsBitOrder}
use Rattle.bm_named.proofs.ImageLemmas.{image-unit_row}

-- the unit vectors of the bits of the list
units_of : List ℕ → List ℕ
units_of list = map (λ k. 2 ^ k) list

-- one for each entry
length-units : (list : List ℕ) → length (units_of list) ≡ length list
unfolding units_of
length-units list = length-map list (λ (k : ℕ). 2 ^ k)

-- each of one bit
unit_at : (list : List ℕ) (i : ℕ) → i < length list → slice_index (units_of list) i ≡ 2 ^ slice_index list i
unfolding units_of
unit_at list i inside = get_or-map (λ (k : ℕ). 2 ^ k) list i 0 0 inside

-- two entries are one bit only where they are one entry
entry_apart : (n : ℕ) (list : List ℕ) (i j : ℕ) → IsBitOrder n list → i < n → j < n → i ≢ j → slice_index list i ≢ slice_index list j
entry_apart n list i j order inside below apart =
    ⊎_elim
    (λ (p : i < j). order.distinct i j p below)
    (λ (p : j ≤ i). λ same. order.distinct j i (omega arith) inside (sym same))
    (cases_lt i j)

-- the sum of the unit vectors that x picks has bit i of x at entry i
unit_sum : (n : ℕ) (list : List ℕ) (x i : ℕ) → IsBitOrder n list → i < n
    → bit_at (xor_sum (slice_index (units_of list)) n x) (slice_index list i) ≡ bit_at x i
unit_sum n list x i order inside =
    image-unit_row (slice_index (units_of list)) n (slice_index list i) i x inside
    (λ j below.
    let unit : slice_index (units_of list) j ≡ 2 ^ slice_index list j = unit_at list j (subst (λ (c : ℕ). j < c) (sym order.long) below) in
    ap (λ (c : ℕ). bit_at c (slice_index list i)) unit
    ∙ ⊎_elim
    (λ (p : i ≡ j). ap (λ (c : ℕ). bit_at (2 ^ slice_index list j) (slice_index list c)) p ∙ bit_at-pow_same (slice_index list j)
    ∙ sym (bit_at-pow_same j) ∙ ap (λ (c : ℕ). bit_at (2 ^ c) j) (sym p))
    (λ (p : i ≢ j). bit_at-pow_other (slice_index list j) (slice_index list i) (entry_apart n list i j order inside below p)
    ∙ sym (bit_at-pow_other i j (λ same. p (sym same))))
    (cases_eq i j))

-- so the unit vectors have every vector as a sum
unit_reaches : (n : ℕ) (list : List ℕ) (v : ℕ) → IsBitOrder n list → n ≤ 52 → v < 2 ^ n
    → (x : ℕ) × (xor_sum (slice_index (units_of list)) n x ≡ v)
unit_reaches n list v order few below =
    let ws : List ℕ = units_of list in
    let long : length ws ≡ n = length-units list ∙ order.long in
    let independent : IsIndependent (slice_index ws) (length ws) = record {
      only = λ x small none.
          let fits : x < 2 ^ n = subst (λ (c : ℕ). x < 2 ^ c) long small in
          same_from_bits_below n x 0 fits (pow_pos n)
          (λ i inside. sym (unit_sum n list x i order inside)
          ∙ ap (λ (c : ℕ). bit_at c (slice_index list i)) (ap (λ (c : ℕ). xor_sum (slice_index ws) c x) (sym long) ∙ none)
          ∙ bit_at-zero (slice_index list i) ∙ sym (bit_at-zero i));
    } in
    let short : (i : ℕ) → i < length ws → slice_index ws i < 2 ^ n = λ i inside.
    let at : i < n = subst (λ (c : ℕ). i < c) long inside in
    subst (λ (c : ℕ). c < 2 ^ n) (sym (unit_at list i (subst (λ (c : ℕ). i < c) (sym order.long) at)))
    (pow_below (slice_index list i) n (order.below i at)) in
    let found = sum_of_span ws v (full_rank_spans n ws few short (rank-independent ws independent ∙ long) v below) in
    (found.0, ap (λ (c : ℕ). xor_sum (slice_index ws) c found.0) (sym long) ∙ found.1)

-- a matrix that puts source bit `list[i]` to bit i is nonsingular
pub order_nonsingular : (a : Matrix) (list : List ℕ) → IsBitOrder a.n list → a.n ≤ 52
    → ((x i : ℕ) → x < 2 ^ a.n → i < a.n → bit_at (image a x) i ≡ bit_at x (slice_index list i)) → IsNonsingular a
order_nonsingular a list order few bits = λ v below sent.
    let ws : List ℕ = units_of list in
    let reached = unit_reaches a.n list v order few below in
    sym reached.1
    ∙ xor_sum-bits (slice_index ws) a.n reached.0 0
    (λ i inside. sym (unit_sum a.n list reached.0 i order inside)
    ∙ ap (λ (c : ℕ). bit_at c (slice_index list i)) reached.1
    ∙ sym (bits v i below inside) ∙ ap (λ (c : ℕ). bit_at c i) sent)
    ∙ xor_sum-zero (slice_index ws) a.n
