-- Four records that are placed in one turn.
use Rattle.std.proofs.Common.{◌≡◌, ◌≢◌, ℕ, ◌+◌, ◌*◌, ◌/◌, ◌%◌, ◌^◌, ◌<◌, ◌≤◌, List, length, bit_xor, refl, sym, ap, ◌∙◌, subst, arith}
use Rattle.std.specs.Fork.{slice_chunk}
use Rattle.std.specs.Int.Bits.{xor_assoc}
use Rattle.std.proofs.lemmas.Nat.{xor_lt}
use Rattle.std.proofs.Math.Nat.{mul-le-mul_right}
use Rattle.bm_gf2.specs.declared.matrix.Matrix.{Matrix}
use Rattle.bm_gf2.specs.Matrix.{column, image}
use Rattle.bm_gf2.specs.Vector.{xor_sum}
use Rattle.bm_gf2.proofs.VectorLemmas.{xor_sum-lt}
use Rattle.bm_bufs.specs.Places.{places_by, PlacesRecords}
use Rattle.bm_bufs.proofs.PlacesLemmas.{IsInjective, PlacesRecords-more}
use Rattle.bm_bufs.proofs.StepLemmas.{few_picked, four_numbers}

-- the places of a number and of the three after it, by that of the first
pub record AreFour (a : Matrix) (plus x here : ℕ) : Type 0 where
  pub first : here ≡ places_by a plus x
  pub second : bit_xor here (column a 0) ≡ places_by a plus (x + 1)
  pub third : bit_xor here (column a 1) ≡ places_by a plus (x + 2)
  pub fourth : bit_xor (bit_xor here (column a 0)) (column a 1) ≡ places_by a plus (x + 3)

-- so they stand where the number is a multiple of 4
pub four_of : (a : Matrix) (plus first q here : ℕ) → 2 ≤ a.n → first % 4 ≡ 0 → here ≡ places_by a plus ((first / 4 + q) * 2 ^ 2)
    → AreFour a plus (first + 4 * q) here
four_of a plus first q here some whole is =
    let w = column a in
    let s = first / 4 + q in
    let picked = few_picked w a.n some in
    let at : (k x : ℕ) → k < 4 → s * 2 ^ 2 + k ≡ x → bit_xor here (xor_sum w a.n k) ≡ places_by a plus x =
    λ k x small e. ap (λ c. bit_xor c (xor_sum w a.n k)) is ∙ sym (four_numbers w a.n s k plus small) ∙ ap (places_by a plus) e in
    record {
      first = is ∙ ap (places_by a plus) (let e : s * 2 ^ 2 ≡ first + 4 * q = omega arith in e);
      second = ap (bit_xor here) (sym picked.1) ∙ at 1 (first + 4 * q + 1) (omega arith) (omega arith);
      third = ap (bit_xor here) (sym picked.2) ∙ at 2 (first + 4 * q + 2) (omega arith) (omega arith);
      fourth = xor_assoc here (w 0) (w 1) ∙ ap (bit_xor here) (sym picked.3) ∙ at 3 (first + 4 * q + 3) (omega arith) (omega arith);
    }

-- a record's place is one of the load
pub place_fits : (a : Matrix) (plus x place width all : ℕ) → plus < 2 ^ a.n → place ≡ places_by a plus x → all ≡ 2 ^ a.n * width
    → (place + 1) * width ≤ all
place_fits a plus x place width all short is long =
    let below : place < 2 ^ a.n = subst (λ k. k < 2 ^ a.n) (sym is)
    (xor_lt a.n plus (image a x) short (xor_sum-lt (column a) a.n a.n x a.below)) in
    let room : (place + 1) * width ≤ 2 ^ a.n * width = mul-le-mul_right width (omega arith) in
    omega arith

-- a record of the row
pub row_fits : (r count width all : ℕ) → r < count → count * width ≤ all → (r + 1) * width ≤ all
row_fits r count width all below long =
    let room : (r + 1) * width ≤ count * width = mul-le-mul_right width (omega arith) in
    omega arith

-- record r of the row came to a place
pub record IsCopied (width to r : ℕ) (row old new : List ℕ) : Type 0 where
  pub copied : slice_chunk new width to ≡ slice_chunk row width r
  pub others : (k : ℕ) → k ≢ to → slice_chunk new width k ≡ slice_chunk old width k
  pub size : length new ≡ length old

-- four records more
pub PlacesRecords-four : (place : ℕ → ℕ) (n width first r a b c d : ℕ) (row old l0 l1 l2 l3 l4 : List ℕ)
    → IsInjective place n → first + r + 3 < 2 ^ n
    → a ≡ place (first + r) → b ≡ place (first + r + 1) → c ≡ place (first + r + 2) → d ≡ place (first + r + 3)
    → PlacesRecords place n width first r row old l0
    → IsCopied width a r row l0 l1 → IsCopied width b (r + 1) row l1 l2 → IsCopied width c (r + 2) row l2 l3
    → IsCopied width d (r + 3) row l3 l4
    → PlacesRecords place n width first (r + 4) row old l4
PlacesRecords-four place n width first r a b c d row old l0 l1 l2 l3 l4 injective short at_a at_b at_c at_d before one two three four =
    let more : (q to q2 : ℕ) (now new : List ℕ) → first + q < 2 ^ n → to ≡ place (first + q) → q + 1 ≡ q2
    → PlacesRecords place n width first q row old now
    → IsCopied width to q row now new → PlacesRecords place n width first q2 row old new =
    λ q to q2 now new inside here next placed is. subst (λ k. PlacesRecords place n width first k row old new) next
    (PlacesRecords-more place n width first q to row old now new injective inside here placed is.copied is.others is.size) in
    more (r + 3) d (r + 4) l3 l4 (omega arith) (at_d ∙ ap place (let e : first + r + 3 ≡ first + (r + 3) = omega arith in e)) (omega arith)
    (more (r + 2) c (r + 3) l2 l3 (omega arith) (at_c ∙ ap place (let e : first + r + 2 ≡ first + (r + 2) = omega arith in e)) (omega arith)
    (more (r + 1) b (r + 2) l1 l2 (omega arith) (at_b ∙ ap place (let e : first + r + 1 ≡ first + (r + 1) = omega arith in e)) (omega arith)
    (more r a (r + 1) l0 l1 (omega arith) at_a refl before one) two) three) four
