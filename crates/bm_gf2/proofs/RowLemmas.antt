-- A row of a matrix, bit by bit.
use Rattle.std.proofs.Common.{◌≡◌, ◌≢◌, bit_and, ℕ, ◌+◌, ◌/◌, ◌^◌, ◌<◌, bit_xor, sym, ◌∙◌, arith, ⊎_elim}
use Rattle.std.specs.Int.{bit_at}
use Rattle.std.specs.Int.Bits.{xor_zero_r}
use Rattle.std.proofs.lemmas.Nat.{xor_lt, pow_pos, pow_below}
use Rattle.std.proofs.lemmas.Nat.Bits.{bit_at-lt, bit_at-pow_same, bit_at-pow_other, bit_at_above, shr_and_one}
use Rattle.std.proofs.lemmas.Bool.{cases_eq}
use Rattle.bm_gf2.proofs.VectorLemmas.{xor_same, bit_of_xor}

-- the row's bits below k are the entries at row i of the first k columns
pub record IsRowOfFirst (w : ℕ → ℕ) (i k row : ℕ) : Type 0 where
  pub below : row < 2 ^ k
  pub bits : (j : ℕ) → j < k → bit_at row j ≡ bit_at (w j) i

-- no columns seen
pub row_of_none : (w : ℕ → ℕ) (i : ℕ) → IsRowOfFirst w i 0 0
row_of_none w i = record { below = pow_pos 0; bits = λ j l. absurd (omega arith) }

-- the next column has a 1 at row i
pub row_with_entry : (w : ℕ → ℕ) (i k row : ℕ) → IsRowOfFirst w i k row → bit_and (w k / 2 ^ i) 1 ≡ 1
    → IsRowOfFirst w i (k + 1) (bit_xor row (2 ^ k))
row_with_entry w i k row g h = record {
  below = xor_lt (k + 1) row (2 ^ k)
      (let p : 2 ^ k < 2 ^ (k + 1) = pow_below k (k + 1) (omega arith) in let b : row < 2 ^ k = g.below in omega arith)
      (pow_below k (k + 1) (omega arith));
  bits = λ j l.
      ⊎_elim
      (λ (p : j ≡ k). rw p (bit_of_xor row (2 ^ k) k ∙ xor_same (bit_at_above row k k g.below (omega arith)) (bit_at-pow_same k)
      ∙ sym (sym (shr_and_one (w k) i) ∙ h)))
      (λ (p : j ≢ k). bit_of_xor row (2 ^ k) j ∙ xor_same (g.bits j (omega arith)) (bit_at-pow_other k j p) ∙ xor_zero_r (bit_at (w j) i))
      (cases_eq j k);
}

-- the next column has a 0 at row i
pub row_without_entry : (w : ℕ → ℕ) (i k row : ℕ) → IsRowOfFirst w i k row → bit_and (w k / 2 ^ i) 1 ≢ 1 → IsRowOfFirst w i (k + 1) row
row_without_entry w i k row g h = record {
  below = (let p : 2 ^ k < 2 ^ (k + 1) = pow_below k (k + 1) (omega arith) in let b : row < 2 ^ k = g.below in omega arith);
  bits = λ j l.
      ⊎_elim
      (λ (p : j ≡ k). rw p (bit_at_above row k k g.below (omega arith)
      ∙ (let b : bit_at (w k) i < 2 = bit_at-lt (w k) i in let d : bit_at (w k) i ≢ 1 = λ e. h (shr_and_one (w k) i ∙ e) in
      let z : 0 ≡ bit_at (w k) i = omega arith in z)))
      (λ (p : j ≢ k). g.bits j (omega arith))
      (cases_eq j k);
}
