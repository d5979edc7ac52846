-- Rows taken off a vector, and vectors without the rows' leading bits.
use Rattle.std.proofs.Common.{◌≡◌, ◌≢◌, ℕ, ◌+◌, ◌*◌, ◌/◌, ◌%◌, ◌^◌, ◌<◌, ◌≤◌, List, set, get_or-set_other, refl, slice_index, bit_and}
use Rattle.std.proofs.Common.{bit_xor, sym, ap, ◌∙◌, arith, ⊎_elim, ◌⊎◌}
use Rattle.std.specs.Int.{bit_at}
use Rattle.std.specs.Int.Bits.{xor_assoc, xor_zero_r}
use Rattle.std.proofs.lemmas.Nat.{xor_lt, pow_below, pow_pos, one_shl}
use Rattle.std.proofs.Math.Nat.{pow-le-pow_right}
use Rattle.std.proofs.lemmas.Nat.Bits.{bit_at-lt, shr_and_one, bit_at_above}
use Rattle.std.proofs.lemmas.Bool.{cases_eq}
use Rattle.bm_gf2.specs.Vector.{xor_sum}
use Rattle.bm_gf2.proofs.VectorLemmas.{xor_sum-xor, xor_sum-zero, xor_sum-pow, xor_same, bit_of_xor}
use Rattle.bm_rank.specs.Echelon.{IsRowEchelon, IsReduced}

-- v less the rows that `used` picks, with no leading bit of rows i and above
pub record IsReduction (rows : List ℕ) (n i v rest used : ℕ) : Type 0 where
  pub sum : rest ≡ bit_xor v (xor_sum (slice_index rows) n used)
  pub used_below : used < 2 ^ n
  pub rest_below : rest < 2 ^ n
  pub done : (j : ℕ) → i ≤ j → j < n → slice_index rows j ≢ 0 → bit_at rest j ≡ 0

-- a row has no bit from n on
pub row_below : (rows : List ℕ) (n i : ℕ) → IsRowEchelon rows n → i < n → slice_index rows i < 2 ^ n
row_below rows n i s l =
    let a : slice_index rows i < 2 ^ (i + 1) = s.short i l in
    let two : 0 < 2 = omega arith in
    let more : i + 1 ≤ n = omega arith in
    let b : 2 ^ (i + 1) ≤ 2 ^ n = pow-le-pow_right two more in
    omega arith

-- row i is taken off
pub reduction_taken : (rows : List ℕ) (n i v rest used : ℕ) → IsRowEchelon rows n → i < n → n ≤ 52 → IsReduction rows n (i + 1) v rest used
    → slice_index rows i ≢ 0 → bit_and (rest / 2 ^ i) 1 ≡ 1
    → IsReduction rows n i v (bit_xor rest (slice_index rows i)) (bit_xor used (1 * 2 ^ i % 2 ^ 64))
reduction_taken rows n i v rest used s l few c f t =
    let u : 1 * 2 ^ i % 2 ^ 64 ≡ 2 ^ i = one_shl i 64 (omega arith) in
    let w : ℕ → ℕ = slice_index rows in
    let set : bit_at rest i ≡ 1 = sym (shr_and_one rest i) ∙ t in
    rw u (record {
      sum =
          ap (λ (x : ℕ). bit_xor x (w i)) c.sum ∙ xor_assoc v (xor_sum w n used) (w i)
          ∙ ap (λ (x : ℕ). bit_xor v (bit_xor (xor_sum w n used) x)) (sym (xor_sum-pow w n i l))
          ∙ ap (bit_xor v) (sym (xor_sum-xor w n used (2 ^ i)));
      used_below = xor_lt n used (2 ^ i) c.used_below (pow_below i n l);
      rest_below = xor_lt n rest (w i) c.rest_below (row_below rows n i s l);
      done = λ j k m nz.
          ⊎_elim
          (λ (p : j ≡ i). rw p (bit_of_xor rest (w i) i ∙ xor_same set (s.leads i l f)))
          (λ (p : j ≢ i).
          bit_of_xor rest (w i) j
          ∙ xor_same (c.done j (omega arith) m nz) (bit_at_above (w i) (i + 1) j (s.short i l) (omega arith)))
          (cases_eq j i);
    })

-- row i is left alone
pub reduction_left : (rows : List ℕ) (n i v rest used : ℕ) → i < n → IsReduction rows n (i + 1) v rest used
    → (slice_index rows i ≡ 0) ⊎ (bit_and (rest / 2 ^ i) 1 ≢ 1) → IsReduction rows n i v rest used
reduction_left rows n i v rest used l c h = record {
  sum = c.sum;
  used_below = c.used_below;
  rest_below = c.rest_below;
  done = λ j k m nz.
      ⊎_elim
      (λ (p : j ≡ i). rw p (⊎_elim
      (λ (z : slice_index rows i ≡ 0). absurd (nz (rw p z)))
      (λ (z : bit_and (rest / 2 ^ i) 1 ≢ 1).
      let b : bit_at rest i < 2 = bit_at-lt rest i in
      let d : bit_at rest i ≢ 1 = λ e. z (shr_and_one rest i ∙ e) in
      omega arith)
      h))
      (λ (p : j ≢ i). c.done j (omega arith) m nz)
      (cases_eq j i);
}

-- no row taken off yet
pub reduction_start : (rows : List ℕ) (n v : ℕ) → v < 2 ^ n → IsReduction rows n n v v 0
reduction_start rows n v h = record {
  sum = sym (ap (bit_xor v) (xor_sum-zero (slice_index rows) n) ∙ xor_zero_r v);
  used_below = pow_pos n;
  rest_below = h;
  done = λ j k m nz. absurd (omega arith);
}

-- ---- reduced vectors

-- what is reduced by more rows is reduced by fewer
pub reduced_fewer : (rows : List ℕ) (n lead row r : ℕ) → slice_index rows lead ≡ 0 → IsReduced (set rows lead row) n r → IsReduced rows n r
reduced_fewer rows n lead row r z h =
    λ i l nz.
    ⊎_elim
    (λ (p : i ≡ lead). absurd (nz (rw p z)))
    (λ (p : i ≢ lead). let e : slice_index (set rows lead row) i ≡ slice_index rows i = rw get_or-set_other refl in
    h i l (λ w. nz (sym e ∙ w)))
    (cases_eq i lead)

-- a sum of reduced vectors is reduced
pub reduced_xor : (rows : List ℕ) (n r s : ℕ) → IsReduced rows n r → IsReduced rows n s → IsReduced rows n (bit_xor r s)
reduced_xor rows n r s p q = λ i l nz. bit_of_xor r s i ∙ xor_same (p i l nz) (q i l nz)
