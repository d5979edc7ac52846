-- One number more of a scan.
use Rattle.std.proofs.Common.{◌≡◌, ◌≢◌, ℕ, ◌+◌, ◌*◌, ◌^◌, ◌<◌, ◌≤◌, Option, Some, None, bit_xor, inl, inr, refl, sym, ap, subst, ◌∙◌}
use Rattle.std.proofs.Common.{arith}
use Rattle.std.specs.Int.Bits.{xor_zero_r}
use Rattle.std.proofs.lemmas.Nat.{pow_pos, pow-add, xor_comm}
use Rattle.std.proofs.lemmas.Bool.{cases_lt}
use Rattle.bm_gf2.specs.Vector.{xor_sum}
use Rattle.bm_gf2.specs.Matrix.{column}
use Rattle.bm_gf2.specs.Affine.{affine_image}
use Rattle.bm_gf2.proofs.VectorLemmas.{xor_same, xor_cancel, xor_sum-zero, xor_sum-pow, xor_sum-above, xor_sum-ext}
use Rattle.bm_detect.specs.declared.scan_state.Difference.{Difference}
use Rattle.bm_detect.specs.declared.scan_state.Scan.{Scan}
use Rattle.bm_detect.specs.Candidate.{candidate, candidate_column}
use Rattle.bm_detect.specs.Answer.{AreAddresses, AreCandidates}
use Rattle.bm_detect.specs.Scan.{IsFirst, IsScan, Knows}

-- one address more
pub addresses_more : (n seen later y : ℕ) (ys : ℕ → ℕ) → later ≡ seen + 1 → AreAddresses n ys seen → ys seen ≡ y → y < 2 ^ n
    → AreAddresses n ys later
addresses_more n seen later y ys next before is below x l = elim (cases_lt x seen) [
  | inl old ↦ before x old
  | inr from ↦
      let e : seen ≡ x = omega arith in
      subst (λ (z : ℕ). ys z < 2 ^ n) e (subst (λ (v : ℕ). v < 2 ^ n) (sym is) below)
]

-- one value of the candidate more
pub candidates_more : (n seen later : ℕ) (ys : ℕ → ℕ) → later ≡ seen + 1 → AreCandidates n ys seen → ys seen ≡ candidate n ys seen
    → AreCandidates n ys later
candidates_more n seen later ys next before is x l = elim (cases_lt x seen) [
  | inl old ↦ before x old
  | inr from ↦
      let e : seen ≡ x = omega arith in
      subst (λ (z : ℕ). ys z ≡ candidate n ys z) e is
]

-- the first difference stays where the next number is the candidate's value
pub first_more : (n seen later : ℕ) (ys : ℕ → ℕ) (o : Option Difference) → later ≡ seen + 1 → IsFirst n ys seen o
    → ys seen ≡ candidate n ys seen → IsFirst n ys later o
first_more n seen later ys None next first is = candidates_more n seen later ys next first is
first_more n seen later ys (Some d) next first is = (omega (arith, first.0), first.1)

-- the candidate has the number of address 0
pub candidate_zero : (n : ℕ) (ys : ℕ → ℕ) → ys 0 ≡ candidate n ys 0
candidate_zero n ys = sym (ap (bit_xor (ys 0)) (xor_sum-zero (candidate_column ys) n) ∙ xor_zero_r (ys 0))

-- and that of each unit address
pub candidate_unit : (n k : ℕ) (ys : ℕ → ℕ) → k < n → ys (2 ^ k) ≡ candidate n ys (2 ^ k)
candidate_unit n k ys inside =
    sym (ap (bit_xor (ys 0)) (xor_sum-pow (candidate_column ys) n k inside ∙ xor_comm (ys (2 ^ k)) (ys 0)) ∙ xor_cancel (ys 0) (ys (2 ^ k)))

-- a vector below 2 ^ k reads the first k columns alone
pub low_columns : (v w : ℕ → ℕ) (k n x : ℕ) → k ≤ n → x < 2 ^ k → ((j : ℕ) → j < k → v j ≡ w j) → xor_sum v n x ≡ xor_sum w n x
low_columns v w k n x few below same =
    xor_sum-above v k n x few below ∙ xor_sum-ext v w k x same ∙ sym (xor_sum-above w k n x few below)

-- where the columns are known, the value is the candidate's
pub value_known : (n x : ℕ) (ys : ℕ → ℕ) (scan : Scan) → IsScan n scan → Knows n ys x scan → 0 < x → x ≢ 2 ^ scan.bits
    → affine_image scan.map x ≡ candidate n ys x
value_known n x ys scan is knows some other =
    let below : x < 2 ^ scan.bits = omega (arith, knows.met, other) in
    xor_same (knows.constant some)
    (ap (λ (m : ℕ). xor_sum (column scan.map.a) m x) is.size
    ∙ low_columns (column scan.map.a) (candidate_column ys) scan.bits n x is.few below knows.columns)

-- the next power is above
pub met_more : (k : ℕ) → 2 ^ k + 1 ≤ 2 ^ (k + 1)
met_more k =
    let e : 2 ^ (k + 1) ≡ 2 ^ k * 2 ^ 1 = pow-add 2 k 1 in
    let p : 0 < 2 ^ k = pow_pos k in
    omega arith

-- one column more
pub columns_more : (k : ℕ) (old new wanted : ℕ → ℕ) → ((i : ℕ) → i < k → old i ≡ wanted i) → ((i : ℕ) → i ≢ k → new i ≡ old i)
    → new k ≡ wanted k
    → (i : ℕ) → i < k + 1 → new i ≡ wanted i
columns_more k old new wanted before others changed i l = elim (cases_lt i k) [
  | inl below ↦ others i (λ e. absurd (omega arith)) ∙ before i below
  | inr from ↦
      let e : k ≡ i = omega arith in
      subst (λ (z : ℕ). new z ≡ wanted z) e changed
]

-- no first difference, so none
pub no_first : (n seen : ℕ) (ys : ℕ → ℕ) (o : Option Difference) → ((d : Difference) → o ≡ Some d → ⊥) → IsFirst n ys seen o
    → AreCandidates n ys seen
no_first n seen ys None none first = first
no_first n seen ys (Some d) none first = absurd (none d refl)
