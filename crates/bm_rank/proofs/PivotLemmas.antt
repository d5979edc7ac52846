-- Leading bits, and how many rows have one.
use Rattle.std.proofs.Common.{◌≡◌, ◌≢◌, ℕ, zero, suc, ◌+◌, ◌-◌, ◌*◌, ◌%◌, ◌^◌, ◌<◌, ◌≤◌, ap, add-one, true, false, List, length, set}
use Rattle.std.proofs.Common.{slice_index, ◌==◌, refl, arith, inl, inr, ⊎_elim, ◌⊎◌, get_or-set_other, get_or-set_same}
use Rattle.std.specs.Int.{bit_at}
use Rattle.std.proofs.lemmas.Nat.{shr_high}
use Rattle.std.proofs.Math.Nat.{pow-le-pow_right, two-pow-succ}
use Rattle.std.proofs.lemmas.Bool.{cases_lt}
use Rattle.std.proofs.lemmas.Bool.Decides.{eqb_tells}
use Rattle.bm_rank.specs.Echelon.{pivot_count, weight}

-- the leading bit
pub leading_is_set : (v k : ℕ) → 2 ^ k ≤ v → v < 2 ^ (k + 1) → bit_at v k ≡ 1
leading_is_set v k a b =
    let p : 2 ^ (k + 1) ≡ 2 ^ k + 2 ^ k = rw add-one (two-pow-succ k) in
    let r : v ≡ 1 * 2 ^ k + (v - 2 ^ k) = omega arith in
    rw r (ap (λ (q : ℕ). q % 2) (shr_high 1 k (v - 2 ^ k) (omega arith)))

-- the leading bit of a number below 2 ^ n
pub leading_below : (v k n : ℕ) → 2 ^ k ≤ v → v < 2 ^ n → k < n
leading_below v k n a b =
    ⊎_elim
    (λ (p : k < n). p)
    (λ (p : n ≤ k). let two : 0 < 2 = omega arith in let q : 2 ^ n ≤ 2 ^ k = pow-le-pow_right two p in absurd (omega arith))
    (cases_lt k n)

-- ---- how many rows are pivots

-- what one row counts
pub one_row : (r : ℕ) → ((r ≡ 0) × (weight r ≡ 0)) ⊎ ((r ≢ 0) × (weight r ≡ 1))
one_row r =
    ⊎_elim
    (λ (p : (r == 0 ≡ true) × (r ≡ 0)). inl (p.1, rw p.0 refl))
    (λ (p : (r == 0 ≡ false) × (r ≢ 0)). inr (p.1, rw p.0 refl))
    (eqb_tells r 0)

-- no more than there are rows
pub pivot_count-le : (rows : List ℕ) (k : ℕ) → pivot_count rows k ≤ k
unfolding pivot_count
pivot_count-le rows zero = omega arith
pivot_count-le rows (suc k) =
    ⊎_elim
    (λ (p : (slice_index rows k ≡ 0) × (weight (slice_index rows k) ≡ 0)). omega (arith, pivot_count-le rows k, p.1))
    (λ (p : (slice_index rows k ≢ 0) × (weight (slice_index rows k) ≡ 1)). omega (arith, pivot_count-le rows k, p.1))
    (one_row (slice_index rows k))

-- as many as there can be: each row is a pivot
pub pivot_count-all : (rows : List ℕ) (k i : ℕ) → pivot_count rows k ≡ k → i < k → slice_index rows i ≢ 0
unfolding pivot_count
pivot_count-all rows zero i e l = absurd (omega arith)
pivot_count-all rows (suc k) i e l =
    ⊎_elim
    (λ (p : (slice_index rows k ≡ 0) × (weight (slice_index rows k) ≡ 0)). absurd (omega (arith, pivot_count-le rows k, p.1)))
    (λ (p : (slice_index rows k ≢ 0) × (weight (slice_index rows k) ≡ 1)).
    ⊎_elim
    (λ (q : i < k). pivot_count-all rows k i (omega (arith, p.1)) q)
    (λ (q : k ≤ i). let s : i ≡ k = omega arith in rw s p.0)
    (cases_lt i k))
    (one_row (slice_index rows k))

-- no pivot
pub pivot_count-none : (rows : List ℕ) (k : ℕ) → ((i : ℕ) → i < k → slice_index rows i ≡ 0) → pivot_count rows k ≡ 0
unfolding pivot_count
pivot_count-none rows zero h = refl
pivot_count-none rows (suc k) h =
    ⊎_elim
    (λ (p : (slice_index rows k ≡ 0) × (weight (slice_index rows k) ≡ 0)). omega
    (arith, pivot_count-none rows k (λ i l. h i (omega arith)), p.1))
    (λ (p : (slice_index rows k ≢ 0) × (weight (slice_index rows k) ≡ 1)). absurd (p.0 (h k (omega arith))))
    (one_row (slice_index rows k))

-- a row that is written past k does not count
pub pivot_count-set_past : (rows : List ℕ) (k i v : ℕ) → k ≤ i → pivot_count (set rows i v) k ≡ pivot_count rows k
unfolding pivot_count
pivot_count-set_past rows zero i v l = refl
pivot_count-set_past rows (suc k) i v l =
    let p : k ≢ i = omega arith in
    let e : slice_index (set rows i v) k ≡ slice_index rows k = rw get_or-set_other refl in
    rw (e, pivot_count-set_past rows k i v (omega arith)) refl

-- a row that was 0 and is a pivot now counts one
pub pivot_count-set : (rows : List ℕ) (k i v : ℕ) → i < k → k ≤ length rows → slice_index rows i ≡ 0 → v ≢ 0
    → pivot_count (set rows i v) k ≡ pivot_count rows k + 1
unfolding pivot_count
pivot_count-set rows zero i v l m z nz = absurd (omega arith)
pivot_count-set rows (suc k) i v l m z nz =
    ⊎_elim
    (λ (q : i < k).
    let p : k ≢ i = omega arith in
    let e : slice_index (set rows i v) k ≡ slice_index rows k = rw get_or-set_other refl in
    rw e (omega (arith, pivot_count-set rows k i v q (omega arith) z nz)))
    (λ (q : k ≤ i).
    let s : k ≡ i = omega arith in
    let t : i < length rows = omega arith in
    let e : slice_index (set rows i v) k ≡ v = rw s (rw get_or-set_same refl) in
    let f : pivot_count (set rows i v) k ≡ pivot_count rows k = pivot_count-set_past rows k i v q in
    let z2 : slice_index rows k ≡ 0 = rw s z in
    let a : weight v ≡ 1 = ⊎_elim (λ (p : (v ≡ 0) × (weight v ≡ 0)). absurd (nz p.0)) (λ (p : (v ≢ 0) × (weight v ≡ 1)). p.1) (one_row v) in
    rw (e, f, z2, a) (omega arith))
    (cases_lt i k)
