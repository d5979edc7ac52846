-- Independent vectors, in order of insertion, and rows with distinct leading bits that have their span.
use Rattle.std.specs.Prelude.{ℕ, zero, suc, ◌≡◌, ◌≢◌, ◌+◌, ◌^◌, ◌<◌, ◌≤◌, ◌==◌, if◌then◌else◌, List, slice_index}
use Rattle.std.specs.Int.{bit_at}
use Rattle.bm_gf2.specs.Vector.{xor_sum}

-- row i is 0 or its leading bit is i
pub record IsRowEchelon (rows : List ℕ) (n : ℕ) : Type 0 where
  pub short : (i : ℕ) → i < n → slice_index rows i < 2 ^ (i + 1)
  pub leads : (i : ℕ) → i < n → slice_index rows i ≢ 0 → bit_at (slice_index rows i) i ≡ 1

-- no row's leading bit is set
abbrev pub IsReduced : List ℕ → ℕ → ℕ → Type 0
IsReduced rows n r = (i : ℕ) → i < n → slice_index rows i ≢ 0 → bit_at r i ≡ 0

-- 0 for 0, and else 1
abbrev pub weight : ℕ → ℕ
weight r = if r == 0 then 0 else 1

-- how many of the first k rows are not 0
unfoldable pub pivot_count : List ℕ → ℕ → ℕ
pivot_count rows zero = 0
pivot_count rows (suc k) = pivot_count rows k + weight (slice_index rows k)

-- what an echelon shows: the vectors below 2 ^ n that were kept, in order of insertion
pub record Basis : Type 0 where
  pub n : ℕ
  pub kept : List ℕ

-- the first `count` of `kept` are independent: `unique` says that no set of them but the empty one has a sum that no row
-- reduces; row i is 0 or has the leading bit i, and is the sum of those that mark i picks; there are as many rows but 0 as
-- vectors
pub record IsEchelon (n count : ℕ) (kept rows marks : List ℕ) : Type 0 where
  pub few : n ≤ 52
  pub kept_below : (j : ℕ) → j < count → slice_index kept j < 2 ^ n
  pub stairs : IsRowEchelon rows n
  pub marks_below : (i : ℕ) → i < n → slice_index marks i < 2 ^ count
  pub marked : (i : ℕ) → i < n → xor_sum (slice_index kept) count (slice_index marks i) ≡ slice_index rows i
  pub unique : (x : ℕ) → IsReduced rows n (xor_sum (slice_index kept) count x) → (j : ℕ) → j < count → bit_at x j ≡ 0
  pub counted : count ≡ pivot_count rows n
