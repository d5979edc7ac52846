-- Matrices whose columns are unit vectors.
use Rattle.std.proofs.Common.{◌≡◌, ◌≢◌, ℕ, zero, suc, ◌+◌, ◌-◌, ◌*◌, ◌%◌, ◌^◌, ◌<◌, ◌≤◌, sym, ap, ◌∙◌, arith, ⊎_elim}
use Rattle.std.specs.Int.{bit_at}
use Rattle.std.specs.Int.Bits.{xor_zero_l, xor_zero_r}
use Rattle.std.proofs.Math.Nat.{mod-lt, mod-eq_of_lt, add-mod_left, add-mod_right}
use Rattle.std.proofs.lemmas.Nat.Bits.{bit_at-pow_same, bit_at-pow_other}
use Rattle.std.proofs.lemmas.Bool.{cases_lt}
use Rattle.bm_gf2.specs.Vector.{xor_sum}
use Rattle.bm_gf2.proofs.VectorLemmas.{xor_same, xor_sum-zeros, xor_sum-bit, xor_sum-ext, xor_sum-units}

-- one column is 1, the others are 0
xor_sum-single : (w : ℕ → ℕ) (k x i : ℕ) → i < k → w i ≡ 1 → ((j : ℕ) → j < k → j ≢ i → w j ≡ 0) → xor_sum w k x ≡ bit_at x i
unfolding xor_sum
xor_sum-single w zero x i l one zeros = absurd (omega arith)
xor_sum-single w (suc k) x i l one zeros =
    ⊎_elim
    (λ (p : i < k).
    xor_same (xor_sum-single w k x i p one (λ j below apart. zeros j (omega arith) apart))
    (ap (λ (c : ℕ). bit_at x k * c) (zeros k (omega arith) (omega arith)) ∙ (let e : bit_at x k * 0 ≡ 0 = omega arith in e))
    ∙ xor_zero_r (bit_at x i))
    (λ (p : k ≤ i).
    let last : k ≡ i = omega arith in
    xor_same (xor_sum-zeros w k x (λ j below. zeros j (omega arith) (omega arith)))
    (ap (λ (c : ℕ). bit_at x c * w c) last ∙ ap (λ (c : ℕ). bit_at x i * c) one ∙ (let e : bit_at x i * 1 ≡ bit_at x i = omega arith in e))
    ∙ xor_zero_l (bit_at x i))
    (cases_lt i k)

-- the place that bit j goes to
turned_below : (n by j : ℕ) → by ≤ n → j < n → j < by → (j + n - by) % n ≡ j + n - by
turned_below n by j few inside low = mod-eq_of_lt (omega arith)

-- .. a bit that only goes down
turned_above : (n by j : ℕ) → by ≤ n → j < n → by ≤ j → (j + n - by) % n ≡ j - by
turned_above n by j few inside high =
    ap (λ (c : ℕ). c % n) (let e : j + n - by ≡ n + (j - by) = omega arith in e) ∙ add-mod_left n (j - by) ∙ mod-eq_of_lt (omega arith)

-- the place that bit i comes from
source_below : (n by i : ℕ) → i + by < n → (i + by) % n ≡ i + by
source_below n by i inside = mod-eq_of_lt inside

-- .. past the end
source_above : (n by i : ℕ) → by ≤ n → i < n → n ≤ i + by → (i + by) % n ≡ i + by - n
source_above n by i few inside past =
    ap (λ (c : ℕ). c % n) (let e : i + by ≡ n + (i + by - n) = omega arith in e) ∙ add-mod_left n (i + by - n) ∙ mod-eq_of_lt (omega arith)

-- bit (i + by) mod n goes to place i, and no other does
turned_source : (n by i : ℕ) → by ≤ n → i < n → ((i + by) % n + n - by) % n ≡ i
turned_source n by i few inside =
    ⊎_elim
    (λ (p : i + by < n).
    ap (λ (c : ℕ). (c + n - by) % n) (source_below n by i p) ∙ turned_above n by (i + by) few p (omega arith)
    ∙ (let e : i + by - by ≡ i = omega arith in e))
    (λ (p : n ≤ i + by).
    ap (λ (c : ℕ). (c + n - by) % n) (source_above n by i few inside p)
    ∙ ⊎_elim
    (λ (q : i + by - n < by). turned_below n by (i + by - n) few (omega arith) q ∙ (let e : i + by - n + n - by ≡ i = omega arith in e))
    (λ (q : by ≤ i + by - n). absurd (omega arith))
    (cases_lt (i + by - n) by))
    (cases_lt (i + by) n)

-- no other bit goes to place i
turned_apart : (n by i j : ℕ) → by ≤ n → i < n → j < n → j ≢ (i + by) % n → i ≢ (j + n - by) % n
turned_apart n by i j few inside below apart = λ same. apart (
    ⊎_elim
    (λ (p : j < by).
    let e : i ≡ j + n - by = same ∙ turned_below n by j few below p in
    (let f : j ≡ i + by - n = omega arith in f) ∙ sym (source_above n by i few inside (omega arith)))
    (λ (p : by ≤ j).
    let e : i ≡ j - by = same ∙ turned_above n by j few below p in
    (let f : j ≡ i + by = omega arith in f) ∙ sym (source_below n by i (omega arith)))
    (cases_lt j by))

-- a rotation by n is one by 0
pub rotated_column : (n by j : ℕ) → by ≤ n → j < n → (j + n - by % n) % n ≡ (j + n - by) % n
rotated_column n by j few below =
    ⊎_elim
    (λ (p : by < n). ap (λ (c : ℕ). (j + n - c) % n) (mod-eq_of_lt p))
    (λ (p : n ≤ by).
    let whole : by ≡ n = omega arith in
    let none : by % n ≡ 0 = ap (λ (c : ℕ). c % n) (let e : by ≡ 0 + n = omega arith in e) ∙ add-mod_right 0 n
    ∙ mod-eq_of_lt (let e : 0 < n = omega arith in e) in
    ap (λ (c : ℕ). (j + n - c) % n) none ∙ ap (λ (c : ℕ). c % n) (let e : j + n - 0 ≡ j + n = omega arith in e) ∙ add-mod_right j n
    ∙ ap (λ (c : ℕ). c % n) (let e : j ≡ j + n - by = omega arith in e))
    (cases_lt by n)

-- a rotation, bit by bit
pub rotation_bits : (w : ℕ → ℕ) (n by : ℕ) → by ≤ n → ((j : ℕ) → j < n → w j ≡ 2 ^ ((j + n - by) % n))
    → (x i : ℕ) → i < n → bit_at (xor_sum w n x) i ≡ bit_at x ((i + by) % n)
rotation_bits w n by few columns x i inside =
    let source : (i + by) % n < n = mod-lt (i + by) (omega arith) in
    xor_sum-bit w n i x
    ∙ xor_sum-single (λ j. bit_at (w j) i) n x ((i + by) % n) source
    (ap (λ (c : ℕ). bit_at c i) (columns ((i + by) % n) source ∙ ap (λ (c : ℕ). 2 ^ c) (turned_source n by i few inside))
    ∙ bit_at-pow_same i)
    (λ j below apart. ap (λ (c : ℕ). bit_at c i) (columns j below)
    ∙ bit_at-pow_other ((j + n - by) % n) i (turned_apart n by i j few inside below apart))

-- unit columns in order
pub identity_image : (w : ℕ → ℕ) (n : ℕ) → ((j : ℕ) → j < n → w j ≡ 2 ^ j) → (x : ℕ) → x < 2 ^ n → xor_sum w n x ≡ x
identity_image w n columns x short = xor_sum-ext w (λ j. 2 ^ j) n x columns ∙ xor_sum-units n x ∙ mod-eq_of_lt short
