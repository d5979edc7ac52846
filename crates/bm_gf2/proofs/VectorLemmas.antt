-- Laws of `xor_sum`.
use Rattle.std.proofs.Common.{List, length, set, get_or-set_other, get_or-set_same, get_or, replicate, ◌≡◌, ◌≢◌, bit_and, ℕ, zero, suc, ◌+◌}
use Rattle.std.proofs.Common.{◌*◌, ◌/◌, ◌%◌, ◌^◌, ◌<◌, ◌≤◌, bit_xor, refl, sym, ap, ◌∙◌, subst, arith, add-one, inl, inr, ⊎_elim, ◌⊎◌}
use Rattle.std.specs.Int.{bit_at}
use Rattle.std.specs.Int.Bits.{xor_assoc, xor_self, xor_zero_r, xor_mod, xor_shr, xor_shifted}
use Rattle.std.proofs.lemmas.Nat.{xor_comm, xor_lt, pow_pos, mod-pow-add, shr-shr, one_shl, pow_below}
use Rattle.std.proofs.Math.Nat.{zero-div, mod-eq_of_lt, mod-lt, mod-one, add-suc, mod-add-div'}
use Rattle.std.proofs.lemmas.Nat.Bits.{bit_at_cat_low, bit_at-lt, bit_at-pow_same, bit_at-pow_other, bit_at_above, bit_at-zero, shr_and_one}
use Rattle.std.proofs.lemmas.Bool.{cases_lt, cases_eq}
use Rattle.std.proofs.Common.{zero-mul}
use Rattle.bm_gf2.specs.Vector.{xor_sum}

-- ---- XOR

-- XOR of equals
pub xor_same : {a b c d : ℕ} → a ≡ b → c ≡ d → bit_xor a c ≡ bit_xor b d
xor_same p q = cc

-- the two middle terms change places
pub xor_swap : (a b c d : ℕ) → bit_xor (bit_xor a b) (bit_xor c d) ≡ bit_xor (bit_xor a c) (bit_xor b d)
xor_swap a b c d =
    xor_assoc a b (bit_xor c d)
    ∙ ap (bit_xor a) (sym (xor_assoc b c d) ∙ ap (λ (x : ℕ). bit_xor x d) (xor_comm b c) ∙ xor_assoc c b d)
    ∙ sym (xor_assoc a c (bit_xor b d))

-- XOR with the same number twice
pub xor_cancel : (a b : ℕ) → bit_xor a (bit_xor a b) ≡ b
xor_cancel a b = sym (xor_assoc a a b) ∙ ap (λ (x : ℕ). bit_xor x b) (xor_self a)

-- the same, on the right
pub xor_cancel_right : (a b : ℕ) → bit_xor (bit_xor a b) b ≡ a
xor_cancel_right a b = xor_assoc a b b ∙ ap (bit_xor a) (xor_self b) ∙ xor_zero_r a

-- equal exactly where the XOR is 0
pub eq_of_xor-zero : (a b : ℕ) → bit_xor a b ≡ 0 → a ≡ b
eq_of_xor-zero a b h = sym (xor_cancel_right a b) ∙ ap (λ (x : ℕ). bit_xor x b) h

-- one bit of an XOR
pub bit_of_xor : (a b i : ℕ) → bit_at (bit_xor a b) i ≡ bit_xor (bit_at a i) (bit_at b i)
bit_of_xor a b i = ap (λ (x : ℕ). x % 2) (xor_shr a b i) ∙ xor_mod (a / 2 ^ i) (b / 2 ^ i) 1

-- a product with a bit distributes
pub bit_times : (b c w : ℕ) → b < 2 → c < 2 → bit_xor b c * w ≡ bit_xor (b * w) (c * w)
bit_times zero c w hb hc = let e = zero-mul w in rw e refl
bit_times (suc zero) zero w hb hc = sym (rw (zero-mul w) (xor_zero_r (1 * w)))
bit_times (suc zero) (suc zero) w hb hc = zero-mul w ∙ sym (xor_self (1 * w))
bit_times (suc zero) (suc (suc c)) w hb hc = absurd (omega arith)
bit_times (suc (suc b)) c w hb hc = absurd (omega arith)

-- a bit is 0 or 1
pub bit_cases : (b w : ℕ) → b < 2 → ((b ≡ 0) × (b * w ≡ 0)) ⊎ ((b ≡ 1) × (b * w ≡ w))
bit_cases zero w h = inl (refl, zero-mul w)
bit_cases (suc zero) w h = inr (refl, omega arith)
bit_cases (suc (suc b)) w h = absurd (omega arith)

-- ---- the laws of `xor_sum`

-- the zero vector picks nothing
pub xor_sum-zero : (w : ℕ → ℕ) (k : ℕ) → xor_sum w k 0 ≡ 0
unfolding xor_sum
xor_sum-zero w zero = refl
xor_sum-zero w (suc k) = rw (xor_sum-zero w k, bit_at-zero k) (zero-mul (w k))

-- columns that are all 0
pub xor_sum-zeros : (w : ℕ → ℕ) (k x : ℕ) → ((j : ℕ) → j < k → w j ≡ 0) → xor_sum w k x ≡ 0
unfolding xor_sum
xor_sum-zeros w zero x zeros = refl
xor_sum-zeros w (suc k) x zeros =
    xor_same (xor_sum-zeros w k x (λ j l. zeros j (omega arith)))
    (ap (λ (c : ℕ). bit_at x k * c) (zeros k (omega arith)) ∙ (let e : bit_at x k * 0 ≡ 0 = omega arith in e))

-- additive in the vector
pub xor_sum-xor : (w : ℕ → ℕ) (k x y : ℕ) → xor_sum w k (bit_xor x y) ≡ bit_xor (xor_sum w k x) (xor_sum w k y)
unfolding xor_sum
xor_sum-xor w zero x y = refl
xor_sum-xor w (suc k) x y =
    rw (xor_sum-xor w k x y, bit_of_xor x y k, bit_times (bit_at x k) (bit_at y k) (w k) (bit_at-lt x k) (bit_at-lt y k))
    (xor_swap (xor_sum w k x) (xor_sum w k y) (bit_at x k * w k) (bit_at y k * w k))

-- the columns that are read decide
pub xor_sum-ext : (v w : ℕ → ℕ) (k x : ℕ) → ((j : ℕ) → j < k → v j ≡ w j) → xor_sum v k x ≡ xor_sum w k x
unfolding xor_sum
xor_sum-ext v w zero x h = refl
xor_sum-ext v w (suc k) x h =
    xor_same (xor_sum-ext v w k x (λ j l. h j (omega arith))) (ap (λ (c : ℕ). bit_at x k * c) (h k (omega arith)))

-- the bits below k decide
pub xor_sum-bits : (w : ℕ → ℕ) (k x y : ℕ) → ((j : ℕ) → j < k → bit_at x j ≡ bit_at y j) → xor_sum w k x ≡ xor_sum w k y
unfolding xor_sum
xor_sum-bits w zero x y h = refl
xor_sum-bits w (suc k) x y h =
    xor_same (xor_sum-bits w k x y (λ j l. h j (omega arith))) (ap (λ (c : ℕ). c * w k) (h k (omega arith)))

-- a bound on the columns is one on the result
pub xor_sum-lt : (w : ℕ → ℕ) (k n x : ℕ) → ((j : ℕ) → j < k → w j < 2 ^ n) → xor_sum w k x < 2 ^ n
unfolding xor_sum
xor_sum-lt w zero n x h = pow_pos n
xor_sum-lt w (suc k) n x h =
    xor_lt n (xor_sum w k x) (bit_at x k * w k) (xor_sum-lt w k n x (λ j l. h j (omega arith)))
    (⊎_elim
    (λ (p : (bit_at x k ≡ 0) × (bit_at x k * w k ≡ 0)). subst (λ (c : ℕ). c < 2 ^ n) (sym p.1) (pow_pos n))
    (λ (p : (bit_at x k ≡ 1) × (bit_at x k * w k ≡ w k)). subst (λ (c : ℕ). c < 2 ^ n) (sym p.1) (h k (omega arith)))
    (bit_cases (bit_at x k) (w k) (bit_at-lt x k)))

-- an additive function passes through
pub xor_sum-map : (f : ℕ → ℕ) (w : ℕ → ℕ) (k x : ℕ) → f 0 ≡ 0 → ((a b : ℕ) → f (bit_xor a b) ≡ bit_xor (f a) (f b))
    → f (xor_sum w k x) ≡ xor_sum (λ j. f (w j)) k x
unfolding xor_sum
xor_sum-map f w zero x f0 fx = f0
xor_sum-map f w (suc k) x f0 fx =
    fx (xor_sum w k x) (bit_at x k * w k)
    ∙ xor_same (xor_sum-map f w k x f0 fx)
    (⊎_elim
    (λ (p : (bit_at x k ≡ 0) × (bit_at x k * w k ≡ 0)). ap f p.1 ∙ f0 ∙ sym (zero-mul (f (w k))) ∙ ap (λ (c : ℕ). c * f (w k)) (sym p.0))
    (λ (p : (bit_at x k ≡ 1) × (bit_at x k * w k ≡ w k)). ap f p.1 ∙ (let e : f (w k) ≡ 1 * f (w k) = omega arith in e)
    ∙ ap (λ (c : ℕ). c * f (w k)) (sym p.0))
    (bit_cases (bit_at x k) (w k) (bit_at-lt x k)))

-- composition: columns that are themselves sums
pub xor_sum-xor_sum : (a r : ℕ → ℕ) (n k x : ℕ) → xor_sum a n (xor_sum r k x) ≡ xor_sum (λ j. xor_sum a n (r j)) k x
xor_sum-xor_sum a r n k x = xor_sum-map (xor_sum a n) r k x (xor_sum-zero a n) (xor_sum-xor a n)

-- the rows from r on
pub xor_sum-shr : (w : ℕ → ℕ) (k r x : ℕ) → xor_sum w k x / 2 ^ r ≡ xor_sum (λ j. w j / 2 ^ r) k x
xor_sum-shr w k r x = xor_sum-map (λ (c : ℕ). c / 2 ^ r) w k x (zero-div (2 ^ r)) (λ a b. xor_shr a b r)

-- the rows below r
pub xor_sum-mod : (w : ℕ → ℕ) (k r x : ℕ) → xor_sum w k x % 2 ^ r ≡ xor_sum (λ j. w j % 2 ^ r) k x
xor_sum-mod w k r x = xor_sum-map (λ (c : ℕ). c % 2 ^ r) w k x (mod-eq_of_lt (pow_pos r)) (λ a b. xor_mod a b r)

-- one row
pub xor_sum-bit : (w : ℕ → ℕ) (k i x : ℕ) → bit_at (xor_sum w k x) i ≡ xor_sum (λ j. bit_at (w j) i) k x
xor_sum-bit w k i x = xor_sum-map (λ (c : ℕ). bit_at c i) w k x (bit_at-zero i) (λ a b. bit_of_xor a b i)

-- a bit below k is one of the k lowest bits
pub bit_of_low : (x k i : ℕ) → i < k → bit_at (x % 2 ^ k) i ≡ bit_at x i
bit_of_low x k i l =
    let whole : x / 2 ^ k * 2 ^ k + x % 2 ^ k ≡ x = omega (arith, mod-add-div' x (2 ^ k)) in
    sym (bit_at_cat_low (x / 2 ^ k) k (x % 2 ^ k) i l) ∙ ap (λ (c : ℕ). bit_at c i) whole

-- the k lowest bits decide a sum of k columns
pub xor_sum-low : (w : ℕ → ℕ) (k x : ℕ) → xor_sum w k (x % 2 ^ k) ≡ xor_sum w k x
xor_sum-low w k x = xor_sum-bits w k (x % 2 ^ k) x (bit_of_low x k)

-- bit j set in a number below 2 ^ j
pub xor_pow_above : (r j : ℕ) → r < 2 ^ j → bit_xor r (2 ^ j) ≡ 2 ^ j + r
xor_pow_above r j short =
    let one : 1 * 2 ^ j ≡ 2 ^ j = omega arith in
    xor_comm r (2 ^ j) ∙ ap (λ (c : ℕ). bit_xor c r) (sym one) ∙ xor_shifted 1 j r short ∙ ap (λ (c : ℕ). c + r) one

-- bits from k on are not read
pub xor_sum-above : (w : ℕ → ℕ) (k m x : ℕ) → k ≤ m → x < 2 ^ k → xor_sum w m x ≡ xor_sum w k x
unfolding xor_sum
xor_sum-above w k zero x l h = let e : k ≡ 0 = omega arith in rw e refl
xor_sum-above w k (suc m) x l h =
    ⊎_elim
    (λ (p : m < k). let e : k ≡ suc m = omega arith in rw e refl)
    (λ (p : k ≤ m). xor_same (xor_sum-above w k m x p h) (ap (λ (c : ℕ). c * w m) (bit_at_above x k m h p) ∙ zero-mul (w m))
    ∙ xor_zero_r (xor_sum w k x))
    (cases_lt m k)

-- a unit vector picks its column
pub xor_sum-none : (w : ℕ → ℕ) (k j : ℕ) → k ≤ j → xor_sum w k (2 ^ j) ≡ 0
unfolding xor_sum
xor_sum-none w zero j l = refl
xor_sum-none w (suc k) j l =
    xor_same (xor_sum-none w k j (omega arith))
    (ap (λ (c : ℕ). c * w k) (bit_at-pow_other j k (omega arith)) ∙ zero-mul (w k))

-- a unit vector below 2 ^ k picks its column
pub xor_sum-pow : (w : ℕ → ℕ) (k j : ℕ) → j < k → xor_sum w k (2 ^ j) ≡ w j
unfolding xor_sum
xor_sum-pow w zero j l = absurd (omega arith)
xor_sum-pow w (suc k) j l =
    ⊎_elim
    (λ (p : j < k). xor_same (xor_sum-pow w k j p) (ap (λ (c : ℕ). c * w k) (bit_at-pow_other j k (omega arith)) ∙ zero-mul (w k))
    ∙ xor_zero_r (w j))
    (λ (p : k ≤ j). let e : k ≡ j = omega arith in
    xor_same (xor_sum-none w k j p) (ap (λ (c : ℕ). bit_at (2 ^ j) c * w c) e ∙ ap (λ (c : ℕ). c * w j) (bit_at-pow_same j))
    ∙ (let o : 1 * w j ≡ w j = omega arith in o))
    (cases_lt j k)

-- the k lowest bits
mod_pow : (k x : ℕ) → x % 2 ^ k < 2 ^ k
mod_pow k x = mod-lt x (pow_pos k)

-- unit columns give the vector back
pub xor_sum-units : (k x : ℕ) → xor_sum (λ j. 2 ^ j) k x ≡ x % 2 ^ k
unfolding xor_sum
xor_sum-units zero x = sym (mod-one x)
xor_sum-units (suc k) x =
    ap (λ (c : ℕ). bit_xor c (bit_at x k * 2 ^ k)) (xor_sum-units k x)
    ∙ xor_comm (x % 2 ^ k) (bit_at x k * 2 ^ k)
    ∙ xor_shifted (bit_at x k) k (x % 2 ^ k) (mod_pow k x)
    ∙ sym (mod-pow-add x 1 k)
    ∙ ap (λ (c : ℕ). x % 2 ^ c) (let e : 1 + k ≡ suc k = omega arith in e)

-- the columns from k on, apart
pub xor_sum-split : (w : ℕ → ℕ) (k m x : ℕ) → xor_sum w (k + m) x ≡ bit_xor (xor_sum w k x) (xor_sum (λ j. w (k + j)) m (x / 2 ^ k))
unfolding xor_sum
xor_sum-split w k zero x = let e : k + 0 ≡ k = omega arith in rw e (sym (xor_zero_r (xor_sum w k x)))
xor_sum-split w k (suc m) x =
    rw add-suc (
    xor_same (xor_sum-split w k m x) (ap (λ (c : ℕ). c % 2 * w (k + m)) (sym (shr-shr x k m)))
    ∙ xor_assoc (xor_sum w k x) (xor_sum (λ j. w (k + j)) m (x / 2 ^ k)) (bit_at (x / 2 ^ k) m * w (k + m)))

-- one more column
pub xor_sum-more : (w : ℕ → ℕ) (k x : ℕ) → xor_sum w (k + 1) x ≡ bit_xor (xor_sum w k x) (bit_at x k * w k)
unfolding xor_sum
xor_sum-more w k x = rw add-one refl

-- a loop's step: the test of bit k, as code makes it
pub xor_sum_taken : (w : ℕ → ℕ) (k x : ℕ) → bit_and (x / 2 ^ k) 1 ≡ 1 → xor_sum w (k + 1) x ≡ bit_xor (xor_sum w k x) (w k)
xor_sum_taken w k x h =
    xor_sum-more w k x
    ∙ ap (λ (c : ℕ). bit_xor (xor_sum w k x) (c * w k)) (sym (shr_and_one x k) ∙ h)
    ∙ ap (bit_xor (xor_sum w k x)) (let e : 1 * w k ≡ w k = omega arith in e)

-- the same where the bit is clear
pub xor_sum_left : (w : ℕ → ℕ) (k x : ℕ) → bit_and (x / 2 ^ k) 1 ≢ 1 → xor_sum w (k + 1) x ≡ xor_sum w k x
xor_sum_left w k x h =
    xor_sum-more w k x
    ∙ ⊎_elim
    (λ (p : (bit_at x k ≡ 0) × (bit_at x k * w k ≡ 0)). ap (bit_xor (xor_sum w k x)) p.1 ∙ xor_zero_r (xor_sum w k x))
    (λ (p : (bit_at x k ≡ 1) × (bit_at x k * w k ≡ w k)). absurd (h (shr_and_one x k ∙ p.0)))
    (bit_cases (bit_at x k) (w k) (bit_at-lt x k))

-- no columns
pub xor_sum_start : (w : ℕ → ℕ) (x : ℕ) → xor_sum w 0 x ≡ 0
unfolding xor_sum
xor_sum_start w x = refl

-- a bit k below n: 1 << k
pub unit_below : (k n : ℕ) → k < n → n ≤ 52 → (1 * 2 ^ k % 2 ^ 64 ≡ 2 ^ k) × (2 ^ k < 2 ^ n)
unit_below k n h l = (one_shl k 64 (omega arith), pow_below k n h)

-- a list of zeros
pub zero_at : (n j : ℕ) → get_or {A = ℕ} (replicate n 0) j 0 ≡ 0
zero_at zero j = refl
zero_at (suc n) zero = refl
zero_at (suc n) (suc j) = zero_at n j

-- a product's columns make it the composition
pub xor_sum-composed : (a r p : ℕ → ℕ) (n m k : ℕ) → n ≡ m → n ≡ k → ((j : ℕ) → j < k → p j ≡ xor_sum a n (r j)) → (x : ℕ)
    → xor_sum p k x ≡ xor_sum a n (xor_sum r m x)
xor_sum-composed a r p n m k e e2 h x =
    xor_sum-ext p (λ j. xor_sum a n (r j)) k x h ∙ ap (λ (c : ℕ). xor_sum (λ j. xor_sum a n (r j)) c x) (sym e2 ∙ e)
    ∙ sym (xor_sum-xor_sum a r n m x)

-- an affine map after another
pub affine-composed : (a r : ℕ → ℕ) (n m c d x : ℕ)
    → bit_xor (bit_xor c (xor_sum a n d)) (xor_sum a n (xor_sum r m x)) ≡ bit_xor c (xor_sum a n (bit_xor d (xor_sum r m x)))
affine-composed a r n m c d x =
    xor_assoc c (xor_sum a n d) (xor_sum a n (xor_sum r m x)) ∙ ap (bit_xor c) (sym (xor_sum-xor a n d (xor_sum r m x)))

-- a bound, and the zeros past it, stay after a write below n
pub set_below : (xs : List ℕ) (n m i v : ℕ) → n ≤ length xs → ((j : ℕ) → j < n → get_or xs j 0 < m) → i < n → v < m
    → (j : ℕ) → j < n → get_or (set xs i v) j 0 < m
set_below xs n m i v f h l b j k =
    ⊎_elim
    (λ (p : j ≡ i). rw p (let q : i < length xs = omega arith in rw get_or-set_same b))
    (λ (p : j ≢ i). rw get_or-set_other (h j k))
    (cases_eq j i)

-- zeros from n on stay after a write below n
pub set_rest : (xs : List ℕ) (n i v : ℕ) → ((j : ℕ) → n ≤ j → get_or xs j 0 ≡ 0) → i < n
    → (j : ℕ) → n ≤ j → get_or (set xs i v) j 0 ≡ 0
set_rest xs n i v h l j k = let p : j ≢ i = omega arith in rw get_or-set_other (h j k)
