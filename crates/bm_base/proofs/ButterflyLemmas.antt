-- Numbers in records, and butterflies.
use Rattle.std.proofs.Common.{ℕ, zero, suc, ◌≡◌, ◌+◌, ◌-◌, ◌*◌, ◌/◌, ◌%◌, ◌^◌, ◌<◌, ◌≤◌, List, [], ◌∷◌, refl, sym, ap, ◌∙◌, subst, arith}
use Rattle.std.proofs.Common.{⊎_elim, zero-mul}
use Rattle.std.proofs.lemmas.Bool.{cases_lt, cases_eq}
use Rattle.std.proofs.lemmas.Nat.{pow_pos, shr_split, mod-pow-add, pow-add}
use Rattle.std.proofs.lemmas.List.{append-nil}
use Rattle.std.proofs.Math.Pow.{shr_lt}
use Rattle.std.proofs.Math.Nat.{add-div_right, add-mul, mul-le-mul_right, div-eq_of_lt, mod-lt, pow-suc}
use Rattle.std.proofs.lemmas.Nat.Bits.{bit_at-lt, bit_at_cat_low}
use Rattle.std.specs.Int.{bit_at, byte_at, bytes_low_first}
use Rattle.byteorder.specs.Endian.{little_number, little_bytes}
use Rattle.byteorder.specs.Numbers.{little_number-reads_back}
use Rattle.bm_base.specs.Records.{SameRecords}
use Rattle.bm_base.proofs.CaseLemmas.{if_same, if_other, plus_same}
use Rattle.bm_base.specs.Butterfly.{number_in, record_of, negative, butterfly, butterflies}

same_cons : {a b : ℕ} {xs ys : List ℕ} → a ≡ b → xs ≡ ys → a ∷ xs ≡ b ∷ ys
same_cons p q = cc

plus_assoc : (a b c : ℕ) → a + b + c ≡ a + (b + c)
plus_assoc a b c = omega arith

first_block : (n t : ℕ) → 0 * 2 ^ n + t ≡ t
first_block n t = let z = zero-mul (2 ^ n) in omega arith

-- a byte of the number cut to 64 bits
byte_cut : (i v : ℕ) → i < 8 → byte_at i (v % 18446744073709551616) ≡ byte_at i v
byte_cut zero v h = omega arith
byte_cut (suc zero) v h = omega arith
byte_cut (suc (suc zero)) v h = omega arith
byte_cut (suc (suc (suc zero))) v h = omega arith
byte_cut (suc (suc (suc (suc zero)))) v h = omega arith
byte_cut (suc (suc (suc (suc (suc zero))))) v h = omega arith
byte_cut (suc (suc (suc (suc (suc (suc zero)))))) v h = omega arith
byte_cut (suc (suc (suc (suc (suc (suc (suc zero))))))) v h = omega arith
byte_cut (suc (suc (suc (suc (suc (suc (suc (suc i)))))))) v h = absurd (omega arith)

bytes_cut : (k i v : ℕ) → i + k ≤ 8 → bytes_low_first i k (v % 18446744073709551616) ≡ bytes_low_first i k v
bytes_cut zero i v h = refl
bytes_cut (suc k) i v h =
    let e : byte_at i (v % 18446744073709551616) ≡ byte_at i v = byte_cut i v (omega arith) in
    let ih : bytes_low_first (suc i) k (v % 18446744073709551616) ≡ bytes_low_first (suc i) k v = bytes_cut k (suc i) v (omega arith) in
    same_cons e ih

-- a record holds its number modulo 2 ^ 64
pub record_of-cut : (v : ℕ) → record_of (v % 18446744073709551616) ≡ record_of v
unfolding record_of
record_of-cut v = bytes_cut 8 0 v (omega arith)

pub record_of-mod : (u v : ℕ) → u % 18446744073709551616 ≡ v % 18446744073709551616 → record_of u ≡ record_of v
record_of-mod u v h = sym (record_of-cut u) ∙ ap record_of h ∙ record_of-cut v

read_back : (v : ℕ) → v < 18446744073709551616 → number_in (record_of v) ≡ v
unfolding number_in record_of
read_back v h = ap (little_number 8) (sym (append-nil (little_bytes 8 v))) ∙ little_number-reads_back 8 v [] h

pub number_in-record_of : (v : ℕ) → number_in (record_of v) ≡ v % 18446744073709551616
number_in-record_of v = ap number_in (sym (record_of-cut v)) ∙ read_back (v % 18446744073709551616) (mod-lt v (omega arith))

-- ---- one butterfly

pub set_bit : (k r : ℕ) → bit_at k r ≡ 0 → bit_at (k + 2 ^ r) r ≡ 1
set_bit k r h = ap (λ (c : ℕ). c % 2) (add-div_right k (pow_pos r))
    ∙ (let z : k / 2 ^ r % 2 ≡ 0 = h in let e : (k / 2 ^ r + 1) % 2 ≡ 1 = omega arith in e)

-- at the address without the bit
pub butterfly-clear : (i : ℕ) (xs : ℕ → List ℕ) (x : ℕ) → bit_at x i ≡ 0
    → butterfly i xs x ≡ record_of (number_in (xs x) + number_in (xs (x + 2 ^ i)))
unfolding butterfly
butterfly-clear i xs x h = if_same (bit_at x i) 0 _ _ h

-- at the address with it
pub butterfly-set : (i : ℕ) (xs : ℕ → List ℕ) (x : ℕ) → bit_at x i ≡ 0
    → butterfly i xs (x + 2 ^ i) ≡ record_of (number_in (xs x) + negative (number_in (xs (x + 2 ^ i))))
unfolding butterfly
butterfly-set i xs x h =
    if_other (bit_at (x + 2 ^ i) i) 0 _ _ (λ e. let s = set_bit x i h in absurd (omega arith))
    ∙ ap (λ (c : ℕ). record_of (number_in (xs c) + negative (number_in (xs (x + 2 ^ i)))))
    (let e : x + 2 ^ i - 2 ^ i ≡ x = omega arith in e)

-- an address with the bit is one without it and the bit
pub without_bit : (k r : ℕ) → bit_at k r ≡ 1 → (2 ^ r ≤ k) × (bit_at (k - 2 ^ r) r ≡ 0)
without_bit k r h =
    let s : k / 2 ^ r * 2 ^ r + k % 2 ^ r ≡ k = shr_split k r in
    let some : 2 ^ r ≤ k = ⊎_elim
    (λ (p : k < 2 ^ r). let z : k / 2 ^ r ≡ 0 = div-eq_of_lt p in let o : k / 2 ^ r % 2 ≡ 1 = h in absurd (omega arith))
    (λ (p : 2 ^ r ≤ k). p) (cases_lt k (2 ^ r)) in
    let e : k - 2 ^ r + 2 ^ r ≡ k = omega arith in
    let d : (k - 2 ^ r + 2 ^ r) / 2 ^ r ≡ (k - 2 ^ r) / 2 ^ r + 1 = add-div_right (k - 2 ^ r) (pow_pos r) in
    let d2 : k / 2 ^ r ≡ (k - 2 ^ r) / 2 ^ r + 1 = ap (λ (c : ℕ). c / 2 ^ r) (sym e) ∙ d in
    let o : k / 2 ^ r % 2 ≡ 1 = h in
    (some, (let z : (k - 2 ^ r) / 2 ^ r % 2 ≡ 0 = omega arith in z))

-- setting a clear bit below n stays below 2 ^ n
pub set_below : (k r n : ℕ) → k < 2 ^ n → r < n → bit_at k r ≡ 0 → k + 2 ^ r < 2 ^ n
set_below k r n h l z =
    let j : ℕ = n - (r + 1) in
    let e : j + (r + 1) ≡ n = omega arith in
    let q : k / 2 ^ (r + 1) < 2 ^ j = shr_lt j (r + 1) (subst (λ (c : ℕ). k < 2 ^ c) (sym e) h) in
    let room : (k / 2 ^ (r + 1) + 1) * 2 ^ (r + 1) ≤ 2 ^ j * 2 ^ (r + 1) = mul-le-mul_right (2 ^ (r + 1)) (omega arith) in
    let all : 2 ^ j * 2 ^ (r + 1) ≡ 2 ^ n = sym (pow-add 2 j (r + 1)) ∙ ap (λ (c : ℕ). 2 ^ c) e in
    let more : (k / 2 ^ (r + 1) + 1) * 2 ^ (r + 1) ≡ k / 2 ^ (r + 1) * 2 ^ (r + 1) + 2 ^ (r + 1) = add-mul (k / 2 ^ (r + 1)) 1 (2 ^ (r + 1))
    ∙ (let e : k / 2 ^ (r + 1) * 2 ^ (r + 1) + 1 * 2 ^ (r + 1) ≡ k / 2 ^ (r + 1) * 2 ^ (r + 1) + 2 ^ (r + 1) = omega arith in e) in
    let s : k / 2 ^ (r + 1) * 2 ^ (r + 1) + k % 2 ^ (r + 1) ≡ k = shr_split k (r + 1) in
    let w : k % 2 ^ (r + 1) ≡ bit_at k r * 2 ^ r + k % 2 ^ r = ap (λ (c : ℕ). k % 2 ^ c) (let e : r + 1 ≡ 1 + r = omega arith in e)
    ∙ mod-pow-add k 1 r in
    let w0 : bit_at k r * 2 ^ r ≡ 0 = ap (λ (c : ℕ). c * 2 ^ r) z ∙ zero-mul (2 ^ r) in
    let low : k % 2 ^ r < 2 ^ r = mod-lt k (pow_pos r) in
    let two : 2 ^ (r + 1) ≡ 2 ^ r + 2 ^ r = ap (λ (c : ℕ). 2 ^ c) (let e : r + 1 ≡ suc r = omega arith in e) ∙ pow-suc 2 r
    ∙ (let e : 2 ^ r * 2 ≡ 2 ^ r + 2 ^ r = omega arith in e) in
    omega arith

-- the butterflies within aligned blocks of 2 ^ m see one block alone
pub butterfly-block : (i m a : ℕ) (xs ys : ℕ → List ℕ) → i < m → ((t : ℕ) → t < 2 ^ m → xs (a * 2 ^ m + t) ≡ ys t)
    → (t : ℕ) → t < 2 ^ m → butterfly i xs (a * 2 ^ m + t) ≡ butterfly i ys t
butterfly-block i m a xs ys l h t ht =
    ⊎_elim
    (λ (p : bit_at t i ≡ 0).
    let q : bit_at (a * 2 ^ m + t) i ≡ 0 = bit_at_cat_low a m t i l ∙ p in
    butterfly-clear i xs (a * 2 ^ m + t) q
    ∙ ap record_of (plus_same (ap number_in (h t ht))
    (ap number_in (ap xs (plus_assoc (a * 2 ^ m) t (2 ^ i)) ∙ h (t + 2 ^ i) (set_below t i m ht l p))))
    ∙ sym (butterfly-clear i ys t p))
    (λ (p : bit_at t i ≡ 0 → ⊥).
    let o : bit_at t i ≡ 1 = (let b : bit_at t i < 2 = bit_at-lt t i in let c : bit_at t i ≡ 0 → ⊥ = p in omega arith) in
    let w = without_bit t i o in
    let u : t - 2 ^ i + 2 ^ i ≡ t = (let w0 : 2 ^ i ≤ t = w.0 in omega arith) in
    let v : t - 2 ^ i < 2 ^ m = omega arith in
    let q : bit_at (a * 2 ^ m + (t - 2 ^ i)) i ≡ 0 = bit_at_cat_low a m (t - 2 ^ i) i l ∙ w.1 in
    ap (butterfly i xs) (ap (λ (c : ℕ). a * 2 ^ m + c) (sym u) ∙ sym (plus_assoc (a * 2 ^ m) (t - 2 ^ i) (2 ^ i)))
    ∙ butterfly-set i xs (a * 2 ^ m + (t - 2 ^ i)) q
    ∙ ap record_of (plus_same (ap number_in (h (t - 2 ^ i) v)) (ap (λ (c : List ℕ). negative (number_in c))
    (ap xs (plus_assoc (a * 2 ^ m) (t - 2 ^ i) (2 ^ i)) ∙ h (t - 2 ^ i + 2 ^ i) (subst (λ (c : ℕ). c < 2 ^ m) (sym u) ht))))
    ∙ sym (butterfly-set i ys (t - 2 ^ i) w.1)
    ∙ ap (butterfly i ys) u)
    (cases_eq (bit_at t i) 0)

-- all butterflies of a block
pub butterflies-block : (low m a : ℕ) (xs : ℕ → List ℕ) (ys : ℕ → List ℕ) → low ≤ m → ((t : ℕ) → t < 2 ^ m → xs (a * 2 ^ m + t) ≡ ys t)
    → (t : ℕ) → t < 2 ^ m → butterflies low xs (a * 2 ^ m + t) ≡ butterflies low ys t
unfolding butterflies
butterflies-block zero m a xs ys l h t ht = h t ht
butterflies-block (suc i) m a xs ys l h t ht =
    butterfly-block i m a (butterflies i xs) (butterflies i ys) (omega arith) (butterflies-block i m a xs ys (omega arith) h) t ht

-- the records in the range decide
pub butterflies-same : (low n : ℕ) (xs ys : ℕ → List ℕ) → low ≤ n → SameRecords (2 ^ n) xs ys
    → SameRecords (2 ^ n) (butterflies low xs) (butterflies low ys)
butterflies-same low n xs ys l h x hx =
    ap (butterflies low xs) (sym (first_block n x))
    ∙ butterflies-block low n 0 xs ys l (λ t ht. ap xs (first_block n t) ∙ h t ht) x hx
