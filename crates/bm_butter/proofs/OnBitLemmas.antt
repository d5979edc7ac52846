-- Pairings on one bit, and on two.
use Rattle.std.proofs.Common.{ℕ, ◌≡◌, ◌≢◌, ◌+◌, ◌*◌, ◌%◌, ◌^◌, ◌<◌, List, bit_xor, refl, sym, ap, ◌∙◌, subst, arith, ⊎_elim}
use Rattle.std.specs.Int.{bit_at}
use Rattle.std.specs.Int.Bits.{xor_assoc}
use Rattle.std.proofs.lemmas.Bool.{cases_eq}
use Rattle.std.proofs.lemmas.Nat.{xor_comm, xor_lt, pow_below, one_shl}
use Rattle.std.proofs.lemmas.Nat.Bits.{bit_at-lt, bit_at_xor, bit_at-pow_same, bit_at-pow_other}
use Rattle.std.proofs.Math.Nat.{mod-lt}
use Rattle.bm_base.specs.Butterfly.{number_in, record_of}
use Rattle.bm_base.proofs.CaseLemmas.{if_same, if_other}
use Rattle.bm_base.proofs.ButterflyLemmas.{number_in-record_of}
use Rattle.bm_butter.specs.Pairings.{KeepsWords, Commutes, IsSame}
use Rattle.bm_butter.specs.OnBits.{word, kernel_on}

-- the address that differs in bit i
abbrev pub flip : ℕ → ℕ → ℕ
flip x i = bit_xor x (2 ^ i)

pub flip_same : (x i : ℕ) → bit_at (flip x i) i ≡ (bit_at x i + 1) % 2
flip_same x i = bit_at_xor x (2 ^ i) i ∙ ap (λ (c : ℕ). (bit_at x i + c) % 2) (bit_at-pow_same i)

pub flip_other : (x i j : ℕ) → j ≢ i → bit_at (flip x i) j ≡ bit_at x j
flip_other x i j differ =
    let b : bit_at x j < 2 = bit_at-lt x j in
    bit_at_xor x (2 ^ i) j ∙ ap (λ (c : ℕ). (bit_at x j + c) % 2) (bit_at-pow_other i j differ)
    ∙ (let e : (bit_at x j + 0) % 2 ≡ bit_at x j = omega arith in e)

pub flip_clear : (x i : ℕ) → bit_at x i ≡ 0 → bit_at (flip x i) i ≡ 1
flip_clear x i clear = let e = flip_same x i in omega arith

pub flip_set : (x i : ℕ) → bit_at x i ≡ 1 → bit_at (flip x i) i ≡ 0
flip_set x i set = let e = flip_same x i in omega arith

-- two bits in either order
pub flip_swap : (x i j : ℕ) → flip (flip x i) j ≡ flip (flip x j) i
flip_swap x i j = xor_assoc x (2 ^ i) (2 ^ j) ∙ ap (bit_xor x) (xor_comm (2 ^ i) (2 ^ j)) ∙ sym (xor_assoc x (2 ^ j) (2 ^ i))

pub flip_below : (n x i : ℕ) → x < 2 ^ n → i < n → flip x i < 2 ^ n
flip_below n x i short inside = xor_lt n x (2 ^ i) short (pow_below i n inside)

-- a bit is 0 or 1
pub bit_by : {A : Type 0} (x i : ℕ) → (bit_at x i ≡ 0 → A) → (bit_at x i ≡ 1 → A) → A
bit_by x i clear set =
    ⊎_elim (λ (p : bit_at x i ≡ 0). clear p)
    (λ (p : bit_at x i ≢ 0). set (let b : bit_at x i < 2 = bit_at-lt x i in omega arith))
    (cases_eq (bit_at x i) 0)

-- ---- numbers in records

pub word_below : (bytes : List ℕ) → word bytes < 2 ^ 64
word_below bytes = mod-lt (number_in bytes) (omega arith)

pub word_back : (v : ℕ) → v < 2 ^ 64 → word (record_of v) ≡ v
word_back v below = ap (λ (c : ℕ). c % 18446744073709551616) (number_in-record_of v)
    ∙ (let e : v % 18446744073709551616 % 18446744073709551616 ≡ v = omega arith in e)

-- ---- one bit

pub kernel_on-clear : (f : ℕ → ℕ → ℕ × ℕ) (i : ℕ) (xs : ℕ → List ℕ) (x : ℕ) → bit_at x i ≡ 0
    → kernel_on f i xs x ≡ record_of (f (word (xs x)) (word (xs (flip x i)))).0
unfolding kernel_on
kernel_on-clear f i xs x clear = if_same (bit_at x i) 0 _ _ clear

pub kernel_on-set : (f : ℕ → ℕ → ℕ × ℕ) (i : ℕ) (xs : ℕ → List ℕ) (x : ℕ) → bit_at x i ≡ 1
    → kernel_on f i xs x ≡ record_of (f (word (xs (flip x i))) (word (xs x))).1
unfolding kernel_on
kernel_on-set f i xs x set = if_other (bit_at x i) 0 _ _ (λ e. absurd (omega arith))

-- equal numbers make equal pairs
pub same_pair : (f : ℕ → ℕ → ℕ × ℕ) {a b c d : ℕ} → a ≡ c → b ≡ d → f a b ≡ f c d
same_pair f p q = cc

-- the numbers of both addresses decide
pub kernel_on-same : (f : ℕ → ℕ → ℕ × ℕ) (i j : ℕ) (xs ys : ℕ → List ℕ) (x y : ℕ) → bit_at x i ≡ bit_at y j
    → word (xs x) ≡ word (ys y) → word (xs (flip x i)) ≡ word (ys (flip y j))
    → kernel_on f i xs x ≡ kernel_on f j ys y
kernel_on-same f i j xs ys x y bits here there = bit_by x i
    (λ (p : bit_at x i ≡ 0). kernel_on-clear f i xs x p
    ∙ ap (λ (r : ℕ × ℕ). record_of r.0) (same_pair f here there) ∙ sym (kernel_on-clear f j ys y (sym bits ∙ p)))
    (λ (p : bit_at x i ≡ 1). kernel_on-set f i xs x p
    ∙ ap (λ (r : ℕ × ℕ). record_of r.1) (same_pair f there here) ∙ sym (kernel_on-set f j ys y (sym bits ∙ p)))

-- the numbers of the records in the range decide
pub kernel_on-words : (f : ℕ → ℕ → ℕ × ℕ) (i n : ℕ) (xs ys : ℕ → List ℕ) → i < n
    → ((x : ℕ) → x < 2 ^ n → word (xs x) ≡ word (ys x))
    → (x : ℕ) → x < 2 ^ n → kernel_on f i xs x ≡ kernel_on f i ys x
kernel_on-words f i n xs ys inside same x short =
    kernel_on-same f i i xs ys x x refl (same x short) (same (flip x i) (flip_below n x i short inside))

-- the numbers afterwards
pub word_on-clear : (f : ℕ → ℕ → ℕ × ℕ) (i : ℕ) (xs : ℕ → List ℕ) (x : ℕ) → KeepsWords f → bit_at x i ≡ 0
    → word (kernel_on f i xs x) ≡ (f (word (xs x)) (word (xs (flip x i)))).0
word_on-clear f i xs x keeps clear = ap word (kernel_on-clear f i xs x clear)
    ∙ word_back _ (keeps (word (xs x)) (word (xs (flip x i))) (word_below (xs x)) (word_below (xs (flip x i)))).0

pub word_on-set : (f : ℕ → ℕ → ℕ × ℕ) (i : ℕ) (xs : ℕ → List ℕ) (x : ℕ) → KeepsWords f → bit_at x i ≡ 1
    → word (kernel_on f i xs x) ≡ (f (word (xs (flip x i))) (word (xs x))).1
word_on-set f i xs x keeps set = ap word (kernel_on-set f i xs x set)
    ∙ word_back _ (keeps (word (xs (flip x i))) (word (xs x)) (word_below (xs (flip x i))) (word_below (xs x))).1

-- ---- two bits

-- the law, at the numbers of four records
law_of : (f : ℕ → ℕ → ℕ × ℕ) (xs : ℕ → List ℕ) (a b c d : ℕ) → Commutes f → IsSame f (word (xs a)) (word (xs b)) (word (xs c)) (word (xs d))
law_of f xs a b c d law = law _ _ _ _ (word_below (xs a)) (word_below (xs b)) (word_below (xs c)) (word_below (xs d))

-- two bits in either order
pub kernel_on-swap : (f : ℕ → ℕ → ℕ × ℕ) (i j : ℕ) (xs : ℕ → List ℕ) (x : ℕ) → KeepsWords f → Commutes f → i ≢ j
    → kernel_on f i (kernel_on f j xs) x ≡ kernel_on f j (kernel_on f i xs) x
kernel_on-swap f i j xs x keeps law differ =
    let y = flip x i in
    let z = flip x j in
    let far : word (xs (flip y j)) ≡ word (xs (flip z i)) = ap (λ (c : ℕ). word (xs c)) (flip_swap x i j) in
    let y_j : bit_at y j ≡ bit_at x j = flip_other x i j (λ e. differ (sym e)) in
    let z_i : bit_at z i ≡ bit_at x i = flip_other x j i differ in
    bit_by x i
    (λ (p : bit_at x i ≡ 0). bit_by x j
    (λ (q : bit_at x j ≡ 0).
    kernel_on-clear f i (kernel_on f j xs) x p
    ∙ ap (λ (r : ℕ × ℕ). record_of r.0)
    (same_pair f (word_on-clear f j xs x keeps q) (word_on-clear f j xs y keeps (y_j ∙ q)))
    ∙ ap record_of (law_of f xs x z y (flip y j) law).first
    ∙ ap (λ (r : ℕ × ℕ). record_of r.0)
    (sym (same_pair f (word_on-clear f i xs x keeps p)
    (word_on-clear f i xs z keeps (z_i ∙ p) ∙ ap (λ (r : ℕ × ℕ). r.0) (same_pair f refl (sym far)))))
    ∙ sym (kernel_on-clear f j (kernel_on f i xs) x q))
    (λ (q : bit_at x j ≡ 1).
    kernel_on-clear f i (kernel_on f j xs) x p
    ∙ ap (λ (r : ℕ × ℕ). record_of r.0)
    (same_pair f (word_on-set f j xs x keeps q) (word_on-set f j xs y keeps (y_j ∙ q)))
    ∙ ap record_of (law_of f xs z x (flip y j) y law).second
    ∙ ap (λ (r : ℕ × ℕ). record_of r.1)
    (sym (same_pair f
    (word_on-clear f i xs z keeps (z_i ∙ p) ∙ ap (λ (r : ℕ × ℕ). r.0) (same_pair f refl (sym far)))
    (word_on-clear f i xs x keeps p)))
    ∙ sym (kernel_on-set f j (kernel_on f i xs) x q)))
    (λ (p : bit_at x i ≡ 1). bit_by x j
    (λ (q : bit_at x j ≡ 0).
    kernel_on-set f i (kernel_on f j xs) x p
    ∙ ap (λ (r : ℕ × ℕ). record_of r.1)
    (same_pair f (word_on-clear f j xs y keeps (y_j ∙ q)) (word_on-clear f j xs x keeps q))
    ∙ ap record_of (law_of f xs y (flip y j) x z law).third
    ∙ ap (λ (r : ℕ × ℕ). record_of r.0)
    (sym (same_pair f (word_on-set f i xs x keeps p)
    (word_on-set f i xs z keeps (z_i ∙ p) ∙ ap (λ (r : ℕ × ℕ). r.1) (same_pair f (sym far) refl))))
    ∙ sym (kernel_on-clear f j (kernel_on f i xs) x q))
    (λ (q : bit_at x j ≡ 1).
    kernel_on-set f i (kernel_on f j xs) x p
    ∙ ap (λ (r : ℕ × ℕ). record_of r.1)
    (same_pair f (word_on-set f j xs y keeps (y_j ∙ q)) (word_on-set f j xs x keeps q))
    ∙ ap record_of (law_of f xs (flip y j) y z x law).fourth
    ∙ ap (λ (r : ℕ × ℕ). record_of r.1)
    (sym (same_pair f
    (word_on-set f i xs z keeps (z_i ∙ p) ∙ ap (λ (r : ℕ × ℕ). r.1) (same_pair f (sym far) refl))
    (word_on-set f i xs x keeps p)))
    ∙ sym (kernel_on-set f j (kernel_on f i xs) x q)))

-- ---- as code reckons it

-- a digit of three turned
pub flip_short : (t j : ℕ) → t < 8 → j < 3 → bit_xor t (1 * 2 ^ j % 18446744073709551616) < 8
flip_short t j short digit =
    subst (λ (c : ℕ). bit_xor t c < 8) (sym (one_shl j 64 (omega arith))) (xor_lt 3 t (2 ^ j) short (pow_below j 3 digit))

-- the first number of a pair, at a clear digit
pub number_pair-clear : (f : ℕ → ℕ → ℕ × ℕ) (j t : ℕ) (v : ℕ → ℕ) → j < 3
    → v t < 2 ^ 64 → v (bit_xor t (1 * 2 ^ j % 18446744073709551616)) < 2 ^ 64 → bit_at t j ≡ 0
    → (r : ℕ × ℕ) → r ≡ f (v t) (v (bit_xor t (1 * 2 ^ j % 18446744073709551616)))
    → record_of r.0 ≡ kernel_on f j (λ k. record_of (v k)) t
number_pair-clear f j t v digit here there clear r made =
    let at : bit_xor t (1 * 2 ^ j % 18446744073709551616) ≡ flip t j = ap (bit_xor t) (one_shl j 64 (omega arith)) in
    ap (λ (r : ℕ × ℕ). record_of r.0) (made ∙ sym (same_pair f (word_back (v t) here)
    (word_back (v (flip t j)) (subst (λ (c : ℕ). v c < 2 ^ 64) at there) ∙ ap v (sym at))))
    ∙ sym (kernel_on-clear f j (λ k. record_of (v k)) t clear)

-- the second, at one that is not clear
pub number_pair-set : (f : ℕ → ℕ → ℕ × ℕ) (j t : ℕ) (v : ℕ → ℕ) → j < 3
    → v t < 2 ^ 64 → v (bit_xor t (1 * 2 ^ j % 18446744073709551616)) < 2 ^ 64 → bit_at t j ≢ 0
    → (r : ℕ × ℕ) → r ≡ f (v (bit_xor t (1 * 2 ^ j % 18446744073709551616))) (v t)
    → record_of r.1 ≡ kernel_on f j (λ k. record_of (v k)) t
number_pair-set f j t v digit here there other r made =
    let at : bit_xor t (1 * 2 ^ j % 18446744073709551616) ≡ flip t j = ap (bit_xor t) (one_shl j 64 (omega arith)) in
    let set : bit_at t j ≡ 1 = (let b : bit_at t j < 2 = bit_at-lt t j in omega arith) in
    ap (λ (r : ℕ × ℕ). record_of r.1) (made ∙ sym (same_pair f
    (word_back (v (flip t j)) (subst (λ (c : ℕ). v c < 2 ^ 64) at there) ∙ ap v (sym at)) (word_back (v t) here)))
    ∙ sym (kernel_on-set f j (λ k. record_of (v k)) t set)

-- pairs of equal numbers
pub same_two : {a b c d : ℕ} → a ≡ c → b ≡ d → ◌≡◌ {A = ℕ × ℕ} (a, b) (c, d)
same_two p q = cc

-- a number that was read from a record
pub word_again : (v : ℕ) (bytes : List ℕ) → v ≡ word bytes → word (record_of v) ≡ word bytes
word_again v bytes same = ap (λ (c : ℕ). word (record_of c)) same ∙ word_back (word bytes) (word_below bytes)
