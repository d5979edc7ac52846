-- Rotations of bits, and transpositions.
use Rattle.std.proofs.Common.{ℕ, ◌≡◌, ◌+◌, ◌-◌, ◌*◌, ◌%◌, ◌^◌, ◌<◌, ◌≤◌, sym, ap, ◌∙◌, subst, arith, ⊎_elim}
use Rattle.std.specs.Int.{bit_at}
use Rattle.std.proofs.lemmas.Bool.{cases_lt}
use Rattle.std.proofs.lemmas.Nat.{pow-add, mul-add-lt}
use Rattle.std.proofs.Math.Nat.{mod-eq_of_lt, add-mod_right}
use Rattle.std.proofs.lemmas.Nat.Bits.{bit_at_cat_low, bit_at_cat_high, same_from_bits_below}

-- each source bit is a target bit
pub rotation_source : (n by s : ℕ) → by < n → s < n → (i : ℕ) × (i < n) × ((i + by) % n ≡ s)
rotation_source n by s few inside =
    ⊎_elim
    (λ (p : s < by). (
      s + n - by,
      (let e : s + n - by < n = omega arith in e),
      ap (λ (c : ℕ). c % n) (let e : s + n - by + by ≡ s + n = omega arith in e) ∙ add-mod_right s n ∙ mod-eq_of_lt inside,
    ))
    (λ (p : by ≤ s). (
      s - by,
      (let e : s - by < n = omega arith in e),
      ap (λ (c : ℕ). c % n) (let e : s - by + by ≡ s = omega arith in e) ∙ mod-eq_of_lt inside,
    ))
    (cases_lt s by)

-- two parts, of p and q bits, fit n bits
parts_fit : (n p q i j : ℕ) → p + q ≡ n → i < 2 ^ p → j < 2 ^ q → j * 2 ^ p + i < 2 ^ n
parts_fit n p q i j whole high low =
    subst (λ (c : ℕ). j * 2 ^ p + i < c) (sym (pow-add 2 p q) ∙ ap (λ (c : ℕ). 2 ^ c) whole) (mul-add-lt j (2 ^ p) i (2 ^ q) low high)

-- bit t of `j * 2 ^ p + i` is bit t + q mod n of `i * 2 ^ q + j`
transposed_bit : (n p q i j t : ℕ) → p + q ≡ n → i < 2 ^ p → j < 2 ^ q → t < n
    → bit_at (i * 2 ^ q + j) ((t + q) % n) ≡ bit_at (j * 2 ^ p + i) t
transposed_bit n p q i j t whole high low inside =
    ⊎_elim
    (λ (s : t < p).
    ap (bit_at (i * 2 ^ q + j)) (mod-eq_of_lt (let e : t + q < n = omega arith in e))
    ∙ bit_at_cat_high i q j (t + q) low (let e : q ≤ t + q = omega arith in e)
    ∙ ap (bit_at i) (let e : t + q - q ≡ t = omega arith in e)
    ∙ sym (bit_at_cat_low j p i t s))
    (λ (s : p ≤ t).
    let turned : (t + q) % n ≡ t - p =
    ap (λ (c : ℕ). c % n) (let e : t + q ≡ t - p + n = omega arith in e) ∙ add-mod_right (t - p) n
    ∙ mod-eq_of_lt (let e : t - p < n = omega arith in e) in
    ap (bit_at (i * 2 ^ q + j)) turned
    ∙ bit_at_cat_low i q j (t - p) (let e : t - p < q = omega arith in e)
    ∙ sym (bit_at_cat_high j p i t high s))
    (cases_lt t p)

-- so a number with the bits of `i * 2 ^ q + j` rotated by q is `j * 2 ^ p + i`
pub transposed_value : (n p q i j y : ℕ) → p + q ≡ n → i < 2 ^ p → j < 2 ^ q → y < 2 ^ n
    → ((t : ℕ) → t < n → bit_at y t ≡ bit_at (i * 2 ^ q + j) ((t + q) % n)) → y ≡ j * 2 ^ p + i
transposed_value n p q i j y whole high low below bits =
    same_from_bits_below n y (j * 2 ^ p + i) below (parts_fit n p q i j whole high low)
    (λ t inside. bits t inside ∙ transposed_bit n p q i j t whole high low inside)

-- and the number is an address
pub transposed_source : (n p q i j : ℕ) → p + q ≡ n → i < 2 ^ p → j < 2 ^ q → i * 2 ^ q + j < 2 ^ n
transposed_source n p q i j whole high low = parts_fit n q p j i (let e : q + p ≡ n = omega arith in e) low high
