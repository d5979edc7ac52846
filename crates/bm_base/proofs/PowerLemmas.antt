-- Powers of two.
use Rattle.std.proofs.Common.{◌≡◌, ◌≢◌, ℕ, suc, ◌+◌, ◌-◌, ◌/◌, ◌^◌, ◌<◌, ◌≤◌, sym, ap, ◌∙◌, subst, arith, ⊎_elim}
use Rattle.std.specs.Int.{bit_at}
use Rattle.std.proofs.lemmas.Bool.{cases_eq}
use Rattle.std.proofs.lemmas.Nat.{shr_below}
use Rattle.std.proofs.lemmas.Nat.Bits.{bit_at-pow_same, bit_at-pow_other}
use Rattle.std.proofs.Math.Nat.{two-pow-succ}
use Rattle.std.proofs.Math.Pow.{pow_mono}

-- the next one
pub two_halves : (k : ℕ) → 2 ^ (k + 1) ≡ 2 ^ k + 2 ^ k
two_halves k = ap (λ c. 2 ^ c) (let e : k + 1 ≡ suc k = omega arith in e) ∙ two-pow-succ k

-- each has one exponent
pub same_exponent : (i j : ℕ) → 2 ^ i ≡ 2 ^ j → i ≡ j
same_exponent i j same =
    ⊎_elim
    (λ (p : i ≡ j). p)
    (λ (p : i ≢ j).
    let one : bit_at (2 ^ i) i ≡ 1 = bit_at-pow_same i in
    let none : bit_at (2 ^ i) i ≡ 0 = ap (λ c. bit_at c i) same ∙ bit_at-pow_other j i p in
    absurd (omega arith))
    (cases_eq i j)

-- a number below one is below each that is no less
pub below_wider : (x d k : ℕ) → x < 2 ^ d → d ≤ k → x < 2 ^ k
below_wider x d k small wide = let p : 2 ^ d ≤ 2 ^ k = pow_mono {i = d} {j = k} wide in omega arith

-- a number of n bits without its lowest m
pub cut_below : (n m x : ℕ) → m ≤ n → x < 2 ^ n → x / 2 ^ m < 2 ^ (n - m)
cut_below n m x few small =
    let e : (n - m) + m ≡ n = omega arith in shr_below x (n - m) m (subst (λ k. x < 2 ^ k) (sym e) small)
