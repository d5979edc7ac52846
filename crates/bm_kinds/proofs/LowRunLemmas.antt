-- Pairings on the lowest bits of a set.
use Rattle.std.proofs.Common.{ℕ, zero, suc, ◌≡◌, ◌+◌, ◌-◌, ◌^◌, ◌<◌, ◌≤◌, List, bit_xor, refl, sym, ap, ◌∙◌, arith, ⊎_elim}
use Rattle.std.specs.Int.{bit_at}
use Rattle.std.proofs.lemmas.Bool.{cases_lt}
use Rattle.std.proofs.lemmas.Nat.{pow_below}
use Rattle.std.proofs.lemmas.Nat.Bits.{bit_at-lt, bit_at_xor, bit_at_ones, bit_at_ones_above}
use Rattle.bm_base.specs.Records.{SameRecords}
use Rattle.bm_base.specs.Butterfly.{butterflies}
use Rattle.bm_butter.specs.Kernels.{WalshBits, pairing}
use Rattle.bm_butter.specs.OnBits.{kernel_on, kernel_over, kernel_along, kernel_digits}
use Rattle.bm_butter.proofs.SignLemmas.{sign_digits}
use Rattle.bm_kinds.specs.Parts.{IsPart, IsDone}
use Rattle.bm_kinds.proofs.OverLemmas.{kernel_over-left, kernel_over-taken, kernel_over-bits}

-- on the bits below m of those below low
over_below : (f : ℕ → ℕ → ℕ × ℕ) (low m : ℕ) (xs : ℕ → List ℕ) → m ≤ low → kernel_over f m (2 ^ low - 1) xs ≡ kernel_digits f m xs
unfolding kernel_over kernel_along
over_below f low zero xs fewer = refl
over_below f low (suc i) xs fewer =
    kernel_over-taken f i (2 ^ low - 1) xs (bit_at_ones low i (omega arith)) ∙ ap (kernel_on f i) (over_below f low i xs (omega arith))

-- and none above
over_past : (f : ℕ → ℕ → ℕ × ℕ) (low j : ℕ) (xs : ℕ → List ℕ) → kernel_over f (low + j) (2 ^ low - 1) xs ≡ kernel_digits f low xs
over_past f low zero xs = ap (λ (c : ℕ). kernel_over f c (2 ^ low - 1) xs) (let e : low + 0 ≡ low = omega arith in e)
    ∙ over_below f low low xs (omega arith)
over_past f low (suc j) xs =
    ap (λ (c : ℕ). kernel_over f c (2 ^ low - 1) xs) (let e : low + suc j ≡ suc (low + j) = omega arith in e)
    ∙ kernel_over-left f (low + j) (2 ^ low - 1) xs (bit_at_ones_above low (low + j) (omega arith))
    ∙ over_past f low j xs

-- on all bits below low of numbers of n bits
pub kernel_over-low : (f : ℕ → ℕ → ℕ × ℕ) (n low : ℕ) (xs : ℕ → List ℕ) → low ≤ n
    → kernel_over f n (2 ^ low - 1) xs ≡ kernel_digits f low xs
kernel_over-low f n low xs fewer =
    ap (λ (c : ℕ). kernel_over f c (2 ^ low - 1) xs) (let e : n ≡ low + (n - low) = omega arith in e) ∙ over_past f low (n - low) xs

-- the pairing of sums and differences is there that of the butterflies
pub kernel_over-signs : (n low set : ℕ) (xs : ℕ → List ℕ) → set ≡ 2 ^ low - 1 → set < 2 ^ n
    → kernel_over (pairing WalshBits) n set xs ≡ butterflies low xs
kernel_over-signs n low set xs is short =
    let inside : low ≤ n = ⊎_elim
    (λ (p : n < low). let more : 2 ^ n < 2 ^ low = pow_below n low p in absurd (omega arith)) (λ (p : low ≤ n). p) (cases_lt n low) in
    ap (λ (c : ℕ). kernel_over (pairing WalshBits) n c xs) is ∙ kernel_over-low (pairing WalshBits) n low xs inside ∙ sign_digits low xs

-- a set without a run of its bits from bit 0 on is a part of it
pub IsPart-run : (set low : ℕ) → ((k : ℕ) → k < low → bit_at set k ≡ 1) → IsPart (bit_xor set (2 ^ low - 1)) set
IsPart-run set low held k =
    let split = bit_at_xor set (2 ^ low - 1) k in
    let range : bit_at set k < 2 = bit_at-lt set k in
    ⊎_elim
    (λ (p : k < low). let one = held k p in let ones = bit_at_ones low k p in omega arith)
    (λ (p : low ≤ k). let none = bit_at_ones_above low k p in omega arith)
    (cases_lt k low)

-- the bits of the run, where the rest is left
pub IsDone-run : (f : ℕ → ℕ → ℕ × ℕ) (n set low : ℕ) (xs now : ℕ → List ℕ) → low ≤ n
    → SameRecords (2 ^ n) now (kernel_digits f low xs) → IsDone f n set (bit_xor set (2 ^ low - 1)) xs now
IsDone-run f n set low xs now fewer done x short =
    let ones = 2 ^ low - 1 in
    done x short
    ∙ ap (λ (ys : ℕ → List ℕ). ys x) (sym (kernel_over-low f n low xs fewer)
    ∙ sym (kernel_over-bits f n (bit_xor set (bit_xor set ones)) ones xs
    (λ k l.
    let inner = bit_at_xor set ones k in
    let outer = bit_at_xor set (bit_xor set ones) k in
    let range : bit_at set k < 2 = bit_at-lt set k in
    let range_ones : bit_at ones k < 2 = bit_at-lt ones k in
    omega arith)))
