-- Pairings on bits of addresses: blocks of records by themselves, and two bits at once.
use Rattle.std.proofs.Common.{ℕ, zero, suc, ◌≡◌, ◌≢◌, ◌+◌, ◌*◌, ◌^◌, ◌<◌, ◌≤◌, List, bit_xor, refl, sym, ap, ◌∙◌, arith}
use Rattle.std.specs.Int.{bit_at}
use Rattle.std.specs.Int.Bits.{xor_shifted, xor_assoc}
use Rattle.std.proofs.lemmas.Nat.{xor_lt, pow_below}
use Rattle.std.proofs.lemmas.Nat.Bits.{bit_at_cat_low}
use Rattle.bm_base.specs.Records.{SameRecords}
use Rattle.bm_base.specs.Butterfly.{record_of}
use Rattle.bm_base.proofs.ButterflyLemmas.{set_bit}
use Rattle.bm_gf2.proofs.VectorLemmas.{xor_cancel_right}
use Rattle.bm_butter.specs.Groups.{pick}
use Rattle.bm_butter.specs.OnBits.{word, kernel_on, kernel_along, kernel_digits}
use Rattle.bm_butter.proofs.OnBitLemmas.{flip, flip_swap, flip_other, flip_clear, flip_below, kernel_on-clear, kernel_on-set}
use Rattle.bm_butter.proofs.OnBitLemmas.{kernel_on-same, kernel_on-words}
use Rattle.bm_butter.proofs.PairedLemmas.{set_by_xor}
use Rattle.bm_butter.proofs.FourLemmas.{by_four}

-- lists with the same records are the same
pub same_lists : (xs ys : ℕ → List ℕ) → ((x : ℕ) → xs x ≡ ys x) → xs ≡ ys
same_lists xs ys same = λ i x. same x i

-- ---- one bit

-- the first number of a pair
pub kernel_on-first : (f : ℕ → ℕ → ℕ × ℕ) (i : ℕ) (xs : ℕ → List ℕ) (x : ℕ) → bit_at x i ≡ 0
    → kernel_on f i xs x ≡ record_of (f (word (xs x)) (word (xs (x + 2 ^ i)))).0
kernel_on-first f i xs x clear =
    kernel_on-clear f i xs x clear ∙ ap (λ (y : ℕ). record_of (f (word (xs x)) (word (xs y))).0) (sym (set_by_xor i x clear))

-- the second
pub kernel_on-second : (f : ℕ → ℕ → ℕ × ℕ) (i : ℕ) (xs : ℕ → List ℕ) (x : ℕ) → bit_at x i ≡ 0
    → kernel_on f i xs (x + 2 ^ i) ≡ record_of (f (word (xs x)) (word (xs (x + 2 ^ i)))).1
kernel_on-second f i xs x clear =
    let back : flip (x + 2 ^ i) i ≡ x = ap (λ (y : ℕ). flip y i) (set_by_xor i x clear) ∙ xor_cancel_right x (2 ^ i) in
    kernel_on-set f i xs (x + 2 ^ i) (set_bit x i clear)
    ∙ ap (λ (y : ℕ). record_of (f (word (xs y)) (word (xs (x + 2 ^ i)))).1) back

-- ---- blocks

-- a bit of a number in a block
flip_block : (m a t i : ℕ) → t < 2 ^ m → i < m → flip (a * 2 ^ m + t) i ≡ a * 2 ^ m + flip t i
flip_block m a t i short below =
    ap (λ (c : ℕ). bit_xor c (2 ^ i)) (sym (xor_shifted a m t short)) ∙ xor_assoc (a * 2 ^ m) t (2 ^ i)
    ∙ xor_shifted a m (flip t i) (flip_below m t i short below)

-- a pairing on a bit within aligned blocks of 2 ^ m sees one block alone
pub kernel_on-block : (f : ℕ → ℕ → ℕ × ℕ) (i m a : ℕ) (xs ys : ℕ → List ℕ) → i < m
    → ((t : ℕ) → t < 2 ^ m → xs (a * 2 ^ m + t) ≡ ys t)
    → (t : ℕ) → t < 2 ^ m → kernel_on f i xs (a * 2 ^ m + t) ≡ kernel_on f i ys t
kernel_on-block f i m a xs ys below same t short =
    kernel_on-same f i i xs ys (a * 2 ^ m + t) t (bit_at_cat_low a m t i below) (ap word (same t short))
    (ap (λ (c : ℕ). word (xs c)) (flip_block m a t i short below) ∙ ap word (same (flip t i) (flip_below m t i short below)))

-- all digits of a block
pub kernel_digits-block : (f : ℕ → ℕ → ℕ × ℕ) (low m a : ℕ) (xs ys : ℕ → List ℕ) → low ≤ m
    → ((t : ℕ) → t < 2 ^ m → xs (a * 2 ^ m + t) ≡ ys t)
    → (t : ℕ) → t < 2 ^ m → kernel_digits f low xs (a * 2 ^ m + t) ≡ kernel_digits f low ys t
unfolding kernel_along
kernel_digits-block f zero m a xs ys fewer same t short = same t short
kernel_digits-block f (suc i) m a xs ys fewer same t short =
    kernel_on-block f i m a (kernel_digits f i xs) (kernel_digits f i ys) (omega arith)
    (kernel_digits-block f i m a xs ys (omega arith) same) t short

-- the records in the range decide
pub kernel_digits-same : (f : ℕ → ℕ → ℕ × ℕ) (low n : ℕ) (xs ys : ℕ → List ℕ) → low ≤ n → SameRecords (2 ^ n) xs ys
    → SameRecords (2 ^ n) (kernel_digits f low xs) (kernel_digits f low ys)
unfolding kernel_along
kernel_digits-same f zero n xs ys fewer same x short = same x short
kernel_digits-same f (suc i) n xs ys fewer same x short =
    kernel_on-words f i n (kernel_digits f i xs) (kernel_digits f i ys) (omega arith)
    (λ y l. ap word (kernel_digits-same f i n xs ys (omega arith) same y l)) x short

-- no digit
pub kernel_digits-start : (f : ℕ → ℕ → ℕ × ℕ) (xs : ℕ → List ℕ) (x : ℕ) → kernel_digits f 0 xs x ≡ xs x
unfolding kernel_along
kernel_digits-start f xs x = refl

-- ---- two bits

-- the four numbers that differ from y in bits i and j
abbrev pub four : ℕ → ℕ → ℕ → ℕ → ℕ
four i j y t = pick y (flip y i) (flip y j) (flip (flip y i) j) t

-- bit i of one of four is its first digit, bit j the second
pub four_first : (i j y : ℕ) → i ≢ j → bit_at y i ≡ 0 → (t : ℕ) → t < 4 → bit_at (four i j y t) i ≡ bit_at t 0
unfolding pick
four_first i j y differ clear = by_four (λ t. bit_at (four i j y t) i ≡ bit_at t 0)
    clear (flip_clear y i clear) (flip_other y j i differ ∙ clear) (flip_other (flip y i) j i differ ∙ flip_clear y i clear)

pub four_second : (i j y : ℕ) → i ≢ j → bit_at y j ≡ 0 → (t : ℕ) → t < 4 → bit_at (four i j y t) j ≡ bit_at t 1
unfolding pick
four_second i j y differ clear =
    let other : bit_at (flip y i) j ≡ 0 = flip_other y i j (λ e. differ (sym e)) ∙ clear in
    by_four (λ t. bit_at (four i j y t) j ≡ bit_at t 1) clear other (flip_clear y j clear) (flip_clear (flip y i) j other)

-- a digit turned is its bit turned
flip_first : (i j y t : ℕ) → t < 4 → flip (four i j y t) i ≡ four i j y (flip t 0)
unfolding pick
flip_first i j y = by_four (λ t. flip (four i j y t) i ≡ four i j y (flip t 0))
    refl (xor_cancel_right y (2 ^ i)) (sym (flip_swap y i j))
    (ap (λ (c : ℕ). flip c i) (flip_swap y i j) ∙ xor_cancel_right (flip y j) (2 ^ i))

flip_second : (i j y t : ℕ) → t < 4 → flip (four i j y t) j ≡ four i j y (flip t 1)
unfolding pick
flip_second i j y = by_four (λ t. flip (four i j y t) j ≡ four i j y (flip t 1))
    refl refl (xor_cancel_right y (2 ^ j)) (xor_cancel_right (flip y i) (2 ^ j))

-- two bits of the numbers are both digits of one of four
pub two_on : (f : ℕ → ℕ → ℕ × ℕ) (i j y : ℕ) (xs : ℕ → List ℕ) → i ≢ j → bit_at y i ≡ 0 → bit_at y j ≡ 0
    → (t : ℕ) → t < 4 → kernel_on f j (kernel_on f i xs) (four i j y t) ≡ kernel_digits f 2 (λ s. xs (four i j y s)) t
unfolding kernel_along
two_on f i j y xs differ clear_i clear_j t below =
    let g = λ (s : ℕ). xs (four i j y s) in
    let inner : (s : ℕ) → s < 4 → kernel_on f i xs (four i j y s) ≡ kernel_on f 0 g s = λ s l.
    kernel_on-same f i 0 xs g (four i j y s) s (four_first i j y differ clear_i s l) refl
    (ap (λ (c : ℕ). word (xs c)) (flip_first i j y s l)) in
    kernel_on-same f j 1 (kernel_on f i xs) (kernel_on f 0 g) (four i j y t) t (four_second i j y differ clear_j t below)
    (ap word (inner t below))
    (ap (λ (c : ℕ). word (kernel_on f i xs c)) (flip_second i j y t below)
    ∙ ap word (inner (flip t 1) (xor_lt 2 t (2 ^ 1) below (pow_below 1 2 (omega arith)))))
