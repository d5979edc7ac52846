-- Sets of bits, of which some are taken.
use Rattle.std.proofs.Common.{ℕ, zero, suc, ◌≡◌, ◌≢◌, ◌+◌, ◌*◌, ◌/◌, ◌%◌, ◌^◌, ◌<◌, ◌≤◌, List, bit_and, bit_or, bit_xor, count_ones, refl}
use Rattle.std.proofs.Common.{sym, ap, ◌∙◌}
use Rattle.std.proofs.Common.{arith, ⊎_elim, w64}
use Rattle.std.specs.Int.{bit_at, trailing_zeros}
use Rattle.std.specs.Int.Bits.{xor_self, xor_zero_r}
use Rattle.std.specs.Int.Count.{ones_step}
use Rattle.std.proofs.lemmas.Bool.{cases_eq, cases_lt}
use Rattle.std.proofs.lemmas.Nat.{ones_le_self, and_le_r}
use Rattle.std.proofs.lemmas.Nat.Bits.{bit_at-lt, bit_at-zero, bit_at-suc, bit_at_lowest, bit_at_and, bit_at_or, bit_at_xor, bit_at_above}
use Rattle.std.proofs.lemmas.Nat.Bits.{same_from_bits, bit_at-trailing_zeros}
use Rattle.std.proofs.Math.Nat.{pow-suc}
use Rattle.bm_base.specs.Records.{SameRecords}
use Rattle.bm_gf2.proofs.VectorLemmas.{xor_cancel_right}
use Rattle.bm_butter.proofs.PairedLemmas.{set_by_xor}
use Rattle.bm_butter.specs.Pairings.{KeepsWords, Commutes}
use Rattle.bm_butter.specs.OnBits.{kernel_over, set_of, AreBits}
use Rattle.bm_kinds.specs.Lowest.{TakesBits}
use Rattle.bm_kinds.specs.Parts.{IsPart, IsDone}
use Rattle.bm_butter.proofs.OnBitLemmas.{flip, flip_set, flip_other}
use Rattle.bm_kinds.proofs.OverLemmas.{kernel_over-bits, kernel_over-none, kernel_over-same, kernel_along-over, kernel_along-set}
use Rattle.bm_kinds.proofs.OverLemmas.{set_of-some, put_same, put_other}

-- ---- ones

-- a bit more, a one more
ones_added : (i x : ℕ) → bit_at x i ≡ 0 → count_ones (x + 2 ^ i) ≡ count_ones x + 1
ones_added zero x clear =
    let low : x % 2 ≡ 0 = sym (bit_at_lowest x) ∙ clear in
    let half : (x + 1) / 2 ≡ x / 2 = omega arith in
    let more = ones_step (x + 1) in
    let less = ones_step x in
    let same : count_ones ((x + 1) / 2) ≡ count_ones (x / 2) = ap count_ones half in
    (let e : count_ones (x + 1) ≡ count_ones x + 1 = omega arith in e)
ones_added (suc i) x clear =
    let two : 2 ^ suc i ≡ 2 ^ i * 2 = pow-suc 2 i in
    let half : (x + 2 ^ suc i) / 2 ≡ x / 2 + 2 ^ i = omega arith in
    let low : (x + 2 ^ suc i) % 2 ≡ x % 2 = omega arith in
    let before : count_ones (x / 2 + 2 ^ i) ≡ count_ones (x / 2) + 1 = ones_added i (x / 2) (sym (bit_at-suc x i) ∙ clear) in
    let more = ones_step (x + 2 ^ suc i) in
    let less = ones_step x in
    let same : count_ones ((x + 2 ^ suc i) / 2) ≡ count_ones (x / 2) + 1 = ap count_ones half ∙ before in
    omega arith

-- a bit put in by turning it
pub ones_flipped : (i x : ℕ) → bit_at x i ≡ 0 → count_ones (flip x i) ≡ count_ones x + 1
ones_flipped i x clear = ap count_ones (sym (set_by_xor i x clear)) ∙ ones_added i x clear

-- a bit taken out
pub ones_taken : (i x : ℕ) → bit_at x i ≡ 1 → count_ones (flip x i) + 1 ≡ count_ones x
ones_taken i x set = sym (ones_flipped i (flip x i) (flip_set x i set)) ∙ ap count_ones (xor_cancel_right x (2 ^ i))

-- ---- bits taken out of a set

pub TakesBits-none : (set : ℕ) (bits : ℕ → ℕ) → TakesBits set 0 bits set
unfolding set_of
TakesBits-none set bits = record {
  apart = λ i j less below. absurd (omega arith);
  held = λ j below. absurd (omega arith);
  parts = λ k. let z = bit_at-zero k in omega arith;
  ones = omega arith;
}

-- the same bits make the same set
set_of-ext : (count : ℕ) (bits more : ℕ → ℕ) → ((j : ℕ) → j < count → more j ≡ bits j) → set_of more count ≡ set_of bits count
unfolding set_of
set_of-ext zero bits more same = refl
set_of-ext (suc j) bits more same = ap (bit_or (set_of more j)) (ap (λ (c : ℕ). 2 ^ c) (same j (omega arith)))
    ∙ ap (λ (c : ℕ). bit_or c (2 ^ bits j)) (set_of-ext j bits more (λ i l. same i (omega arith)))

-- a bit of the rest is not in the list
rest_apart : (set count rest i j : ℕ) (bits : ℕ → ℕ) → TakesBits set count bits rest → bit_at rest i ≡ 1 → j < count → bits j ≢ i
rest_apart set count rest i j bits takes one below same =
    let put = set_of-some bits count j below in
    let here : bit_at (set_of bits count) i ≡ 1 = ap (bit_at (set_of bits count)) (sym same) ∙ put in
    let parts = takes.parts i in
    let range : bit_at set i < 2 = bit_at-lt set i in
    absurd (omega arith)

-- one bit more
pub TakesBits-more : (set j rest i : ℕ) (bits more : ℕ → ℕ) → TakesBits set j bits rest → bit_at rest i ≡ 1
    → ((k : ℕ) → k < j → more k ≡ bits k) → more j ≡ i → TakesBits set (j + 1) more (flip rest i)
unfolding set_of
TakesBits-more set j rest i bits more takes one same last =
    let next : suc j ≡ j + 1 = omega arith in
    let before : set_of more j ≡ set_of bits j = set_of-ext j bits more same in
    let whole : set_of more (j + 1) ≡ bit_or (set_of bits j) (2 ^ i) = ap (set_of more) (sym next)
    ∙ ap (λ (c : ℕ). bit_or c (2 ^ more j)) before ∙ ap (λ (c : ℕ). bit_or (set_of bits j) (2 ^ c)) last in
    let here = takes.parts i in
    let range : bit_at set i < 2 = bit_at-lt set i in
    record {
      apart = λ k l less below. ⊎_elim
          (λ (p : l ≡ j). λ (e : more k ≡ more l). rest_apart set j rest i k bits takes one (omega arith)
          (sym (same k (omega arith)) ∙ e ∙ ap more p ∙ last))
          (λ (p : l ≢ j). λ (e : more k ≡ more l). takes.apart k l less (omega arith)
          (sym (same k (omega arith)) ∙ e ∙ same l (omega arith)))
          (cases_eq l j);
      held = λ k below. ⊎_elim
          (λ (p : k ≡ j). ap (bit_at set) (ap more p ∙ last) ∙ (let e : bit_at set i ≡ 1 = omega arith in e))
          (λ (p : k ≢ j). ap (bit_at set) (same k (omega arith)) ∙ takes.held k (omega arith)) (cases_eq k j);
      parts = λ k. ⊎_elim
          (λ (p : k ≡ i).
          let put : bit_at (set_of more (j + 1)) k ≡ 1 = ap (bit_at (set_of more (j + 1))) p ∙ ap (λ (c : ℕ). bit_at c i) whole
          ∙ put_same (set_of bits j) i in
          let out : bit_at (flip rest i) k ≡ 0 = ap (bit_at (flip rest i)) p ∙ flip_set rest i one in
          let at : bit_at set k ≡ bit_at set i = ap (bit_at set) p in
          omega arith)
          (λ (p : k ≢ i).
          let put : bit_at (set_of more (j + 1)) k ≡ bit_at (set_of bits j) k = ap (λ (c : ℕ). bit_at c k) whole
          ∙ put_other (set_of bits j) i k p in
          let out = flip_other rest i k p in
          let at = takes.parts k in
          omega arith)
          (cases_eq k i);
      ones = let e = ones_taken i rest one in let h = takes.ones in omega arith;
    }

-- ---- parts

-- a set is a part of itself, and nothing of it is done
pub IsPart-all : (set : ℕ) → IsPart set set
IsPart-all set k = omega arith

pub IsDone-none : (f : ℕ → ℕ → ℕ × ℕ) (n set : ℕ) (xs : ℕ → List ℕ) → IsDone f n set set xs xs
IsDone-none f n set xs x short = sym (ap (λ (ys : ℕ → List ℕ). ys x)
    (ap (λ (c : ℕ). kernel_over f n c xs) (xor_self set) ∙ kernel_over-none f n xs))

-- what is done where nothing is left
pub IsDone-all : (f : ℕ → ℕ → ℕ × ℕ) (n set left : ℕ) (xs now : ℕ → List ℕ) → left ≡ 0 → IsDone f n set left xs now
    → SameRecords (2 ^ n) now (kernel_over f n set xs)
IsDone-all f n set left xs now none done x short = done x short
    ∙ ap (λ (ys : ℕ → List ℕ). ys x) (ap (λ (c : ℕ). kernel_over f n c xs) (ap (bit_xor set) none ∙ xor_zero_r set))

-- a part is no larger
pub IsPart-below : (part set n : ℕ) → IsPart part set → set < 2 ^ n → part < 2 ^ n
IsPart-below part set n is short =
    let same : bit_and part set ≡ part = same_from_bits (bit_and part set) part
    (λ k. let p = is k in let e = bit_at_and part set k in omega arith) in
    let less = and_le_r part set in
    omega arith

pub IsPart-trans : (a b c : ℕ) → IsPart a b → IsPart b c → IsPart a c
IsPart-trans a b c first second k = let p = first k in let q = second k in omega arith

-- what is left after some bits are taken is a part
pub TakesBits-part : (set count rest : ℕ) (bits : ℕ → ℕ) → TakesBits set count bits rest → IsPart rest set
TakesBits-part set count rest bits takes k = let e = takes.parts k in omega arith

-- the bits that are taken are bits of n
pub TakesBits-bits : (n set count rest : ℕ) (bits : ℕ → ℕ) → set < 2 ^ n → TakesBits set count bits rest → AreBits n count bits
TakesBits-bits n set count rest bits short takes = record {
  below = λ j l. ⊎_elim (λ (p : bits j < n). p)
      (λ (p : n ≤ bits j). let none = bit_at_above set n (bits j) short p in let one = takes.held j l in absurd (omega arith))
      (cases_lt (bits j) n);
  apart = takes.apart;
}

-- some bits more
pub IsDone-more : (f : ℕ → ℕ → ℕ × ℕ) (n set left rest count : ℕ) (bits : ℕ → ℕ) (xs old new : ℕ → List ℕ) → KeepsWords f → Commutes f
    → left < 2 ^ n → IsPart left set → TakesBits left count bits rest
    → SameRecords (2 ^ n) new (kernel_over f n (set_of bits count) old)
    → IsDone f n set left xs old → IsDone f n set rest xs new
IsDone-more f n set left rest count bits xs old new keeps law short part takes made done x below =
    let all = set_of bits count in
    let before = bit_xor set left in
    let are = TakesBits-bits n left count rest bits short takes in
    made x below
    ∙ kernel_over-same f n n all old (kernel_over f n before xs) (omega arith) done x below
    ∙ ap (λ (ys : ℕ → List ℕ). ys x)
    (sym (kernel_along-set f n count bits (kernel_over f n before xs) keeps law are)
    ∙ kernel_along-over f n before count bits xs keeps law are
    (λ j l. let one = takes.held j l in let p = part (bits j) in let r : bit_at set (bits j) < 2 = bit_at-lt set (bits j) in
    let e = bit_at_xor set left (bits j) in omega arith)
    ∙ kernel_over-bits f n (bit_or before all) (bit_xor set rest) xs
    (λ k l.
    let parts = takes.parts k in
    let p = part k in
    let r : bit_at set k < 2 = bit_at-lt set k in
    let s : bit_at all k < 2 = bit_at-lt all k in
    let t : bit_at rest k < 2 = bit_at-lt rest k in
    let d = bit_at_xor set left k in
    let e = bit_at_xor set rest k in
    let o = bit_at_or before all k in
    omega arith))

-- the lowest bit of a set that has some
pub some_bit : (x : ℕ) → 0 < count_ones x → x < 2 ^ 64 → (trailing_zeros w64 x < 64) × (bit_at x (trailing_zeros w64 x) ≡ 1)
some_bit x some short =
    let h = bit_at-trailing_zeros w64 x (let e = ones_le_self x in omega arith) short in
    (h.0, h.1)
