-- Pairings on a bit that are made pair by pair. The pair of a number without the bit is that number and the one with the bit.
use Rattle.std.proofs.Common.{◌≡◌, ◌≢◌, ℕ, ◌+◌, ◌-◌, ◌*◌, ◌/◌, ◌%◌, ◌^◌, ◌<◌, ◌≤◌, suc, List, refl, sym, ap, ◌∙◌, subst, arith, ⊎_elim}
use Rattle.std.specs.Int.{bit_at}
use Rattle.std.proofs.lemmas.Bool.{cases_eq, cases_lt}
use Rattle.std.proofs.lemmas.Nat.Bits.{bit_at-lt}
use Rattle.std.proofs.Math.Nat.{add-mul, mod-lt, mod-add-div', mul-le-mul_right}
use Rattle.std.proofs.lemmas.Nat.{pow_pos}
use Rattle.bm_base.specs.Records.{SameRecords}
use Rattle.bm_base.specs.Butterfly.{record_of}
use Rattle.bm_base.proofs.ButterflyLemmas.{set_bit, set_below, without_bit}
use Rattle.bm_butter.specs.Records.{record_in_order}
use Rattle.bm_butter.specs.OnBits.{word, kernel_on, kernel_along, kernel_digits}
use Rattle.bm_butter.specs.Pairs.{IsPaired}
use Rattle.bm_butter.proofs.OnBitLemmas.{same_pair}
use Rattle.bm_butter.proofs.KernelLemmas.{kernel_on-first, kernel_on-second, kernel_on-block}

-- the pair of y holds what g has there
pub record IsPair (i : ℕ) (g new : ℕ → List ℕ) (y : ℕ) : Type 0 where
  pub clear : new y ≡ g y
  pub set : new (y + 2 ^ i) ≡ g (y + 2 ^ i)

-- the pairs of numbers below x are those of the pairing, the others are as before
pub record PairsBelow (f : ℕ → ℕ → ℕ × ℕ) (n i x : ℕ) (old new : ℕ → List ℕ) : Type 0 where
  pub done : (y : ℕ) → y < x → y < 2 ^ n → bit_at y i ≡ 0 → IsPair i (kernel_on f i old) new y
  pub left : (y : ℕ) → x ≤ y → y < 2 ^ n → bit_at y i ≡ 0 → IsPair i old new y

-- no pair is made yet
pub PairsBelow-none : (f : ℕ → ℕ → ℕ × ℕ) (n i : ℕ) (old : ℕ → List ℕ) → PairsBelow f n i 0 old old
PairsBelow-none f n i old = record
    { done = λ y below. absurd (omega arith); left = λ y above inside clear. record { clear = refl; set = refl } }

-- a pair that is made
pub IsPair-made : (f : ℕ → ℕ → ℕ × ℕ) (i y : ℕ) (old new : ℕ → List ℕ) → bit_at y i ≡ 0
    → new y ≡ record_of (f (word (old y)) (word (old (y + 2 ^ i)))).0
    → new (y + 2 ^ i) ≡ record_of (f (word (old y)) (word (old (y + 2 ^ i)))).1 → IsPair i (kernel_on f i old) new y
IsPair-made f i y old new clear first second =
    record { clear = first ∙ sym (kernel_on-first f i old y clear); set = second ∙ sym (kernel_on-second f i old y clear) }

-- all pairs
pub SameRecords-pairs : (f : ℕ → ℕ → ℕ × ℕ) (i count : ℕ) (old new : ℕ → List ℕ)
    → ((y : ℕ) → y < count → bit_at y i ≡ 0 → IsPair i (kernel_on f i old) new y)
    → SameRecords count new (kernel_on f i old)
SameRecords-pairs f i count old new made y inside =
    ⊎_elim
    (λ (p : bit_at y i ≡ 0). (made y inside p).clear)
    (λ (p : bit_at y i ≢ 0).
    let bit : bit_at y i < 2 = bit_at-lt y i in
    let one : bit_at y i ≡ 1 = omega arith in
    let base = without_bit y i one in
    let back : y - 2 ^ i + 2 ^ i ≡ y = omega (arith, base.0) in
    subst (λ c. new c ≡ kernel_on f i old c) back (made (y - 2 ^ i) (omega arith) base.1).set)
    (cases_eq (bit_at y i) 0)

-- a number with the bit has no pair of its own
pub PairsBelow-skip : (f : ℕ → ℕ → ℕ × ℕ) (n i x : ℕ) (old new : ℕ → List ℕ) → bit_at x i ≢ 0 → PairsBelow f n i x old new
    → PairsBelow f n i (x + 1) old new
PairsBelow-skip f n i x old new set before = record {
  done = λ y below inside clear. before.done y
      (⊎_elim (λ (p : y ≡ x). absurd (set (sym (ap (λ c. bit_at c i) p) ∙ clear))) (λ (p : y ≢ x). omega arith) (cases_eq y x)) inside
      clear;
  left = λ y above. before.left y (omega arith);
}

-- numbers with and without the bit are apart
pub bit_apart : (i x y : ℕ) → bit_at x i ≡ 0 → bit_at y i ≡ 0 → y ≢ x + 2 ^ i
bit_apart i x y clear_x clear_y e = let one : bit_at y i ≡ 1 = ap (λ c. bit_at c i) e ∙ set_bit x i clear_x in absurd (omega arith)

-- one pair more
pub PairsBelow-pair : (f : ℕ → ℕ → ℕ × ℕ) (n i x : ℕ) (old now new : ℕ → List ℕ) → x < 2 ^ n → i < n → bit_at x i ≡ 0
    → PairsBelow f n i x old now
    → new x ≡ record_of (f (word (now x)) (word (now (x + 2 ^ i)))).0
    → new (x + 2 ^ i) ≡ record_of (f (word (now x)) (word (now (x + 2 ^ i)))).1
    → ((z : ℕ) → z < 2 ^ n → z ≢ x → z ≢ x + 2 ^ i → new z ≡ now z)
    → PairsBelow f n i (x + 1) old new
PairsBelow-pair f n i x old now new short bit clear before first second others =
    let same = same_pair f (ap word (before.left x (omega arith) short clear).clear)
    (ap word (before.left x (omega arith) short clear).set) in
    let kept : (g : ℕ → List ℕ) (y : ℕ) → y ≢ x → y < 2 ^ n → bit_at y i ≡ 0 → IsPair i g now y
    → IsPair i g new y = λ g y differ inside clear_y pair. record {
      clear = others y inside differ (bit_apart i x y clear clear_y) ∙ pair.clear;
      set = others (y + 2 ^ i) (set_below y i n inside bit clear_y) (λ e. bit_apart i y x clear_y clear (sym e))
          (λ e. differ (omega arith)) ∙ pair.set;
    } in
    record {
      done = λ y below inside clear_y.
          ⊎_elim
          (λ (p : y ≡ x). subst (λ c. IsPair i (kernel_on f i old) new c) (sym p) (IsPair-made f i x old new clear
          (first ∙ ap (λ (r : ℕ × ℕ). record_of r.0) same) (second ∙ ap (λ (r : ℕ × ℕ). record_of r.1) same)))
          (λ (p : y ≢ x). kept (kernel_on f i old) y p inside clear_y (before.done y (omega arith) inside clear_y))
          (cases_eq y x);
      left = λ y above inside clear_y. kept old y (omega arith) inside clear_y (before.left y (omega arith) inside clear_y);
    }

-- a pairing on a bit of records in whole blocks sees those alone
pub kernel_on-whole : (f : ℕ → ℕ → ℕ × ℕ) (i count : ℕ) (xs ys : ℕ → List ℕ) → count % 2 ^ (i + 1) ≡ 0 → SameRecords count xs ys
    → SameRecords count (kernel_on f i xs) (kernel_on f i ys)
kernel_on-whole f i count xs ys whole same x inside =
    let size = 2 ^ (i + 1) in
    let block = x / size in
    let t = x % size in
    let short : t < size = mod-lt x (pow_pos (i + 1)) in
    let parts : t + block * size ≡ x = mod-add-div' x size in
    let at : block * size + t ≡ x = omega arith in
    let all : count % size + count / size * size ≡ count = mod-add-div' count size in
    let before : block < count / size = ⊎_elim
    (λ (p : block < count / size). p)
    (λ (p : count / size ≤ block). let more : count / size * size ≤ block * size = mul-le-mul_right size p in absurd (omega arith))
    (cases_lt block (count / size)) in
    let room : (block + 1) * size ≤ count / size * size = mul-le-mul_right size (let e : block + 1 ≤ count / size = omega arith in e) in
    let next : (block + 1) * size ≡ block * size + size = add-mul block 1 size
    ∙ (let e : block * size + 1 * size ≡ block * size + size = omega arith in e) in
    let left = kernel_on-block f i (i + 1) block xs (λ k. ys (block * size + k)) (omega arith)
    (λ k below. same (block * size + k) (omega arith)) t short in
    let right = kernel_on-block f i (i + 1) block ys (λ k. ys (block * size + k)) (omega arith) (λ k below. refl) t short in
    subst (λ c. kernel_on f i xs c ≡ kernel_on f i ys c) at (left ∙ sym right)

-- one bit more
pub kernel_digits-next : (f : ℕ → ℕ → ℕ × ℕ) (i count : ℕ) (old now new : ℕ → List ℕ) → count % 2 ^ (i + 1) ≡ 0
    → SameRecords count now (kernel_digits f i old)
    → SameRecords count new (kernel_on f i now) → SameRecords count new (kernel_digits f (i + 1) old)
unfolding kernel_along
kernel_digits-next f i count old now new whole before made x inside =
    made x inside ∙ kernel_on-whole f i count now (kernel_digits f i old) whole before x inside
    ∙ (let e : suc i ≡ i + 1 = omega arith in ap (λ k. kernel_digits f k old x) e)

-- pairs of records in order of address
pub SameRecords-upright : (f : ℕ → ℕ → ℕ × ℕ) (i at_u at_v count : ℕ) (old new : List ℕ) → at_u ≡ 0 → at_v ≡ 2 ^ i
    → ((x : ℕ) → x < count → bit_at x i ≡ 0 → IsPaired f old new (x + at_u) (x + at_v))
    → SameRecords count (record_in_order new) (kernel_on f i (record_in_order old))
SameRecords-upright f i at_u at_v count old new none whole paired =
    SameRecords-pairs f i count (record_in_order old) (record_in_order new)
    (λ y inside clear.
    let pair : IsPaired f old new y (y + 2 ^ i) = subst (λ c. IsPaired f old new c (y + 2 ^ i)) (let e : y + at_u ≡ y = omega arith in e)
    (subst (λ c. IsPaired f old new (y + at_u) c) (let e : y + at_v ≡ y + 2 ^ i = omega arith in e) (paired y inside clear)) in
    IsPair-made f i y (record_in_order old) (record_in_order new) clear pair.first pair.second)
