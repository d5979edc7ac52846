-- Pairings on the bits of a set, and on those of a list in any order.
use Rattle.std.proofs.Common.{ℕ, zero, suc, ◌≡◌, ◌≢◌, ◌+◌, ◌^◌, ◌<◌, ◌≤◌, List, bit_or, refl, sym, ap, ◌∙◌, arith, ⊎_elim}
use Rattle.std.specs.Int.{bit_at}
use Rattle.std.proofs.lemmas.Bool.{cases_eq}
use Rattle.std.proofs.lemmas.Nat.Bits.{bit_at-lt, bit_at-zero, bit_at_or, bit_at-pow_same, bit_at-pow_other}
use Rattle.bm_base.specs.Records.{SameRecords}
use Rattle.bm_base.proofs.CaseLemmas.{if_same, if_other}
use Rattle.bm_butter.specs.Pairings.{KeepsWords, Commutes}
use Rattle.bm_butter.specs.OnBits.{word, kernel_on, kernel_over, kernel_along, kernel_digits, set_of, AreBits}
use Rattle.bm_butter.proofs.KernelLemmas.{same_lists}
use Rattle.bm_butter.proofs.OnBitLemmas.{bit_by, kernel_on-words, kernel_on-swap}

-- ---- one bit more

pub kernel_over-left : (f : ℕ → ℕ → ℕ × ℕ) (i set : ℕ) (xs : ℕ → List ℕ) → bit_at set i ≡ 0
    → kernel_over f (suc i) set xs ≡ kernel_over f i set xs
unfolding kernel_over
kernel_over-left f i set xs clear = if_same (bit_at set i) 0 _ _ clear

pub kernel_over-taken : (f : ℕ → ℕ → ℕ × ℕ) (i set : ℕ) (xs : ℕ → List ℕ) → bit_at set i ≡ 1
    → kernel_over f (suc i) set xs ≡ kernel_on f i (kernel_over f i set xs)
unfolding kernel_over
kernel_over-taken f i set xs taken = if_other (bit_at set i) 0 _ _ (λ e. absurd (omega arith))

-- the bits below n decide
pub kernel_over-bits : (f : ℕ → ℕ → ℕ × ℕ) (n s t : ℕ) (xs : ℕ → List ℕ) → ((k : ℕ) → k < n → bit_at s k ≡ bit_at t k)
    → kernel_over f n s xs ≡ kernel_over f n t xs
unfolding kernel_over
kernel_over-bits f zero s t xs same = refl
kernel_over-bits f (suc i) s t xs same =
    let before = kernel_over-bits f i s t xs (λ k below. same k (omega arith)) in
    bit_by s i
    (λ (p : bit_at s i ≡ 0). kernel_over-left f i s xs p ∙ before ∙ sym (kernel_over-left f i t xs (sym (same i (omega arith)) ∙ p)))
    (λ (p : bit_at s i ≡ 1). kernel_over-taken f i s xs p ∙ ap (kernel_on f i) before
    ∙ sym (kernel_over-taken f i t xs (sym (same i (omega arith)) ∙ p)))

-- the empty set
pub kernel_over-none : (f : ℕ → ℕ → ℕ × ℕ) (n : ℕ) (xs : ℕ → List ℕ) → kernel_over f n 0 xs ≡ xs
unfolding kernel_over
kernel_over-none f zero xs = refl
kernel_over-none f (suc i) xs = kernel_over-left f i 0 xs (bit_at-zero i) ∙ kernel_over-none f i xs

-- the records in the range decide
pub kernel_over-same : (f : ℕ → ℕ → ℕ × ℕ) (m n set : ℕ) (xs ys : ℕ → List ℕ) → m ≤ n → SameRecords (2 ^ n) xs ys
    → SameRecords (2 ^ n) (kernel_over f m set xs) (kernel_over f m set ys)
unfolding kernel_over
kernel_over-same f zero n set xs ys fewer same x short = same x short
kernel_over-same f (suc i) n set xs ys fewer same x short =
    let before = kernel_over-same f i n set xs ys (omega arith) same in
    bit_by set i
    (λ (p : bit_at set i ≡ 0). ap (λ (zs : ℕ → List ℕ). zs x) (kernel_over-left f i set xs p) ∙ before x short
    ∙ sym (ap (λ (zs : ℕ → List ℕ). zs x) (kernel_over-left f i set ys p)))
    (λ (p : bit_at set i ≡ 1). ap (λ (zs : ℕ → List ℕ). zs x) (kernel_over-taken f i set xs p)
    ∙ kernel_on-words f i n (kernel_over f i set xs) (kernel_over f i set ys) (omega arith) (λ y l. ap word (before y l)) x short
    ∙ sym (ap (λ (zs : ℕ → List ℕ). zs x) (kernel_over-taken f i set ys p)))

-- ---- sets

-- a bit put into a set
pub put_same : (s b : ℕ) → bit_at (bit_or s (2 ^ b)) b ≡ 1
put_same s b = omega (arith, bit_at_or s (2 ^ b) b, bit_at-pow_same b, bit_at-lt s b)

pub put_other : (s b k : ℕ) → k ≢ b → bit_at (bit_or s (2 ^ b)) k ≡ bit_at s k
put_other s b k differ = omega (arith, bit_at_or s (2 ^ b) k, bit_at-pow_other b k differ)

-- a bit that is not in the list
pub set_of-none : (bits : ℕ → ℕ) (count k : ℕ) → ((j : ℕ) → j < count → bits j ≢ k) → bit_at (set_of bits count) k ≡ 0
unfolding set_of
set_of-none bits zero k none = bit_at-zero k
set_of-none bits (suc j) k none = put_other (set_of bits j) (bits j) k (λ e. none j (omega arith) (sym e))
    ∙ set_of-none bits j k (λ i below. none i (omega arith))

-- a bit that is
pub set_of-some : (bits : ℕ → ℕ) (count j : ℕ) → j < count → bit_at (set_of bits count) (bits j) ≡ 1
unfolding set_of
set_of-some bits zero j below = absurd (omega arith)
set_of-some bits (suc i) j below =
    ⊎_elim
    (λ (p : bits j ≡ bits i). ap (bit_at (bit_or (set_of bits i) (2 ^ bits i))) p ∙ put_same (set_of bits i) (bits i))
    (λ (p : bits j ≢ bits i). put_other (set_of bits i) (bits i) (bits j) p
    ∙ set_of-some bits i j (⊎_elim (λ (q : j ≡ i). absurd (p (ap bits q))) (λ (q : j ≢ i). omega arith) (cases_eq j i)))
    (cases_eq (bits j) (bits i))

-- ---- the law

-- a bit after those of a set
pub kernel_over-put : (f : ℕ → ℕ → ℕ × ℕ) (n set b : ℕ) (xs : ℕ → List ℕ) → KeepsWords f → Commutes f → b < n → bit_at set b ≡ 0
    → kernel_on f b (kernel_over f n set xs) ≡ kernel_over f n (bit_or set (2 ^ b)) xs
kernel_over-put f zero set b xs keeps law below clear = absurd (omega arith)
kernel_over-put f (suc i) set b xs keeps law below clear =
    let more = bit_or set (2 ^ b) in
    ⊎_elim
    (λ (p : b ≡ i).
    let here : bit_at set i ≡ 0 = ap (bit_at set) (sym p) ∙ clear in
    let put : bit_at more i ≡ 1 = ap (bit_at more) (sym p) ∙ put_same set b in
    ap (kernel_on f b) (kernel_over-left f i set xs here
    ∙ kernel_over-bits f i set more xs (λ k l. sym (put_other set b k (λ e. absurd (omega arith)))))
    ∙ ap (λ (c : ℕ). kernel_on f c (kernel_over f i more xs)) p
    ∙ sym (kernel_over-taken f i more xs put))
    (λ (p : b ≢ i).
    let other : bit_at more i ≡ bit_at set i = put_other set b i (λ e. p (sym e)) in
    let before = kernel_over-put f i set b xs keeps law (omega arith) clear in
    bit_by set i
    (λ (q : bit_at set i ≡ 0). ap (kernel_on f b) (kernel_over-left f i set xs q) ∙ before
    ∙ sym (kernel_over-left f i more xs (other ∙ q)))
    (λ (q : bit_at set i ≡ 1). ap (kernel_on f b) (kernel_over-taken f i set xs q)
    ∙ same_lists (kernel_on f b (kernel_on f i (kernel_over f i set xs))) (kernel_on f i (kernel_on f b (kernel_over f i set xs)))
    (λ x. kernel_on-swap f b i (kernel_over f i set xs) x keeps law p)
    ∙ ap (kernel_on f i) before ∙ sym (kernel_over-taken f i more xs (other ∙ q))))
    (cases_eq b i)

-- fewer bits of a list
pub AreBits-fewer : (n count : ℕ) (bits : ℕ → ℕ) → AreBits n (suc count) bits → AreBits n count bits
AreBits-fewer n count bits all =
    record { below = λ j l. all.below j (omega arith); apart = λ i j less l. all.apart i j less (omega arith) }

-- the bits of a list after those of a set
pub kernel_along-over : (f : ℕ → ℕ → ℕ × ℕ) (n set count : ℕ) (bits : ℕ → ℕ) (xs : ℕ → List ℕ) → KeepsWords f → Commutes f
    → AreBits n count bits → ((j : ℕ) → j < count → bit_at set (bits j) ≡ 0)
    → kernel_along f bits count (kernel_over f n set xs) ≡ kernel_over f n (bit_or set (set_of bits count)) xs
unfolding kernel_along set_of
kernel_along-over f n set zero bits xs keeps law are clear = kernel_over-bits f n set (bit_or set 0) xs
    (λ k l. let e = bit_at_or set 0 k in let z = bit_at-zero k in omega arith)
kernel_along-over f n set (suc j) bits xs keeps law are clear =
    let all = set_of bits j in
    let b = bits j in
    let none : bit_at all b ≡ 0 = set_of-none bits j b (λ i l. are.apart i j l (omega arith)) in
    ap (kernel_on f b) (kernel_along-over f n set j bits xs keeps law (AreBits-fewer n j bits are) (λ i l. clear i (omega arith)))
    ∙ kernel_over-put f n (bit_or set all) b xs keeps law (are.below j (omega arith))
    (let e = bit_at_or set all b in let z = clear j (omega arith) in omega arith)
    ∙ kernel_over-bits f n (bit_or (bit_or set all) (2 ^ b)) (bit_or set (bit_or all (2 ^ b))) xs
    (λ k l. omega (
      arith,
      bit_at_or (bit_or set all) (2 ^ b) k,
      bit_at_or set all k,
      bit_at_or set (bit_or all (2 ^ b)) k,
      bit_at_or all (2 ^ b) k,
    ))

-- the bits of a list in its order are those of the set in ascending order
pub kernel_along-set : (f : ℕ → ℕ → ℕ × ℕ) (n count : ℕ) (bits : ℕ → ℕ) (xs : ℕ → List ℕ) → KeepsWords f → Commutes f
    → AreBits n count bits
    → kernel_along f bits count xs ≡ kernel_over f n (set_of bits count) xs
kernel_along-set f n count bits xs keeps law are =
    ap (kernel_along f bits count) (sym (kernel_over-none f n xs))
    ∙ kernel_along-over f n 0 count bits xs keeps law are (λ j l. bit_at-zero (bits j))
    ∙ kernel_over-bits f n (bit_or 0 (set_of bits count)) (set_of bits count) xs
    (λ k l. omega (arith, bit_at_or 0 (set_of bits count) k, bit_at-zero k))

-- ---- digits

-- the numbers of the records in the range decide those afterwards
digits_words : (f : ℕ → ℕ → ℕ × ℕ) (count n : ℕ) (xs ys : ℕ → List ℕ) → count ≤ n
    → ((t : ℕ) → t < 2 ^ n → word (xs t) ≡ word (ys t))
    → (t : ℕ) → t < 2 ^ n → word (kernel_digits f count xs t) ≡ word (kernel_digits f count ys t)
unfolding kernel_along
digits_words f zero n xs ys fewer same t short = same t short
digits_words f (suc j) n xs ys fewer same t short =
    ap word (kernel_on-words f j n (kernel_digits f j xs) (kernel_digits f j ys) (omega arith)
    (digits_words f j n xs ys (omega arith) same) t short)

-- and with some digit the records
pub kernel_digits-words : (f : ℕ → ℕ → ℕ × ℕ) (count : ℕ) (xs ys : ℕ → List ℕ) → 1 ≤ count
    → ((t : ℕ) → t < 2 ^ count → word (xs t) ≡ word (ys t))
    → (t : ℕ) → t < 2 ^ count → kernel_digits f count xs t ≡ kernel_digits f count ys t
unfolding kernel_along
kernel_digits-words f zero xs ys some same t short = absurd (omega arith)
kernel_digits-words f (suc j) xs ys some same t short =
    kernel_on-words f j (suc j) (kernel_digits f j xs) (kernel_digits f j ys) (omega arith)
    (digits_words f j (suc j) xs ys (omega arith) same) t short

pub kernel_digits-more : (f : ℕ → ℕ → ℕ × ℕ) (j count : ℕ) (xs ys zs : ℕ → List ℕ) → j < count
    → ((t : ℕ) → t < 2 ^ count → ys t ≡ kernel_digits f j xs t)
    → ((t : ℕ) → t < 2 ^ count → zs t ≡ kernel_on f j ys t)
    → (t : ℕ) → t < 2 ^ count → zs t ≡ kernel_digits f (j + 1) xs t
unfolding kernel_along
kernel_digits-more f j count xs ys zs below before made t short =
    made t short ∙ kernel_on-words f j count ys (kernel_digits f j xs) below (λ s l. ap word (before s l)) t short
    ∙ (let e : suc j ≡ j + 1 = omega arith in ap (λ (k : ℕ). kernel_digits f k xs t) e)
