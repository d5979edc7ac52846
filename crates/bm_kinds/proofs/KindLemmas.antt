-- The kinds of transform: what pairings on the bits of a set make is the sum over addresses.
use Rattle.std.proofs.Common.{ℕ, zero, suc, ◌≡◌, ◌≢◌, ◌+◌, ◌*◌, ◌%◌, ◌^◌, ◌<◌, ◌≤◌, List, bit_and, bit_or, count_ones}
use Rattle.std.proofs.Common.{refl, sym, ap, ◌∙◌, arith, ⊎_elim}
use Rattle.std.specs.Int.{bit_at}
use Rattle.std.specs.Int.Bits.{xor_self, xor_mod}
use Rattle.std.proofs.lemmas.Bool.{cases_lt}
use Rattle.std.proofs.lemmas.Nat.{pow_pos, mod-pow-add, ones_le_self, and_le_r}
use Rattle.std.proofs.lemmas.Nat.Bits.{bit_at-zero, bit_at_or, bit_at_above, same_from_bits}
use Rattle.std.proofs.Math.Nat.{mod-lt, mod-one, mod-eq_of_lt}
use Rattle.bm_base.specs.Butterfly.{negative}
use Rattle.bm_base.proofs.CaseLemmas.{if_same, if_other}
use Rattle.bm_gf2.proofs.VectorLemmas.{bit_of_low}
use Rattle.bm_butter.specs.OnBits.{word, kernel_over}
use Rattle.bm_kinds.specs.Kinds.{Kind, WalshBits, Sums, Differences, Xors, pairing, with_sign, outside, inside, term, total}
use Rattle.bm_kinds.specs.Kinds.{kind_transformed}
use Rattle.bm_butter.specs.Laws.{keeps_words}
use Rattle.bm_butter.proofs.OnBitLemmas.{flip, flip_below, bit_by, same_pair, word_below, word_on-clear, word_on-set}
use Rattle.bm_kinds.proofs.OverLemmas.{kernel_over-left, kernel_over-taken}
use Rattle.bm_kinds.proofs.TotalLemmas.{walsh, sums, differences, total_same, total_plus, total_xor, total_one}
use Rattle.bm_kinds.proofs.AgreeLemmas.{Adds, bits_within}
use Rattle.bm_kinds.proofs.TermLemmas.{walsh_clear, walsh_set, sums_set, xors_set, sums_clear, xors_clear, differences_clear}
use Rattle.bm_kinds.proofs.TermLemmas.{differences_set}

-- ---- one bit more

-- the first number of a pair
pub kind_clear : (kind : Kind) (i n set more k : ℕ) (v : ℕ → ℕ) → Adds i set more → bit_at k i ≡ 0
    → (pairing kind (kind_transformed kind n set v k) (kind_transformed kind n set v (flip k i))).0 ≡ kind_transformed kind n more v k
unfolding pairing
kind_clear WalshBits i n set more k v adds out =
    let e = total_plus WalshBits (2 ^ n) (λ x. term WalshBits set k x (v x)) (λ x. term WalshBits set (flip k i) x (v x))
    (λ x. term WalshBits more k x (v x)) walsh
    (λ x. ap (λ (c : ℕ). c % 18446744073709551616) (walsh_clear i set more k x (v x) adds out)) in
    omega arith
kind_clear Sums i n set more k v adds out = ap (λ (c : ℕ). c % 18446744073709551616)
    (total_same Sums (2 ^ n) (λ x. term Sums set k x (v x)) (λ x. term Sums more k x (v x)) (λ x. sums_clear i set more k x (v x) adds out))
kind_clear Differences i n set more k v adds out = ap (λ (c : ℕ). c % 18446744073709551616)
    (total_same Differences (2 ^ n) (λ x. term Differences set k x (v x)) (λ x. term Differences more k x (v x))
    (λ x. differences_clear i set more k x (v x) adds out))
kind_clear Xors i n set more k v adds out = ap (λ (c : ℕ). c % 18446744073709551616)
    (total_same Xors (2 ^ n) (λ x. term Xors set k x (v x)) (λ x. term Xors more k x (v x)) (λ x. xors_clear i set more k x (v x) adds out))

-- the second
pub kind_set : (kind : Kind) (i n set more k : ℕ) (v : ℕ → ℕ) → Adds i set more → bit_at k i ≡ 1
    → (pairing kind (kind_transformed kind n set v (flip k i)) (kind_transformed kind n set v k)).1 ≡ kind_transformed kind n more v k
unfolding pairing
kind_set WalshBits i n set more k v adds one =
    let e = total_plus WalshBits (2 ^ n) (λ x. term WalshBits more k x (v x)) (λ x. term WalshBits set k x (v x))
    (λ x. term WalshBits set (flip k i) x (v x)) walsh (λ x. walsh_set i set more k x (v x) adds one) in
    omega arith
kind_set Sums i n set more k v adds one =
    let e = total_plus Sums (2 ^ n) (λ x. term Sums set (flip k i) x (v x)) (λ x. term Sums set k x (v x))
    (λ x. term Sums more k x (v x)) sums
    (λ x. ap (λ (c : ℕ). c % 18446744073709551616) (sums_set i set more k x (v x) adds one)) in
    omega arith
kind_set Differences i n set more k v adds one =
    let e = total_plus Differences (2 ^ n) (λ x. term Differences more k x (v x)) (λ x. term Differences set (flip k i) x (v x))
    (λ x. term Differences set k x (v x)) differences (λ x. differences_set i set more k x (v x) adds one) in
    omega arith
kind_set Xors i n set more k v adds one =
    sym (xor_mod (total Xors (2 ^ n) (λ x. term Xors set (flip k i) x (v x))) (total Xors (2 ^ n) (λ x. term Xors set k x (v x))) 64)
    ∙ ap (λ (c : ℕ). c % 18446744073709551616) (total_xor (2 ^ n) (λ x. term Xors set (flip k i) x (v x)) (λ x. term Xors set k x (v x))
    (λ x. term Xors more k x (v x)) (λ x. xors_set i set more k x (v x) adds one))

-- ---- the empty set

pub or_none : (x : ℕ) → bit_or x 0 ≡ x
or_none x = same_from_bits (bit_or x 0) x (λ j. let o = bit_at_or x 0 j in let z = bit_at-zero j in omega arith)

-- no ones, no sign
pub signed_none : (c v : ℕ) → c ≡ 0 → with_sign c v ≡ v
signed_none c v none = if_same (count_ones c % 2) 0 v (negative v)
    (ap (λ (d : ℕ). count_ones d % 2) none ∙ (let h = ones_le_self 0 in let z : count_ones 0 % 2 ≡ 0 = omega arith in z))

pub inside_all : (k v : ℕ) → inside 0 k k v ≡ v
inside_all k v = if_same (bit_or (bit_and k 0) k) k v 0 (bits_within 0 k k (λ j. let z = bit_at-zero j in omega arith))

pub outside_all : (k v : ℕ) → outside 0 k k v ≡ v
outside_all k v = if_same (bit_or k 0) (bit_or k 0) v 0 refl

pub term_own : (kind : Kind) (k v : ℕ) → term kind 0 k k v ≡ v
unfolding term
term_own WalshBits k v = outside_all k _ ∙ signed_none _ v (let l = and_le_r (bit_and k k) 0 in omega arith)
term_own Sums k v = outside_all k _ ∙ inside_all k v
term_own Differences k v = outside_all k _ ∙ inside_all k _ ∙ signed_none _ v (xor_self k)
term_own Xors k v = outside_all k _ ∙ inside_all k v

pub outside_others : (k x v : ℕ) → x ≢ k → outside 0 k x v ≡ 0
outside_others k x v differ = if_other (bit_or x 0) (bit_or k 0) v 0 (λ e. differ (sym (or_none x) ∙ e ∙ or_none k))

pub term_others : (kind : Kind) (k x v : ℕ) → x ≢ k → term kind 0 k x v ≡ 0
unfolding term
term_others WalshBits k x v differ = outside_others k x _ differ
term_others Sums k x v differ = outside_others k x _ differ
term_others Differences k x v differ = outside_others k x _ differ
term_others Xors k x v differ = outside_others k x _ differ

pub transformed_none : (kind : Kind) (n k : ℕ) (v : ℕ → ℕ) → k < 2 ^ n → kind_transformed kind n 0 v k ≡ v k % 2 ^ 64
transformed_none kind n k v below = ap (λ (c : ℕ). c % 18446744073709551616)
    (total_one kind (2 ^ n) k (λ x. term kind 0 k x (v x)) below (λ x differ. term_others kind k x (v x) differ) ∙ term_own kind k (v k))

-- ---- all bits

-- the bits of a set below m, and those below m + 1
pub cut_left : (set m : ℕ) → bit_at set m ≡ 0 → set % 2 ^ suc m ≡ set % 2 ^ m
cut_left set m clear = ap (λ (c : ℕ). set % 2 ^ c) (let e : suc m ≡ 1 + m = omega arith in e) ∙ mod-pow-add set 1 m
    ∙ ap (λ (c : ℕ). c * 2 ^ m + set % 2 ^ m) clear ∙ (let e : 0 * 2 ^ m + set % 2 ^ m ≡ set % 2 ^ m = omega arith in e)

pub cut_adds : (set m : ℕ) → bit_at set m ≡ 1 → Adds m (set % 2 ^ m) (set % 2 ^ suc m)
cut_adds set m one = record {
  clear = bit_at_above (set % 2 ^ m) m m (mod-lt set (pow_pos m)) (omega arith);
  put = bit_of_low set (suc m) m (omega arith) ∙ one;
  others = λ j differ. ⊎_elim
      (λ (p : j < m). bit_of_low set (suc m) j (omega arith) ∙ sym (bit_of_low set m j p))
      (λ (p : m ≤ j). bit_at_above (set % 2 ^ suc m) (suc m) j (mod-lt set (pow_pos (suc m))) (omega arith)
      ∙ sym (bit_at_above (set % 2 ^ m) m j (mod-lt set (pow_pos m)) p))
      (cases_lt j m);
}

-- the bits of the set below m
pub kind_below : (kind : Kind) (n set m : ℕ) (xs : ℕ → List ℕ) → m ≤ n → (k : ℕ) → k < 2 ^ n
    → word (kernel_over (pairing kind) m set xs k) ≡ kind_transformed kind n (set % 2 ^ m) (λ x. word (xs x)) k
unfolding kernel_over
kind_below kind n set zero xs fewer k below =
    sym (ap (λ (c : ℕ). kind_transformed kind n c (λ x. word (xs x)) k) (mod-one set) ∙ transformed_none kind n k (λ x. word (xs x)) below
    ∙ mod-eq_of_lt (word_below (xs k)))
kind_below kind n set (suc m) xs fewer k below =
    let f = pairing kind in
    let v = λ (x : ℕ). word (xs x) in
    let before = kind_below kind n set m xs (omega arith) in
    let ys = kernel_over f m set xs in
    bit_by set m
    (λ (p : bit_at set m ≡ 0). ap (λ (zs : ℕ → List ℕ). word (zs k)) (kernel_over-left f m set xs p) ∙ before k below
    ∙ ap (λ (c : ℕ). kind_transformed kind n c v k) (sym (cut_left set m p)))
    (λ (p : bit_at set m ≡ 1). ap (λ (zs : ℕ → List ℕ). word (zs k)) (kernel_over-taken f m set xs p)
    ∙ (let other = before (flip k m) (flip_below n k m below (omega arith)) in
    bit_by k m
    (λ (q : bit_at k m ≡ 0). word_on-clear f m ys k (keeps_words kind) q
    ∙ ap (λ (r : ℕ × ℕ). r.0) (same_pair f (before k below) other) ∙ kind_clear kind m n _ _ k v (cut_adds set m p) q)
    (λ (q : bit_at k m ≡ 1). word_on-set f m ys k (keeps_words kind) q
    ∙ ap (λ (r : ℕ × ℕ). r.1) (same_pair f other (before k below)) ∙ kind_set kind m n _ _ k v (cut_adds set m p) q)))

-- what the pairing of a kind makes of a set's bits is the kind's transform over the set
pub kernel_over-kind : (kind : Kind) (n set : ℕ) (xs : ℕ → List ℕ) → set < 2 ^ n → (k : ℕ) → k < 2 ^ n
    → word (kernel_over (pairing kind) n set xs k) ≡ kind_transformed kind n set (λ x. word (xs x)) k
kernel_over-kind kind n set xs short k below = kind_below kind n set n xs (omega arith) k below
    ∙ ap (λ (c : ℕ). kind_transformed kind n c (λ x. word (xs x)) k) (mod-eq_of_lt short)
