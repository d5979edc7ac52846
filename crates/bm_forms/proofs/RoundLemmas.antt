-- Rounds of butterflies and rotations make the transform.
use Rattle.std.proofs.Common.{ℕ, zero, suc, ◌≡◌, ◌+◌, ◌-◌, ◌*◌, ◌/◌, ◌%◌, ◌^◌, ◌<◌, ◌≤◌, List, sym, ap, ◌∙◌, subst, arith, ⊎_elim, zero-mul}
use Rattle.std.proofs.lemmas.Bool.{cases_eq}
use Rattle.std.proofs.lemmas.Nat.{pow_pos, shr-shr, mod-pow-add, pow-add, mul-add-lt}
use Rattle.std.proofs.Math.Nat.{add-mul, mul_assoc, mod-lt, mod-one, mod-eq_of_lt, div-eq_of_lt, add-mul-div_right, add-mul-mod_self_right}
use Rattle.std.proofs.Math.Pow.{shr_lt}
use Rattle.std.proofs.lemmas.Nat.Bits.{bit_at-lt, bit_at_cat_low}
use Rattle.std.specs.Int.{bit_at}
use Rattle.bm_gf2.specs.declared.affine.Affine.{Affine}
use Rattle.bm_gf2.specs.Affine.{affine_image}
use Rattle.bm_gf2.specs.Matrix.{IsNonsingular}
use Rattle.bm_base.specs.Records.{SameRecords}
use Rattle.bm_base.specs.Butterfly.{number_in, record_of, negative, butterfly, butterflies}
use Rattle.bm_base.proofs.ButterflyLemmas.{record_of-mod, number_in-record_of, butterfly-clear, butterfly-set, without_bit, set_below}
use Rattle.bm_base.proofs.PowerLemmas.{cut_below}
use Rattle.bm_forms.specs.Transform.{transformed}
use Rattle.bm_forms.specs.Permutation.{permuted}
use Rattle.bm_forms.proofs.PermutationLemmas.{permuted-image}
use Rattle.bm_forms.proofs.PartialLemmas.{partial, partial-none, partial-all, partial-clear, partial-set}

-- ---- the rotation by `by` of n bits: target bit i is source bit i + by

-- the rotation as arithmetic: the low bits go up
unfoldable pub rotated : ℕ → ℕ → ℕ → ℕ
rotated n by x = x % 2 ^ by * 2 ^ (n - by) + x / 2 ^ by

-- powers of a sum
pow_join : (a b c : ℕ) → a + b ≡ c → 2 ^ a * 2 ^ b ≡ 2 ^ c
pow_join a b c e = sym (pow-add 2 a b) ∙ ap (λ (x : ℕ). 2 ^ x) e

-- a rotated address is an address
pub rotated-lt : (n by x : ℕ) → by ≤ n → x < 2 ^ n → rotated n by x < 2 ^ n
unfolding rotated
rotated-lt n by x l h =
    let m : x % 2 ^ by * 2 ^ (n - by) + x / 2 ^ by < 2 ^ (n - by) * 2 ^ by =
    mul-add-lt (x % 2 ^ by) (2 ^ (n - by)) (x / 2 ^ by) (2 ^ by) (mod-lt x (pow_pos by)) (cut_below n by x l h) in
    subst (λ (c : ℕ). x % 2 ^ by * 2 ^ (n - by) + x / 2 ^ by < c) (pow_join (n - by) by n (let e : n - by + by ≡ n = omega arith in e)) m

-- bit i of it is bit by + i
pub rotated-bit : (n by i x : ℕ) → by + i < n → bit_at (rotated n by x) i ≡ bit_at x (by + i)
unfolding rotated
rotated-bit n by i x l =
    bit_at_cat_low (x % 2 ^ by) (n - by) (x / 2 ^ by) i (let e : i < n - by = omega arith in e) ∙ ap (λ (c : ℕ). c % 2) (shr-shr x by i)

-- setting bit by + i sets bit i of it
pub rotated-add : (n by i x : ℕ) → rotated n by (x + 2 ^ (by + i)) ≡ rotated n by x + 2 ^ i
unfolding rotated
rotated-add n by i x =
    let p : 2 ^ (by + i) ≡ 2 ^ i * 2 ^ by = ap (λ (c : ℕ). 2 ^ c) (let e : by + i ≡ i + by = omega arith in e) ∙ pow-add 2 i by in
    let m : (x + 2 ^ (by + i)) % 2 ^ by ≡ x % 2 ^ by = ap (λ (c : ℕ). (x + c) % 2 ^ by) p ∙ add-mul-mod_self_right x (2 ^ i) (2 ^ by) in
    let d : (x + 2 ^ (by + i)) / 2 ^ by ≡ x / 2 ^ by + 2 ^ i = ap (λ (c : ℕ). (x + c) / 2 ^ by) p
    ∙ add-mul-div_right x (2 ^ i) (pow_pos by) in
    rw (m, d) (let e : x % 2 ^ by * 2 ^ (n - by) + (x / 2 ^ by + 2 ^ i) ≡ x % 2 ^ by * 2 ^ (n - by) + x / 2 ^ by + 2 ^ i = omega arith in e)

-- one rotation after another
pub rotated-rotated : (n by more x : ℕ) → by + more ≤ n → rotated n more (rotated n by x) ≡ rotated n (by + more) x
unfolding rotated
rotated-rotated n by more x l =
    let a : ℕ = x % 2 ^ by in
    let q : ℕ = x / 2 ^ by in
    let rest : ℕ = n - (by + more) in
    let p : 2 ^ (n - by) ≡ 2 ^ rest * 2 ^ more = sym (pow_join rest more (n - by) (omega arith)) in
    let whole : a * 2 ^ (n - by) + q ≡ q + a * 2 ^ rest * 2 ^ more = ap (λ (c : ℕ). a * c + q) p
    ∙ ap (λ (c : ℕ). c + q) (sym (mul_assoc a (2 ^ rest) (2 ^ more)))
    ∙ (let e : a * 2 ^ rest * 2 ^ more + q ≡ q + a * 2 ^ rest * 2 ^ more = omega arith in e) in
    let m : (a * 2 ^ (n - by) + q) % 2 ^ more ≡ q % 2 ^ more = ap (λ (c : ℕ). c % 2 ^ more) whole
    ∙ add-mul-mod_self_right q (a * 2 ^ rest) (2 ^ more) in
    let d : (a * 2 ^ (n - by) + q) / 2 ^ more ≡ q / 2 ^ more + a * 2 ^ rest = ap (λ (c : ℕ). c / 2 ^ more) whole
    ∙ add-mul-div_right q (a * 2 ^ rest) (pow_pos more) in
    let s : x % 2 ^ (by + more) ≡ q % 2 ^ more * 2 ^ by + a = ap (λ (c : ℕ). x % 2 ^ c) (let e : by + more ≡ more + by = omega arith in e)
    ∙ mod-pow-add x more by in
    let t : x / 2 ^ (by + more) ≡ q / 2 ^ more = sym (shr-shr x by more) in
    let u : (q % 2 ^ more * 2 ^ by + a) * 2 ^ rest ≡ q % 2 ^ more * 2 ^ (n - more) + a * 2 ^ rest
    = add-mul (q % 2 ^ more * 2 ^ by) a (2 ^ rest)
    ∙ ap (λ (c : ℕ). c + a * 2 ^ rest) (mul_assoc (q % 2 ^ more) (2 ^ by) (2 ^ rest)
    ∙ ap (λ (c : ℕ). q % 2 ^ more * c) (pow_join by rest (n - more) (omega arith))) in
    rw (m, d, s, t, u)
    (let e : q % 2 ^ more * 2 ^ (n - more) + (q / 2 ^ more + a * 2 ^ rest) ≡ q % 2 ^ more * 2 ^ (n - more) + a * 2 ^ rest + q / 2 ^ more
    = omega arith in e)

-- none and all
pub rotated-none : (n x : ℕ) → rotated n 0 x ≡ x
unfolding rotated
rotated-none n x =
    let m : x % 1 ≡ 0 = mod-one x in
    let d : x / 1 ≡ x = omega arith in
    let z : 0 * 2 ^ (n - 0) ≡ 0 = zero-mul (2 ^ (n - 0)) in
    rw (m, d, z) (omega arith)

-- a rotation by all bits
pub rotated-all : (n x : ℕ) → x < 2 ^ n → rotated n n x ≡ x
unfolding rotated
rotated-all n x h =
    let m : x % 2 ^ n ≡ x = mod-eq_of_lt h in
    let d : x / 2 ^ n ≡ 0 = div-eq_of_lt h in
    let z : n - n ≡ 0 = omega arith in
    rw (m, d, z) (omega arith)

-- sums, modulo 2 ^ 64
sum_mod : (a b c d e : ℕ) → a % 18446744073709551616 ≡ c % 18446744073709551616 → b % 18446744073709551616 ≡ d % 18446744073709551616
    → e ≡ c + d
    → (a + b) % 18446744073709551616 ≡ e % 18446744073709551616
sum_mod a b c d e p q r = omega arith

-- differences, modulo 2 ^ 64
less_mod : (a b c d e : ℕ) → a % 18446744073709551616 ≡ c % 18446744073709551616 → b % 18446744073709551616 ≡ d % 18446744073709551616
    → (e + d) % 18446744073709551616 ≡ c % 18446744073709551616 → (a + negative b) % 18446744073709551616 ≡ e % 18446744073709551616
less_mod a b c d e p q r = omega arith

-- cut twice
mod_twice : (u : ℕ) → u % 18446744073709551616 % 18446744073709551616 ≡ u % 18446744073709551616
mod_twice u = omega arith

-- ---- a list of records in the midst of the rounds: rotated by `by`, and `by + j` bits done

-- the numbers, modulo 2 ^ 64
unfoldable pub Numbered : ℕ → ℕ → ℕ → (ℕ → ℕ) → (ℕ → List ℕ) → Type 0
Numbered n by j v ys = (k : ℕ) → k < 2 ^ n
    → number_in (ys (rotated n by k)) % 18446744073709551616 ≡ partial v (by + j) k % 18446744073709551616

-- the bytes
unfoldable pub Written : ℕ → ℕ → ℕ → (ℕ → ℕ) → (ℕ → List ℕ) → Type 0
Written n by j v ys = (k : ℕ) → k < 2 ^ n → ys (rotated n by k) ≡ record_of (partial v (by + j) k)

-- the bytes hold the numbers
pub numbered_written : (n by j : ℕ) (v : ℕ → ℕ) (ys : ℕ → List ℕ) → Written n by j v ys → Numbered n by j v ys
unfolding Numbered Written
numbered_written n by j v ys w k h =
    ap (λ (c : List ℕ). number_in c % 18446744073709551616) (w k h)
    ∙ ap (λ (c : ℕ). c % 18446744073709551616) (number_in-record_of (partial v (by + j) k))
    ∙ mod_twice (partial v (by + j) k)

-- the records in the range decide
pub written_same : (n by j : ℕ) (v : ℕ → ℕ) (ys zs : ℕ → List ℕ) → by ≤ n → SameRecords (2 ^ n) ys zs → Written n by j v zs
    → Written n by j v ys
unfolding Written
written_same n by j v ys zs l h w k b = h (rotated n by k) (rotated-lt n by k l b) ∙ w k b

-- at the beginning
pub numbered_first : (n : ℕ) (xs : ℕ → List ℕ) → Numbered n 0 0 (λ x. number_in (xs x)) xs
unfolding Numbered
numbered_first n xs k h =
    ap (λ (c : ℕ). c % 18446744073709551616)
    (ap (λ (c : ℕ). number_in (xs c)) (rotated-none n k) ∙ sym (partial-none (λ x. number_in (xs x)) k))

-- the address with the bit
upper_half : (n by j : ℕ) (v : ℕ → ℕ) (ys : ℕ → List ℕ) → by + j < n → Numbered n by j v ys → (k : ℕ) → k + 2 ^ (by + j) < 2 ^ n
    → bit_at k (by + j) ≡ 0
    → butterfly j ys (rotated n by (k + 2 ^ (by + j))) ≡ record_of (partial v (by + suc j) (k + 2 ^ (by + j)))
unfolding Numbered
upper_half n by j v ys l s k h p =
    let more : by + suc j ≡ by + j + 1 = omega arith in
    let below : k < 2 ^ n = omega arith in
    ap (butterfly j ys) (rotated-add n by j k)
    ∙ butterfly-set j ys (rotated n by k) (rotated-bit n by j k l ∙ p)
    ∙ record_of-mod _ _ (less_mod _ _ _ _ _ (s k below)
    (ap (λ (c : ℕ). number_in (ys c) % 18446744073709551616) (sym (rotated-add n by j k)) ∙ s (k + 2 ^ (by + j)) h)
    (ap (λ (c : ℕ). (c + partial v (by + j) (k + 2 ^ (by + j))) % 18446744073709551616)
    (ap (λ (c : ℕ). partial v c (k + 2 ^ (by + j))) more) ∙ partial-set v (by + j) k p))

-- one butterfly
pub written_butterfly : (n by j : ℕ) (v : ℕ → ℕ) (ys : ℕ → List ℕ) → by + j < n → Numbered n by j v ys
    → Written n by (suc j) v (butterfly j ys)
unfolding Numbered Written
written_butterfly n by j v ys l s k h =
    let more : by + suc j ≡ by + j + 1 = omega arith in
    ⊎_elim
    (λ (p : bit_at k (by + j) ≡ 0).
    butterfly-clear j ys (rotated n by k) (rotated-bit n by j k l ∙ p)
    ∙ record_of-mod _ _ (sum_mod _ _ _ _ _ (s k h)
    (ap (λ (c : ℕ). number_in (ys c) % 18446744073709551616) (sym (rotated-add n by j k))
    ∙ s (k + 2 ^ (by + j)) (set_below k (by + j) n h l p))
    (ap (λ (c : ℕ). partial v c k) more ∙ partial-clear v (by + j) k p)))
    (λ (p : bit_at k (by + j) ≡ 0 → ⊥).
    let o : bit_at k (by + j) ≡ 1 = (let b : bit_at k (by + j) < 2 = bit_at-lt k (by + j) in let c : bit_at k (by + j) ≡ 0
    → ⊥ = p in omega arith) in
    let w = without_bit k (by + j) o in
    let u : k - 2 ^ (by + j) + 2 ^ (by + j) ≡ k = (let w0 : 2 ^ (by + j) ≤ k = w.0 in omega arith) in
    subst (λ (c : ℕ). butterfly j ys (rotated n by c) ≡ record_of (partial v (by + suc j) c)) u
    (upper_half n by j v ys l s (k - 2 ^ (by + j)) (subst (λ (c : ℕ). c < 2 ^ n) (sym u) h) w.1))
    (cases_eq (bit_at k (by + j)) 0)

-- all butterflies of a round
pub numbered_butterflies : (n by low : ℕ) (v : ℕ → ℕ) (ys : ℕ → List ℕ) → by + low ≤ n → Numbered n by 0 v ys
    → Numbered n by low v (butterflies low ys)
unfolding butterflies
numbered_butterflies n by zero v ys l s = s
numbered_butterflies n by (suc low) v ys l s =
    numbered_written n by (suc low) v (butterfly low (butterflies low ys))
    (written_butterfly n by low v (butterflies low ys) (omega arith) (numbered_butterflies n by low v ys (omega arith) s))

-- and their bytes
pub written_butterflies : (n by low : ℕ) (v : ℕ → ℕ) (ys : ℕ → List ℕ) → 0 < low → by + low ≤ n → Numbered n by 0 v ys
    → Written n by low v (butterflies low ys)
unfolding butterflies
written_butterflies n by zero v ys some l s = absurd (omega arith)
written_butterflies n by (suc low) v ys some l s =
    written_butterfly n by low v (butterflies low ys) (omega arith) (numbered_butterflies n by low v ys (omega arith) s)

-- a map that is the rotation by l
unfoldable pub IsRotation : ℕ → ℕ → Affine → Type 0
IsRotation n l f = (x : ℕ) → x < 2 ^ n → affine_image f x ≡ rotated n l x

-- one round: butterflies on `low` bits, then the rotation by `low`
pub written_round : (n by low : ℕ) (v : ℕ → ℕ) (ys : ℕ → List ℕ) (f : Affine) → 0 < low → by + low ≤ n → f.a.n ≡ n → IsNonsingular f.a
    → IsRotation n low f
    → Numbered n by 0 v ys → Written n (by + low) 0 v (permuted f (butterflies low ys))
unfolding Written IsRotation
written_round n by low v ys f some l e g r s k h =
    let inside : rotated n by k < 2 ^ n = rotated-lt n by k (omega arith) h in
    let w : Written n by low v (butterflies low ys) = written_butterflies n by low v ys some l s in
    ap (permuted f (butterflies low ys)) (sym (rotated-rotated n by low k l) ∙ sym (r (rotated n by k) inside))
    ∙ permuted-image f (butterflies low ys) (rotated n by k) g (subst (λ (c : ℕ). rotated n by k < 2 ^ c) (sym e) inside)
    ∙ w k h
    ∙ ap (λ (c : ℕ). record_of (partial v c k)) (let e : by + low ≡ by + low + 0 = omega arith in e)

-- after the last round the list is the transform
pub transformed_written : (n : ℕ) (xs ys : ℕ → List ℕ) → Written n n 0 (λ x. number_in (xs x)) ys
    → SameRecords (2 ^ n) ys (transformed n xs)
unfolding Written
transformed_written n xs ys w k h =
    ap ys (sym (rotated-all n k h)) ∙ w k h ∙ ap record_of
    (ap (λ (c : ℕ). partial (λ x. number_in (xs x)) c k) (let e : n + 0 ≡ n = omega arith in e) ∙ partial-all (λ x. number_in (xs x)) n k h)
