-- Pairs in a list of bytes.
use Rattle.std.proofs.Common.{◌≡◌, ℕ, suc, ◌+◌, ◌-◌, ◌*◌, ◌/◌, ◌%◌, ◌^◌, ◌<◌, ◌≤◌, ◌⊎◌, inl, inr, List, bit_xor, refl}
use Rattle.std.proofs.Common.{sym, ap, ◌∙◌, subst, arith, ⊎_elim}
use Rattle.std.specs.Int.Bits.{xor_shifted, xor_assoc}
use Rattle.std.specs.Int.{bit_at}
use Rattle.std.proofs.lemmas.Bool.{cases_lt}
use Rattle.std.proofs.lemmas.Nat.{pow_pos, xor_comm, mod-pow-add, mod-mul-add}
use Rattle.std.proofs.Math.Nat.{two-pow-succ, add-mul, mod-lt, mod-add-div', mul-le-mul_right}
use Rattle.bm_base.specs.Butterfly.{record_of}
use Rattle.bm_butter.specs.Records.{record_in_order}
use Rattle.bm_butter.specs.Pairs.{IsPaired, AreHalves}
use Rattle.bm_butter.specs.OnBits.{word}
use Rattle.bm_butter.proofs.OnBitLemmas.{same_pair}

-- a pair of records that were as at first
pub IsPaired-from : (f : ℕ → ℕ → ℕ × ℕ) (old now new : List ℕ) (p q : ℕ) → IsPaired f now new p q
    → record_in_order now p ≡ record_in_order old p → record_in_order now q ≡ record_in_order old q
    → IsPaired f old new p q
IsPaired-from f old now new p q pair same_p same_q =
    let same = same_pair f (ap word same_p) (ap word same_q) in
    record {
      first = pair.first ∙ ap (λ (r : ℕ × ℕ). record_of r.0) same;
      second = pair.second ∙ ap (λ (r : ℕ × ℕ). record_of r.1) same;
    }

-- a pair that is kept
pub IsPaired-kept : (f : ℕ → ℕ → ℕ × ℕ) (old now new : List ℕ) (p q : ℕ) → IsPaired f old now p q
    → record_in_order new p ≡ record_in_order now p → record_in_order new q ≡ record_in_order now q
    → IsPaired f old new p q
IsPaired-kept f old now new p q pair same_p same_q = record { first = same_p ∙ pair.first; second = same_q ∙ pair.second }

-- without the bit, the part of a number below its block of 2 ^ (i + 1) is below 2 ^ i
pub clear_low : (i x : ℕ) → bit_at x i ≡ 0 → x % 2 ^ (i + 1) < 2 ^ i
clear_low i x clear =
    let low : x % 2 ^ (i + 1) ≡ x % 2 ^ i = ap (λ c. x % 2 ^ c) (let e : i + 1 ≡ 1 + i = omega arith in e) ∙ mod-pow-add x 1 i
    ∙ ap (λ c. c * 2 ^ i + x % 2 ^ i) clear ∙ (let e : 0 * 2 ^ i + x % 2 ^ i ≡ x % 2 ^ i = omega arith in e) in
    let small : x % 2 ^ i < 2 ^ i = mod-lt x (pow_pos i) in
    omega arith

-- setting a clear bit is an XOR
pub set_by_xor : (i x : ℕ) → bit_at x i ≡ 0 → x + 2 ^ i ≡ bit_xor x (2 ^ i)
set_by_xor i x clear =
    let q = x / 2 ^ (i + 1) in
    let r = x % 2 ^ (i + 1) in
    let two : 2 ^ (i + 1) ≡ 2 ^ i + 2 ^ i = ap (λ c. 2 ^ c) (let e : i + 1 ≡ suc i = omega arith in e) ∙ two-pow-succ i in
    let small : r < 2 ^ i = clear_low i x clear in
    let parts : r + q * 2 ^ (i + 1) ≡ x = mod-add-div' x (2 ^ (i + 1)) in
    let whole : bit_xor (q * 2 ^ (i + 1)) r ≡ x = xor_shifted q (i + 1) r (omega arith)
    ∙ (let e : q * 2 ^ (i + 1) + r ≡ x = omega arith in e) in
    let bit : bit_xor (1 * 2 ^ i) r ≡ 1 * 2 ^ i + r = xor_shifted 1 i r small in
    let one : 1 * 2 ^ i ≡ 2 ^ i = omega arith in
    let both : bit_xor (q * 2 ^ (i + 1)) (1 * 2 ^ i + r) ≡ q * 2 ^ (i + 1) + (1 * 2 ^ i + r) =
    xor_shifted q (i + 1) (1 * 2 ^ i + r) (omega arith) in
    let sum : x + 2 ^ i ≡ q * 2 ^ (i + 1) + (1 * 2 ^ i + r) = omega arith in
    sum ∙ sym both ∙ ap (bit_xor (q * 2 ^ (i + 1))) (sym bit ∙ ap (λ c. bit_xor c r) one ∙ xor_comm (2 ^ i) r)
    ∙ sym (xor_assoc (q * 2 ^ (i + 1)) r (2 ^ i)) ∙ ap (λ c. bit_xor c (2 ^ i)) whole

-- both numbers of a pair are in one block
pub clear_block : (i x b : ℕ) → x < b * 2 ^ (i + 1) → bit_at x i ≡ 0 → x + 2 ^ i < b * 2 ^ (i + 1)
clear_block i x b below clear =
    let size = 2 ^ (i + 1) in
    let q = x / size in
    let two : size ≡ 2 ^ i + 2 ^ i = ap (λ c. 2 ^ c) (let e : i + 1 ≡ suc i = omega arith in e) ∙ two-pow-succ i in
    let small : x % size < 2 ^ i = clear_low i x clear in
    let parts : x % size + q * size ≡ x = mod-add-div' x size in
    let before : q < b = ⊎_elim
    (λ (p : q < b). p) (λ (p : b ≤ q). let more : b * size ≤ q * size = mul-le-mul_right size p in absurd (omega arith)) (cases_lt q b) in
    let room : (q + 1) * size ≤ b * size = mul-le-mul_right size (let e : q + 1 ≤ b = omega arith in e) in
    let next : (q + 1) * size ≡ q * size + 1 * size = add-mul q 1 size in
    omega arith

-- the pairs of the blocks `from` to `to` are made, and nothing else is changed
pub record BlocksPaired (f : ℕ → ℕ → ℕ × ℕ) (i at_u at_v from to : ℕ) (old new : List ℕ) : Type 0 where
  pub paired : (x : ℕ) → from * 2 ^ (i + 1) ≤ x → x < to * 2 ^ (i + 1) → bit_at x i ≡ 0 → IsPaired f old new (x + at_u) (x + at_v)
  pub others : (x : ℕ) → (x < from * 2 ^ (i + 1)) ⊎ (to * 2 ^ (i + 1) ≤ x) → record_in_order new x ≡ record_in_order old x

-- no block is made yet
pub BlocksPaired-none : (f : ℕ → ℕ → ℕ × ℕ) (i at_u at_v from : ℕ) (old : List ℕ) → BlocksPaired f i at_u at_v from from old old
BlocksPaired-none f i at_u at_v from old = record { paired = λ x above below. absurd (omega arith); others = λ x outside. refl }

-- one block more
pub BlocksPaired-more : (f : ℕ → ℕ → ℕ × ℕ) (i at_u at_v half first from block : ℕ) (old now new : List ℕ) → AreHalves i at_u at_v
    → half ≡ 2 ^ i
    → first ≡ block * 2 ^ (i + 1)
    → from ≤ block → BlocksPaired f i at_u at_v from block old now
    → ((k : ℕ) → k < half → IsPaired f now new (first + at_u + k) (first + at_v + k))
    → ((k : ℕ) → (k < first + at_u) ⊎ (first + at_u + half ≤ k) → (k < first + at_v) ⊎ (first + at_v + half ≤ k)
    → record_in_order new k ≡ record_in_order now k)
    → BlocksPaired f i at_u at_v from (block + 1) old new
BlocksPaired-more f i at_u at_v half first from block old now new halves is_half is_first start before paired others =
    let two : 2 ^ (i + 1) ≡ 2 ^ i + 2 ^ i = ap (λ c. 2 ^ c) (let e : i + 1 ≡ suc i = omega arith in e) ∙ two-pow-succ i in
    let next : (block + 1) * 2 ^ (i + 1) ≡ block * 2 ^ (i + 1) + 1 * 2 ^ (i + 1) = add-mul block 1 (2 ^ (i + 1)) in
    let end : (block + 1) * 2 ^ (i + 1) ≡ first + half + half = omega arith in
    let begin : from * 2 ^ (i + 1) ≤ first = omega (arith, mul-le-mul_right (2 ^ (i + 1)) start) in
    let both : at_u + at_v ≡ half = omega (arith, halves.0) in
    let kept : (k : ℕ) → (k < first) ⊎ (first + half + half ≤ k) → record_in_order new k ≡ record_in_order now k = λ k outside.
    ⊎_elim (λ (p : k < first). others k (inl (omega arith)) (inl (omega arith)))
    (λ (p : first + half + half ≤ k). others k (inr (omega arith)) (inr (omega arith))) outside in
    record {
      paired = λ x above below clear.
          ⊎_elim
          (λ (p : x < first).
          let partner : x + 2 ^ i < block * 2 ^ (i + 1) = clear_block i x block (omega arith) clear in
          IsPaired-kept f old now new (x + at_u) (x + at_v) (before.paired x above (omega arith) clear)
          (kept (x + at_u) (inl (omega arith))) (kept (x + at_v) (inl (omega arith))))
          (λ (p : first ≤ x).
          let k = x - first in
          let is : x ≡ block * 2 ^ (i + 1) + k = omega arith in
          let low : x % 2 ^ (i + 1) ≡ k = ap (λ c. c % 2 ^ (i + 1)) is ∙ mod-mul-add block (2 ^ (i + 1)) k (omega arith) in
          let small : x % 2 ^ (i + 1) < 2 ^ i = clear_low i x clear in
          let pair : IsPaired f old new (first + at_u + k) (first + at_v + k) =
          IsPaired-from f old now new (first + at_u + k) (first + at_v + k) (paired k (omega arith))
          (before.others (first + at_u + k) (inr (omega arith))) (before.others (first + at_v + k) (inr (omega arith))) in
          subst (λ c. IsPaired f old new c (x + at_v)) (let e : first + at_u + k ≡ x + at_u = omega arith in e)
          (subst (λ c. IsPaired f old new (first + at_u + k) c) (let e : first + at_v + k ≡ x + at_v = omega arith in e) pair))
          (cases_lt x first);
      others = λ x outside.
          kept x (⊎_elim (λ (p : x < from * 2 ^ (i + 1)). inl (omega arith))
          (λ (p : (block + 1) * 2 ^ (i + 1) ≤ x). inr (omega arith)) outside)
          ∙ before.others x (⊎_elim (λ (p : x < from * 2 ^ (i + 1)). inl p)
          (λ (p : (block + 1) * 2 ^ (i + 1) ≤ x). inr (omega arith)) outside);
    }
