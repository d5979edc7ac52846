-- The set of kept vectors that has a sum.
use Rattle.std.proofs.Common.{◌≡◌, ℕ, ◌^◌, ◌<◌, ◌≤◌, List, length, take, slice_index, bit_xor, sym, ap, ◌∙◌, subst, arith, length-take}
use Rattle.std.specs.Int.{bit_at}
use Rattle.std.specs.Int.Bits.{xor_self}
use Rattle.std.proofs.lemmas.Nat.{xor_lt, pow_pos}
use Rattle.std.proofs.lemmas.Nat.Bits.{bit_at-zero, same_from_bits_below}
use Rattle.bm_gf2.specs.Vector.{xor_sum}
use Rattle.bm_gf2.proofs.VectorLemmas.{xor_sum-xor, xor_sum-lt, xor_same, eq_of_xor-zero}
use Rattle.bm_rank.specs.Echelon.{IsEchelon}
use Rattle.bm_rank.specs.Span.{sum_of}
use Rattle.bm_rank.proofs.SpanLemmas.{sum_of-take}
use Rattle.bm_rank.proofs.EchelonLemmas.{span_of_rest}

-- the sum of the vectors that the marks of the used rows pick
pub combination_sum : (n count : ℕ) (kept rows marks : List ℕ) → IsEchelon n count kept rows marks → count ≤ length kept
    → (v rest used : ℕ) → rest ≡ bit_xor v (xor_sum (slice_index rows) n used) → rest ≡ 0
    → (xor_sum (slice_index (take count kept)) (length (take count kept)) (xor_sum (slice_index marks) n used) ≡ v)
    × (xor_sum (slice_index marks) n used < 2 ^ length (take count kept))
combination_sum n count kept rows marks e l v rest used s z =
    let f : length (take count kept) ≡ count = simp length-take (omega arith) in (
      span_of_rest n count kept rows marks e l v rest used s z,
      rw f (xor_sum-lt (slice_index marks) n count used e.marks_below),
    )

-- the kept vectors are independent: one sum has one set of them
pub combination_only : (n count : ℕ) (kept rows marks : List ℕ) → IsEchelon n count kept rows marks → count ≤ length kept
    → (v rest used : ℕ) → rest ≡ bit_xor v (xor_sum (slice_index rows) n used) → rest ≡ 0
    → (y : ℕ) → y < 2 ^ length (take count kept) → sum_of (take count kept) y ≡ v → y ≡ xor_sum (slice_index marks) n used
combination_only n count kept rows marks e l v rest used s z y short sum =
    let long : length (take count kept) ≡ count = simp length-take (omega arith) in
    let short_here : y < 2 ^ count = subst (λ (k : ℕ). y < 2 ^ k) long short in
    let x : ℕ = xor_sum (slice_index marks) n used in
    let x_below : x < 2 ^ count = xor_sum-lt (slice_index marks) n count used e.marks_below in
    let other : sum_of (take count kept) x ≡ v = span_of_rest n count kept rows marks e l v rest used s z in
    let none : xor_sum (slice_index kept) count (bit_xor y x) ≡ 0 =
    xor_sum-xor (slice_index kept) count y x
    ∙ xor_same (sym (sum_of-take kept count y l) ∙ sum) (sym (sum_of-take kept count x l) ∙ other)
    ∙ xor_self v in
    eq_of_xor-zero y x (same_from_bits_below count (bit_xor y x) 0 (xor_lt count y x short_here x_below) (pow_pos count)
    (λ i inside. e.unique (bit_xor y x) (λ j below pivot. ap (λ (c : ℕ). bit_at c j) none ∙ bit_at-zero j) i inside ∙ sym (bit_at-zero i)))
