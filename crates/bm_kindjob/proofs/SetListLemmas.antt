-- Sets that are made of a list's bits.
use Rattle.std.proofs.Common.{ℕ, ◌≡◌, ◌≢◌, ◌+◌, ◌*◌, ◌%◌, ◌^◌, ◌<◌, ◌≤◌, bit_or, count_ones, sym, ap, ◌∙◌, subst, arith, ⊎_elim}
use Rattle.std.specs.Int.{bit_at}
use Rattle.std.proofs.lemmas.Bool.{cases_eq}
use Rattle.std.proofs.lemmas.Nat.{one_shl, pow_pos, ones_le_self}
use Rattle.std.proofs.lemmas.Nat.Bits.{same_from_bits}
use Rattle.bm_kinds.specs.OnBits.{set_of, AreBits}
use Rattle.bm_kinds.proofs.OnBitLemmas.{flip, flip_clear, flip_other, flip_below}
use Rattle.bm_kinds.proofs.OverLemmas.{set_of-none, put_same, put_other}
use Rattle.bm_kinds.proofs.MemberLemmas.{set_of-start, set_of-more}
use Rattle.bm_kinds.proofs.SetLemmas.{ones_flipped}

-- as far as a list is read, its bits are different bits of n, and they make this set
pub record HasSet (n j set : ℕ) (bits : ℕ → ℕ) : Type 0 where
  pub are : AreBits n j bits
  pub is : set ≡ set_of bits j
  pub below : set < 2 ^ n
  pub ones : count_ones set ≡ j

pub HasSet-none : (n : ℕ) (bits : ℕ → ℕ) → HasSet n 0 0 bits
HasSet-none n bits = record {
  are = record { below = λ j l. absurd (omega arith); apart = λ i j less l. absurd (omega arith) };
  is = set_of-start bits;
  below = pow_pos n;
  ones = let h = ones_le_self 0 in omega arith;
}

-- a bit put into a set that hasn't it
put_flips : (s b : ℕ) → bit_at s b ≡ 0 → bit_or s (2 ^ b) ≡ flip s b
put_flips s b clear = same_from_bits (bit_or s (2 ^ b)) (flip s b)
    (λ k. ⊎_elim
    (λ (p : k ≡ b). ap (bit_at (bit_or s (2 ^ b))) p ∙ put_same s b ∙ sym (flip_clear s b clear) ∙ ap (bit_at (flip s b)) (sym p))
    (λ (p : k ≢ b). put_other s b k p ∙ sym (flip_other s b k p))
    (cases_eq k b))

-- one bit more
pub HasSet-more : (n j set : ℕ) (bits : ℕ → ℕ) → n ≤ 52 → HasSet n j set bits → bits j < n → ((i : ℕ) → i < j → bits i ≢ bits j)
    → HasSet n (j + 1) (bit_or set (1 * 2 ^ bits j % 18446744073709551616)) bits
HasSet-more n j set bits few has below differ =
    let b = bits j in
    let one : 1 * 2 ^ b % 18446744073709551616 ≡ 2 ^ b = one_shl b 64 (omega arith) in
    let clear : bit_at set b ≡ 0 = ap (λ (c : ℕ). bit_at c b) has.is ∙ set_of-none bits j b differ in
    let put : bit_or set (1 * 2 ^ b % 18446744073709551616) ≡ flip set b = ap (bit_or set) one ∙ put_flips set b clear in
    record {
      are = record {
        below = λ k l. ⊎_elim (λ (p : k ≡ j). subst (λ (c : ℕ). bits c < n) (sym p) below) (λ (p : k ≢ j). has.are.below k (omega arith))
            (cases_eq k j);
        apart = λ i k less l. ⊎_elim (λ (p : k ≡ j). λ (e : bits i ≡ bits k). differ i (omega arith) (e ∙ ap bits p))
            (λ (p : k ≢ j). has.are.apart i k less (omega arith)) (cases_eq k j);
      };
      is = set_of-more bits j set (omega arith) has.is;
      below = subst (λ (c : ℕ). c < 2 ^ n) (sym put) (flip_below n set b has.below below);
      ones = ap count_ones put ∙ ones_flipped b set clear ∙ ap (λ (c : ℕ). c + 1) has.ones;
    }
