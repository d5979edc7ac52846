-- Groups that are taken through a pairing by themselves.
use Rattle.std.proofs.Common.{ℕ, zero, suc, ◌≡◌, ◌≢◌, ◌+◌, ◌^◌, ◌<◌, ◌≤◌, List, refl, sym}
use Rattle.std.proofs.Common.{ap, ◌∙◌, subst, arith, ⊎_elim, length, slice_index, slice_set, get_or-set_same, get_or-set_other}
use Rattle.std.proofs.Math.Pow.{pow_mono}
use Rattle.std.proofs.lemmas.Bool.{cases_eq}
use Rattle.bm_base.specs.Records.{SameRecords}
use Rattle.bm_butter.specs.OnBits.{word, kernel_along, kernel_digits, AreBits}
use Rattle.bm_butter.proofs.OnBitLemmas.{flip, kernel_on-same}
use Rattle.bm_kinds.proofs.OverLemmas.{kernel_digits-words}
use Rattle.bm_kinds.proofs.MemberLemmas.{IsBase, number, number_bit, number_flip, number_below, number_base, in_group}

-- ---- a group by itself

-- the bits of a list on the numbers of a group are digits there
pub along_group : (f : ℕ → ℕ → ℕ × ℕ) (n count w m : ℕ) (bits : ℕ → ℕ) (xs : ℕ → List ℕ) → AreBits n count bits → IsBase bits count w
    → m ≤ count
    → (t : ℕ) → kernel_digits f m (λ s. xs (number bits count w s)) t ≡ kernel_along f bits m xs (number bits count w t)
unfolding kernel_along
along_group f n count w zero bits xs are base fewer t = refl
along_group f n count w (suc m) bits xs are base fewer t =
    let before = along_group f n count w m bits xs are base (omega arith) in
    let ys = kernel_along f bits m xs in
    kernel_on-same f m (bits m) (kernel_digits f m (λ s. xs (number bits count w s))) ys t (number bits count w t)
    (sym (number_bit n count w m t bits are base (omega arith)))
    (ap word (before t))
    (ap word (before (flip t m) ∙ ap ys (number_flip count w m t bits (omega arith))))

-- the groups of the bases below x are transformed, and the others are as before
pub record GroupsBelow (f : ℕ → ℕ → ℕ × ℕ) (n count : ℕ) (bits : ℕ → ℕ) (x : ℕ) (old new : ℕ → List ℕ) : Type 0 where
  pub done : (w t : ℕ) → w < x → w < 2 ^ n → IsBase bits count w → t < 2 ^ count
      → new (number bits count w t) ≡ kernel_along f bits count old (number bits count w t)
  pub left : (w t : ℕ) → x ≤ w → w < 2 ^ n → IsBase bits count w → t < 2 ^ count → new (number bits count w t) ≡ old (number bits count w t)

pub GroupsBelow-none : (f : ℕ → ℕ → ℕ × ℕ) (n count : ℕ) (bits : ℕ → ℕ) (old : ℕ → List ℕ) → GroupsBelow f n count bits 0 old old
GroupsBelow-none f n count bits old = record { done = λ w t below. absurd (omega arith); left = λ w t above short base l. refl }

-- a number with one of the bits has no group of its own
pub GroupsBelow-skip : (f : ℕ → ℕ → ℕ × ℕ) (n count : ℕ) (bits : ℕ → ℕ) (x : ℕ) (old new : ℕ → List ℕ) → ¬ IsBase bits count x
    → GroupsBelow f n count bits x old new → GroupsBelow f n count bits (x + 1) old new
GroupsBelow-skip f n count bits x old new other before = record {
  done = λ w t below short base l. ⊎_elim
      (λ (p : w ≡ x). absurd (other (subst (λ (c : ℕ). IsBase bits count c) p base)))
      (λ (p : w ≢ x). before.done w t (omega arith) short base l) (cases_eq w x);
  left = λ w t above. before.left w t (omega arith);
}

-- one group more
pub GroupsBelow-more : (f : ℕ → ℕ → ℕ × ℕ) (n count : ℕ) (bits : ℕ → ℕ) (x : ℕ) (old now new : ℕ → List ℕ) → AreBits n count bits
    → 1 ≤ count
    → x < 2 ^ n → IsBase bits count x → GroupsBelow f n count bits x old now
    → ((t : ℕ) → t < 2 ^ count → new (number bits count x t) ≡ kernel_digits f count (λ k. now (number bits count x k)) t)
    → ((y : ℕ) → y < 2 ^ n → ((t : ℕ) → t < 2 ^ count → y ≢ number bits count x t) → new y ≡ now y)
    → GroupsBelow f n count bits (x + 1) old new
GroupsBelow-more f n count bits x old now new are some short_x base_x before made others =
    let kept : (w t : ℕ) → w ≢ x → w < 2 ^ n → IsBase bits count w → t < 2 ^ count
    → new (number bits count w t) ≡ now (number bits count w t) =
    λ w t differ short base l. others (number bits count w t) (number_below n count w t bits are short)
    (λ s k e. differ (number_base n count w x t s bits are base base_x l k e)) in
    record {
      done = λ w t below short base l. ⊎_elim
          (λ (p : w ≡ x). subst (λ (c : ℕ). new (number bits count c t) ≡ kernel_along f bits count old (number bits count c t)) (sym p)
          (made t l
          ∙ kernel_digits-words f count (λ k. now (number bits count x k)) (λ k. old (number bits count x k)) some
          (λ k m. ap word (before.left x k (omega arith) short_x base_x m)) t l
          ∙ along_group f n count x count bits old are base_x (omega arith) t))
          (λ (p : w ≢ x). kept w t p short base l ∙ before.done w t (omega arith) short base l)
          (cases_eq w x);
      left = λ w t above short base l. kept w t (λ e. absurd (omega arith)) short base l ∙ before.left w t (omega arith) short base l;
    }

-- all groups
pub SameRecords-groups : (f : ℕ → ℕ → ℕ × ℕ) (n count : ℕ) (bits : ℕ → ℕ) (x : ℕ) (old new : ℕ → List ℕ) → AreBits n count bits → 2 ^ n ≤ x
    → GroupsBelow f n count bits x old new → SameRecords (2 ^ n) new (kernel_along f bits count old)
SameRecords-groups f n count bits x old new are end all y short =
    let h = in_group n count y bits are short in
    ap new h.is ∙ all.done h.first h.digits (omega (arith, h.below)) h.below h.base h.short ∙ ap (kernel_along f bits count old) (sym h.is)

-- ---- arrays of a group

-- a fact of each entry so far, and of the one that is written
pub written_more : (xs : List ℕ) (i v : ℕ) (P : ℕ → ℕ → Type 0) → i < length xs → ((s : ℕ) → s < i → P s (slice_index xs s)) → P i v
    → (s : ℕ) → s < i + 1 → P s (slice_index (slice_set xs i v) s)
written_more xs i v P inside before here s below =
    ⊎_elim
    (λ (p : s ≡ i). subst (λ (k : ℕ). P k (slice_index (slice_set xs i v) k)) (sym p)
    (subst (P i) (sym (get_or-set_same xs i v 0 inside)) here))
    (λ (p : s ≢ i). subst (P s) (sym (get_or-set_other xs i s v 0 p)) (before s (omega arith)))
    (cases_eq s i)

-- a group has at most 8 numbers
pub few_numbers : (count : ℕ) → count ≤ 3 → 2 ^ count ≤ 8
few_numbers count few = pow_mono {i = count} {j = 3} few
