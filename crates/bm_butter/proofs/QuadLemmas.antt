-- The numbers of one group of four.
use Rattle.std.proofs.Common.{◌≡◌, ℕ, List, refl, sym, ap, ◌∙◌}
use Rattle.bm_base.specs.Butterfly.{record_of}
use Rattle.bm_butter.specs.Pairings.{KeepsWords}
use Rattle.bm_butter.specs.OnBits.{word, kernel_on, kernel_along, kernel_digits}
use Rattle.bm_butter.proofs.OnBitLemmas.{same_pair, kernel_on-clear, kernel_on-set, word_on-clear, word_on-set}

-- both rounds of four numbers
pub record BothRounds (f : ℕ → ℕ → ℕ × ℕ) (g : ℕ → List ℕ) (above below : ℕ × ℕ) : Type 0 where
  pub first : record_of (f above.0 below.0).0 ≡ kernel_digits f 2 g 0
  pub second : record_of (f above.1 below.1).0 ≡ kernel_digits f 2 g 1
  pub third : record_of (f above.0 below.0).1 ≡ kernel_digits f 2 g 2
  pub fourth : record_of (f above.1 below.1).1 ≡ kernel_digits f 2 g 3

-- from the first round
pub BothRounds-made : (f : ℕ → ℕ → ℕ × ℕ) (g : ℕ → List ℕ) (above below : ℕ × ℕ) → KeepsWords f
    → above ≡ f (word (g 0)) (word (g 1)) → below ≡ f (word (g 2)) (word (g 3))
    → BothRounds f g above below
unfolding kernel_along
BothRounds-made f g above below keeps is_above is_below =
    let h = kernel_on f 0 g in
    let at_0 : above.0 ≡ word (h 0) = ap (λ (r : ℕ × ℕ). r.0) is_above ∙ sym (word_on-clear f 0 g 0 keeps refl) in
    let at_1 : above.1 ≡ word (h 1) = ap (λ (r : ℕ × ℕ). r.1) is_above ∙ sym (word_on-set f 0 g 1 keeps refl) in
    let at_2 : below.0 ≡ word (h 2) = ap (λ (r : ℕ × ℕ). r.0) is_below ∙ sym (word_on-clear f 0 g 2 keeps refl) in
    let at_3 : below.1 ≡ word (h 3) = ap (λ (r : ℕ × ℕ). r.1) is_below ∙ sym (word_on-set f 0 g 3 keeps refl) in
    record {
      first = ap (λ (r : ℕ × ℕ). record_of r.0) (same_pair f at_0 at_2) ∙ sym (kernel_on-clear f 1 h 0 refl);
      second = ap (λ (r : ℕ × ℕ). record_of r.0) (same_pair f at_1 at_3) ∙ sym (kernel_on-clear f 1 h 1 refl);
      third = ap (λ (r : ℕ × ℕ). record_of r.1) (same_pair f at_0 at_2) ∙ sym (kernel_on-set f 1 h 2 refl);
      fourth = ap (λ (r : ℕ × ℕ). record_of r.1) (same_pair f at_1 at_3) ∙ sym (kernel_on-set f 1 h 3 refl);
    }
