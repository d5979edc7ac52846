-- A turn of the swapper's loop, as the code makes it: i columns are left, and column i - 1 is next.
use Rattle.std.proofs.Common.{◌≡◌, ◌≢◌, ℕ, ◌+◌, ◌-◌, ◌/◌, ◌^◌, ◌<◌, ◌≤◌, sym, ap, ◌∙◌, subst, arith}
use Rattle.bm_gf2.specs.declared.matrix.Matrix.{Matrix}
use Rattle.bm_gf2.specs.Matrix.{column}
use Rattle.bm_factor.proofs.SwapperLemmas.{IsSwapping, swapping_kept, swapping_none_left, swapping_exchanged}

-- the column stays
pub turn_kept : (a s : Matrix) (m next i at : ℕ) → IsSwapping a s m next i → 0 < i → m ≤ a.n → at ≡ i - 1 → column a at / 2 ^ m ≢ 0
    → IsSwapping a s m next (i - 1)
turn_kept a s m next i at w pos mn ae some =
    let e : i ≡ (i - 1) + 1 = omega arith in
    let low : i ≤ w.from = w.from_low in
    let high : w.from ≤ m = w.from_high in
    swapping_kept a s m next (i - 1) (subst (λ (k : ℕ). IsSwapping a s m next k) e w) (omega arith) mn
    (λ z. some (ap (λ (k : ℕ). column a k / 2 ^ m) ae ∙ z))

-- nothing is left to exchange it with
pub turn_none : (a s : Matrix) (m next i at k : ℕ) → IsSwapping a s m next i → 0 < i → m ≤ a.n → at ≡ i - 1 → column a at / 2 ^ m ≡ 0
    → i - 1 ≤ k → ((p : ℕ) → next ≤ p → p < k → column a p / 2 ^ m ≡ 0) → IsSwapping a s m next (i - 1)
turn_none a s m next i at k w pos mn ae none ik zeros =
    let e : i ≡ (i - 1) + 1 = omega arith in
    let low : i ≤ w.from = w.from_low in
    let high : w.from ≤ m = w.from_high in
    swapping_none_left a s m next (i - 1) k (subst (λ (x : ℕ). IsSwapping a s m next x) e w) (omega arith) mn
    (ap (λ (x : ℕ). column a x / 2 ^ m) (sym ae) ∙ none) ik zeros

-- it is exchanged
pub turn_exchanged : (a s s2 : Matrix) (m next i at k : ℕ) → IsSwapping a s m next i → 0 < i → m ≤ a.n → at ≡ i - 1
    → column a at / 2 ^ m ≡ 0
    → next ≤ k → k < i - 1 → column a k / 2 ^ m ≢ 0 → ((p : ℕ) → next ≤ p → p < k → column a p / 2 ^ m ≡ 0)
    → s2.n ≡ s.n → column s2 (i - 1) ≡ column s k → column s2 k ≡ column s (i - 1)
    → ((j : ℕ) → j ≢ i - 1 → j ≢ k → column s2 j ≡ column s j) → IsSwapping a s2 m (k + 1) (i - 1)
turn_exchanged a s s2 m next i at k w pos mn ae none nk ki some zeros size first second others =
    let e : i ≡ (i - 1) + 1 = omega arith in
    let low : i ≤ w.from = w.from_low in
    let high : w.from ≤ m = w.from_high in
    swapping_exchanged a s s2 m next (i - 1) k (subst (λ (x : ℕ). IsSwapping a s m next x) e w) (omega arith) mn
    (ap (λ (x : ℕ). column a x / 2 ^ m) (sym ae) ∙ none) nk ki some zeros size first second others
