-- One bit of a list, and two in either order.
use Rattle.std.proofs.Common.{ℕ, ◌≡◌, ◌≢◌, ◌<◌, ◌≤◌, min, max, List, sym, ap, ◌∙◌, subst, arith, ⊎_elim}
use Rattle.std.proofs.lemmas.Bool.{cases_lt}
use Rattle.bm_butter.specs.Pairings.{KeepsWords, Commutes}
use Rattle.bm_butter.specs.OnBits.{kernel_on, kernel_over, kernel_along, set_of, AreBits}
use Rattle.bm_butter.proofs.OnBitLemmas.{kernel_on-swap}
use Rattle.bm_butter.proofs.KernelLemmas.{same_lists}
use Rattle.bm_kinds.proofs.OverLemmas.{kernel_over-none, kernel_along-set}
use Rattle.bm_kinds.proofs.MemberLemmas.{set_of-start}

-- no bit
pub over_none : (f : ℕ → ℕ → ℕ × ℕ) (n count : ℕ) (bits : ℕ → ℕ) (xs : ℕ → List ℕ) → count ≡ 0
    → xs ≡ kernel_over f n (set_of bits count) xs
over_none f n count bits xs none =
    sym (ap (λ (k : ℕ). kernel_over f n (set_of bits k) xs) none
    ∙ ap (λ (k : ℕ). kernel_over f n k xs) (sym (set_of-start bits)) ∙ kernel_over-none f n xs)

-- the only bit of a list
pub over_one : (f : ℕ → ℕ → ℕ × ℕ) (n count : ℕ) (bits : ℕ → ℕ) (xs : ℕ → List ℕ) → KeepsWords f → Commutes f → count ≡ 1
    → AreBits n count bits → kernel_on f (bits 0) xs ≡ kernel_over f n (set_of bits count) xs
unfolding kernel_along
over_one f n count bits xs keeps law one are =
    kernel_along-set f n 1 bits xs keeps law (subst (λ k. AreBits n k bits) one are)
    ∙ ap (λ (k : ℕ). kernel_over f n (set_of bits k) xs) (sym one)

-- both bits of a list, the lower one first
pub over_two : (f : ℕ → ℕ → ℕ × ℕ) (n count : ℕ) (bits : ℕ → ℕ) (xs : ℕ → List ℕ) → KeepsWords f → Commutes f → count ≡ 2
    → AreBits n count bits
    → kernel_on f (max (bits 0) (bits 1)) (kernel_on f (min (bits 0) (bits 1)) xs) ≡ kernel_over f n (set_of bits count) xs
unfolding kernel_along
over_two f n count bits xs keeps law two are =
    let i = bits 0 in
    let j = bits 1 in
    let differ : i ≢ j = are.apart 0 1 (omega arith) (omega arith) in
    let in_order : kernel_on f (max i j) (kernel_on f (min i j) xs) ≡ kernel_on f j (kernel_on f i xs) =
    ⊎_elim
    (λ (p : i < j). ap (λ (k : ℕ). kernel_on f k (kernel_on f (min i j) xs)) (let e : max i j ≡ j = omega arith in e)
    ∙ ap (λ (k : ℕ). kernel_on f j (kernel_on f k xs)) (let e : min i j ≡ i = omega arith in e))
    (λ (p : j ≤ i). ap (λ (k : ℕ). kernel_on f k (kernel_on f (min i j) xs)) (let e : max i j ≡ i = omega arith in e)
    ∙ ap (λ (k : ℕ). kernel_on f i (kernel_on f k xs)) (let e : min i j ≡ j = omega arith in e)
    ∙ same_lists (kernel_on f i (kernel_on f j xs)) (kernel_on f j (kernel_on f i xs)) (λ x. kernel_on-swap f i j xs x keeps law differ))
    (cases_lt i j) in
    in_order ∙ kernel_along-set f n 2 bits xs keeps law (subst (λ k. AreBits n k bits) two are)
    ∙ ap (λ (k : ℕ). kernel_over f n (set_of bits k) xs) (sym two)
