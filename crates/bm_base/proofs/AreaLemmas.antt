-- The areas that passes read and write.
use Rattle.std.proofs.Common.{◌≡◌, ◌≢◌, inl, inr, ℕ, ◌+◌, ◌%◌, refl, sym, ◌∙◌, subst, arith}
use Rattle.std.proofs.lemmas.Bool.{cases_eq, eq-eqb, ne_eqb}
use Rattle.bm_base.specs.declared.area.Area.TheVariants.{Input, One, Two}
use Rattle.bm_base.specs.Area.{area_after}

-- after no pass, after an odd number of passes, and after an even one
area_none : area_after 0 ≡ Input
area_none = refl

pub area_odd : (i : ℕ) → i % 2 ≡ 1 → area_after i ≡ One
area_odd i odd = rw (ne_eqb i 0 (λ e. omega (arith, e, odd)), eq-eqb (i % 2) 1 odd) refl

pub area_even : (i : ℕ) → i ≢ 0 → i % 2 ≢ 1 → area_after i ≡ Two
area_even i some even = rw (ne_eqb i 0 some, ne_eqb (i % 2) 1 even) refl

one_input : ¬ (One ≡ Input)
one_input e = cc

two_input : ¬ (Two ≡ Input)
two_input e = cc

one_two : ¬ (One ≡ Two)
one_two e = cc

-- a pass writes another area than the input
pub target_no_input : (done : ℕ) → area_after (done + 1) ≢ Input
target_no_input done e = elim (cases_eq ((done + 1) % 2) 1) [
  | inl odd ↦ one_input (sym (area_odd (done + 1) odd) ∙ e)
  | inr even ↦ two_input (sym (area_even (done + 1) (λ z. omega (arith, z)) even) ∙ e)
]

-- and another than the one it reads
pub areas_apart : (done : ℕ) → area_after done ≢ area_after (done + 1)
areas_apart done e = elim (cases_eq ((done + 1) % 2) 1) [
  | inl odd ↦ elim (cases_eq done 0) [
    | inl none ↦ target_no_input done (sym e ∙ subst (λ (i : ℕ). area_after i ≡ Input) (sym none) area_none)
    | inr some ↦ one_two (sym (area_odd (done + 1) odd) ∙ sym e ∙ area_even done some (λ z. omega (arith, z, odd)))
  ]
  | inr even ↦ one_two (sym (area_odd done (omega (arith, even))) ∙ e ∙ area_even (done + 1) (λ z. omega (arith, z)) even)
]
