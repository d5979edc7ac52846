use Rattle.std.proofs.Common.{◌≡◌, ℕ, ◌-◌, ◌<◌, ◌^◌, subst, ap, ◌∙◌, arith}
use Rattle.std.specs.Int.{bit_at}
use Rattle.bm_gf2.specs.Matrix.{column}
use Rattle.bm_named.proofs.ImageLemmas.{image-unit_row, nonsingular_of_bits}
use Rattle.bm_named.proofs.ReversalLemmas.{antidiagonal_bit}
use Rattle.bm_named.proofs.reversals.bit_reversal.Goals as goal

pub returns-clause-bits : goal.returns-clause-bits
returns-clause-bits c = λ x i _ inside.
    let n = c.args.n in
    let m = c.antidiagonal.result in
    let size : m.n ≡ n = c.antidiagonal.ensures.size in
    image-unit_row (column m) m.n i (n - 1 - i) x (omega arith)
    (λ j below.
    let at : j < n = subst (λ (k : ℕ). j < k) size below in
    ap (λ (v : ℕ). bit_at v i) (c.antidiagonal.ensures.columns j at) ∙ antidiagonal_bit n i j inside at)

pub returns-clause-nonsingular : goal.returns-clause-nonsingular
returns-clause-nonsingular c =
    let n = c.args.n in
    let m = c.antidiagonal.result in
    let size : m.n ≡ n = c.antidiagonal.ensures.size in
    nonsingular_of_bits m
    (λ s inside.
    let at : s < n = subst (λ (k : ℕ). s < k) size inside in
    let mirrored : n - 1 - s < n = omega arith in
    let back : n - 1 - (n - 1 - s) ≡ s = omega arith in (
      n - 1 - s,
      λ x below. returns-clause-bits c x (n - 1 - s) (subst (λ (k : ℕ). x < 2 ^ k) size below) mirrored ∙ ap (bit_at x) back,
    ))
