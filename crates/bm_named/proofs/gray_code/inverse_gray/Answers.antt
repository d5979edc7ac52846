use Rattle.std.proofs.Common.{◌≡◌, ℕ, ◌<◌, ◌^◌, subst, sym, ap, ◌∙◌}
use Rattle.bm_gf2.specs.Matrix.{column}
use Rattle.bm_named.specs.GrayCode.{gray_of, xor_of_bits}
use Rattle.bm_named.proofs.ImageLemmas.{nonsingular_of_undo}
use Rattle.bm_named.proofs.GrayCodeLemmas.{inverse_gray_bit, inverse_gray_undone}
use Rattle.bm_named.proofs.gray_code.inverse_gray.Goals as goal

pub returns-clause-bits : goal.returns-clause-bits
returns-clause-bits c = λ x i _ inside.
    let m = c.inverse_gray_matrix.result in
    let size : m.n ≡ c.args.n = c.inverse_gray_matrix.ensures.size in
    inverse_gray_bit (column m) m.n x i (λ j at. c.inverse_gray_matrix.ensures.columns j (subst (λ (k : ℕ). j < k) size at))
    (subst (λ (k : ℕ). i < k) (sym size) inside)
    ∙ ap (λ (k : ℕ). xor_of_bits k i x) size

pub returns-clause-undone : goal.returns-clause-undone
returns-clause-undone c = λ x below.
    let m = c.inverse_gray_matrix.result in
    let size : m.n ≡ c.args.n = c.inverse_gray_matrix.ensures.size in
    inverse_gray_undone (column m) m.n x (λ j at. c.inverse_gray_matrix.ensures.columns j (subst (λ (k : ℕ). j < k) size at))
    (subst (λ (k : ℕ). x < 2 ^ k) (sym size) below)

pub returns-clause-nonsingular : goal.returns-clause-nonsingular
returns-clause-nonsingular c =
    let m = c.inverse_gray_matrix.result in
    nonsingular_of_undo m gray_of
    (λ x below. returns-clause-undone c x (subst (λ (k : ℕ). x < 2 ^ k) c.inverse_gray_matrix.ensures.size below))
