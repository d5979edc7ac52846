use Rattle.std.proofs.Common.{◌≡◌, ℕ, ◌<◌, ◌^◌, subst, sym, ◌∙◌}
use Rattle.bm_gf2.specs.Matrix.{column}
use Rattle.bm_named.proofs.GrayCodeLemmas.{gray_image, gray_of-none}
use Rattle.bm_named.proofs.gray_code.gray.Goals as goal

pub returns-clause-value : goal.returns-clause-value
returns-clause-value c = λ x below.
    let m = c.gray_matrix.result in
    let size : m.n ≡ c.args.n = c.gray_matrix.ensures.size in
    gray_image (column m) m.n x (λ j inside. c.gray_matrix.ensures.columns j (subst (λ (k : ℕ). j < k) size inside))
    (subst (λ (k : ℕ). x < 2 ^ k) (sym size) below)

pub returns-clause-nonsingular : goal.returns-clause-nonsingular
returns-clause-nonsingular c = λ x below sent.
    gray_of-none x (sym (returns-clause-value c x (subst (λ (k : ℕ). x < 2 ^ k) c.gray_matrix.ensures.size below)) ∙ sent)
