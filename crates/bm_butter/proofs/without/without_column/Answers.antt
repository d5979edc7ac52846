use Rattle.std.proofs.Common.{slice_index, slice_set, ◌∙◌, arith}
use Rattle.std.proofs.lemmas.List.{get_or-set_other}
use Rattle.bm_gf2.specs.Matrix.{column}
use Rattle.bm_butter.proofs.WithoutLemmas.{image_without}
use Rattle.bm_butter.proofs.without.without_column.Goals as goal

pub returns-clause-image : goal.returns-clause-image
returns-clause-image c =
    let a = c.args.a.now in
    let inv = c.loop-j.invariant in
    let test = c.loop-j-test.false in
    let last = c.from-2.result in
    λ w short. image_without (slice_index (slice_set c.loop-j.cols last 0)) (column a) a.n c.args.i w (omega (arith, c.requires)) short
    (λ j below. get_or-set_other c.loop-j.cols last j 0 0 (λ e. absurd (omega (arith, c.from-2.ensures, c.requires))) ∙ inv.low j below)
    (λ j above below. get_or-set_other c.loop-j.cols last j 0 0 (λ e. absurd (omega (arith, c.from-2.ensures)))
    ∙ inv.moved j above (omega arith))
