use Rattle.std.proofs.Common.{ℕ, refl, subst}
use Rattle.bm_gf2.specs.Matrix.{IsNonsingular}
use Rattle.bm_rank.specs.RowSolution.{IsCovered}
use Rattle.bm_forms.proofs.MldLemmas.{covered_of_solution}
use Rattle.bm_forms.proofs.mld_form.MldForm.of.Goals as goal

pub returns-in-Ok-clause-exact : goal.returns-in-Ok-clause-exact
returns-in-Ok-clause-exact c =
    let a = c.args.map.now.a in
    let whole : IsNonsingular a = c.in_default.ensures in
    let covered : IsCovered a c.b.result c.m.result = covered_of_solution a c.in-Ok.k c.b.result c.m.result c.in-Ok.ensures in
    let at_block : IsCovered a c.args.shape.now.b c.m.result = subst (λ (b : ℕ). IsCovered a b c.m.result) c.b.ensures covered in
    (λ _. (whole, subst (λ (m : ℕ). IsCovered a c.args.shape.now.b m) c.m.ensures at_block), λ _. refl)
