use Rattle.bm_gf2.specs.Matrix.{column}
use Rattle.bm_gf2.proofs.VectorLemmas.{affine-composed}
use Rattle.bm_gf2.proofs.affine.Affine.after.Goals as goal

pub returns-clause-composes : goal.returns-clause-composes
returns-clause-composes c = λ x.
    rw (c.mul.ensures.composes x, c.apply-c.ensures.value)
    (affine-composed (column c.args.self.now.a)
    (column c.args.first.now.a) c.args.self.now.a.n c.args.first.now.a.n c.args.self.now.c c.args.first.now.c x)
