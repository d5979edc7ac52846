use Rattle.std.proofs.Common.{slice_index, refl, arith}
use Rattle.bm_gf2.specs.Matrix.{column}
use Rattle.bm_gf2.proofs.VectorLemmas.{xor_sum-lt, xor_sum-composed}
use Rattle.bm_gf2.proofs.matrix.Matrix.mul.Goals as goal

pub invariant_of-result-clause-below : goal.invariant_of-result-clause-below
invariant_of-result-clause-below c = λ j l.
    rw (c.loop-j.invariant.1 j (omega arith))
    (xor_sum-lt (column c.args.self.now) c.args.self.now.n c.args.self.now.n (column c.args.right.now j) c.args.self.now.below)

pub returns-clause-composes : goal.returns-clause-composes
returns-clause-composes c =
    xor_sum-composed (column c.args.self.now) (column c.args.right.now)
    (slice_index c.loop-j.cols) c.args.self.now.n c.args.right.now.n c.args.self.now.n
    c.requires refl (λ j l. c.loop-j.invariant.1 j (omega arith))
