use Rattle.std.proofs.Common.{ℕ, ◌<◌, ◌^◌, subst, sym, arith}
use Rattle.std.proofs.lemmas.Nat.{pow_below}
use Rattle.std.proofs.Common.{slice_index}
use Rattle.bm_gf2.proofs.RotationLemmas.{identity_image}
use Rattle.bm_gf2.proofs.matrix.Matrix.identity.Goals as goal

pub invariant_of-result-clause-below : goal.invariant_of-result-clause-below
invariant_of-result-clause-below c = λ j l.
    subst (λ (x : ℕ). x < 2 ^ c.args.n) (sym (c.loop-j.invariant.1 j (omega arith))) (pow_below j c.args.n l)

pub returns-clause-unchanged : goal.returns-clause-unchanged
returns-clause-unchanged c = identity_image (slice_index c.loop-j.cols) c.args.n (λ j l. c.loop-j.invariant.1 j (omega arith))
