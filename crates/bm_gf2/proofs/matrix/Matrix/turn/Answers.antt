use Rattle.std.proofs.Common.{ℕ, ◌+◌, ◌-◌, ◌%◌, ◌<◌, ◌^◌, subst, sym, arith}
use Rattle.std.proofs.lemmas.Nat.{pow_below}
use Rattle.std.proofs.Math.Nat.{mod-lt}
use Rattle.std.proofs.Common.{slice_index}
use Rattle.bm_gf2.proofs.RotationLemmas.{rotation_bits}
use Rattle.bm_gf2.proofs.matrix.Matrix.turn.Goals as goal

pub invariant_of-result-clause-below : goal.invariant_of-result-clause-below
invariant_of-result-clause-below c = λ j l.
    let m : (j + c.args.n - c.args.by) % c.args.n < c.args.n = mod-lt (j + c.args.n - c.args.by) (omega arith) in
    subst (λ (x : ℕ). x < 2 ^ c.args.n) (sym (c.loop-j.invariant.1 j (omega arith)))
    (pow_below ((j + c.args.n - c.args.by) % c.args.n) c.args.n m)

pub returns-clause-bits : goal.returns-clause-bits
returns-clause-bits c = rotation_bits (slice_index c.loop-j.cols) c.args.n c.args.by c.requires.by
    (λ j l. c.loop-j.invariant.1 j (omega arith))
