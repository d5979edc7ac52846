use Rattle.std.proofs.Common.{ℕ, ◌-◌, ◌<◌, ◌^◌, subst, sym, arith}
use Rattle.std.proofs.lemmas.Nat.{pow_below}
use Rattle.bm_named.proofs.reversals.antidiagonal.Goals as goal

pub invariant_of-result-clause-below : goal.invariant_of-result-clause-below
invariant_of-result-clause-below c = λ j inside.
    let n = c.args.n in
    subst (λ (x : ℕ). x < 2 ^ n) (sym (c.loop-j.invariant.1 j (omega arith))) (pow_below (n - 1 - j) n (omega arith))
