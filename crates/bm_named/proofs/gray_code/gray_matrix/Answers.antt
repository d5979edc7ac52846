use Rattle.std.proofs.Common.{ℕ, ◌/◌, ◌<◌, ◌^◌, subst, sym, arith}
use Rattle.std.proofs.lemmas.Nat.{pow_below, xor_lt}
use Rattle.bm_named.proofs.gray_code.gray_matrix.Goals as goal

pub invariant_of-result-clause-below : goal.invariant_of-result-clause-below
invariant_of-result-clause-below c = λ j inside.
    let n = c.args.n in
    let unit : 2 ^ j < 2 ^ n = pow_below j n inside in
    subst (λ (x : ℕ). x < 2 ^ n) (sym (c.loop-j.invariant.1 j (omega arith))) (xor_lt n (2 ^ j) (2 ^ j / 2) unit (omega arith))
