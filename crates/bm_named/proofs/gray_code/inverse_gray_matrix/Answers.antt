use Rattle.std.proofs.Common.{ℕ, ◌+◌, ◌<◌, ◌≤◌, ◌^◌, subst, sym, arith}
use Rattle.std.proofs.lemmas.Nat.{pow_pos}
use Rattle.std.proofs.Math.Pow.{pow_mono}
use Rattle.bm_named.proofs.gray_code.inverse_gray_matrix.Goals as goal

pub invariant_of-result-clause-below : goal.invariant_of-result-clause-below
invariant_of-result-clause-below c = λ j inside.
    let n = c.args.n in
    let some : 0 < 2 ^ (j + 1) = pow_pos (j + 1) in
    let fits : 2 ^ (j + 1) ≤ 2 ^ n = pow_mono {i = j + 1} {j = n} (omega arith) in
    subst (λ (x : ℕ). x < 2 ^ n) (sym (c.loop-j.invariant.1 j (omega arith))) (omega arith)
