use Rattle.std.proofs.Common.{◌≡◌, ◌+◌, ◌-◌, ◌^◌, ◌<◌, ap, sym, subst, arith}
use Rattle.std.proofs.Math.Pow.{shr_lt}
use Rattle.bm_gf2.specs.Matrix.{column}
use Rattle.bm_bufs.proofs.runs.run_matrix.Goals as goal

pub invariant_of-result-clause-below : goal.invariant_of-result-clause-below
invariant_of-result-clause-below c =
    let a = c.args.a.now in
    let low = c.args.low in
    let inv = c.loop-j.invariant in
    λ j inside.
    let whole : column a (low + j) < 2 ^ a.n = a.below (low + j) (omega arith) in
    let bits : 2 ^ a.n ≡ 2 ^ (a.n - low + low) = ap (λ k. 2 ^ k) (let e : a.n ≡ a.n - low + low = omega arith in e) in
    subst (λ v. v < 2 ^ (a.n - low)) (sym (inv.columns j (omega arith)))
    (shr_lt (a.n - low) low (subst (λ k. column a (low + j) < k) bits whole))
