use Rattle.std.proofs.Common.{◌-◌, ◌<◌, ◌≤◌, ◌^◌, sym, subst, arith, ⊎_elim}
use Rattle.std.proofs.lemmas.Nat.{pow_below}
use Rattle.std.proofs.lemmas.Bool.{cases_lt}
use Rattle.bm_gf2.specs.Matrix.{column}
use Rattle.bm_split.proofs.columns.run_vectors.Goals as goal
use Rattle.bm_base.proofs.PowerLemmas.{cut_below}

pub returns-clause-below : goal.returns-clause-below
returns-clause-below c =
    let a = c.args.a.now in
    let low = c.args.low in
    let inv = c.loop-i.invariant in
    λ i l.
    ⊎_elim
    (λ (p : i < low). subst (λ v. v < 2 ^ (a.n - low)) (sym (inv.cut i (omega arith) p))
    (cut_below a.n low (column a i) (omega arith) (a.below i l)))
    (λ (p : low ≤ i). subst (λ v. v < 2 ^ (a.n - low)) (sym (inv.units i (omega arith) p)) (pow_below (i - low) (a.n - low) (omega arith)))
    (cases_lt i low)
