use Rattle.std.proofs.Common.{◌≡◌, ◌+◌, ◌-◌, subst, arith, ℕ}
use Rattle.bm_rank.proofs.ReductionLemmas.{IsReduction, reduction_start, reduction_taken}
use Rattle.bm_rank.proofs.echelon.reduction.Goals as goal

pub loop-i-init : goal.loop-i-init
loop-i-init c = reduction_start c.args.rows.now c.args.n c.args.v c.requires.below

pub loop-i-preserved-then-rest-i-eq1 : goal.loop-i-preserved-then-rest-i-eq1
loop-i-preserved-then-rest-i-eq1 c =
    let e : c.loop-i.i ≡ (c.loop-i.i - 1) + 1 = omega arith in
    rw c.from.ensures
    (reduction_taken c.args.rows.now c.args.n (c.loop-i.i - 1) c.args.v c.loop-i.rest c.loop-i.used c.requires.stairs
    (omega arith) c.requires.few
    (subst (λ (k : ℕ). IsReduction c.args.rows.now c.args.n k c.args.v c.loop-i.rest c.loop-i.used) e c.loop-i.invariant)
    (rw c.from.ensures at c.if-row-ne0.true) c.if-rest-i-eq1.true)
