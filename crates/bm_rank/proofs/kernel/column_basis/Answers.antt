use Rattle.std.proofs.Common.{◌≤◌, ◌∙◌, arith}
use Rattle.std.proofs.lemmas.Bool.{false≢true}
use Rattle.bm_rank.proofs.KernelLemmas.{kernel_found, kept_more}
use Rattle.bm_rank.proofs.kernel.column_basis.Goals as goal

pub returns-in-Some-clause-singular : goal.returns-in-Some-clause-singular
returns-in-Some-clause-singular c =
    let a = c.args.a.now in
    kernel_found a c.loop-j.found.kept c.loop-j.j c.from.result c.in-Some.x c.loop-j.invariant.1 c.loop-j.invariant.2 c.loop-j-test.true
    (omega (arith, a.few)) a.few c.from.ensures c.in-Some.ensures.sum c.in-Some.ensures.below

pub loop-j-preserved : goal.loop-j-preserved
loop-j-preserved c =
    let a = c.args.a.now in
    let few : a.n ≤ 52 = a.few in
    let m = kept_more a.cols c.loop-j.found.kept c.insert.new.self.kept c.loop-j.j c.from.result c.insert.result c.loop-j.invariant.1
    (omega arith)
    c.from.ensures (λ h. false≢true (c.in_default.ensures.some.1 h)) c.insert.ensures.fresh c.insert.ensures.kept c.loop-j.invariant.2 in
    (c.insert.ensures.size ∙ c.loop-j.invariant.0, m.0, m.1)
