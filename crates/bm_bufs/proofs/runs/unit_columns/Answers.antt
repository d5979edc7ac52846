use Rattle.std.proofs.Common.{◌≡◌, ◌+◌, ◌≤◌, ◌↔◌, min, subst, sym, arith}
use Rattle.bm_bufs.proofs.ClearLemmas.{KeepsFirst, first_more, first_all}
use Rattle.bm_bufs.proofs.runs.unit_columns.Goals as goal

pub loop-j-preserved : goal.loop-j-preserved
loop-j-preserved c = λ k.
    let a = c.args.a.now in
    let j = c.loop-j.j in
    let least : c.min-most-in-loop-j.result ≡ min c.loop-j.most c.column_bits.result = omega (arith, c.min-most-in-loop-j.ensures) in
    subst (λ b. (k ≤ b) ↔ KeepsFirst a c.args.plus (j + 1) k) (sym least)
    (first_more a c.args.plus j c.loop-j.most c.column_bits.result k c.loop-j-test.true c.loop-j.invariant
    (rw c.from.ensures at c.column_bits.ensures))

pub returns : goal.returns
returns c = λ k.
    let a = c.args.a.now in
    let all : c.loop-j.j ≡ a.n = omega arith in
    let first = subst (λ j. (k ≤ c.loop-j.most) ↔ KeepsFirst a c.args.plus j k) all (c.loop-j.invariant k) in
    let last = first_all a c.args.plus k in
    (λ l. last.0 (first.0 l), λ keeps. first.1 (last.1 keeps))
