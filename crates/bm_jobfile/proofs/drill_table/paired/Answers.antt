use Rattle.std.proofs.Common.{◌∙◌, arith}
use Rattle.bm_jobfile.proofs.StopLemmas.{paired_none, paired_more, paired_all}
use Rattle.bm_jobfile.proofs.drill_table.paired.Goals as goal

pub loop-k-init : goal.loop-k-init
loop-k-init c = rw c.new-list.ensures.items (paired_none c.args.numbers.now)

pub loop-k-preserved : goal.loop-k-preserved
loop-k-preserved c =
    rw c.in_ok-push.ensures.items (paired_more c.args.numbers.now c.loop-k.k c.loop-k.list.items c.loop-k.invariant (omega arith))

pub returns-clause-stops : goal.returns-clause-stops
returns-clause-stops c = c.of.ensures ∙ paired_all c.args.numbers.now c.loop-k.k c.loop-k.list.items c.loop-k.invariant c.loop-k-test.false
