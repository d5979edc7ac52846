use Rattle.bm_jobfile.proofs.StopLemmas.{HasPaired}
use Rattle.bm_jobfile.proofs.drill_table.paired.Given as goal

abbrev pub invariant-loop-k : goal.invariant-loop-k
invariant-loop-k l = HasPaired l.numbers l.k l.list.items
