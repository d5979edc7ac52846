use Rattle.bm_jobfile.specs.Fields.{is_byte}
use Rattle.bm_jobfile.proofs.NumberLemmas.{HasRead}
use Rattle.bm_jobfile.proofs.number_lists.bytes_of.Given as goal

abbrev pub invariant-loop-value : goal.invariant-loop-value
invariant-loop-value l = HasRead is_byte l.values l.value-index l.list.items
