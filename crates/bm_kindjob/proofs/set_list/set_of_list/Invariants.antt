use Rattle.std.proofs.Common.{slice_index}
use Rattle.bm_kindjob.proofs.SetListLemmas.{HasSet}
use Rattle.bm_kindjob.proofs.set_list.set_of_list.Given as goal

abbrev pub invariant-loop-j : goal.invariant-loop-j
invariant-loop-j l = HasSet l.n l.j l.set (slice_index l.list)
