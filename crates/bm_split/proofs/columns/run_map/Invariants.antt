use Rattle.bm_split.proofs.RunMapLemmas.{IsRunColumns}
use Rattle.bm_split.proofs.columns.run_map.Given as goal

abbrev pub invariant-loop-i : goal.invariant-loop-i
invariant-loop-i l = IsRunColumns l.n l.low l.i l.tops l.cols
