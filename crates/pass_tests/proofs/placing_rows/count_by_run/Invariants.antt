use Rattle.bm_bufs.specs.Bufs.{FitsShape}
use Rattle.pass_tests.proofs.placing_rows.count_by_run.Given as goal

abbrev pub invariant-loop-map : goal.invariant-loop-map
invariant-loop-map l = FitsShape l.shape l.bufs
