use Rattle.bm_bufs.specs.Bufs.{FitsShape}
use Rattle.pass_tests.proofs.placing_rows.place_rows.Given as goal

abbrev pub invariant-loop-row : goal.invariant-loop-row
invariant-loop-row l = FitsShape l.shape l.bufs
