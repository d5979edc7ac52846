use Rattle.bm_bufs.specs.Bufs.{FitsShape}
use Rattle.pass_tests.proofs.placing_rows.count_by_shape.Given as goal

abbrev pub invariant-loop-low : goal.invariant-loop-low
invariant-loop-low l = FitsShape l.shape l.bufs
