use Rattle.bm_bufs.specs.Bufs.{FitsShape}
use Rattle.bm_speed.proofs.placed.place_load.Given as goal

abbrev pub invariant-loop-r : goal.invariant-loop-r
invariant-loop-r g l = FitsShape l.shape l.bufs
