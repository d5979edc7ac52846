use Rattle.std.proofs.Common.{◌≡◌, slice_index}
use Rattle.bm_gf2.specs.Vector.{xor_sum}
use Rattle.bm_gf2.proofs.vector.sum_of_columns.Given as goal

abbrev pub invariant-loop-j : goal.invariant-loop-j
invariant-loop-j l = l.sum ≡ xor_sum (slice_index l.cols) l.j l.x
