use Rattle.std.proofs.Common.{◌≡◌, slice_index, arith}
use Rattle.bm_gf2.proofs.VectorLemmas.{xor_sum-lt, xor_sum-xor}
use Rattle.bm_gf2.proofs.vector.sum_of_columns.Goals as goal

pub returns-clause-additive : goal.returns-clause-additive
returns-clause-additive c = xor_sum-xor (slice_index c.args.cols.now) c.args.count

pub returns-clause-below : goal.returns-clause-below
returns-clause-below c = λ n each.
    let all_columns : c.loop-j.j ≡ c.args.count = omega arith in
    rw (c.loop-j.invariant, all_columns) (xor_sum-lt (slice_index c.args.cols.now) c.args.count n c.args.x each)
