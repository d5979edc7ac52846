use Rattle.std.proofs.Common.{arith}
use Rattle.bm_butter.proofs.CornerLemmas.{run_begins}
use Rattle.bm_butter.proofs.on_two_bits.run_start.Goals as goal

pub overflow_add-result : goal.overflow_add-result
overflow_add-result c =
    let corners = c.args.corners.now in
    let begins = run_begins corners.low corners.high c.args.blocks c.args.run corners.order c.requires.fits c.requires.inside in
    omega (arith, begins.0, begins.1)

pub returns : goal.returns
returns c =
    let corners = c.args.corners.now in
    (run_begins corners.low corners.high c.args.blocks c.args.run corners.order c.requires.fits c.requires.inside).0
