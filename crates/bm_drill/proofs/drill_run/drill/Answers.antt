use Rattle.std.proofs.Common.{arith}
use Rattle.bm_drill.proofs.DrillLemmas.{stripes_small}
use Rattle.bm_drill.proofs.drill_run.drill.Goals as goal

pub run_and_hash-requires-clause-rows : goal.run_and_hash-requires-clause-rows
run_and_hash-requires-clause-rows g c =
    let small = stripes_small c.args.spec.now.shape c.requires.size in
    let rows = c.requires.rows in
    let same = c.create_rack.ensures.calls.moves in
    let moves = c.load_generated.ensures.moves in
    omega (arith, small, rows, same, moves)

pub run_and_hash-requires-clause-size : goal.run_and_hash-requires-clause-size
run_and_hash-requires-clause-size g c = stripes_small c.args.spec.now.shape c.requires.size
