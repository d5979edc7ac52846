use Rattle.std.proofs.Common.{arith}
use Rattle.bm_drill.proofs.GeneratedLemmas.{load_numbers}
use Rattle.bm_drill.proofs.generator.fill_load.Goals as goal

pub fill_records-requires-clause-numbers : goal.fill_records-requires-clause-numbers
fill_records-requires-clause-numbers c =
    rw (c.m-2.ensures, c.m.ensures) (let e = load_numbers c.args.shape.now c.args.load c.requires.load in omega (arith, e))
