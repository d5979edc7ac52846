use Rattle.std.proofs.Common.{ap, ◌∙◌, arith}
use Rattle.bm_drill.specs.Generated.{spread_bytes}
use Rattle.bm_drill.proofs.GeneratedLemmas.{records_more}
use Rattle.bm_drill.proofs.generator.fill_records.Goals as goal

pub loop-i-preserved : goal.loop-i-preserved
loop-i-preserved c = records_more c.args.width c.args.start c.args.first c.args.count c.loop-i.i _ c.loop-i.bytes _ c.loop-i-test.true
    (c.loop-i.auto.bytes ∙ c.requires.size) (omega arith) c.loop-i.invariant
    (c.fill_record.ensures ∙ ap (spread_bytes _) c.number_of.ensures)
