use Rattle.bm_top.proofs.DrillLemmas.{drill_told_ok}
use Rattle.bm_top.proofs.commands.drill.drill_report.Goals as goal

pub returns : goal.returns
returns c = drill_told_ok c.args.task _ c.drill.result _ _ c.in-Ok.ensures.passes c.drill.ensures.leaves c.drill.ensures.counts
