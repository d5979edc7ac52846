use Rattle.bm_top.proofs.TopCallLemmas.{no_command}
use Rattle.bm_top.proofs.words.command_of.Goals as goal

pub returns-in-None-clause-none : goal.returns-in-None-clause-none
returns-in-None-clause-none c = no_command c.args.words.now c.in_default.ensures.none c.in-None.ensures.none
