use Rattle.bm_mirror_call.proofs.WordLemmas.{names_none}
use Rattle.bm_mirror_call.proofs.words.mirror_job.Goals as goal

pub returns-in-Some-clause-none : goal.returns-in-Some-clause-none
returns-in-Some-clause-none c = names_none c.args.words.now c.job_word.result c.job_word.ensures.none
