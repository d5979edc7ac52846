use Rattle.std.proofs.Common.{arith}
use Rattle.bm_top.proofs.WordsLemmas.{job_words}
use Rattle.bm_top.proofs.words.job_command.Goals as goal

pub returns-in-len2-clause-found : goal.returns-in-len2-clause-found
returns-in-len2-clause-found c =
    job_words c.args.words.now c.name-item.result c.as_str.result.now c.verb_of.result (omega
    (arith, c.in-len2.len_at_least, c.in-len2.len_below)) c.name-item.is
    c.as_str.ensures.value c.verb_of.ensures.found
