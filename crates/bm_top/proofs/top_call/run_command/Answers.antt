use Rattle.std.proofs.Common.{subst}
use Rattle.bm_top.specs.Moment.{source_of}
use Rattle.bm_top.specs.Words.{IsCommand}
use Rattle.bm_top.proofs.TopCallLemmas.{top_usage, top_job, top_flip, job_known}
use Rattle.bm_top.proofs.top_call.run_command.Goals as goal

pub returns-in-Some-Flip : goal.returns-in-Some-Flip
returns-in-Some-Flip g c =
    top_flip _ c.args.words.now c.in-Some-Flip.flip _ c.run_flip.result _
    (subst (IsCommand c.args.words.now) c.in-Some-Flip.field-0-is c.in-Some-Flip.ensures.found) c.run_flip.ensures.usage
    (c.run_flip.ensures.flip g.J.Source.tells (source_of (g.J.Source.left c.args.job.now) (g.J.Source.faults c.args.job.now)))

pub returns-in-Some-On : goal.returns-in-Some-On
returns-in-Some-On g c =
    top_job _ c.args.words.now c.in-Some-On.verb _ c.run_on_job.result _
    (subst (IsCommand c.args.words.now) c.in-Some-On.field-0-is c.in-Some-On.ensures.found)
    (job_known _ _ _ _ _ c.run_on_job.ensures) c.run_on_job.ensures

pub returns-in-None : goal.returns-in-None
returns-in-None g c = top_usage _ c.args.words.now _ c.in-None.ensures.none
