use Rattle.std.proofs.Common.{length}
use Rattle.bm_batch_call.proofs.TopLemmas.{top_batch, top_none}
use Rattle.bm_batch_call.proofs.batch_call.run_batch.Goals as goal

pub returns-in-Some : goal.returns-in-Some
returns-in-Some g c =
    top_batch _ c.args.words.now c.in-Some.batch.verb c.in-Some.batch.seed (length c.args.jobs.now) (length c.args.bays.now) _ _
    c.run_words.result _ c.requires c.in-Some.ensures.found c.run_words.ensures

pub returns-in-None : goal.returns-in-None
returns-in-None g c = top_none _ c.args.words.now _ c.in-None.ensures.none
