use Rattle.bm_kind_call.proofs.TopLemmas.{top_known, top_none}
use Rattle.bm_kind_call.proofs.kind_call.run_words.Goals as goal

pub returns-in-Some : goal.returns-in-Some
returns-in-Some g c = top_known _ c.args.words.now _ _ c.run_text.result _ c.in-Some.ensures.found c.run_text.ensures

pub returns-in-None : goal.returns-in-None
returns-in-None g c = top_none _ c.args.words.now _ c.in-None.ensures.none
