use Rattle.std.proofs.Common.{inr}
use Rattle.bm_job.proofs.CallLemmas.{call_of}
use Rattle.bm_job.proofs.durable_step.make_durable.Goals as goal

pub returns-then-load-machine-ne0-clause-follows : goal.returns-then-load-machine-ne0-clause-follows
returns-then-load-machine-ne0-clause-follows g c told_stands told_contents holds next = c.after_load.ensures.follows _ holds next

pub returns-clause-call : goal.returns-clause-call
returns-clause-call g c = call_of _ _ _ _ _ _ (λ u is. inr (inr is)) (λ e. e) c.mark_loads.ensures.call
