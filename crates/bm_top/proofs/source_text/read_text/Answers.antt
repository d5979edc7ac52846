use Rattle.std.proofs.Common.{refl}
use Rattle.bm_top.proofs.JobReadLemmas.{source_failed, source_too_long}
use Rattle.bm_top.proofs.source_text.read_text.Goals as goal

pub returns-in-Ok-clause-refused : goal.returns-in-Ok-clause-refused
returns-in-Ok-clause-refused g c = λ verb.
    source_too_long verb _ c.fill.new.into _ _ _ c.requires c.fill.auto.into (λ t. c.in-Ok.ensures.whole t refl) c.fill.ensures.few
    c.fill.ensures.faults

pub returns-in-Err-Fault-clause-refused : goal.returns-in-Err-Fault-clause-refused
returns-in-Err-Fault-clause-refused g c = λ verb.
    source_failed verb _ _ _ _ c.requires c.fill.ensures.few (c.in-Err-Fault.ensures.fault (cc)) c.fill.ensures.faults
