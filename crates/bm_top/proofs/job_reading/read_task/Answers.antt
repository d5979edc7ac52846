use Rattle.std.proofs.Common.{refl, ◌∙◌}
use Rattle.bm_top.specs.Moment.{source_of}
use Rattle.bm_top.proofs.JobReadLemmas.{read_whole}
use Rattle.bm_top.proofs.TopCallLemmas.{holds_task, text_refused}
use Rattle.bm_top.proofs.job_reading.read_task.Goals as goal

pub returns-in-Ok-clause-task : goal.returns-in-Ok-clause-task
returns-in-Ok-clause-task g c =
    holds_task _ (source_of (g.J.Source.left c.args.job.now) (g.J.Source.faults c.args.job.now)) _ c.task_of.result
    (λ t. c.deref.ensures.value ∙ c.in-Ok.ensures.text t) c.task_of.ensures.task

pub returns-in-Ok-clause-refused : goal.returns-in-Ok-clause-refused
returns-in-Ok-clause-refused g c =
    let old = source_of (g.J.Source.left c.args.job.now) (g.J.Source.faults c.args.job.now) in
    let new = source_of (g.J.Source.left c.job_text.new.job) (g.J.Source.faults c.job_text.new.job) in
    text_refused c.args.verb _ old new _ c.task_of.result (λ t. c.deref.ensures.value ∙ c.in-Ok.ensures.text t)
    (read_whole _ _ old new c.in-Ok.ensures.text c.in-Ok.ensures.short (λ t. c.in-Ok.ensures.ended t refl))
    c.job_text.ensures.faults c.task_of.ensures.no_fault c.task_of.ensures.cause

pub returns-in-Ok-clause-ended : goal.returns-in-Ok-clause-ended
returns-in-Ok-clause-ended g c t ok =
    read_whole _ _ (source_of (g.J.Source.left c.args.job.now) (g.J.Source.faults c.args.job.now))
    (source_of (g.J.Source.left c.job_text.new.job) (g.J.Source.faults c.job_text.new.job))
    c.in-Ok.ensures.text c.in-Ok.ensures.short (λ told. c.in-Ok.ensures.ended told refl) t

pub returns-in-Err-clause-refused : goal.returns-in-Err-clause-refused
returns-in-Err-clause-refused g c = c.in-Err.ensures.refused c.args.verb
