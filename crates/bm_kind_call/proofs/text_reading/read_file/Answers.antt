use Rattle.std.proofs.Common.{refl, ◌∙◌}
use Rattle.bm_top.specs.Moment.{source_of}
use Rattle.bm_top.proofs.JobReadLemmas.{read_whole}
use Rattle.bm_kind_call.proofs.TextLemmas.{fits_file, holds_file, source_refused, text_refused}
use Rattle.bm_kind_call.proofs.text_reading.read_file.Goals as goal

pub returns-in-Ok-clause-file : goal.returns-in-Ok-clause-file
returns-in-Ok-clause-file g c =
    holds_file _ (source_of (g.J.Source.left c.args.job.now) (g.J.Source.faults c.args.job.now)) _ c.file_of.result
    (λ t. c.deref.ensures.value ∙ c.in-Ok.ensures.text t) c.file_of.ensures.file

pub returns-in-Ok-clause-fits : goal.returns-in-Ok-clause-fits
returns-in-Ok-clause-fits g c = fits_file _ c.file_of.result c.file_of.ensures.file

pub returns-in-Ok-clause-refused : goal.returns-in-Ok-clause-refused
returns-in-Ok-clause-refused g c =
    let old = source_of (g.J.Source.left c.args.job.now) (g.J.Source.faults c.args.job.now) in
    let new = source_of (g.J.Source.left c.job_text.new.job) (g.J.Source.faults c.job_text.new.job) in
    text_refused _ old new _ c.file_of.result (λ t. c.deref.ensures.value ∙ c.in-Ok.ensures.text t)
    (read_whole _ _ old new c.in-Ok.ensures.text c.in-Ok.ensures.short (λ t. c.in-Ok.ensures.ended t refl))
    c.job_text.ensures.faults c.file_of.ensures.no_fault c.file_of.ensures.cause c.file_of.ensures.map

pub returns-in-Ok-clause-ended : goal.returns-in-Ok-clause-ended
returns-in-Ok-clause-ended g c t ok =
    read_whole _ _ (source_of (g.J.Source.left c.args.job.now) (g.J.Source.faults c.args.job.now))
    (source_of (g.J.Source.left c.job_text.new.job) (g.J.Source.faults c.job_text.new.job))
    c.in-Ok.ensures.text c.in-Ok.ensures.short (λ told. c.in-Ok.ensures.ended told refl) t

pub returns-in-Err-clause-refused : goal.returns-in-Err-clause-refused
returns-in-Err-clause-refused g c = source_refused _ _ _ _ c.in-Err.ensures.early c.in-Err.ensures.refused
