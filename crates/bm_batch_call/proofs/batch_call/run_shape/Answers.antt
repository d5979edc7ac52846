use Rattle.std.proofs.Common.{List, length, slice_index_or, sym, ◌∙◌, ap, arith}
use Rattle.bm_batch.specs.declared.batch_job.BatchJob.{BatchJob}
use Rattle.bm_batch_call.specs.Moment.{work_of}
use Rattle.bm_batch_call.proofs.batch_call.run_shape.Goals as goal

pub returns : goal.returns
returns g c = λ t e.
    c.run_planned.ensures t (work_of (length c.args.tasks.now) (λ k. slice_index_or c.args.tasks.now k e))
    (c.requires.shape 0 e (let some = c.requires.some in omega (arith, some))) (sym c.requires.many)
    (λ k j below. ap (λ (xs : List BatchJob). (slice_index_or xs k j).job) c.deref.ensures.value ∙ c.in-Ok.ensures.jobs k j e below)
