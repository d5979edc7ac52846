use Rattle.std.proofs.Common.{◌≡◌, ◌<◌, ◌+◌, ℕ, List, length, slice_index_or, sym, ◌∙◌, ap, subst, arith}
use Rattle.std.specs.List.{All}
use Rattle.std.proofs.lemmas.List.{length_push}
use Rattle.std.proofs.lemmas.List.Elements.{All-push, All-get_or}
use Rattle.bm_base.specs.declared.shape.Shape.{Shape}
use Rattle.bm_batch.specs.Batches.{IsBatchJob}
use Rattle.bm_batch.specs.declared.batch_job.BatchJob.{BatchJob}
use Rattle.bm_top.specs.declared.task.Task.{Task}
use Rattle.bm_batch_call.proofs.TaskLemmas.{jobs_next}
use Rattle.bm_batch_call.proofs.planning.plan_jobs.Goals as goal

pub loop-task-preserved : goal.loop-task-preserved
loop-task-preserved c =
    let inv = c.loop-task.invariant in
    let at = c.loop-task.task-index in
    let job = c.in_ok-job.job in
    let task = c.task-item.result in
    let below : at < length c.args.tasks.now = c.loop-task-test.true in
    let shape : task.shape ≡ c.args.shape.now = subst (λ (x : Task). x.shape ≡ c.args.shape.now) (sym c.task-item.is)
    (All-get_or (λ (x : Task). x.shape ≡ c.args.shape.now) c.args.tasks.now at task below c.requires.shape) in
    record {
      fits = subst (λ (xs : List BatchJob). All (IsBatchJob c.args.shape.now) xs) (sym c.push_reserved.ensures.items)
          (All-push (IsBatchJob c.args.shape.now) c.loop-task.jobs.items job inv.fits
          (subst (λ (s : Shape). IsBatchJob s job) shape c.in_ok-job.ensures.fits));
      many = (let one = length_push c.loop-task.jobs.items job in let many = inv.many in
          ap (λ (xs : List BatchJob). length xs) c.push_reserved.ensures.items ∙ omega (arith, one, many));
      jobs = subst (λ (xs : List BatchJob). (k : ℕ) (d : BatchJob) (e : Task) → k < at + 1
          → (slice_index_or xs k d).job ≡ (slice_index_or c.args.tasks.now k e).job)
          (sym c.push_reserved.ensures.items)
          (jobs_next c.args.tasks.now c.loop-task.jobs.items at task job inv.many below c.task-item.is c.in_ok-job.ensures.job inv.jobs);
      room = (let room = inv.room in let kept = c.push_reserved.ensures.capacity in omega (arith, room, kept));
      len = (let len = inv.len in let more = c.push_reserved.ensures.len in omega (arith, len, more));
    }
