use Rattle.std.proofs.Common.{◌≡◌, ◌<◌, ◌≤◌, ℕ, length, slice_index_or, vec_len}
use Rattle.std.specs.Vec.{vec_capacity}
use Rattle.std.specs.List.{All}
use Rattle.bm_batch.specs.Batches.{IsBatchJob}
use Rattle.bm_batch.specs.declared.batch_job.BatchJob.{BatchJob}
use Rattle.bm_top.specs.declared.task.Task.{Task}
use Rattle.bm_batch_call.proofs.planning.plan_jobs.Given as goal

abbrev pub invariant-loop-task : goal.invariant-loop-task
invariant-loop-task l = record {
  fits : All (IsBatchJob l.shape) l.jobs.items;
  many : length l.jobs.items ≡ l.task-index;
  jobs : (k : ℕ) (d : BatchJob) (e : Task) → k < l.task-index → (slice_index_or l.jobs.items k d).job ≡ (slice_index_or l.tasks k e).job;
  room : length l.tasks ≤ vec_capacity l.jobs;
  len : vec_len l.jobs ≡ l.task-index;
}
