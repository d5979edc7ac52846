use Rattle.std.proofs.Common.{◌≡◌, ◌≤◌, length, slice_index_or, vec_len}
use Rattle.std.specs.Vec.{vec_capacity}
use Rattle.bm_top.specs.declared.task.Task.{Task}
use Rattle.bm_batch_call.specs.Lists.{UpTo}
use Rattle.bm_batch_call.specs.Moment.{no_source, sources_of}
use Rattle.bm_batch_call.specs.Texts.{TaskRead}
use Rattle.bm_batch_call.proofs.tasks.read_tasks.Given as goal

abbrev pub invariant-loop-job : goal.invariant-loop-job
invariant-loop-job g l = record {
  read : UpTo no_source (λ k was is. (d : Task) → TaskRead g.J.Source.tells (slice_index_or l.tasks.items k d) was is) l.job
      (sources_of g.J.Source.left g.J.Source.faults l.fn.jobs) (sources_of g.J.Source.left g.J.Source.faults l.jobs);
  many : length l.tasks.items ≡ l.job;
  room : l.job-end ≤ vec_capacity l.tasks;
  len : vec_len l.tasks ≡ l.job;
}
