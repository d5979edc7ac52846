use Rattle.std.proofs.Common.{◌≡◌, ◌≤◌, length, vec_len}
use Rattle.std.specs.List.{All}
use Rattle.std.specs.Vec.{vec_capacity}
use Rattle.bm_batch.specs.Batches.{IsBatchJob}
use Rattle.batch_tests.proofs.batches.jobs_of.Given as goal

abbrev pub invariant-loop-k : goal.invariant-loop-k
invariant-loop-k l = record {
  jobs : All (IsBatchJob l.shape) l.jobs.items;
  many : length l.jobs.items ≡ l.k;
  room : l.count ≤ vec_capacity l.jobs;
  len : vec_len l.jobs ≡ l.k;
}
