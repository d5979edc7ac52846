use Rattle.std.proofs.Common.{◌≡◌, ◌+◌, length, List, sym, subst, arith}
use Rattle.std.specs.List.{All}
use Rattle.std.proofs.lemmas.List.{length_push}
use Rattle.std.proofs.lemmas.List.Elements.{All-push}
use Rattle.bm_batch.specs.declared.batch_job.BatchJob.{BatchJob}
use Rattle.bm_batch.specs.Batches.{IsBatchJob}
use Rattle.batch_tests.proofs.batches.jobs_of.Goals as goal

pub loop-k-preserved : goal.loop-k-preserved
loop-k-preserved c =
    let items = c.push_reserved.ensures.items in
    record {
      jobs = subst (λ (xs : List BatchJob). All (IsBatchJob c.args.shape.now) xs) (sym items)
          (All-push (IsBatchJob c.args.shape.now) c.loop-k.jobs.items _ c.loop-k.invariant.jobs c.in_ok-job_of.ensures);
      many = (let one = length_push c.loop-k.jobs.items c.in_ok-job_of.field-0 in let is = c.loop-k.invariant.many in
          subst (λ (xs : List BatchJob). length xs ≡ c.loop-k.k + 1) (sym items) (omega (arith, one, is)));
      room = (let room = c.loop-k.invariant.room in let kept = c.push_reserved.ensures.capacity in omega (arith, room, kept));
      len = (let len = c.loop-k.invariant.len in let more = c.push_reserved.ensures.len in omega (arith, len, more));
    }
