use Rattle.std.proofs.Common.{◌<◌, ◌+◌, List, length, slice_set, inr, refl, sym, subst, arith}
use Rattle.std.proofs.lemmas.List.{length-map}
use Rattle.bm_top.specs.declared.task.Task.{Task}
use Rattle.bm_batch_call.specs.Moment.{sources_of}
use Rattle.bm_batch_call.proofs.TaskLemmas.{TasksTo, many_next, read_next, read_ends, read_all}
use Rattle.bm_batch_call.proofs.tasks.read_tasks.Goals as goal

pub returns-in-Err-clause-refused : goal.returns-in-Err-clause-refused
returns-in-Err-clause-refused g c =
    let inv = c.loop-job.invariant in
    let below : c.loop-job.job < length c.loop-job.jobs =
    (let a = c.loop-job-test.true in let b = c.loop-job.auto.jobs in omega (arith, a, b)) in
    record {
      early = c.in-Err.ensures.refusal;
      at = inr (record {
        at = c.loop-job.job;
        texts = read_ends g.J.Source.left g.J.Source.faults g.J.Source.tells _ c.loop-job.tasks.items c.loop-job.job _ c.loop-job.jobs
            c.index-jobs-job.result c.read_task.new.job inv.many below inv.read c.in-Err.ensures.refused;
      });
    }

pub loop-job-preserved : goal.loop-job-preserved
loop-job-preserved g c =
    let inv = c.loop-job.invariant in
    let below : c.loop-job.job < length c.loop-job.jobs =
    (let a = c.loop-job-test.true in let b = c.loop-job.auto.jobs in omega (arith, a, b)) in
    record {
      read = subst (λ (ts : List Task). TasksTo g.J.Source.tells ts (c.loop-job.job + 1)
          (sources_of g.J.Source.left g.J.Source.faults c.args.jobs.now)
          (sources_of g.J.Source.left g.J.Source.faults (slice_set c.loop-job.jobs c.loop-job.job c.read_task.new.job)))
          (sym c.push_reserved.ensures.items)
          (read_next g.J.Source.left g.J.Source.faults g.J.Source.tells c.loop-job.tasks.items c.loop-job.job _ c.loop-job.jobs
          c.index-jobs-job.result c.read_task.new.job _ inv.many below inv.read
          (record {
            holds = c.in-Ok-read_task.ensures.task;
            fits = c.in-Ok-read_task.ensures.fits;
            ended = λ told. c.in-Ok-read_task.ensures.ended told refl;
            faults = c.read_task.ensures.faults;
          }));
      many = many_next c.loop-job.tasks.items _ _ c.loop-job.job c.push_reserved.ensures.items inv.many;
      room = (let room = inv.room in let kept = c.push_reserved.ensures.capacity in omega (arith, room, kept));
      len = (let len = inv.len in let more = c.push_reserved.ensures.len in omega (arith, len, more));
    }

pub returns-clause-read : goal.returns-clause-read
returns-clause-read g c = λ d.
    read_all g.J.Source.tells c.loop-job.tasks.items c.loop-job.job (length c.args.jobs.now) _ _ d
    (let over = c.loop-job-test.false in let near = c.loop-job.auto.job-end in omega (arith, over, near))
    (length-map c.args.jobs.now _) c.loop-job.invariant.read
