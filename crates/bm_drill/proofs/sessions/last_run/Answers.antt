use Rattle.std.proofs.Common.{false, length, refl}
use Rattle.bm_rack.proofs.FrameLemmas.{SameState-refl}
use Rattle.bm_job.specs.Runs.{most_pages, most_syncs}
use Rattle.bm_drill.proofs.PaidLemmas.{session_keeps_then}
use Rattle.bm_drill.proofs.SessionLemmas.{RunFacts, set_keeps, run_keeps, session_ended}
use Rattle.bm_drill.proofs.sessions.last_run.Goals as goal

pub returns-clause-keeps : goal.returns-clause-keeps
returns-clause-keeps g c =
    let view = g.R.Rack.view in
    let ts = g.R.Rack.tells_stands in
    let tc = g.R.Rack.tells_contents in
    let s = c.args.shape.now in
    let job = c.args.job.now in
    let passes = length c.args.plan.now.forms in
    let facts : RunFacts ts tc s job passes c.args.every (most_pages s job) (most_syncs s job) (view c.stop_never.new.self)
    (view c.run_job.new.rack) c.run_job.result = record {
      answer = c.run_job.ensures.answer;
      report = c.run_job.ensures.report;
      moves = c.run_job.ensures.moves;
      most = c.run_job.ensures.most;
      calls = c.run_job.ensures.calls_most;
      done = c.run_job.ensures.done;
      failed = c.run_job.ensures.failed;
      sound = c.run_job.ensures.sound;
      jobs = c.run_job.ensures.images;
      settled = c.run_job.ensures.settled;
      call = c.run_job.ensures.call;
      good = c.run_job.ensures.good;
      complete = c.run_job.ensures.complete;
    } in
    session_keeps_then ts tc s job passes c.args.every (view c.args.rack.now) (view c.stop_never.new.self) (view c.run_job.new.rack)
    (set_keeps ts tc false s job passes c.args.every _ _ (g.met.R.Rack.consistent c.args.rack.now) c.stop_never.ensures)
    (run_keeps ts tc s job passes c.args.every (most_pages s job) (most_syncs s job) _ _ c.run_job.result facts)

pub returns-clause-answer : goal.returns-clause-answer
returns-clause-answer g c =
    let view = g.R.Rack.view in
    let ts = g.R.Rack.tells_stands in
    let tc = g.R.Rack.tells_contents in
    let s = c.args.shape.now in
    let job = c.args.job.now in
    let passes = length c.args.plan.now.forms in
    let facts : RunFacts ts tc s job passes c.args.every (most_pages s job) (most_syncs s job) (view c.stop_never.new.self)
    (view c.run_job.new.rack) c.run_job.result = record {
      answer = c.run_job.ensures.answer;
      report = c.run_job.ensures.report;
      moves = c.run_job.ensures.moves;
      most = c.run_job.ensures.most;
      calls = c.run_job.ensures.calls_most;
      done = c.run_job.ensures.done;
      failed = c.run_job.ensures.failed;
      sound = c.run_job.ensures.sound;
      jobs = c.run_job.ensures.images;
      settled = c.run_job.ensures.settled;
      call = c.run_job.ensures.call;
      good = c.run_job.ensures.good;
      complete = c.run_job.ensures.complete;
    } in
    session_ended ts tc false false s job passes c.args.every (most_pages s job) (most_syncs s job) c.run_job.result
    (view c.args.rack.now) (view c.stop_never.new.self)
    (view c.run_job.new.rack) (view c.run_job.new.rack) (g.met.R.Rack.consistent c.args.rack.now)
    (g.met.R.Rack.consistent c.run_job.new.rack) c.stop_never.ensures facts
    (SameState-refl _) refl (c.run_job.ensures.call.cause.sure
    (c.stop_never.ensures.steady c.requires.steady) c.stop_never.ensures.stopping)
