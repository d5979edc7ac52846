use Rattle.std.proofs.Common.{rules, ◌≢◌, ◌≡◌, Err, true, false, length, ◌∙◌, sym, subst, Result}
use Rattle.bm_base.specs.Shape.{dims_of}
use Rattle.bm_base.specs.declared.report.RunReport.{RunReport}
use Rattle.bm_job.specs.declared.answers.RunError.{RunError}
use Rattle.bm_job.specs.declared.answers.RunError.TheVariants.{Failed}
use Rattle.bm_rack.proofs.FrameLemmas.{raised-zero}
use Rattle.bm_job.specs.Runs.{most_pages, most_syncs}
use Rattle.bm_drill.specs.Session.{SessionAnswer}
use Rattle.bm_drill.proofs.PaidLemmas.{session_keeps_then}
use Rattle.bm_drill.proofs.SessionLemmas.{RunFacts, set_keeps, restart_keeps, run_keeps, session_ended, session_stopped}
use Rattle.bm_drill.proofs.sessions.stopped_run.Goals as goal

pub returns-in-Err-Failed-clause-keeps : goal.returns-in-Err-Failed-clause-keeps
returns-in-Err-Failed-clause-keeps g c =
    let view = g.R.Rack.view in
    let ts = g.R.Rack.tells_stands in
    let tc = g.R.Rack.tells_contents in
    let s = c.args.shape.now in
    let job = c.args.job.now in
    let passes = length c.args.plan.now.forms in
    let facts : RunFacts ts tc s job passes c.args.every (most_pages s job) (most_syncs s job) (view c.stop_after.new.self)
    (view c.run_job-answer.new.rack) c.run_job-answer.result = record {
      answer = c.run_job-answer.ensures.answer;
      report = c.run_job-answer.ensures.report;
      moves = c.run_job-answer.ensures.moves;
      most = c.run_job-answer.ensures.most;
      calls = c.run_job-answer.ensures.calls_most;
      done = c.run_job-answer.ensures.done;
      failed = c.run_job-answer.ensures.failed;
      sound = c.run_job-answer.ensures.sound;
      jobs = c.run_job-answer.ensures.images;
      settled = c.run_job-answer.ensures.settled;
      call = c.run_job-answer.ensures.call;
      good = c.run_job-answer.ensures.good;
      complete = c.run_job-answer.ensures.complete;
    } in
    session_keeps_then ts tc s job passes c.args.every (view c.args.rack.now) (view c.run_job-answer.new.rack) (view c.restart.new.self)
    (session_keeps_then ts tc s job passes c.args.every (view c.args.rack.now) (view c.stop_after.new.self) (view c.run_job-answer.new.rack)
    (set_keeps ts tc true s job passes c.args.every _ _ (g.met.R.Rack.consistent c.args.rack.now) c.stop_after.ensures)
    (run_keeps ts tc s job passes c.args.every (most_pages s job) (most_syncs s job) _ _ c.run_job-answer.result facts))
    (restart_keeps ts tc s job passes c.args.every _ _ (g.met.R.Rack.consistent c.run_job-answer.new.rack) c.restart.ensures)

pub returns-in-Err-Failed-clause-answer : goal.returns-in-Err-Failed-clause-answer
returns-in-Err-Failed-clause-answer g c =
    let view = g.R.Rack.view in
    let ts = g.R.Rack.tells_stands in
    let tc = g.R.Rack.tells_contents in
    let s = c.args.shape.now in
    let job = c.args.job.now in
    let passes = length c.args.plan.now.forms in
    let facts : RunFacts ts tc s job passes c.args.every (most_pages s job) (most_syncs s job) (view c.stop_after.new.self)
    (view c.run_job-answer.new.rack) c.run_job-answer.result = record {
      answer = c.run_job-answer.ensures.answer;
      report = c.run_job-answer.ensures.report;
      moves = c.run_job-answer.ensures.moves;
      most = c.run_job-answer.ensures.most;
      calls = c.run_job-answer.ensures.calls_most;
      done = c.run_job-answer.ensures.done;
      failed = c.run_job-answer.ensures.failed;
      sound = c.run_job-answer.ensures.sound;
      jobs = c.run_job-answer.ensures.images;
      settled = c.run_job-answer.ensures.settled;
      call = c.run_job-answer.ensures.call;
      good = c.run_job-answer.ensures.good;
      complete = c.run_job-answer.ensures.complete;
    } in
    let failed : c.run_job-answer.result ≡ Err Failed = search rules in
    let attached = c.run_job-answer.ensures.call.frame.attached ∙ c.stop_after.ensures.state.attached ∙ c.requires.attached in
    subst (λ (r : Result RunReport RunError). SessionAnswer ts tc s job passes c.args.every (view c.args.rack.now)
    (view c.restart.new.self) r) (sym failed)
    (session_stopped ts tc s (dims_of s) job passes c.args.every (most_pages s job) (most_syncs s job) (view c.args.rack.now)
    (view c.stop_after.new.self)
    (view c.run_job-answer.new.rack) (view c.restart.new.self) (g.met.R.Rack.consistent c.args.rack.now)
    (g.met.R.Rack.consistent c.stop_after.new.self)
    (g.met.R.Rack.consistent c.run_job-answer.new.rack) attached c.stop_after.ensures
    (subst (RunFacts ts tc s job passes c.args.every (most_pages s job) (most_syncs s job) (view c.stop_after.new.self)
    (view c.run_job-answer.new.rack)) failed facts)
    c.restart.ensures)

pub returns-in_default-clause-keeps : goal.returns-in_default-clause-keeps
returns-in_default-clause-keeps g c =
    let view = g.R.Rack.view in
    let ts = g.R.Rack.tells_stands in
    let tc = g.R.Rack.tells_contents in
    let s = c.args.shape.now in
    let job = c.args.job.now in
    let passes = length c.args.plan.now.forms in
    let facts : RunFacts ts tc s job passes c.args.every (most_pages s job) (most_syncs s job) (view c.stop_after.new.self)
    (view c.run_job-answer.new.rack) c.run_job-answer.result = record {
      answer = c.run_job-answer.ensures.answer;
      report = c.run_job-answer.ensures.report;
      moves = c.run_job-answer.ensures.moves;
      most = c.run_job-answer.ensures.most;
      calls = c.run_job-answer.ensures.calls_most;
      done = c.run_job-answer.ensures.done;
      failed = c.run_job-answer.ensures.failed;
      sound = c.run_job-answer.ensures.sound;
      jobs = c.run_job-answer.ensures.images;
      settled = c.run_job-answer.ensures.settled;
      call = c.run_job-answer.ensures.call;
      good = c.run_job-answer.ensures.good;
      complete = c.run_job-answer.ensures.complete;
    } in
    session_keeps_then ts tc s job passes c.args.every (view c.args.rack.now) (view c.run_job-answer.new.rack) (view c.stop_never.new.self)
    (session_keeps_then ts tc s job passes c.args.every (view c.args.rack.now) (view c.stop_after.new.self) (view c.run_job-answer.new.rack)
    (set_keeps ts tc true s job passes c.args.every _ _ (g.met.R.Rack.consistent c.args.rack.now) c.stop_after.ensures)
    (run_keeps ts tc s job passes c.args.every (most_pages s job) (most_syncs s job) _ _ c.run_job-answer.result facts))
    (set_keeps ts tc false s job passes c.args.every _ _ (g.met.R.Rack.consistent c.run_job-answer.new.rack) c.stop_never.ensures)

pub returns-in_default-clause-answer : goal.returns-in_default-clause-answer
returns-in_default-clause-answer g c =
    let view = g.R.Rack.view in
    let ts = g.R.Rack.tells_stands in
    let tc = g.R.Rack.tells_contents in
    let s = c.args.shape.now in
    let job = c.args.job.now in
    let passes = length c.args.plan.now.forms in
    let facts : RunFacts ts tc s job passes c.args.every (most_pages s job) (most_syncs s job) (view c.stop_after.new.self)
    (view c.run_job-answer.new.rack) c.run_job-answer.result = record {
      answer = c.run_job-answer.ensures.answer;
      report = c.run_job-answer.ensures.report;
      moves = c.run_job-answer.ensures.moves;
      most = c.run_job-answer.ensures.most;
      calls = c.run_job-answer.ensures.calls_most;
      done = c.run_job-answer.ensures.done;
      failed = c.run_job-answer.ensures.failed;
      sound = c.run_job-answer.ensures.sound;
      jobs = c.run_job-answer.ensures.images;
      settled = c.run_job-answer.ensures.settled;
      call = c.run_job-answer.ensures.call;
      good = c.run_job-answer.ensures.good;
      complete = c.run_job-answer.ensures.complete;
    } in
    let well = g.met.R.Rack.consistent c.run_job-answer.new.rack in
    let ended : c.run_job-answer.result ≢ Err Failed = search rules in
    session_ended ts tc true false s job passes c.args.every (most_pages s job) (most_syncs s job) c.run_job-answer.result
    (view c.args.rack.now)
    (view c.stop_after.new.self) (view c.run_job-answer.new.rack) (view c.stop_never.new.self)
    (g.met.R.Rack.consistent c.args.rack.now) well c.stop_after.ensures facts
    c.stop_never.ensures.state (c.stop_never.ensures.counts.moves ∙ raised-zero _ well.moves) ended
