use Rattle.std.proofs.Common.{◌≢◌, Err, Result, length, refl, ap, ◌∙◌, subst, arith}
use Rattle.bm_base.specs.Shape.{dims_of}
use Rattle.bm_base.specs.declared.report.RunReport.{RunReport}
use Rattle.bm_job.specs.declared.answers.RunError.{RunError}
use Rattle.bm_job.specs.declared.answers.RunError.TheVariants.{Failed}
use Rattle.bm_drill.specs.Session.{SessionAnswer}
use Rattle.bm_drill.proofs.PaidLemmas.{session_keeps_then, stands_here}
use Rattle.bm_drill.proofs.FrontLemmas.{input_loaded}
use Rattle.bm_drill.proofs.RefusalLemmas.{refusal_of_session, refused_on_some, runnable_kept}
use Rattle.bm_drill.proofs.SessionsLemmas.{sessions_done, sessions_most}
use Rattle.bm_drill.proofs.sessions.run_sessions.Goals as goal

-- ---- where the job was done

pub returns-in-Ok-clause-done : goal.returns-in-Ok-clause-done
returns-in-Ok-clause-done g c told_stands told_contents sound =
    let s = c.args.shape.now in
    let job = c.args.job.now in
    let passes = length c.args.plan.now.forms in
    let old = g.R.Rack.view c.args.rack.now in
    let new = g.R.Rack.view c.take_sessions-restarts.new.rack in
    let ts = g.R.Rack.tells_stands in
    let tc = g.R.Rack.tells_contents in
    let z = c.take_sessions-restarts.ensures.sessions in
    let went = subst (λ (r : Result RunReport RunError). SessionAnswer ts tc s job passes c.args.every z.mid new r) c.in-Ok.is
    z.answer_is in
    let here = stands_here ts tc (dims_of s) old (g.met.R.Rack.consistent c.args.rack.now) c.requires.attached told_stands told_contents in
    let there = stands_here ts tc (dims_of s) z.mid z.before.well (z.before.keeps.kept.attached
    ∙ c.requires.attached) told_stands told_contents in
    let low = z.before.keeps.kept.moves in
    let more = z.keeps.kept.moves in
    let rows = c.rows.ensures in
    let rows_before = c.rows-before.ensures in
    sessions_done ts tc s job passes c.args.every c.take_sessions-restarts.result.0 c.in-Ok.report _ old z.mid new told_stands
    told_contents sound
    c.requires.body.fits here.0 here.1 there.1 z.before went refl refl (omega (arith, low, more, rows, rows_before))

pub returns-in-Ok-clause-most : goal.returns-in-Ok-clause-most
returns-in-Ok-clause-most g c =
    let s = c.args.shape.now in
    let job = c.args.job.now in
    let passes = length c.args.plan.now.forms in
    let old = g.R.Rack.view c.args.rack.now in
    let new = g.R.Rack.view c.take_sessions-restarts.new.rack in
    let ts = g.R.Rack.tells_stands in
    let tc = g.R.Rack.tells_contents in
    let z = c.take_sessions-restarts.ensures.sessions in
    let went = subst (λ (r : Result RunReport RunError). SessionAnswer ts tc s job passes c.args.every z.mid new r) c.in-Ok.is
    z.answer_is in
    let low = z.before.keeps.kept.moves in
    let more = z.keeps.kept.moves in
    let rows = c.rows.ensures in
    let rows_before = c.rows-before.ensures in
    sessions_most ts tc s job passes c.args.every c.take_sessions-restarts.result.0 _ old z.mid new z.before went.most (omega
    (arith, low, more, rows, rows_before))

pub returns-in-Ok-clause-input : goal.returns-in-Ok-clause-input
returns-in-Ok-clause-input g c told_stands told_contents sound opened =
    let s = c.args.shape.now in
    let ts = g.R.Rack.tells_stands in
    let tc = g.R.Rack.tells_contents in
    let z = c.take_sessions-restarts.ensures.sessions in
    let here = stands_here ts tc (dims_of s) _ (g.met.R.Rack.consistent c.args.rack.now) c.requires.attached told_stands told_contents in
    input_loaded s _ _ here.0 here.1 ((session_keeps_then ts tc s c.args.job.now
    (length c.args.plan.now.forms) c.args.every _ z.mid _ z.before.keeps z.keeps).rest told_contents) sound opened

pub returns-in-Ok-clause-images : goal.returns-in-Ok-clause-images
returns-in-Ok-clause-images g c told_stands told_contents sound =
    let z = c.take_sessions-restarts.ensures.sessions in
    (session_keeps_then g.R.Rack.tells_stands g.R.Rack.tells_contents c.args.shape.now c.args.job.now
    (length c.args.plan.now.forms) c.args.every _ z.mid _ z.before.keeps z.keeps).jobs
    told_stands told_contents sound

-- ---- where it was refused

pub returns-in-Err-clause-refused : goal.returns-in-Err-clause-refused
returns-in-Err-clause-refused g c told_stands told_contents sound =
    let s = c.args.shape.now in
    let job = c.args.job.now in
    let passes = length c.args.plan.now.forms in
    let old = g.R.Rack.view c.args.rack.now in
    let new = g.R.Rack.view c.take_sessions-restarts.new.rack in
    let ts = g.R.Rack.tells_stands in
    let tc = g.R.Rack.tells_contents in
    let z = c.take_sessions-restarts.ensures.sessions in
    let fails : c.in-Err.error ≢ Failed = λ same. z.ended (c.in-Err.is ∙ ap Err same) in
    let refusal = refusal_of_session ts tc s job passes c.args.every z.mid new c.in-Err.error
    (subst (λ (r : Result RunReport RunError). SessionAnswer ts tc s job passes c.args.every z.mid new r) c.in-Err.is z.answer_is) fails in
    let here = stands_here ts tc (dims_of s) old (g.met.R.Rack.consistent c.args.rack.now) c.requires.attached told_stands told_contents in
    let there = stands_here ts tc (dims_of s) z.mid z.before.well (z.before.keeps.kept.attached
    ∙ c.requires.attached) told_stands told_contents in
    refused_on_some s job passes c.args.every c.in-Err.error old z.mid here.0 z.before.keeps.kept.stands here.1 there.1 sound
    (z.before.keeps.jobs told_stands told_contents sound) (z.before.keeps.rest told_contents) fails
    (refusal.good told_stands told_contents (z.before.keeps.sound told_stands told_contents sound)) (refusal.answer told_contents)

pub returns-in-Err-clause-input : goal.returns-in-Err-clause-input
returns-in-Err-clause-input g c told_stands told_contents sound opened =
    let s = c.args.shape.now in
    let ts = g.R.Rack.tells_stands in
    let tc = g.R.Rack.tells_contents in
    let z = c.take_sessions-restarts.ensures.sessions in
    let here = stands_here ts tc (dims_of s) _ (g.met.R.Rack.consistent c.args.rack.now) c.requires.attached told_stands told_contents in
    input_loaded s _ _ here.0 here.1 ((session_keeps_then ts tc s c.args.job.now
    (length c.args.plan.now.forms) c.args.every _ z.mid _ z.before.keeps z.keeps).rest told_contents) sound opened

pub returns-in-Err-clause-images : goal.returns-in-Err-clause-images
returns-in-Err-clause-images g c told_stands told_contents sound =
    let z = c.take_sessions-restarts.ensures.sessions in
    (session_keeps_then g.R.Rack.tells_stands g.R.Rack.tells_contents c.args.shape.now c.args.job.now
    (length c.args.plan.now.forms) c.args.every _ z.mid _ z.before.keeps z.keeps).jobs
    told_stands told_contents sound

pub returns-in-Err-clause-complete : goal.returns-in-Err-clause-complete
returns-in-Err-clause-complete g c told_stands told_contents sound runs =
    let s = c.args.shape.now in
    let job = c.args.job.now in
    let passes = length c.args.plan.now.forms in
    let old = g.R.Rack.view c.args.rack.now in
    let new = g.R.Rack.view c.take_sessions-restarts.new.rack in
    let ts = g.R.Rack.tells_stands in
    let tc = g.R.Rack.tells_contents in
    let z = c.take_sessions-restarts.ensures.sessions in
    let refusal = refusal_of_session ts tc s job passes c.args.every z.mid new c.in-Err.error
    (subst (λ (r : Result RunReport RunError). SessionAnswer ts tc s job passes c.args.every z.mid new r) c.in-Err.is z.answer_is)
    (λ same. z.ended (c.in-Err.is ∙ ap Err same)) in
    let here = stands_here ts tc (dims_of s) old (g.met.R.Rack.consistent c.args.rack.now) c.requires.attached told_stands told_contents in
    let there = stands_here ts tc (dims_of s) z.mid z.before.well (z.before.keeps.kept.attached
    ∙ c.requires.attached) told_stands told_contents in
    absurd (refusal.complete told_stands told_contents (z.before.keeps.sound told_stands told_contents sound)
    (runnable_kept s job passes c.args.every old z.mid here.0 z.before.keeps.kept.stands here.1 there.1
    (z.before.keeps.jobs told_stands told_contents sound)
    (z.before.keeps.rest told_contents) runs))
