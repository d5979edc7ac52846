use Rattle.std.proofs.Common.{Result, Ok, Err, OnErr, refl, sym, ◌∙◌, rules}
use Rattle.bm_control.proofs.EqualLemmas.{error_is, error_fails}
use Rattle.bm_job.proofs.RunLemmas.{on_way_next, fewer_left, end_calls, failed_calls, reached_of, failed_call, body_stands}
use Rattle.bm_job.proofs.TurnLemmas.{left_of, refusal_of}
use Rattle.bm_job.proofs.run.take_turns.Goals as goal

pub loop-machine-smaller : goal.loop-machine-smaller
loop-machine-smaller g c =
    let m = c.loop-machine.machine in
    let left = left_of c.finished.result m.done m.passes c.loop-machine-test.true c.finished.ensures.1 m.keeps.done_few in
    fewer_left m _ (c.in_ok-turn.ensures.next left) left (c.in_ok-turn.ensures.moved left)

pub loop-machine-preserved : goal.loop-machine-preserved
loop-machine-preserved g c =
    let m = c.loop-machine.machine in
    let left = left_of c.finished.result m.done m.passes c.loop-machine-test.true c.finished.ensures.1 m.keeps.done_few in
    record {
      way = on_way_next g.R.Rack.tells_stands g.R.Rack.tells_contents c.args.start.now m c.turn.new.self _ _ _ _ _
          c.loop-machine.invariant.way
          (c.in_ok-turn.ensures.next left) (c.in_ok-turn.ensures.moved left) c.in_ok-turn.ensures.follows c.turn.ensures.call
          c.turn.ensures.input
          refl (c.in_ok-turn.ensures.counts left);
      fits = search rules;
    }

-- what holds of an error holds where there is one
on_err_of : {T E P : Type 0} (r : Result T E) → P → OnErr r P
on_err_of (Ok x) holds = tt
on_err_of (Err e) holds = holds

pub returns-in_err-turn-clause-good : goal.returns-in_err-turn-clause-good
returns-in_err-turn-clause-good g c told bodies page is =
    let m = c.loop-machine.machine in
    let left = left_of c.finished.result m.done m.passes c.loop-machine-test.true c.finished.ensures.1 m.keeps.done_few in
    body_stands g.R.Rack.tells_stands g.R.Rack.tells_contents c.args.start.now m _ _ page c.loop-machine.invariant.way left bodies
    (c.turn.ensures.bad told page (c.in_err-turn.was ∙ refusal_of _ _ (sym (error_is c.from_residual.result _ c.from_residual.ensures.1)
    ∙ is)))

pub returns-in_err-turn-clause-reached : goal.returns-in_err-turn-clause-reached
returns-in_err-turn-clause-reached g c told_stands told_contents follows =
    let m = c.loop-machine.machine in
    let left = left_of c.finished.result m.done m.passes c.loop-machine-test.true c.finished.ensures.1 m.keeps.done_few in
    let way = c.loop-machine.invariant.way in
    on_err_of c.from_residual.result (λ dims image stands i gone is.
    reached_of g.R.Rack.tells_stands g.R.Rack.tells_contents c.args.start.now m _ _ _ _ gone way (c.turn.ensures.counts left)
    (c.turn.ensures.sure told_stands told_contents (way.follows told_stands told_contents follows) dims image stands i gone is))

pub returns-in_err-turn-clause-call : goal.returns-in_err-turn-clause-call
returns-in_err-turn-clause-call g c =
    failed_call g.R.Rack.tells_stands g.R.Rack.tells_contents c.args.start.now c.loop-machine.machine _ _ _ _ _ c.loop-machine.invariant.way
    (λ is. c.in_err-turn.was ∙ refusal_of _ _ (sym (error_is c.from_residual.result _ c.from_residual.ensures.1) ∙ is)) c.turn.ensures.call

pub returns-in_err-turn-clause-counts : goal.returns-in_err-turn-clause-counts
returns-in_err-turn-clause-counts g c =
    let m = c.loop-machine.machine in
    let left = left_of c.finished.result m.done m.passes c.loop-machine-test.true c.finished.ensures.1 m.keeps.done_few in
    failed_calls g.R.Rack.tells_stands g.R.Rack.tells_contents c.args.start.now m _ _ _ _ _ c.loop-machine.invariant.way left
    (error_fails c.from_residual.result _ c.from_residual.ensures.1) (c.turn.ensures.counts left)

pub returns-clause-counts : goal.returns-clause-counts
returns-clause-counts g c =
    end_calls g.R.Rack.tells_stands g.R.Rack.tells_contents c.args.start.now c.loop-machine.machine _ _ _ c.loop-machine.invariant.way
    (c.finished.ensures.0 c.loop-machine-test.false)
