use Rattle.std.proofs.Common.{rules, inl, refl}
use Rattle.bm_control.proofs.SoundLemmas.{sound_same}
use Rattle.bm_job.specs.Turns.{IsTurnUnit}
use Rattle.bm_job.proofs.CallLemmas.{call_then, quiet, calls_failed, calls_all}
use Rattle.bm_job.proofs.HeldLemmas.{follows_state}
use Rattle.bm_job.proofs.TurnLemmas.{read_of}
use Rattle.bm_job.proofs.next_load.advance.Goals as goal

pub returns-in_err-form-clause-sound : goal.returns-in_err-form-clause-sound
returns-in_err-form-clause-sound g c told_stands told_contents follows = sound_same _ _ c.take_form.ensures.state follows.held.sound

pub returns-in_err-move_load-clause-sound : goal.returns-in_err-move_load-clause-sound
returns-in_err-move_load-clause-sound g c told_stands told_contents follows =
    (c.move_load.ensures.held told_stands told_contents (follows_state _ _ _ c.take_form.ensures.state follows)
    (c.in_ok-form.ensures.next told_contents follows)).sound

pub returns-clause-sound : goal.returns-clause-sound
returns-clause-sound g c told_stands told_contents follows =
    let now = follows_state _ _ _ c.take_form.ensures.state follows in
    let next = c.in_ok-form.ensures.next told_contents follows in
    c.make_durable.ensures.sound told_stands told_contents
    (record {
      held = c.move_load.ensures.held told_stands told_contents now next;
      moved = c.in_ok-move_load.ensures.moved told_contents now
          next;
    })

pub returns-clause-follows : goal.returns-clause-follows
returns-clause-follows g c told_stands told_contents follows =
    let now = follows_state _ _ _ c.take_form.ensures.state follows in
    let next = c.in_ok-form.ensures.next told_contents follows in
    c.make_durable.ensures.follows told_stands told_contents
    (record {
      held = c.move_load.ensures.held told_stands told_contents now next;
      moved = c.in_ok-move_load.ensures.moved told_contents now
          next;
    })
    (c.move_load.ensures.next next)

pub returns-in_err-move_load-clause-call : goal.returns-in_err-move_load-clause-call
returns-in_err-move_load-clause-call g c =
    call_then (λ u. ⊥) _ (IsTurnUnit c.args.machine.now) _ _ _ _ _ (λ u is. absurd is) (λ u is. inl is) (λ e. refl)
    (quiet _ _ c.take_form.ensures.state) c.take_form.ensures.keeps c.in_err-move_load.ensures.call

pub returns-clause-call : goal.returns-clause-call
returns-clause-call g c =
    let m = c.args.machine.now in
    let moved = call_then (λ u. ⊥) _ (IsTurnUnit m) _ _ _ _ _ (λ u is. absurd is) (λ u is. inl is) (λ e. e)
    (quiet _ _ c.take_form.ensures.state) c.take_form.ensures.keeps c.move_load.ensures.call in
    call_then (IsTurnUnit m) (IsTurnUnit m) (IsTurnUnit m) _ _ _ _ _ (λ u is. is) (λ u is. is) (λ e. e) moved.frame moved.keeps
    c.make_durable.ensures.call

pub returns-in_err-move_load-clause-counts : goal.returns-in_err-move_load-clause-counts
returns-in_err-move_load-clause-counts g c =
    calls_failed _ _ _ _ _ _ _ _ _ (g.met.R.Rack.consistent c.args.rack.now) (λ ok. search rules) c.take_form.ensures.counts
    c.move_load.ensures.moves

pub returns-clause-counts : goal.returns-clause-counts
returns-clause-counts g c =
    calls_all _ _ _ _ _ _ _ _ _ _ (g.met.R.Rack.consistent c.args.rack.now) refl c.take_form.ensures.counts c.in_ok-move_load.ensures.moves
    c.make_durable.ensures.counts

pub returns-clause-read : goal.returns-clause-read
returns-clause-read g c told none =
    read_of c.args.machine.now (g.R.Rack.view c.args.rack.now).contents c.in_ok-form.form c.make_durable.result
    (c.in_ok-form.ensures.read told none)
    c.make_durable.ensures.form
