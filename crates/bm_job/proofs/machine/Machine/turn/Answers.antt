use Rattle.bm_base.specs.Shape.{dims_of}
use Rattle.bm_job.specs.Turns.{IsTurnUnit}
use Rattle.bm_job.proofs.CallLemmas.{call_of}
use Rattle.bm_job.proofs.LeftLemmas.{moved_one}
use Rattle.bm_job.proofs.TurnLemmas.{left_of, refusal_of, turn_sure, rest_sure, turn_input, has_next}
use Rattle.bm_job.proofs.machine.Machine.turn.Goals as goal

pub returns-then-finished-clause-sure : goal.returns-then-finished-clause-sure
returns-then-finished-clause-sure g c told_stands told_contents follows dims image stands i gone is =
    rest_sure c.args.self.now _ dims image gone follows i is

pub returns-in-Ok-clause-sure : goal.returns-in-Ok-clause-sure
returns-in-Ok-clause-sure g c told_stands told_contents follows dims image stands i gone is =
    let m = c.args.self.now in
    let left = left_of c.finished.result m.done m.passes c.if-finished.false c.finished.ensures.1 m.keeps.done_few in
    turn_sure m _ _ dims image gone follows left c.advance.ensures.call.frame i is

pub returns-in-Err-clause-sure : goal.returns-in-Err-clause-sure
returns-in-Err-clause-sure g c told_stands told_contents follows dims image stands i gone is =
    let m = c.args.self.now in
    let left = left_of c.finished.result m.done m.passes c.if-finished.false c.finished.ensures.1 m.keeps.done_few in
    turn_sure m _ _ dims image gone follows left c.advance.ensures.call.frame i is

pub returns-in-Ok-clause-input : goal.returns-in-Ok-clause-input
returns-in-Ok-clause-input g c = turn_input c.args.self.now _ _ c.advance.ensures.call.frame

pub returns-in-Err-clause-input : goal.returns-in-Err-clause-input
returns-in-Err-clause-input g c = turn_input c.args.self.now _ _ c.advance.ensures.call.frame

pub returns-in-Err-clause-good : goal.returns-in-Err-clause-good
returns-in-Err-clause-good g c told_stands told_contents follows page is =
    let m = c.args.self.now in
    let left = left_of c.finished.result m.done m.passes c.if-finished.false c.finished.ensures.1 m.keeps.done_few in
    let fits = g.met.R.Rack.consistent c.args.rack.now in
    let stands = fits.attached told_stands (dims_of m.shape) c.requires.attached in
    let next = has_next m _ stands (fits.sizes told_stands told_contents (dims_of m.shape) stands) follows left in
    (c.in-Err.ensures.bad told_contents page (refusal_of _ _ is)).1 next.0 next.1

pub returns-in-Ok-clause-read : goal.returns-in-Ok-clause-read
returns-in-Ok-clause-read g c told left none = c.in-Ok.ensures.read told none

pub returns-in-Ok-clause-moved : goal.returns-in-Ok-clause-moved
returns-in-Ok-clause-moved g c left = moved_one _ _ c.in-Ok.ensures.next

pub returns-in-Err-clause-call : goal.returns-in-Err-clause-call
returns-in-Err-clause-call g c =
    call_of (IsTurnUnit c.args.self.now) (IsTurnUnit c.args.self.now) _ _ _ _ (λ u is. is) (refusal_of _ _) c.in-Err.ensures.call
