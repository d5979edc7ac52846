use Rattle.std.proofs.Common.{◌+◌, arith}
use Rattle.bm_base.specs.Shape.{dims_of}
use Rattle.bm_control.proofs.EqualLemmas.{none_some}
use Rattle.bm_job.proofs.RangeLemmas.{few_passes}
use Rattle.bm_job.proofs.StepLemmas.{pass_done, held_finished, moved_none}
use Rattle.bm_job.proofs.durable_step.finish_pass.Goals as goal

pub open_gate-requires-clause-number : goal.open_gate-requires-clause-number
open_gate-requires-clause-number g c =
    let m = c.args.machine.now in
    let few = few_passes m.shape m.job m.passes m.done m.every m.part m.slot m.load m.keeps in
    let left = c.requires.left in
    omega (arith, few, left)

pub returns-in_err-open_gate-clause-sound : goal.returns-in_err-open_gate-clause-sound
returns-in_err-open_gate-clause-sound g c told_stands told_contents holds =
    let m = c.args.machine.now in
    let fits = g.met.R.Rack.consistent c.args.rack.now in
    let stands = fits.attached told_stands (dims_of m.shape) c.requires.attached in
    c.open_gate.ensures.sound told_stands told_contents holds.held.sound
    (pass_done m.shape m.job m.passes m.done m.every m.part m.slot (m.load + 1) _ stands
    (fits.sizes told_stands told_contents (dims_of m.shape) stands)
    holds.held c.requires.left c.requires.last holds.moved)

pub returns-clause-sound : goal.returns-clause-sound
returns-clause-sound g c told_stands told_contents holds =
    let m = c.args.machine.now in
    let fits = g.met.R.Rack.consistent c.args.rack.now in
    let stands = fits.attached told_stands (dims_of m.shape) c.requires.attached in
    c.open_gate.ensures.sound told_stands told_contents holds.held.sound
    (pass_done m.shape m.job m.passes m.done m.every m.part m.slot (m.load + 1) _ stands
    (fits.sizes told_stands told_contents (dims_of m.shape) stands)
    holds.held c.requires.left c.requires.last holds.moved)

pub returns-clause-follows : goal.returns-clause-follows
returns-clause-follows g c told_stands told_contents holds =
    let m = c.args.machine.now in
    let fits = g.met.R.Rack.consistent c.args.rack.now in
    let stands = fits.attached told_stands (dims_of m.shape) c.requires.attached in
    let sizes = fits.sizes told_stands told_contents (dims_of m.shape) stands in
    let few = few_passes m.shape m.job m.passes m.done m.every m.part m.slot m.load m.keeps in
    let sound = c.open_gate.ensures.sound told_stands told_contents holds.held.sound
    (pass_done m.shape m.job m.passes m.done m.every m.part m.slot (m.load + 1) _ stands sizes holds.held c.requires.left c.requires.last
    holds.moved) in
    record {
      held = held_finished m.shape m.job m.passes m.done m.every m.part m.slot _ _ stands sizes holds.held c.requires.left few
          c.open_gate.ensures.call.frame
          (c.in_ok-open_gate.ensures.clean) (c.in_ok-open_gate.ensures.opened told_contents) sound;
      form = λ form is. absurd (none_some form is);
      moved = moved_none m.shape (m.done + 1) _;
    }
