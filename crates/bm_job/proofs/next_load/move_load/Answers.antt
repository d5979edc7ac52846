use Rattle.std.proofs.Common.{ℕ, ◌+◌, List, sym, subst}
use Rattle.std.proofs.Math.Path.{subst₂}
use Rattle.std.proofs.lemmas.Result.{on_ok_weaker}
use Rattle.bm_base.specs.declared.area.Area.{Area}
use Rattle.bm_base.specs.Area.{area_after}
use Rattle.bm_base.specs.Contents.{page_unit}
use Rattle.bm_base.specs.Shape.{dims_of}
use Rattle.bm_rack.specs.Frames.{ChangesOnly}
use Rattle.bm_rack.proofs.FrameLemmas.{ChangesOnly-wider, DirtiesOnly-changes}
use Rattle.bm_stripe.specs.Units.{IsAreaUnit}
use Rattle.bm_pass.specs.LoadMove.{LoadMoved, IsTargetUnit}
use Rattle.bm_pass.proofs.PassLemmas.{IsTargetUnit-area}
use Rattle.bm_control.specs.Bodies.{IsPassBody}
use Rattle.bm_control.specs.Pages.{pass_body}
use Rattle.bm_job.proofs.HeldLemmas.{held_working}
use Rattle.bm_job.proofs.StepLemmas.{moved_more}
use Rattle.bm_job.proofs.next_load.move_load.Goals as goal

pub returns-clause-held : goal.returns-clause-held
returns-clause-held g c told_stands told_contents follows next =
    let m = c.args.machine.now in
    let form = c.args.form.now in
    let fits = g.met.R.Rack.consistent c.args.rack.now in
    let stands = fits.attached told_stands (dims_of m.shape) c.requires.attached in
    let only = subst (λ (a : Area). ChangesOnly (IsTargetUnit m.shape form a m.load) (g.R.Rack.view c.args.rack.now)
    (g.R.Rack.view c.load_step.new.rack))
    c.area_of-to.ensures c.load_step.ensures.only in
    held_working m.shape m.job m.passes m.done m.every m.part m.slot m.load form _ _ stands
    (fits.sizes told_stands told_contents (dims_of m.shape) stands)
    follows.held next c.requires.left m.keeps.moved m.keeps.within only

pub returns-clause-moved : goal.returns-clause-moved
returns-clause-moved g c told follows next =
    let m = c.args.machine.now in
    let form = c.args.form.now in
    let before = g.R.Rack.view c.args.rack.now in
    let after = g.R.Rack.view c.load_step.new.rack in
    let only = subst (λ (a : Area). ChangesOnly (IsTargetUnit m.shape form a m.load) before after) c.area_of-to.ensures
    c.load_step.ensures.only in
    on_ok_weaker c.load_step.result
    (λ (one : LoadMoved m.shape form c.area_of-from.result c.area_of-to.result m.load before.contents after.contents).
    moved_more m.shape m.done m.load form before after next m.keeps.within only follows.moved
    (subst₂ (λ (from to : Area). LoadMoved m.shape form from to m.load before.contents after.contents) c.area_of-from.ensures
    c.area_of-to.ensures one))
    (c.load_step.ensures.records told)

pub returns-clause-next : goal.returns-clause-next
returns-clause-next g c next =
    let m = c.args.machine.now in
    let form = c.args.form.now in
    subst (λ (p : List ℕ). IsPassBody m.shape m.done p form)
    (sym (c.load_step.ensures.only.contents (page_unit (pass_body m.done))
    (λ is. IsTargetUnit-area m.shape form c.area_of-to.result m.load (page_unit (pass_body m.done)) c.requires.of_shape is))) next

pub returns-clause-call : goal.returns-clause-call
returns-clause-call g c =
    let m = c.args.machine.now in
    let form = c.args.form.now in
    let only = subst (λ (a : Area). ChangesOnly (IsTargetUnit m.shape form a m.load) (g.R.Rack.view c.args.rack.now)
    (g.R.Rack.view c.load_step.new.rack))
    c.area_of-to.ensures c.load_step.ensures.only in
    let to = area_after (m.done + 1) in
    record {
      frame = DirtiesOnly-changes (IsAreaUnit m.shape to) _ _
          (ChangesOnly-wider (IsTargetUnit m.shape form to m.load) (IsAreaUnit m.shape to) _ _
          (λ u. IsTargetUnit-area m.shape form to m.load u c.requires.of_shape) only);
      keeps = c.load_step.ensures.keeps;
      cause = c.load_step.ensures.cause;
    }
