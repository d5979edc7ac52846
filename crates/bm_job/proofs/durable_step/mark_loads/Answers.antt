use Rattle.std.proofs.Common.{◌+◌, ◌<◌, ℕ, refl, sym, subst, arith, inl, inr, List}
use Rattle.bm_base.specs.Contents.{page_unit}
use Rattle.bm_base.specs.Shape.{dims_of}
use Rattle.bm_forms.specs.PassForm.{IsOfShape}
use Rattle.bm_control.specs.Bodies.{IsPassBody}
use Rattle.bm_control.specs.Pages.{pass_body}
use Rattle.bm_control.specs.PageCalls.{IsSlotPage}
use Rattle.bm_control.proofs.EqualLemmas.{some_injective}
use Rattle.bm_job.specs.Follows.{IsNext}
use Rattle.bm_job.proofs.CallLemmas.{slot_call, no_refusal}
use Rattle.bm_job.proofs.RangeLemmas.{few_passes, marked_parts, marked_fits}
use Rattle.bm_job.proofs.StepLemmas.{part_moved, held_marked, pages_differ, moved_kept}
use Rattle.bm_job.proofs.durable_step.mark_loads.Goals as goal

pub mark_part-requires-clause-fits : goal.mark_part-requires-clause-fits
mark_part-requires-clause-fits g c =
    let m = c.args.machine.now in
    let few = few_passes m.shape m.job m.passes m.done m.every m.part m.slot m.load m.keeps in
    let left = c.requires.left in
    record { pass_some = omega arith; pass_few = omega (arith, few, left); loads_some = omega arith; loads_few = c.requires.marked.0 }

pub invariant_of-result : goal.invariant_of-result
invariant_of-result g c =
    let m = c.args.machine.now in
    record {
      keeps = marked_fits m.shape m.job m.passes m.done m.every m.part m.slot m.load c.free_of-slot.result m.keeps c.requires.left
          c.requires.marked.0 c.requires.marked.1
          c.free_of-slot.ensures.range;
      of_shape = λ f is. subst (IsOfShape m.shape) (some_injective c.args.form.now f is) c.requires.of_shape;
    }

pub returns-in_err-mark_part-clause-sound : goal.returns-in_err-mark_part-clause-sound
returns-in_err-mark_part-clause-sound g c told_stands told_contents holds =
    let m = c.args.machine.now in
    let fits = g.met.R.Rack.consistent c.args.rack.now in
    let stands = fits.attached told_stands (dims_of m.shape) c.requires.attached in
    let less = marked_parts _ m.load m.every c.requires.marked.0 c.requires.marked.1 in
    c.mark_part.ensures.sound told_stands told_contents holds.held.sound
    (holds.held.outside _ (λ left is. is))
    (part_moved m.shape m.job m.passes m.done m.every m.part m.slot (m.load + 1) _ stands
    (fits.sizes told_stands told_contents (dims_of m.shape) stands)
    holds.held c.requires.left less holds.moved)

pub returns-clause-sound : goal.returns-clause-sound
returns-clause-sound g c told_stands told_contents holds =
    let m = c.args.machine.now in
    let fits = g.met.R.Rack.consistent c.args.rack.now in
    let stands = fits.attached told_stands (dims_of m.shape) c.requires.attached in
    let less = marked_parts _ m.load m.every c.requires.marked.0 c.requires.marked.1 in
    c.mark_part.ensures.sound told_stands told_contents holds.held.sound
    (holds.held.outside _ (λ left is. is))
    (part_moved m.shape m.job m.passes m.done m.every m.part m.slot (m.load + 1) _ stands
    (fits.sizes told_stands told_contents (dims_of m.shape) stands)
    holds.held c.requires.left less holds.moved)

pub returns-in_err-mark_part-clause-call : goal.returns-in_err-mark_part-clause-call
returns-in_err-mark_part-clause-call g c = slot_call _ _ _ _ _ _ c.free_of-slot.ensures.slot (λ e. refl) c.in_err-mark_part.ensures.call

pub returns-clause-call : goal.returns-clause-call
returns-clause-call g c = slot_call _ _ _ _ _ _ c.free_of-slot.ensures.slot (λ e. absurd (no_refusal _ _ e)) c.mark_part.ensures.call

pub returns-clause-follows : goal.returns-clause-follows
returns-clause-follows g c told_stands told_contents holds next =
    let m = c.args.machine.now in
    let fits = g.met.R.Rack.consistent c.args.rack.now in
    let stands = fits.attached told_stands (dims_of m.shape) c.requires.attached in
    let few = few_passes m.shape m.job m.passes m.done m.every m.part m.slot m.load m.keeps in
    let left = c.requires.left in
    let less = marked_parts _ m.load m.every c.requires.marked.0 c.requires.marked.1 in
    let free = c.free_of-slot.result in
    let frame = c.mark_part.ensures.call.frame in
    let more = m.keeps.moved in
    let sound = c.mark_part.ensures.sound told_stands told_contents holds.held.sound (holds.held.outside _ (λ left is. is))
    (part_moved m.shape m.job m.passes m.done m.every m.part m.slot (m.load + 1) _ stands
    (fits.sizes told_stands told_contents (dims_of m.shape) stands)
    holds.held left less holds.moved) in
    let differ = pages_differ (IsSlotPage free) _ _ frame (λ disk place is. is) in
    record {
      held = held_marked m.shape m.job m.passes m.done m.every m.part m.slot (m.load + 1) free _ _ holds.held left few less
          (record {
            pass_some = omega arith;
            pass_few = omega (arith, few, left);
            loads_some = omega arith;
            loads_few = c.requires.marked.0;
          })
          (omega (arith, more)) c.free_of-slot.ensures.range frame c.in_ok-mark_part.ensures.clean
          (c.in_ok-mark_part.ensures.opened told_contents)
          (c.in_ok-mark_part.ensures.body told_contents) sound;
      form = λ form is. subst (λ f. IsNext m.shape m.done (g.R.Rack.view c.mark_part.new.rack).contents f)
          (some_injective c.args.form.now form is)
          (subst (λ (p : List ℕ). IsPassBody m.shape m.done p c.args.form.now)
          (sym (differ.pages (pass_body m.done) (λ is. early (pass_body m.done) (omega (arith, left, few)) is))) next);
      moved = moved_kept _ m.shape m.done (m.load + 1) _ _ differ (early (pass_body m.done) (omega (arith, left, few))) holds.moved;
    }
  where
    early : (page : ℕ) → page < 512 → ¬ IsSlotPage c.free_of-slot.result (page_unit page)
    early page h (inl is) = omega (arith, is, h)
    early page h (inr is) = omega (arith, is, h)
