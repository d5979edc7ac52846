use Rattle.std.proofs.Common.{◌≡◌, ℕ, ap, sym, ◌∙◌, subst, arith}
use Rattle.std.proofs.lemmas.Result.{on_ok_weaker}
use Rattle.bm_base.specs.Contents.{page_at, page_unit}
use Rattle.bm_rack.specs.Calls.{IsPage}
use Rattle.bm_rack.specs.Frames.{DirtiesOnly}
use Rattle.bm_control.proofs.MomentLemmas.{sound_writing_part, sound_marking}
use Rattle.bm_control.proofs.progress.mark_part.Goals as goal
use Rattle.bm_control.specs.Closing.{IsShut}
use Rattle.bm_control.specs.Pages.{slot_body, slot_gate}

pub returns-in_err-write_page_durably-clause-sound : goal.returns-in_err-write_page_durably-clause-sound
returns-in_err-write_page_durably-clause-sound g c told_stands told_contents sound clean part =
    let dims = c.requires.ready.0 in
    let first = c.close_slot.ensures.call.frame in
    let stands = first.stands ∙ (g.met.R.Rack.consistent c.args.rack.now).attached told_stands dims c.requires.ready.1 in
    let fits = g.met.R.Rack.consistent c.close_slot.new.rack in
    sound_writing_part _ _ dims c.args.slot c.requires.slot stands (fits.sizes told_stands told_contents dims stands)
    (c.close_slot.ensures.sound told_stands told_contents sound)
    (record { clean = c.in_ok-close_slot.ensures.settled told_contents clean; holds = c.in_ok-close_slot.ensures.closed told_contents })
    (subst (λ (k : ℕ). DirtiesOnly (IsPage k) (g.R.Rack.view c.close_slot.new.rack) (g.R.Rack.view c.write_page_durably.new.rack))
    c.slot_body.ensures c.write_page_durably.ensures.call.frame)

pub returns-clause-sound : goal.returns-clause-sound
returns-clause-sound g c told_stands told_contents sound clean part =
    let s = c.args.shape.now in
    let dims = c.requires.ready.0 in
    let first = c.close_slot.ensures.call.frame in
    let stands = first.stands ∙ (g.met.R.Rack.consistent c.args.rack.now).attached told_stands dims c.requires.ready.1 in
    let fits = g.met.R.Rack.consistent c.close_slot.new.rack in
    let second : DirtiesOnly (IsPage (slot_body c.args.slot)) (g.R.Rack.view c.close_slot.new.rack)
    (g.R.Rack.view c.write_page_durably.new.rack) =
    subst (λ (k : ℕ). DirtiesOnly (IsPage k) (g.R.Rack.view c.close_slot.new.rack) (g.R.Rack.view c.write_page_durably.new.rack))
    c.slot_body.ensures c.write_page_durably.ensures.call.frame in
    let third : DirtiesOnly (IsPage (slot_gate c.args.slot)) (g.R.Rack.view c.write_page_durably.new.rack)
    (g.R.Rack.view c.write_page_durably-2.new.rack) =
    subst (λ (k : ℕ). DirtiesOnly (IsPage k) (g.R.Rack.view c.write_page_durably.new.rack)
    (g.R.Rack.view c.write_page_durably-2.new.rack)) c.slot_gate.ensures c.write_page_durably-2.ensures.call.frame in
    let sound_2 = sound_writing_part _ _ dims c.args.slot c.requires.slot stands (fits.sizes told_stands told_contents dims stands)
    (c.close_slot.ensures.sound told_stands told_contents sound)
    (record { clean = c.in_ok-close_slot.ensures.settled told_contents clean; holds = c.in_ok-close_slot.ensures.closed told_contents })
    second in
    let stands_2 = second.stands ∙ stands in
    let fits_2 = g.met.R.Rack.consistent c.write_page_durably.new.rack in
    let body = ap (page_at (g.R.Rack.view c.write_page_durably.new.rack).contents) (sym c.slot_body.ensures)
    ∙ c.in_ok-write_page_durably.ensures.taken told_contents ∙ c.encode_part-body.ensures in
    sound_marking c.args.slot c.args.pass c.args.loads s _ _ _ _ dims c.requires.slot c.requires.fits stands_2
    (fits_2.sizes told_stands told_contents dims stands_2)
    sound_2 c.in_ok-write_page_durably.ensures.clean part first second body third

pub returns-in_err-write_page_durably-clause-closed : goal.returns-in_err-write_page_durably-clause-closed
returns-in_err-write_page_durably-clause-closed g c told clean closed =
    subst (IsShut (page_at (g.R.Rack.view c.args.rack.now).contents (slot_gate c.args.slot)))
    (sym (c.write_page_durably.ensures.call.frame.contents (page_unit (slot_gate c.args.slot))
    (λ e. omega (arith, e, c.slot_body.ensures))))
    (c.in_ok-close_slot.ensures.shut told)

pub returns-clause-body : goal.returns-clause-body
returns-clause-body g c told =
    on_ok_weaker c.write_page_durably-2.result
    (λ (taken : page_at (g.R.Rack.view c.write_page_durably-2.new.rack).contents c.slot_gate.result ≡ c.gate_page.result).
    ap (page_at (g.R.Rack.view c.write_page_durably-2.new.rack).contents) (sym c.slot_body.ensures)
    ∙ c.write_page_durably-2.ensures.call.frame.contents (page_unit c.slot_body.result)
    (λ e. omega (arith, e, c.slot_body.ensures, c.slot_gate.ensures))
    ∙ c.in_ok-write_page_durably.ensures.taken told ∙ c.encode_part-body.ensures)
    (c.write_page_durably-2.ensures.taken told)
