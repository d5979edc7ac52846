use Rattle.std.proofs.Common.{ℕ, refl, ap, sym, ◌∙◌, subst, arith}
use Rattle.std.proofs.lemmas.Result.{on_ok_weaker}
use Rattle.bm_base.specs.Contents.{Contents, page_at}
use Rattle.bm_rack.specs.Calls.{IsPage}
use Rattle.bm_rack.specs.Frames.{DirtiesOnly}
use Rattle.bm_control.proofs.ImageLemmas.{zeros_closed}
use Rattle.bm_control.proofs.PageCallLemmas.{early, later}
use Rattle.bm_control.proofs.SoundLemmas.{sound_same}
use Rattle.bm_control.proofs.MomentLemmas.{sound_closing_slot}
use Rattle.bm_control.proofs.progress.close_slot.Goals as goal
use Rattle.bm_control.specs.Pages.{slot_gate, IsZeroPage}

pub returns-clause-sound : goal.returns-clause-sound
returns-clause-sound g c told_stands told_contents sound =
    let dims = c.requires.ready.0 in
    let state = c.read_page.ensures.state in
    let fits = g.met.R.Rack.consistent c.read_page.new.self in
    let stands = state.stands ∙ (g.met.R.Rack.consistent c.args.rack.now).attached told_stands dims c.requires.ready.1 in
    let page = c.in_ok-read_page.ensures.bytes told_contents refl in
    let opened = ap (λ (v : Contents). page_at v (slot_gate c.args.slot)) state.contents
    ∙ ap (page_at (g.R.Rack.view c.args.rack.now).contents) (sym c.slot_gate.ensures)
    ∙ sym page ∙ c.is_gate.ensures.0 c.if-not-is_gate.false in
    sound_closing_slot (g.R.Rack.view c.read_page.new.self) (g.R.Rack.view c.write_page_durably.new.rack) dims c.args.slot c.requires.slot
    stands
    (fits.sizes told_stands told_contents dims stands) (sound_same _ _ state sound) opened
    (subst (λ (k : ℕ). DirtiesOnly (IsPage k) (g.R.Rack.view c.read_page.new.self) (g.R.Rack.view c.write_page_durably.new.rack))
    c.slot_gate-2.ensures c.write_page_durably.ensures.call.frame)

pub returns-clause-closed : goal.returns-clause-closed
returns-clause-closed g c told =
    on_ok_weaker c.write_page_durably.result
    (λ (taken : IsZeroPage (page_at (g.R.Rack.view c.write_page_durably.new.rack).contents c.slot_gate-2.result)).
    zeros_closed _ (ap (page_at (g.R.Rack.view c.write_page_durably.new.rack).contents) (sym c.slot_gate-2.ensures) ∙ taken))
    (c.write_page_durably.ensures.taken told)

pub returns-clause-from_open : goal.returns-clause-from_open
returns-clause-from_open g c told opened =
    later _ 1 0 1 1 _ _ _ (g.met.R.Rack.consistent c.args.rack.now) c.read_page.ensures.counts c.write_page_durably.ensures.counts

pub returns-clause-most : goal.returns-clause-most
returns-clause-most g c =
    early _ ⊥ 2 1 2 1 _ _ (λ e. e) (omega arith) (omega arith)
    (later _ 1 0 1 1 _ _ _ (g.met.R.Rack.consistent c.args.rack.now) c.read_page.ensures.counts c.write_page_durably.ensures.counts)
