use Rattle.std.proofs.Common.{ℕ, refl, sym, ◌∙◌, subst}
use Rattle.bm_base.specs.Contents.{Contents}
use Rattle.bm_rack.specs.Calls.{IsPage}
use Rattle.bm_rack.specs.Frames.{DirtiesOnly}
use Rattle.bm_control.specs.Moments.{PassIsDone}
use Rattle.bm_control.proofs.SoundLemmas.{sound_synced}
use Rattle.bm_control.proofs.MomentLemmas.{sound_opening}
use Rattle.bm_control.proofs.pass_gate.open_gate.Goals as goal

pub returns-in_err-sync-clause-sound : goal.returns-in_err-sync-clause-sound
returns-in_err-sync-clause-sound g c told_stands told_contents sound done = sound_synced _ _ _ c.sync.ensures.synced sound

pub returns-clause-sound : goal.returns-clause-sound
returns-clause-sound g c told_stands told_contents sound done =
    let fits = g.met.R.Rack.consistent c.sync.new.self in
    let dims = c.requires.ready.0 in
    let s = c.sync.ensures.synced in
    let stands = s.stands ∙ (g.met.R.Rack.consistent c.args.rack.now).attached told_stands dims c.requires.ready.1 in
    sound_opening _ _ dims c.args.k stands (fits.sizes told_stands told_contents dims stands) (sound_synced _ _ _ s sound)
    (c.in_ok-sync.ensures.synced.clean refl)
    (subst (λ (v : Contents). PassIsDone v c.args.k) (sym s.contents) done)
    (subst (λ (page : ℕ). DirtiesOnly (IsPage page) (g.R.Rack.view c.sync.new.self) (g.R.Rack.view c.write_page_durably.new.rack))
    c.pass_gate.ensures c.write_page_durably.ensures.call.frame)
