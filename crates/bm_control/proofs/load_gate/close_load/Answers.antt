use Rattle.bm_control.proofs.SoundLemmas.{sound_closing_load}
use Rattle.bm_control.proofs.load_gate.close_load.Goals as goal

pub returns-clause-sound : goal.returns-clause-sound
returns-clause-sound g c told_stands told_contents sound clean gate shut =
    let fits = g.met.R.Rack.consistent c.args.rack.now in
    let dims = c.requires.0 in
    sound_closing_load _ _ dims (fits.attached told_stands dims c.requires.1) sound clean gate shut c.write_page_durably.ensures.call.frame
