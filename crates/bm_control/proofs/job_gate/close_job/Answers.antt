use Rattle.bm_control.proofs.SoundLemmas.{sound_closing_job}
use Rattle.bm_control.proofs.job_gate.close_job.Goals as goal

pub returns-clause-sound : goal.returns-clause-sound
returns-clause-sound g c told_stands told_contents sound clean gate =
    let fits = g.met.R.Rack.consistent c.args.rack.now in
    let dims = c.requires.0 in
    let stands = fits.attached told_stands dims c.requires.1 in
    sound_closing_job _ _ dims stands (fits.sizes told_stands told_contents dims stands) sound gate c.write_page_durably.ensures.call.frame
