use Rattle.std.proofs.Common.{Err, ap}
use Rattle.bm_rack.proofs.FrameLemmas.{HasCause-later}
use Rattle.bm_control.proofs.SoundLemmas.{sound_synced, sound_same}
use Rattle.bm_job.proofs.BeginCallLemmas.{settled_most}
use Rattle.bm_disks.proofs.OpenLemmas.{answer_refused, answer_read, answer_good, answer_complete, answer_means, consistent_of, failed_of}
use Rattle.bm_disks.proofs.OpenLemmas.{never_failed}
use Rattle.bm_disks.proofs.job_opening.open_job.Goals as goal

pub returns-in_err-sync-clause-sound : goal.returns-in_err-sync-clause-sound
returns-in_err-sync-clause-sound g c sound = sound_synced _ _ c.sync.result c.sync.ensures.synced sound

pub returns-in_err-state-clause-answer : goal.returns-in_err-state-clause-answer
returns-in_err-state-clause-answer g c told =
    answer_refused _ _ _ _ _ _ c.sync.ensures.synced.contents c.from_residual-in_err-state.ensures.1 (c.in_err-state.ensures.answer told)

pub returns-in_err-state-clause-good : goal.returns-in_err-state-clause-good
returns-in_err-state-clause-good g c stands told sound page =
    answer_good _ _ _ _ _ page (consistent_of c.args.shape.now _ stands told (g.met.R.Rack.consistent c.args.rack.now) c.requires.attached
    sound)
    (answer_refused c.args.shape.now c.args.job.now _ _ _ _ c.sync.ensures.synced.contents c.from_residual-in_err-state.ensures.1
    (c.in_err-state.ensures.answer told))

pub returns-in_err-state-clause-complete : goal.returns-in_err-state-clause-complete
returns-in_err-state-clause-complete g c stands told sound case quiet =
    answer_complete _ _ _ _ _ (consistent_of c.args.shape.now _ stands told (g.met.R.Rack.consistent c.args.rack.now) c.requires.attached
    sound)
    (answer_refused c.args.shape.now c.args.job.now _ _ _ _ c.sync.ensures.synced.contents c.from_residual-in_err-state.ensures.1
    (c.in_err-state.ensures.answer told)) case
    (λ failed. quiet ((HasCause-later _ _ _ _ c.sync.ensures.keeps c.in_err-state.ensures.cause).rose
    (ap Err (failed_of _ _ c.from_residual-in_err-state.ensures.1 failed))))

pub returns-in_err-state-clause-sound : goal.returns-in_err-state-clause-sound
returns-in_err-state-clause-sound g c sound =
    sound_same _ _ c.read_state.ensures.state (sound_synced _ _ c.sync.result c.sync.ensures.synced sound)

pub returns-clause-answer : goal.returns-clause-answer
returns-clause-answer g c told =
    answer_read _ _ _ _ _ _ c.sync.ensures.synced.contents (c.in_ok-state.ensures.answer told) c.opened.ensures.answer

pub returns-clause-means : goal.returns-clause-means
returns-clause-means g c stands told sound =
    answer_means _ _ _ _ _ (consistent_of c.args.shape.now _ stands told (g.met.R.Rack.consistent c.args.rack.now) c.requires.attached
    sound)
    (answer_read _ _ _ _ _ _ c.sync.ensures.synced.contents (c.in_ok-state.ensures.answer told) c.opened.ensures.answer)

pub returns-clause-complete : goal.returns-clause-complete
returns-clause-complete g c stands told sound case quiet =
    answer_complete _ _ _ _ _ (consistent_of c.args.shape.now _ stands told (g.met.R.Rack.consistent c.args.rack.now) c.requires.attached
    sound)
    (answer_read _ _ _ _ _ _ c.sync.ensures.synced.contents (c.in_ok-state.ensures.answer told) c.opened.ensures.answer) case
    (never_failed _ _ _ _ c.opened.ensures.answer)

pub returns-clause-sound : goal.returns-clause-sound
returns-clause-sound g c sound = sound_same _ _ c.read_state.ensures.state (sound_synced _ _ c.sync.result c.sync.ensures.synced sound)

pub returns-clause-counts : goal.returns-clause-counts
returns-clause-counts g c =
    settled_most _ _ _ _ (g.met.R.Rack.consistent c.args.rack.now) (g.met.R.Rack.consistent c.sync.new.self) c.sync.ensures.counts
    c.read_state.ensures.fits
    c.read_state.ensures.counts
