use Rattle.std.proofs.Common.{refl, subst}
use Rattle.bm_base.specs.Contents.{Contents, page_at}
use Rattle.bm_base.specs.Gate.{IsOpenGate}
use Rattle.bm_control.proofs.SoundLemmas.{sound_synced, sound_same}
use Rattle.bm_disks.proofs.GateLemmas.{clean_same, page_same}
use Rattle.bm_disks.proofs.dropping.drop_job.Goals as goal

pub returns-in_err-close_job-clause-sound : goal.returns-in_err-close_job-clause-sound
returns-in_err-close_job-clause-sound g c stands told sound =
    let opened = (c.in_ok-is_job_open.ensures.answer told).0 c.if-not-branch.false in
    let state = c.is_job_open.ensures.state in
    c.close_job.ensures.sound stands told (sound_same _ _ state (sound_synced _ _ c.sync.result c.sync.ensures.synced sound))
    (clean_same _ _ state (c.in_ok-sync.ensures.synced.clean refl)) (page_same IsOpenGate 3 _ _ state opened)

pub returns-clause-answer : goal.returns-clause-answer
returns-clause-answer g c told =
    let opened = (c.in_ok-is_job_open.ensures.answer told).0 c.if-not-branch.false in
    (subst (λ (v : Contents). IsOpenGate (page_at v 3)) c.sync.ensures.synced.contents opened, c.in_ok-close_job.ensures.closed told)

pub returns-clause-sound : goal.returns-clause-sound
returns-clause-sound g c stands told sound =
    let opened = (c.in_ok-is_job_open.ensures.answer told).0 c.if-not-branch.false in
    let state = c.is_job_open.ensures.state in
    c.close_job.ensures.sound stands told (sound_same _ _ state (sound_synced _ _ c.sync.result c.sync.ensures.synced sound))
    (clean_same _ _ state (c.in_ok-sync.ensures.synced.clean refl)) (page_same IsOpenGate 3 _ _ state opened)
