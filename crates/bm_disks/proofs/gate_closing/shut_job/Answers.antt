use Rattle.std.proofs.Common.{inl}
use Rattle.std.proofs.lemmas.Result.{on_ok_weaker}
use Rattle.bm_base.specs.Contents.{page_at}
use Rattle.bm_base.specs.Gate.{IsOpenGate}
use Rattle.bm_control.specs.Pages.{IsZeroPage}
use Rattle.bm_control.proofs.SoundLemmas.{sound_same}
use Rattle.bm_disks.proofs.GateLemmas.{clean_same, page_same}
use Rattle.bm_disks.proofs.gate_closing.shut_job.Goals as goal

pub returns-then-branch-clause-shut : goal.returns-then-branch-clause-shut
returns-then-branch-clause-shut g c told =
    let opened = (c.in_ok-is_open.ensures.answer told).0 c.if-branch.true in
    on_ok_weaker c.close_job.result (λ (closed : IsZeroPage (page_at (g.R.Rack.view c.close_job.new.rack).contents 3)). inl
    (opened, closed))
    (c.close_job.ensures.closed told)

pub returns-then-branch-clause-sound : goal.returns-then-branch-clause-sound
returns-then-branch-clause-sound g c stands told sound clean =
    let opened = (c.in_ok-is_open.ensures.answer told).0 c.if-branch.true in
    let state = c.is_open.ensures.state in
    c.close_job.ensures.sound stands told (sound_same _ _ state sound) (clean_same _ _ state clean)
    (page_same IsOpenGate 3 _ _ state opened)
