use Rattle.std.proofs.lemmas.Result.{on_ok_weaker}
use Rattle.bm_base.specs.Contents.{page_at}
use Rattle.bm_base.specs.Gate.{IsOpenGate, IsClosedGate}
use Rattle.bm_control.proofs.ImageLemmas.{zeros_closed}
use Rattle.bm_control.proofs.SoundLemmas.{sound_same}
use Rattle.bm_disks.proofs.GateLemmas.{clean_same, page_same, load_shut_same}
use Rattle.bm_disks.proofs.gate_closing.shut_load.Goals as goal

pub returns-then-branch-clause-shut : goal.returns-then-branch-clause-shut
returns-then-branch-clause-shut g c told =
    on_ok_weaker c.close_load.result (zeros_closed (page_at (g.R.Rack.view c.close_load.new.rack).contents 1))
    (c.close_load.ensures.closed told)

pub returns-then-branch-clause-sound : goal.returns-then-branch-clause-sound
returns-then-branch-clause-sound g c stands told sound clean shut =
    let opened = (c.in_ok-is_open.ensures.answer told).0 c.if-branch.true in
    let state = c.is_open.ensures.state in
    c.close_load.ensures.sound stands told (sound_same _ _ state sound) (clean_same _ _ state clean)
    (page_same IsOpenGate 1 _ _ state opened)
    (page_same IsClosedGate 3 _ _ state shut)

pub returns-in_err-is_open-clause-stays : goal.returns-in_err-is_open-clause-stays
returns-in_err-is_open-clause-stays g c told shut = load_shut_same _ _ c.is_open.ensures.state shut

pub returns-then-branch-clause-stays : goal.returns-then-branch-clause-stays
returns-then-branch-clause-stays g c told shut = absurd (shut.1 ((c.in_ok-is_open.ensures.answer told).0 c.if-branch.true))

pub returns-else-branch-clause-stays : goal.returns-else-branch-clause-stays
returns-else-branch-clause-stays g c told shut = load_shut_same _ _ c.is_open.ensures.state shut
