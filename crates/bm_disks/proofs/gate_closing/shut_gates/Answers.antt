use Rattle.std.proofs.Common.{◌≡◌, ℕ, List, refl, sym, ◌∙◌, ap, subst, arith}
use Rattle.bm_base.specs.Contents.{Contents, page_unit, page_at}
use Rattle.bm_rack.specs.Calls.{IsPage}
use Rattle.bm_control.proofs.SoundLemmas.{sound_synced}
use Rattle.bm_control.specs.Closing.{IsShut}
use Rattle.bm_disks.specs.Loading.{IsClosing}
use Rattle.bm_disks.proofs.GateLemmas.{shut_closed, on_ok, shut_counts, load_shut_within, load_shut_synced}
use Rattle.bm_disks.proofs.gate_closing.shut_gates.Goals as goal

pub returns-in_err-shut_job-clause-sound : goal.returns-in_err-shut_job-clause-sound
returns-in_err-shut_job-clause-sound g c stands told sound =
    c.shut_job.ensures.sound stands told (sound_synced _ _ c.sync.result c.sync.ensures.synced sound)
    (c.in_ok-sync.ensures.synced.clean refl)

pub returns-clause-job_gate : goal.returns-clause-job_gate
returns-clause-job_gate g c told =
    let view = g.R.Rack.view in
    let shut = subst (λ (v : Contents). IsShut (page_at v 3) (page_at (view c.shut_job.new.rack).contents 3)) c.sync.ensures.synced.contents
    (c.in_ok-shut_job.ensures.shut told) in
    let later : page_at (view c.shut_load.new.rack).contents 3 ≡ page_at (view c.shut_job.new.rack).contents 3 =
    c.shut_load.ensures.call.frame.contents (page_unit 3) (λ e. omega (arith, e)) in
    on_ok c.shut_load.result _ (subst (λ (page : List ℕ). IsShut (page_at (view c.args.rack.now).contents 3) page) (sym later) shut)

pub returns-clause-sound : goal.returns-clause-sound
returns-clause-sound g c stands told sound =
    let clean = c.in_ok-sync.ensures.synced.clean refl in
    c.shut_load.ensures.sound stands told
    (c.shut_job.ensures.sound stands told (sound_synced _ _ c.sync.result c.sync.ensures.synced sound) clean)
    (c.in_ok-shut_job.ensures.clean clean) (shut_closed _ _ (c.in_ok-shut_job.ensures.shut told))

pub returns-clause-exact : goal.returns-clause-exact
returns-clause-exact g c told ok one three load job =
    let view = g.R.Rack.view in
    let same : (view c.sync.new.self).contents ≡ (view c.args.rack.now).contents = c.sync.ensures.synced.contents in
    let before : page_at (view c.shut_job.new.rack).contents 1 ≡ page_at (view c.args.rack.now).contents 1 =
    c.shut_job.ensures.call.frame.contents (page_unit 1) (λ e. omega (arith, e)) ∙ ap (λ (v : Contents). page_at v 1) same in
    shut_counts one three _ _ _ _ c.sync.ensures.counts
    (c.in_ok-shut_job.ensures.exact told refl three (subst (λ (v : Contents). IsClosing (page_at v 3) three) (sym same) job))
    (c.shut_load.ensures.exact told ok one (subst (λ (page : List ℕ). IsClosing page one) (sym before) load))

pub returns-in_err-sync-clause-stays : goal.returns-in_err-sync-clause-stays
returns-in_err-sync-clause-stays g c told shut = load_shut_synced _ _ c.sync.result c.sync.ensures.synced shut

pub returns-in_err-shut_job-clause-stays : goal.returns-in_err-shut_job-clause-stays
returns-in_err-shut_job-clause-stays g c told shut =
    load_shut_within (IsPage 3) _ _ c.shut_job.ensures.call.frame (λ e. omega (arith, e))
    (load_shut_synced _ _ c.sync.result c.sync.ensures.synced shut)

pub returns-clause-stays : goal.returns-clause-stays
returns-clause-stays g c told shut =
    c.shut_load.ensures.stays told
    (load_shut_within (IsPage 3) _ _ c.shut_job.ensures.call.frame (λ e. omega (arith, e))
    (load_shut_synced _ _ c.sync.result c.sync.ensures.synced shut))
