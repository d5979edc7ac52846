-- A batch whose jobs were not begun for want of memory, and one of whose jobs a bay refused.
use Rattle.std.proofs.Common.{◌≡◌, ◌≢◌, inl, ℕ, ◌<◌, List, length, slice_index_or, sym, ◌∙◌, ap, subst, arith}
use Rattle.bm_base.specs.Contents.{Contents}
use Rattle.bm_rack.specs.RackView.{RackView}
use Rattle.bm_rack.proofs.FrameLemmas.{HasCause-later}
use Rattle.bm_control.specs.Pages.{HasClosedLoad}
use Rattle.bm_job.specs.declared.answers.RunError.{RunError}
use Rattle.bm_job.specs.declared.answers.RunError.TheVariants as run
use Rattle.bm_job.specs.Runs.{SameContents}
use Rattle.bm_batch.specs.declared.bay_slot.BaySlot.{BaySlot}
use Rattle.bm_batch.specs.declared.bay_state.BayState.{BayState}
use Rattle.bm_batch.specs.declared.bay_state.BayState.TheVariants.{Ended}
use Rattle.bm_batch.specs.Batches.{view_at}
use Rattle.bm_top.specs.Causes.{HasOtherShape, HasOtherJob}
use Rattle.bm_top.specs.DiskStatus.{run_status}
use Rattle.bm_top.specs.Moment.{SourceView, Tells}
use Rattle.bm_top.specs.declared.status.Status.TheVariants as status
use Rattle.bm_top.proofs.SameDisksLemmas.{sound_kept}
use Rattle.bm_top.proofs.StepAnswerLemmas.{run_not_done, run_no_input}
use Rattle.bm_batch_call.specs.declared.words.BatchVerb.{BatchVerb}
use Rattle.bm_batch_call.specs.declared.words.BatchVerb.TheVariants.{Batch, Run}
use Rattle.bm_batch_call.specs.Bays.{RunRefusal, BayRan, BayReady}
use Rattle.bm_batch_call.specs.BatchCall.{BatchCall, AreReady, LeavesMemory}
use Rattle.bm_batch_call.specs.Causes.{BatchCause, IsEnded, IsMadeBefore, IsToldBy, HasWrongPage}
use Rattle.bm_batch_call.specs.Dumping.{IsFirstEnded}
use Rattle.bm_batch_call.specs.Moment.{BatchDevices, Work, part_of}
use Rattle.bm_batch_call.specs.Output.{ReadsFew}
use Rattle.bm_batch_call.specs.Running.{AllRan}
use Rattle.bm_batch_call.proofs.MadeLemmas.{bay_made}
use Rattle.bm_batch_call.proofs.ReadyLemmas.{leaves_ready, ready_kept, ran_kept, have_disks, reads_few, whole_part, ready_keeps}
use Rattle.bm_batch_call.proofs.StoppedLemmas.{stopped}

-- ---- no memory for the begin

pub begin_refused : (t : Tells) (verb : BatchVerb) (w : Work) (start mid : BatchDevices) → AreReady t verb w start mid
    → BatchCall t verb w start status.OutOfMemory mid
begin_refused t verb w start mid r =
    stopped t verb w start status.OutOfMemory mid tt (λ is. absurd (cc)) (λ is. absurd (cc)) r.out r.count
    (λ k below. leaves_ready t verb w.shape (w.job k) _ _ _ _ _ (r.bays k below) (ready_kept t w.shape (w.job k) _)
    (whole_part t verb w _ _ k below r.input))
    (λ of. absurd of) (λ is k below. memory verb k (r.bays k below)) (reads_few t verb w _ _ r.input) r.input_faults
  where
    memory : (verb : BatchVerb) (k : ℕ) → BayReady t verb w.shape (part_of w start.input.left k) (view_at start.bays k) (view_at mid.bays k)
        → LeavesMemory verb start mid k
    memory Batch k x = tt
    memory Run k x = record { disks = x.from.disks; calls = x.from.calls }

-- ---- a job that ended

-- what the control file told of the refusal, which left contents and row calls
told_by : (t : Tells) (verb : BatchVerb) (w : Work) (k passes : ℕ) (bytes : List ℕ) (state : BayState) (e : RunError)
    (old mid new : RackView) → e ≢ run.Failed → BayReady t verb w.shape bytes old mid → BayRan t w.shape (w.job k) passes state mid new
    → state ≡ Ended e → IsToldBy t verb (RunRefusal w.shape (w.job k) old.contents e × SameContents old new)
told_by t Batch w k passes bytes state e old mid new other r x is = λ told. other (x.only told (r.sound told)
    (record { load_gate = r.load_gate told.1; load_body = r.load_body told.1; job_gate = inl (r.no_job told.1) }) e is)
told_by t Run w k passes bytes state e old mid new other r x is = λ told. (
  subst (λ (c : Contents). RunRefusal w.shape (w.job k) c e) r.from.disks.contents (x.refusal told e is),
  record {
    contents = (x.kept told e is other).contents ∙ r.from.disks.contents;
    moves = (x.kept told e is other).moves ∙ r.from.calls.moves;
  },
)

bad_by : (t : Tells) (verb : BatchVerb) (w : Work) (k passes : ℕ) (bytes : List ℕ) (state : BayState) (page : ℕ)
    (old mid new : RackView) → BayReady t verb w.shape bytes old mid → BayRan t w.shape (w.job k) passes state mid new
    → state ≡ Ended (run.BadPage page) → IsToldBy t verb (HasWrongPage t page old × SameContents old new)
bad_by t Batch w k passes bytes state page old mid new r x is = λ told. x.good told (r.sound told) page is
bad_by t Run w k passes bytes state page old mid new r x is = λ told.
    let seen = told_by t Run w k passes bytes state (run.BadPage page) old mid new (λ failed. absurd (cc)) r x is told in (
      record { unsound = λ tells sound. x.good tells (sound_kept old mid r.from.disks sound) page is; wrong = seen.0 },
      seen.1,
    )

pub run_ended : (t : Tells) (verb : BatchVerb) (w : Work) (passes : ℕ → ℕ) (slots : List BaySlot) (d : BaySlot) (e : RunError)
    (start mid new : BatchDevices) → AreReady t verb w start mid → length slots ≡ w.count → new.out ≡ mid.out → new.input ≡ mid.input
    → length new.bays ≡ length mid.bays → AllRan t w passes slots d mid.bays new.bays → IsFirstEnded slots e
    → BatchCall t verb w start (run_status e) new
run_ended t verb w passes slots d e start mid new r many out input count ran first =
    stopped t verb w start (run_status e) new (cause e first) (run_not_done e) (not_cut e) (out ∙ r.out) (count ∙ r.count)
    (λ k below. leaves_ready t verb w.shape (w.job k) _ _ _ _ _ (r.bays k below) (ran_kept t w.shape (w.job k) _ _ _ _ (ran k below))
    (whole_part t verb w _ _ k below r.input))
    (λ of. absurd (run_no_input e of)) (λ is. absurd (not_memory e is))
    (subst (λ (v : SourceView). ReadsFew t verb w start.input v) (sym input) (reads_few t verb w _ _ r.input))
    (let low = r.input_faults in let same = ap (λ (v : SourceView). v.faults) input in omega (arith, low, same))
  where
    here : (e : RunError) (f : IsFirstEnded slots e) → f.at < w.count
    here e f = (let b = f.below in omega (arith, b, many))

    before : (e : RunError) (f : IsFirstEnded slots e) (k : ℕ) → k < f.at → IsMadeBefore t verb w start new k
    before e f k early =
        let below : k < w.count = (let b = here e f in omega (arith, b, early)) in (
          passes k,
          bay_made t verb w start k (passes k) _ (view_at mid.bays k) (view_at new.bays k) (r.bays k below) (ran k below)
              (f.before k d early),
        )

    ready : (e : RunError) (f : IsFirstEnded slots e)
        → BayReady t verb w.shape (part_of w start.input.left f.at) (view_at start.bays f.at) (view_at mid.bays f.at)
    ready e f = r.bays f.at (here e f)

    turned : (e : RunError) (f : IsFirstEnded slots e) → BayRan t w.shape (w.job f.at) (passes f.at) (slice_index_or slots f.at d).state
        (view_at mid.bays f.at) (view_at new.bays f.at)
    turned e f = ran f.at (here e f)

    first_of : (e : RunError) (f : IsFirstEnded slots e) (P : RackView → ℕ → Type 0)
        → IsToldBy t verb (P (view_at start.bays f.at) f.at × SameContents (view_at start.bays f.at) (view_at new.bays f.at))
        → IsEnded t verb w start new P
    first_of e f P told = record {
      disks = have_disks t verb w start mid r;
      first = record { at = f.at; below = here e f; here = told; before = before e f };
    }

    cause : (e : RunError) → IsFirstEnded slots e → BatchCause t verb w start (run_status e) new
    cause run.Failed f =
        let x = HasCause-later _ _ _ _ (ready_keeps t verb w.shape _ _ _ (ready run.Failed f)) (turned run.Failed f).failed in
        record {
          bay = f.at;
          below = here run.Failed f;
          cause = record { rose = λ _. x.rose (f.ended d); sure = λ steady going _. x.sure steady going (f.ended d) };
        }
    cause run.NotLoaded f = first_of run.NotLoaded f (λ v k. HasClosedLoad v.contents)
        (told_by t verb w f.at _ _ _ run.NotLoaded _ _ _ (λ is. absurd (cc)) (ready run.NotLoaded f) (turned run.NotLoaded f) (f.ended d))
    cause run.OtherShape f = first_of run.OtherShape f (λ v k. HasOtherShape w.shape v.contents)
        (told_by t verb w f.at _ _ _ run.OtherShape _ _ _ (λ is. absurd (cc)) (ready run.OtherShape f) (turned run.OtherShape f)
        (f.ended d))
    cause run.OtherJob f = first_of run.OtherJob f (λ v k. HasOtherJob w.shape (w.job k) v.contents)
        (told_by t verb w f.at _ _ _ run.OtherJob _ _ _ (λ is. absurd (cc)) (ready run.OtherJob f) (turned run.OtherJob f) (f.ended d))
    cause (run.BadPage page) f = first_of (run.BadPage page) f (λ v k. HasWrongPage t page v)
        (bad_by t verb w f.at _ _ _ page _ _ _ (ready (run.BadPage page) f) (turned (run.BadPage page) f) (f.ended d))

    not_cut : (e : RunError) → run_status e ≢ status.SinkFault
    not_cut run.Failed is = absurd (cc)
    not_cut run.NotLoaded is = absurd (cc)
    not_cut run.OtherShape is = absurd (cc)
    not_cut run.OtherJob is = absurd (cc)
    not_cut (run.BadPage page) is = absurd (cc)

    not_memory : (e : RunError) → run_status e ≢ status.OutOfMemory
    not_memory run.Failed is = absurd (cc)
    not_memory run.NotLoaded is = absurd (cc)
    not_memory run.OtherShape is = absurd (cc)
    not_memory run.OtherJob is = absurd (cc)
    not_memory (run.BadPage page) is = absurd (cc)
