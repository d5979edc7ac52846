-- A bay whose job was begun and took all its turns.
use Rattle.std.proofs.Common.{Err, ◌≡◌, ◌≢◌, inl, inr, ℕ, ◌-◌, ◌*◌, ◌^◌, ◌<◌, Bool, Some}
use Rattle.std.proofs.Common.{refl, sym, ◌∙◌, ap, subst}
use Rattle.bm_base.specs.declared.shape.Shape.{Shape}
use Rattle.bm_base.specs.Area.{area_after}
use Rattle.bm_base.specs.Contents.{Contents}
use Rattle.bm_base.specs.Count.{raised}
use Rattle.bm_base.specs.Records.{record_at, SameRecords}
use Rattle.bm_base.specs.Shape.{dims_of, loads_of}
use Rattle.bm_forms.specs.declared.job.Job.{Job}
use Rattle.bm_forms.specs.Job.{meaning}
use Rattle.bm_forms.proofs.JobLemmas.{meaning-same}
use Rattle.bm_rack.specs.RackView.{RackView, IsWellFormed}
use Rattle.bm_rack.specs.Image.{SameInput}
use Rattle.bm_rack.proofs.FrameLemmas.{Keeps-trans, HasCause-later, raised-zero}
use Rattle.bm_control.specs.Consistent.{input_of}
use Rattle.bm_control.specs.Pages.{HasLoadBody, HasJobBody}
use Rattle.bm_control.specs.Sound.{IsSound}
use Rattle.bm_job.specs.declared.machine.Machine.{Machine}
use Rattle.bm_job.specs.declared.answers.RunError.{RunError}
use Rattle.bm_job.specs.declared.answers.RunError.TheVariants as run
use Rattle.bm_job.specs.Begins.{BeginAnswer}
use Rattle.bm_job.specs.Follows.{loads_moved}
use Rattle.bm_job.specs.Runs.{load_rows, run_most}
use Rattle.bm_job.specs.Turns.{IsTurnRefusal, SameJob}
use Rattle.bm_job.proofs.EndLemmas.{begin_complete, turn_complete, same_input_records}
use Rattle.bm_job.proofs.RunCallLemmas.{end_most}
use Rattle.bm_job.proofs.KeptJobLemmas.{has_bits}
use Rattle.bm_job.proofs.LeftLemmas.{loads_all}
use Rattle.bm_batch.specs.declared.bay_slot.BaySlot.{BaySlot}
use Rattle.bm_batch.specs.declared.bay_state.BayState.TheVariants.{Going, Ended}
use Rattle.bm_batch.specs.Bays.{JobDone, BayBegun, BayTurns, BayWent}
use Rattle.bm_batch.proofs.BayLemmas.{going_or_not, finished_well, some_of, input_after, sound_after, done_after}
use Rattle.bm_batch_call.specs.Bays.{IsJobDone, RunRefusal, BayRan}
use Rattle.bm_batch_call.specs.Dumping.{passes_by}
use Rattle.bm_top.specs.Moment.{Tells, TellsRack}
use Rattle.bm_batch_call.proofs.RowLemmas.{few_same, few_raised, none_left}

-- a job that is done, of the input at an earlier moment
made_of : (s : Shape) (job : Job) (m : Machine) (first mid new : RackView) → m.shape ≡ s → m.job ≡ job → JobDone m mid new
    → SameRecords (2 ^ s.n) (input_of mid.contents s) (input_of first.contents s) → IsJobDone s job (input_of first.contents s) m.passes new
made_of s job m first mid new shape job_is d same = record {
  records = λ x below. records x below
      ∙ meaning-same s.n job (input_of mid.contents s) (input_of first.contents s) (has_bits s job body.fits.fits) same x below;
  input_is = λ x below. input x below ∙ same x below;
  load_body = subst (λ (t : Shape). HasLoadBody t new.contents) shape d.load_body;
  load_gate = d.load_gate;
  job_gate = d.job_gate;
  every = m.every;
  body = body;
  gates = d.gates;
  clean = d.clean;
}
  where
    body : HasJobBody s new.contents job m.passes m.every
    body = subst (λ (t : Shape). HasJobBody t new.contents job m.passes m.every) shape
        (subst (λ (j : Job). HasJobBody m.shape new.contents j m.passes m.every) job_is d.body)

    records : SameRecords (2 ^ s.n) (record_at new.contents s (area_after m.passes)) (meaning s.n job (input_of mid.contents s))
    records = subst (λ (t : Shape). SameRecords (2 ^ t.n) (record_at new.contents t (area_after m.passes))
        (meaning t.n job (input_of mid.contents t)))
        shape (subst (λ (j : Job). SameRecords (2 ^ m.shape.n) (record_at new.contents m.shape (area_after m.passes))
        (meaning m.shape.n j (input_of mid.contents m.shape))) job_is d.records)

    input : SameRecords (2 ^ s.n) (input_of new.contents s) (input_of mid.contents s)
    input = subst (λ (t : Shape). SameRecords (2 ^ t.n) (input_of new.contents t) (input_of mid.contents t)) shape d.input

-- what the control file told of a begin that it refused
begin_told : (s : Shape) (job : Job) (passes every : ℕ) (v : Contents) (e : RunError) → BeginAnswer s job passes every v (Err e)
    → RunRefusal s job v e
begin_told s job passes every v run.Failed x = tt
begin_told s job passes every v run.NotLoaded x = x
begin_told s job passes every v run.OtherShape x = record { state = x.0; told = x.1; other = x.2.0; loaded = x.2.1; differs = x.2.2 }
begin_told s job passes every v run.OtherJob x = record {
  state = x.0;
  told = x.1;
  loaded = x.2;
  other = x.3.0;
  opened = x.3.1;
  differs = x.3.2;
}
begin_told s job passes every v (run.BadPage page) x = x

-- no turn is refused by it
turn_told : (s : Shape) (job : Job) (v : Contents) (e : RunError) → IsTurnRefusal e → ((page : ℕ) → e ≢ run.BadPage page)
    → RunRefusal s job v e
turn_told s job v run.Failed is good = tt
turn_told s job v run.NotLoaded is good = absurd is
turn_told s job v run.OtherShape is good = absurd is
turn_told s job v run.OtherJob is good = absurd is
turn_told s job v (run.BadPage page) is good = absurd (good page refl)

-- ---- the parts of a frame over turns

went_stands : (ts tc : Bool) (m : Machine) (slot : BaySlot) (old new : RackView) → BayWent ts tc m slot old new → new.stands ≡ old.stands
went_stands ts tc m slot old new w = w.call.frame.stands

went_attached : (ts tc : Bool) (m : Machine) (slot : BaySlot) (old new : RackView) → BayWent ts tc m slot old new
    → new.attached ≡ old.attached
went_attached ts tc m slot old new w = w.call.frame.attached

-- ---- loads

-- all loads of the passes are moved at the end
moved_all : (s : Shape) (m : Machine) (passes : ℕ) → m.shape ≡ s → m.done ≡ m.passes → passes ≡ m.passes
    → loads_moved m ≡ passes * loads_of s
moved_all s m passes shape end same =
    loads_all m end ∙ ap (λ (k : ℕ). k * loads_of m.shape) (sym same) ∙ ap (λ (t : Shape). passes * loads_of t) shape

-- the row calls from there to the end
went_rows : (s : Shape) (m next : Machine) (passes : ℕ) → SameJob m next → m.shape ≡ s → next.done ≡ next.passes → passes ≡ next.passes
    → load_rows m.shape (loads_moved next - loads_moved m) ≡ load_rows s (passes * loads_of s - loads_moved m)
went_rows s m next passes same shape end is =
    ap (λ (t : Shape). load_rows t (loads_moved next - loads_moved m)) shape
    ∙ ap (λ (k : ℕ). load_rows s (k - loads_moved m)) (moved_all s next passes (same.shape ∙ shape) end is)

-- ---- the bay

pub bay_ran : (t : Tells) (s : Shape) (job : Job) (passes every : ℕ) (before slot : BaySlot) (old mid new : RackView)
    → IsWellFormed t.stands t.contents new
    → BayBegun t.stands t.contents s job passes every before old mid → BayTurns t.stands t.contents before slot mid new
    → slot.state ≢ Going → BayRan t s job (passes_by slot.machine) slot.state old new
bay_ran t s job passes every before slot old mid new well begun turns over = elim (going_or_not before.state) [
  | inl on ↦
      let first = some_of before.machine (before.keeps.going on) in
      let went = turns.went on first.0 first.1 in
      let fresh = begun.fresh first.0 first.1 in
      let follows = λ (told : TellsRack t) (sound : IsSound old). begun.follows told.0 told.1 sound in
      record {
        over = over;
        done = λ told sound fin.
            let last = some_of slot.machine (slot.keeps.finished fin) in
            let same = went.same in
            subst (λ (p : ℕ). IsJobDone s job (input_of old.contents s) p new) (sym (ap passes_by last.1))
            (made_of s job last.0 old mid new
            (ap (λ (x : Machine). x.shape) (one_machine went.next last.0 (sym went.machine ∙ last.1)) ∙ same.shape ∙ fresh.shape)
            (ap (λ (x : Machine). x.job) (one_machine went.next last.0 (sym went.machine ∙ last.1)) ∙ same.job ∙ fresh.job_is)
            (done_after t.stands t.contents before slot mid new told.0 told.1 well turns (λ going m is. follows told sound m is) on fin
            last.0 last.1)
            (same_input_records s old mid begun.input));
        sound = λ told sound. sound_after t.stands t.contents before slot mid new told.0 told.1 turns
            (λ going m is. follows told sound m is)
            (begun.sound told.0 told.1 sound);
        input = input;
        stands = went_stands _ _ _ _ _ _ went ∙ begun.call.frame.stands;
        attached = went_attached _ _ _ _ _ _ went ∙ begun.call.frame.attached;
        keeps = Keeps-trans old mid new begun.call.keeps went.call.keeps;
        moves = few_raised (run_most s job) ⊥ old new (end_most s job first.0 old mid new ⊥ fresh begun.moves went.few);
        moved = λ told fin. record {
          gone = loads_moved first.0;
          is_gone = begun.gone told first.0 first.1;
          rows = went.moves (finished_well slot.state fin)
              ∙ ap (λ (k : ℕ). raised k (load_rows first.0.shape (loads_moved went.next - loads_moved first.0))) begun.moves
              ∙ ap (λ (k : ℕ). raised old.moves k)
              (went_rows s first.0 went.next (passes_by slot.machine) went.same fresh.shape (slot.keeps.all went.next went.machine fin)
              (ap passes_by went.machine));
        };
        kept = λ told e is other. absurd (other (turn_complete e (went.refusal e is)
            (λ page bad. went.bad told (begun.bodies told first.0 first.1) page (is ∙ ap Ended bad))));
        failed = HasCause-later _ old mid new begun.call.keeps went.call.cause;
        refusal = λ told e is. turn_told s job old.contents e (went.refusal e is)
            (λ page bad. went.bad told (begun.bodies told first.0 first.1) page (is ∙ ap Ended bad));
        good = λ told sound page is. went.good told.0 told.1 (follows told sound first.0 first.1) page is;
        only = λ told sound can e is. turn_complete e (went.refusal e is)
            (λ page bad. went.good told.0 told.1 (follows told sound first.0 first.1) page (is ∙ ap Ended bad));
      }
  | inr off ↦
      let still = turns.idle off in
      let state = ap (λ (x : BaySlot). x.state) still.0 in
      subst (λ (v : RackView). BayRan t s job (passes_by slot.machine) slot.state old v) (sym still.1)
      (subst (λ (x : BaySlot). BayRan t s job (passes_by x.machine) x.state old mid) (sym still.0)
      (record {
        over = off;
        done = λ told sound fin.
            let last = some_of before.machine (before.keeps.finished fin) in
            let fresh = begun.fresh last.0 last.1 in
            subst (λ (p : ℕ). IsJobDone s job (input_of old.contents s) p mid) (sym (ap passes_by last.1))
            (made_of s job last.0 old old mid fresh.shape fresh.job_is (begun.done told.0 told.1 sound fin last.0 last.1)
            (λ x below. refl));
        sound = λ told sound. begun.sound told.0 told.1 sound;
        input = begun.input;
        stands = begun.call.frame.stands;
        attached = begun.call.frame.attached;
        keeps = begun.call.keeps;
        moves = few_same (run_most s job) old mid begun.moves;
        moved = λ told fin.
            let last = some_of before.machine (before.keeps.finished fin) in
            let fresh = begun.fresh last.0 last.1 in
            record {
              gone = loads_moved last.0;
              is_gone = begun.gone told last.0 last.1;
              rows = begun.moves
                  ∙ sym (raised-zero old.moves
                  (subst (λ (k : ℕ). k < 2 ^ 64) (ap (λ (v : RackView). v.moves) still.1 ∙ begun.moves) well.moves))
                  ∙ ap (λ (k : ℕ). raised old.moves k) (sym (none_left s (passes_by before.machine * loads_of s) (loads_moved last.0)
                  (moved_all s last.0 (passes_by before.machine) fresh.shape (before.keeps.all last.0 last.1 fin) (ap passes_by last.1))));
            };
        kept = λ told e is other. record { contents = begun.kept e is other; moves = begun.moves };
        failed = begun.call.cause;
        refusal = λ told e is. begin_told s job passes every old.contents e (begun.refusal told e is);
        good = λ told sound page is. begun.good told.0 told.1 sound page is;
        only = λ told sound can e is. begin_complete s job passes every old.contents e (begun.refusal told.1 e is) can
            (λ page bad. begun.good told.0 told.1 sound page (is ∙ ap Ended bad));
      }))
]
  where
    one_machine : (a b : Machine) → Some a ≡ Some b → b ≡ a
    one_machine a b is = cc

    input : SameInput (dims_of s) old new
    input =
        let first = begun.input in
        let later = input_after t.stands t.contents s before slot mid new (λ m is. (begun.fresh m is).shape) turns in
        record {
          contents = λ u is. later.contents u is ∙ first.contents u is;
          dirty = λ u is clean. later.dirty u is (first.dirty u is clean);
        }
