-- One session: a stop is set, a run is made, and the stop is taken away or ended by a restart.
use Rattle.std.proofs.Common.{Ok, Err, ◌≡◌, ◌≢◌, inl, inr, ℕ, ◌+◌, ◌-◌, ◌*◌, ◌^◌, ◌<◌, ◌≤◌, Bool, true, IsTrue, List, replicate, Result}
use Rattle.std.proofs.Common.{IfOk, IsErrOf, IsOkUnless, Some, refl, sym, ◌∙◌, ap, subst, subst₂, arith}
use Rattle.std.proofs.lemmas.Bool.{cases_Bool}
use Rattle.std.proofs.lemmas.List.{length-replicate}
use Rattle.bm_base.specs.declared.dims.Dims.{Dims}
use Rattle.bm_base.specs.declared.report.RunReport.{RunReport}
use Rattle.bm_base.specs.declared.shape.Shape.{Shape}
use Rattle.bm_base.specs.Area.{area_after}
use Rattle.bm_base.specs.Contents.{Contents, RackUnit, page_unit, unit_at, page_at, HasSizes}
use Rattle.bm_base.specs.Count.{raised, Rose}
use Rattle.bm_base.specs.Gate.{IsOpenGate}
use Rattle.bm_base.specs.Records.{record_at}
use Rattle.bm_forms.specs.declared.job.Job.{Job}
use Rattle.bm_forms.specs.Job.{meaning}
use Rattle.bm_rack.specs.RackView.{RackView, IsWellFormed}
use Rattle.bm_rack.specs.Frames.{SameState, RackCall, MovesFew, CallsFew}
use Rattle.bm_rack.specs.Image.{IsImage, InEveryImage}
use Rattle.bm_rack.specs.Sessions.{StopSet, Restarted}
use Rattle.bm_rack.proofs.FrameLemmas.{raised-zero, ChangesOnly-refl, DirtiesOnly-changes}
use Rattle.bm_control.specs.Bodies.{IsJobBody}
use Rattle.bm_control.specs.Consistent.{input_of}
use Rattle.bm_control.specs.Pages.{job_body, job_gate, HasOpenJob, HasClosedJob, HasLoadBody, HasJobBody}
use Rattle.bm_control.specs.Progress.{IsGone, AreGone}
use Rattle.bm_control.specs.Sound.{IsSound}
use Rattle.bm_control.proofs.ImageLemmas.{image_state, image_with_page, zeros_closed}
use Rattle.bm_control.proofs.SoundLemmas.{sound_same, sound_restarted}
use Rattle.bm_job.specs.declared.answers.RunError.{RunError}
use Rattle.bm_job.specs.declared.answers.RunError.TheVariants.{Failed, NotLoaded, OtherShape, OtherJob, BadPage}
use Rattle.bm_job.specs.Begins.{BeginAnswer}
use Rattle.bm_job.specs.Runs.{IsRunUnit, load_rows, ReportFits, IsReportOf, RunAnswer, IsRunnable, RunDone, RunFailed, KeepsJobs}
use Rattle.bm_job.specs.Runs.{run_most, KeepsOpenJob}
use Rattle.bm_job.proofs.EndLemmas.{keeps_open}
use Rattle.bm_drill.specs.Session.{SessionKeeps, SessionWent, SessionStopped, SessionRefused, SessionAnswer}

-- what a run says of itself
pub record RunFacts (ts tc : Bool) (s : Shape) (job : Job) (passes every pages syncs : ℕ) (a b : RackView)
    (result : Result RunReport RunError) : Type 0 where
  pub answer : IsTrue tc → RunAnswer s job passes every a b result
  pub report : IfOk result (λ r. ReportFits s job r)
  pub moves : IfOk result (λ r. b.moves ≡ raised a.moves r.moves)
  pub most : MovesFew (run_most s job) a b
  pub calls : CallsFew pages syncs a b
  pub done : IsTrue ts → IsTrue tc → IsSound a → IfOk result (λ r. RunDone s job passes every r a b)
  pub failed : IsTrue ts → IsTrue tc → IsSound a → IsErrOf result Failed → RunFailed s a b
  pub sound : IsTrue ts → IsTrue tc → IsSound a → IsSound b
  pub jobs : IsTrue ts → IsTrue tc → IsSound a → KeepsJobs s job passes every a b
  pub settled : IsTrue ts → IsTrue tc → IsSound a → InEveryImage HasOpenJob a → KeepsOpenJob a b
  pub call : RackCall (IsRunUnit s) (IsErrOf result Failed) a b
  pub good : IsTrue ts → IsTrue tc → IsSound a → (page : ℕ) → ¬ IsErrOf result (BadPage page)
  pub complete : IsTrue ts → IsTrue tc → IsSound a → IsRunnable s job a.contents → IsOkUnless result Failed

-- ---- what each part keeps

-- nothing changes where a stop is set or taken away
pub set_keeps : (ts tc stops : Bool) (s : Shape) (job : Job) (passes every : ℕ) (a b : RackView) → IsWellFormed ts tc a → StopSet stops a b
    → SessionKeeps ts tc s job passes every a b
set_keeps ts tc stops s job passes every a b well x = record {
  kept = (let m = x.counts.moves in let p = x.counts.pages in let y = x.counts.syncs in let f = x.faults in
      let wm = well.moves in let wp = well.pages in let wy = well.syncs in record {
        stands = x.state.stands;
        attached = x.state.attached;
        steady = x.steady;
        faults = omega (arith, f);
        moves = omega (arith, m, wm);
        pages = omega (arith, p, wp);
        syncs = omega (arith, y, wy);
      });
  rest = λ _ u apart clean. (ap (λ (d : RackUnit → Bool). d u) x.state.dirty ∙ clean, ap (λ (c : Contents). unit_at c u) x.state.contents);
  sound = λ _ _. sound_same a b x.state;
  jobs = λ _ _ _. record {
    bodies = λ dims image stands i opened. inl
        (record { image = image; is_image = image_state a b dims image x.state i; opened = opened; body = refl });
    others = λ dims image stands i opened t other p q body apart. image_state a b dims image x.state i;
  };
}

-- an image after a restart is one from before it
restarted_image : (ts tc : Bool) (a b : RackView) (dims : Dims) (image : Contents) → IsTrue ts → IsTrue tc → Restarted ts tc a b
    → b.stands ≡ Some dims
    → IsImage dims b image → IsImage dims a image
restarted_image ts tc a b dims image told_stands told_contents x stands i =
    let left = x.image told_stands told_contents dims (sym x.stands ∙ stands) in
    record { sizes = i.sizes; clean = λ u h. i.clean u (x.clean u) ∙ left.clean u h }

-- what a restart keeps
pub restart_keeps : (ts tc : Bool) (s : Shape) (job : Job) (passes every : ℕ) (a b : RackView) → IsWellFormed ts tc a → Restarted ts tc a b
    → SessionKeeps ts tc s job passes every a b
restart_keeps ts tc s job passes every a b well x = record {
  kept = (let m = x.counts.moves in let p = x.counts.pages in let y = x.counts.syncs in let f = x.faults in
      let wm = well.moves in let wp = well.pages in let wy = well.syncs in record {
        stands = x.stands;
        attached = x.attached;
        steady = x.steady;
        faults = omega (arith, f);
        moves = omega (arith, m, wm);
        pages = omega (arith, p, wp);
        syncs = omega (arith, y, wy);
      });
  rest = λ told u apart clean. (x.clean u, x.clean_units told u clean);
  sound = λ told_stands told_contents. sound_restarted a b x.stands (x.image told_stands told_contents) x.clean;
  jobs = λ told_stands told_contents _. record {
    bodies = λ dims image stands i opened.
        inl (record {
          image = image;
          is_image = restarted_image ts tc a b dims image told_stands told_contents x stands i;
          opened =
              opened;
          body = refl;
        });
    others = λ dims image stands i opened t other p q body apart. restarted_image ts tc a b dims image told_stands told_contents x stands i;
  };
}

-- what a run keeps
pub run_keeps : (ts tc : Bool) (s : Shape) (job : Job) (passes every pages syncs : ℕ) (a b : RackView) (result : Result RunReport RunError)
    → RunFacts ts tc s job passes every pages syncs a b result → SessionKeeps ts tc s job passes every a b
run_keeps ts tc s job passes every pages syncs a b result x = record {
  kept = record {
    stands = x.call.frame.stands;
    attached = x.call.frame.attached;
    steady = x.call.keeps.steady;
    faults = x.call.keeps.faults;
    moves = x.most.low;
    pages = x.calls.pages.low;
    syncs = x.calls.syncs.low;
  };
  rest = λ _ u apart clean. (x.call.frame.dirty u apart clean, x.call.frame.contents u apart);
  sound = x.sound;
  jobs = x.jobs;
}

-- ---- what it answers

-- all that a run left, where the views before and after hold the same
done_moved : (s : Shape) (job : Job) (passes every : ℕ) (r : RunReport) (old a b new : RackView) → SameState old a → SameState b new
    → RunDone s job passes every r a b
    → RunDone s job passes every r old new
done_moved s job passes every r old a b new x y d =
    let before : a.contents ≡ old.contents = x.contents in
    let after : b.contents ≡ new.contents = sym y.contents in
    record {
      records = λ z below. subst₂ (λ (v w : Contents). record_at v s (area_after r.passes) z ≡ meaning s.n job
          (input_of w s) z) after before (d.records z below);
      input = λ z below. subst₂ (λ (v w : Contents). input_of v s z ≡ input_of w s z) after before (d.input z below);
      load_body = subst (λ (v : Contents). HasLoadBody s v) after d.load_body;
      load_gate = subst (λ (v : Contents). IsOpenGate (page_at v 1)) after d.load_gate;
      job_gate = subst HasOpenJob after d.job_gate;
      loads = d.loads;
      body = subst (λ (v : Contents). HasJobBody s v job r.passes d.loads) after d.body;
      gates = λ k below. subst (λ (v : Contents). IsOpenGate (page_at v (5 + 2 * k))) after (d.gates k below);
      clean = λ u. ap (λ (f : RackUnit → Bool). f u) y.dirty ∙ d.clean u;
      fresh = λ closed. d.fresh (subst HasClosedJob (sym before) closed);
      stored = λ opened. subst₂ (λ (v w : Contents). page_at v job_body ≡ page_at w job_body) after before (d.stored (subst HasOpenJob
          (sym before) opened));
    }

-- a count that a stop leaves
moves_kept : (ts tc stops : Bool) (a b : RackView) → IsWellFormed ts tc a → StopSet stops a b → b.moves ≡ a.moves
moves_kept ts tc stops a b well x = x.counts.moves ∙ raised-zero a.moves well.moves

-- a session that did the job
pub session_went : (ts tc first last : Bool) (s : Shape) (job : Job) (passes every pages syncs : ℕ) (r : RunReport)
    (old a b new : RackView) → IsWellFormed ts tc old
    → IsWellFormed ts tc b → StopSet first old a → RunFacts ts tc s job passes every pages syncs a b (Ok r) → SameState b new
    → new.moves ≡ b.moves
    → SessionWent ts tc s job passes every r old new
session_went ts tc first last s job passes every pages syncs r old a b new well well_b x run y same =
    let start = moves_kept ts tc first old a well x in
    record {
      fits = run.report;
      moves = same ∙ run.moves ∙ ap (λ (m : ℕ). raised m r.moves) start;
      most = (let m = run.most.high in omega (arith, m, same, start));
      report = λ told. subst (λ (v : Contents). IsReportOf s job passes v r) x.state.contents (run.answer told);
      done = λ told_stands told_contents sound.
          done_moved s job passes every r old a b new x.state y (run.done told_stands told_contents (sound_same old a x.state sound));
    }

-- a session that was refused
pub session_refused : (ts tc first : Bool) (s : Shape) (job : Job) (passes every pages syncs : ℕ) (e : RunError) (old a b new : RackView)
    → IsWellFormed ts tc old
    → StopSet first old a → RunFacts ts tc s job passes every pages syncs a b (Err e) → new.contents ≡ b.contents → e ≢ Failed
    → SessionRefused ts tc s job passes every e old new
session_refused ts tc first s job passes every pages syncs e old a b new well x run same fails = record {
  answer = λ told. subst (λ (v : Contents). BeginAnswer s job passes every v (Err e)) x.state.contents (begun told);
  shown = λ told. subst (λ (v : Contents). BeginAnswer s job passes every v (Err e)) (sym (same ∙ stays e fails (run.answer told)))
      (begun told);
  good = λ told_stands told_contents sound page is.
      run.good told_stands told_contents (sound_same old a x.state sound) page (ap Err is);
  complete = λ told_stands told_contents sound runs.
      unless e fails (run.complete told_stands told_contents (sound_same old a x.state sound) (subst (λ
      (v : Contents). IsRunnable s job v) (sym x.state.contents) runs));
}
  where
    told_of : (e : RunError) → e ≢ Failed → RunAnswer s job passes every a b (Err e) → BeginAnswer s job passes every a.contents (Err e)
    told_of Failed fails answer = absurd (fails refl)
    told_of NotLoaded fails answer = answer.0
    told_of OtherShape fails answer = answer.0
    told_of OtherJob fails answer = answer.0
    told_of (BadPage page) fails answer = answer.0

    stays : (e : RunError) → e ≢ Failed → RunAnswer s job passes every a b (Err e) → b.contents ≡ a.contents
    stays Failed fails answer = absurd (fails refl)
    stays NotLoaded fails answer = answer.1.contents
    stays OtherShape fails answer = answer.1.contents
    stays OtherJob fails answer = answer.1.contents
    stays (BadPage page) fails answer = answer.1.contents

    begun : IsTrue tc → BeginAnswer s job passes every a.contents (Err e)
    begun told = told_of e fails (run.answer told)

    unless : (e : RunError) → e ≢ Failed → ¬ IsOkUnless {T = RunReport} (Err e) Failed
    unless e fails is = fails is

-- ---- where a stop ended it

-- what was gone in every image is so where a stop is set
gone_set : (first : Bool) (least : ℕ) (old a : RackView) → StopSet first old a → AreGone least old → AreGone least a
gone_set first least old a x before dims image stands i = before dims image (sym x.state.stands ∙ stands)
    (image_state old a dims image x.state i)

-- the row calls of a run that failed, where a job is open after the restart
stopped_rows : (s : Shape) (dims : Dims) (a b : RackView) (image : Contents) → a.moves < 2 ^ 64 → RunFailed s a b → IsSound b
    → b.stands ≡ Some dims
    → HasSizes dims b.contents → IsImage dims b image → HasOpenJob image → (job : Job) (passes q : ℕ) → HasJobBody s image job passes q
    → (least : ℕ) → AreGone least a → (gone : ℕ) → IsGone image gone → b.moves ≤ raised a.moves (load_rows s (gone - least + q))
stopped_rows s dims a b image fits x sound stands sizes i opened job passes q body least before gone is =
    elim (cases_Bool (b.dirty (page_unit job_gate))) [
      | inl dirty ↦
          let closed = image_with_page b dims job_gate (replicate 512 0) (omega arith) (length-replicate {A = ℕ} 512 0) sizes dirty in
          let none = x.none dims closed.0 stands closed.1 (zeros_closed (page_at closed.0 job_gate) closed.2) in
          omega (arith, none, fits)
      | inr clean ↦
          let gate : IsOpenGate (page_at b.contents job_gate) = sym (i.clean (page_unit job_gate) clean) ∙ opened in
          let all : InEveryImage HasOpenJob b = λ d other _ j. j.clean (page_unit job_gate) clean ∙ gate in
          let kept = keeps_open s dims b b stands sizes sound all (λ _. DirtiesOnly-changes _ b b (ChangesOnly-refl _ b)) in
          let there : HasJobBody s b.contents job passes q = subst (λ (p : List ℕ). IsJobBody s p job passes q) (i.clean
          (page_unit job_body) kept.body_clean) body in
          x.rows all job passes q there least before dims image stands i gone is
    ]

-- a session that a stop ended
pub session_stopped : (ts tc : Bool) (s : Shape) (dims : Dims) (job : Job) (passes every pages syncs : ℕ) (old a b new : RackView)
    → IsWellFormed ts tc old
    → IsWellFormed ts tc a → IsWellFormed ts tc b → b.attached ≡ Some dims → StopSet true old a
    → RunFacts ts tc s job passes every pages syncs a b (Err Failed)
    → Restarted ts tc b new → SessionStopped ts tc s job old new
session_stopped ts tc s dims job passes every pages syncs old a b new well well_a well_b attached x run y =
    let start = moves_kept ts tc true old a well x in
    let end : new.moves ≡ b.moves = y.counts.moves ∙ raised-zero b.moves well_b.moves in
    record {
      cause = subst₂ (λ (f g : ℕ). Rose f g) x.faults (sym y.faults) (run.call.cause.rose refl);
      clean = y.clean;
      most = (let m = run.most.high in omega (arith, m, start, end));
      paid = λ told_stands told_contents sound.
          let stands = well_b.attached told_stands dims attached in
          let left = y.image told_stands told_contents dims stands in
          let sound_a = sound_same old a x.state sound in
          let failed = run.failed told_stands told_contents sound_a refl in
          record {
            grows = λ least before gone is. failed.grows least (gone_set true least old a x before) dims new.contents stands left gone is;
            rows = λ opened job passes q body least before gone is.
                let fits : a.moves < 2 ^ 64 = well_a.moves in
                let rows = stopped_rows s dims a b new.contents fits failed (run.sound told_stands told_contents sound_a) stands
                (well_b.sizes told_stands told_contents dims stands) left opened job passes q body least
                (gone_set true least old a x before) gone is in
                let one : q * 1 ≡ q = omega arith in
                subst (λ (k : ℕ). new.moves ≤ raised old.moves (load_rows s (gone - least + k))) (sym one) (omega
                (arith, rows, start, end));
            none = λ closed. end ∙ failed.none dims new.contents stands left closed ∙ start;
          };
      settled = λ told_stands told_contents sound opened.
          let stands = well_b.attached told_stands dims attached in
          let left = y.image told_stands told_contents dims stands in
          let kept = run.settled told_stands told_contents (sound_same old a x.state sound)
          (λ d image is i. opened d image (sym x.state.stands ∙ is) (image_state old a d image x.state i)) in
          record {
            body = left.clean (page_unit job_body) kept.body_clean ∙ kept.body ∙ ap (λ (c : Contents). page_at c job_body) x.state.contents;
            gate = left.clean (page_unit job_gate) kept.gate_clean ∙ kept.gate ∙ ap (λ (c : Contents). page_at c job_gate) x.state.contents;
          };
    }

-- a session that no stop ended
pub session_ended : (ts tc first last : Bool) (s : Shape) (job : Job) (passes every pages syncs : ℕ) (result : Result RunReport RunError)
    (old a b new : RackView)
    → IsWellFormed ts tc old → IsWellFormed ts tc b → StopSet first old a → RunFacts ts tc s job passes every pages syncs a b result
    → SameState b new → new.moves ≡ b.moves
    → result ≢ Err Failed → SessionAnswer ts tc s job passes every old new result
session_ended ts tc first last s job passes every pages syncs (Ok r) old a b new well well_b x run y same ended =
    session_went ts tc first last s job passes every pages syncs r old a b new well well_b x run y same
session_ended ts tc first last s job passes every pages syncs (Err Failed) old a b new well well_b x run y same ended = absurd (ended refl)
session_ended ts tc first last s job passes every pages syncs (Err NotLoaded) old a b new well well_b x run y same ended =
    session_refused ts tc first s job passes every pages syncs NotLoaded old a b new well x run y.contents (λ is. ended (ap Err is))
session_ended ts tc first last s job passes every pages syncs (Err OtherShape) old a b new well well_b x run y same ended =
    session_refused ts tc first s job passes every pages syncs OtherShape old a b new well x run y.contents (λ is. ended (ap Err is))
session_ended ts tc first last s job passes every pages syncs (Err OtherJob) old a b new well well_b x run y same ended =
    session_refused ts tc first s job passes every pages syncs OtherJob old a b new well x run y.contents (λ is. ended (ap Err is))
session_ended ts tc first last s job passes every pages syncs (Err (BadPage page)) old a b new well well_b x run y same ended =
    session_refused ts tc first s job passes every pages syncs (BadPage page) old a b new well x run y.contents (λ is. ended (ap Err is))
