-- A job that is begun.
use Rattle.std.proofs.Common.{Ok, Err, ◌≡◌, ◌≢◌, inl, inr, ℕ, ◌+◌, ◌*◌, ◌^◌, ◌<◌, Bool, false, IsTrue, List, length, take, slice_get}
use Rattle.std.proofs.Common.{Option, Some, None, Result, IfErr, IsErrAnd, IsOkUnless, refl, sym, ◌∙◌, ap, subst, arith}
use Rattle.std.proofs.Math.Path.{subst₂}
use Rattle.std.proofs.lemmas.Bool.{cases_lt}
use Rattle.bm_base.specs.declared.dims.Dims.{Dims}
use Rattle.bm_base.specs.declared.shape.Shape.{Shape}
use Rattle.bm_base.specs.Area.{area_after}
use Rattle.bm_base.specs.Contents.{Contents, RackUnit, block_unit, page_unit, page_at, HasSizes}
use Rattle.bm_base.specs.Records.{record_at}
use Rattle.bm_base.specs.Shape.{dims_of, loads_of}
use Rattle.bm_gf2.specs.Affine.{affine_image}
use Rattle.bm_forms.specs.declared.job.Job.{Job}
use Rattle.bm_forms.specs.declared.pass_form.PassForm.{PassForm}
use Rattle.bm_forms.specs.PassForm.{passed}
use Rattle.bm_forms.specs.Plan.{all_passed}
use Rattle.bm_rack.specs.RackView.{RackView, IsClean}
use Rattle.bm_rack.specs.Image.{InEveryImage, IsInputUnit, SameInput}
use Rattle.bm_rack.specs.Frames.{DirtiesOnly}
use Rattle.bm_pass.proofs.PassLemmas.{image_below_records}
use Rattle.bm_control.specs.declared.state.SlateState.{SlateState}
use Rattle.bm_control.specs.declared.state.SlateState.TheVariants.{Loaded}
use Rattle.bm_control.specs.declared.state.ControlError.{ControlError}
use Rattle.bm_control.specs.declared.state.ControlError.TheVariants as control
use Rattle.bm_control.specs.Consistent.{BodiesAre, input_of, HoldsFirstLoads, SlotStands, JobStands}
use Rattle.bm_control.specs.Moments.{JobIsWritten}
use Rattle.bm_control.specs.Pages.{load_body, load_gate, slot_body, HasOpenJob, HasJobBody}
use Rattle.bm_control.specs.PageCalls.{IsStartPage}
use Rattle.bm_control.specs.Progress.{IsGone}
use Rattle.bm_control.specs.Sound.{IsSound}
use Rattle.bm_control.specs.State.{StateAnswer, HasPassBody, IsFirstBad}
use Rattle.bm_control.proofs.EqualLemmas.{one_outcome, error_is, none_some}
use Rattle.bm_control.proofs.ImageLemmas.{zeros_closed}
use Rattle.bm_control.proofs.JobStandsLemmas.{element}
use Rattle.bm_control.proofs.StateLemmas.{part_unique}
use Rattle.bm_job.specs.declared.answers.RunError.{RunError}
use Rattle.bm_job.specs.declared.answers.RunError.TheVariants as run
use Rattle.bm_job.specs.declared.machine.Machine.{Machine}
use Rattle.bm_job.specs.Errors.{run_error}
use Rattle.bm_job.specs.Follows.{AreMoved, IsHeld, Follows, loads_moved}
use Rattle.bm_job.specs.Begins.{IsLoadedAlone, SettledAnswer, ResumeAnswer, BeginAnswer, IsFresh, state_of}
use Rattle.bm_job.proofs.HeldLemmas.{stands_at}
use Rattle.bm_job.proofs.StepLemmas.{moved_by, moved_none, next_passed}

-- a test of a fact said no
pub not_same : (test : Bool) (fact : Type 0) → (fact → IsTrue test) → test ≡ false → ¬ fact
not_same test fact holds says is = one_outcome test (holds is) says

-- a page of a clean rack is the same in every image
pub clean_page : (P : List ℕ → Type 0) (k : ℕ) (v : RackView) → IsClean v → P (page_at v.contents k) → InEveryImage (λ c. P (page_at c k)) v
clean_page P k v clean holds dims image stands i = subst P (sym (i.clean (page_unit k) (clean (page_unit k)))) holds

-- a start writes no page of the load
pub start_apart : (passes k : ℕ) (parts : Type 0) → k < 2 → ¬ IsStartPage passes parts (page_unit k)
start_apart passes k parts h (inl is) = omega (arith, is, h)
start_apart passes k parts h (inr (inl is)) = omega (arith, is, h)
start_apart passes k parts h (inr (inr (inl is))) = (let a = is.0 in omega (arith, a, h))
start_apart passes k parts h (inr (inr (inr is))) = elim is.1 [
  | inl e ↦ omega (arith, e, h)
  | inr e ↦ omega (arith, e, h)
]

-- a job that was opened
pub started_held : (s : Shape) (job : Job) (forms : List PassForm) (passes every : ℕ) (old new : RackView) → passes ≡ length forms
    → old.attached ≡ Some (dims_of s)
    → IsLoadedAlone s old.contents → DirtiesOnly (IsStartPage (length forms) (every < loads_of s)) old new → IsClean new
    → HasOpenJob new.contents
    → JobIsWritten s job forms every new.contents → IsSound new → IsHeld s job passes 0 every 0 2 new
started_held s job forms passes every old new count attached loaded w clean gate written sound = record {
  sound = sound;
  attached = w.attached ∙ attached;
  outside = λ u not. clean u;
  durable = λ form next x below. clean _;
  load_body = w.contents (page_unit load_body) (start_apart (length forms) load_body (every < loads_of s) (omega arith)) ∙ loaded.load_body;
  load_gate = w.contents (page_unit load_gate) (start_apart (length forms) load_gate (every < loads_of s) (omega arith)) ∙ loaded.load_gate;
  job_gate = gate;
  body = subst (λ (p : ℕ). HasJobBody s new.contents job p every) (sym count) written.body;
  gates = record {
    few = omega arith;
    opened = λ k h. absurd (omega (arith, h));
    closed = λ k from h. zeros_closed _ (written.gates k (omega (arith, h, count)));
  };
  counted = record {
    none = λ whole. refl;
    range = omega arith;
    nothing = λ is. refl;
    counts = λ less. absurd (omega (arith, less));
    most = λ less other loads h c. absurd (zeros_closed _ (written.slots less other h) c.opened);
    first = λ is. absurd (omega (arith, is));
  };
}

-- its passes have bodies
pub started_bodies : (s : Shape) (forms : List PassForm) (passes : ℕ) (v : Contents) → passes ≡ length forms → BodiesAre s v forms → (k : ℕ)
    → k < passes
    → HasPassBody s v k
started_bodies s forms passes v count bodies k below =
    let found = element forms k (omega (arith, below, count)) in
    record { pass = found.0; body = bodies k found.0 found.1 }

-- a refusal of the control file as one of a begin
error_told : (v : Contents) (e : ControlError) → StateAnswer v (Err e) → SettledAnswer v (Err (run_error e))
error_told v control.Failed answer = tt
error_told v (control.BadPage page) answer = answer

pub settled_error : (v w : Contents) (e : ControlError) (r : Result SlateState RunError) → w ≡ v → IsErrAnd r (λ made. made ≡ run_error e)
    → StateAnswer w (Err e)
    → SettledAnswer v r
settled_error v w e r same is answer =
    subst (SettledAnswer v) (sym (error_is r (run_error e) is))
    (error_told v e (subst (λ (c : Contents). StateAnswer c (Err e)) same answer))

-- the loads that an open slot counts of the pass under way are moved
slot_moved : (s : Shape) (v : Contents) (j : JobStands s v) (slot part : ℕ) (t : SlotStands s v j.forms j.done slot) → t.pass ≡ j.done + 1
    → t.loads ≡ part
    → AreMoved s j.done part v
slot_moved s v j slot part t now loads form next =
    let known = t.known in
    let below : j.done < length j.forms = omega (arith, now, known) in
    let found = element j.forms j.done below in
    moved_by s j.done part v found.0 form (record_at v s (area_after (j.done + 1))) (record_at v s (area_after j.done))
    (j.bodies j.done found.0 found.1) next
    (subst₂ (λ (p l : ℕ). HoldsFirstLoads s found.0 l (record_at v s (area_after p)) (passed found.0 (record_at v s (area_after j.done))))
    now loads
    (λ x inside. slot_record s v j slot t found.0 now found.1 below x inside))
  where
    slot_record : (s : Shape) (v : Contents) (j : JobStands s v) (slot : ℕ) (t : SlotStands s v j.forms j.done slot) (form : PassForm)
        → t.pass ≡ j.done + 1
        → slice_get j.forms j.done ≡ Some form → j.done < length j.forms → (x : ℕ) → x < t.loads * 2 ^ s.m
        → record_at v s (area_after t.pass) (affine_image form.map.map x) ≡ passed form (record_at v s (area_after j.done))
        (affine_image form.map.map x)
    slot_record s v j slot t form now is below x inside =
        t.moved now form is x inside
        ∙ ap (λ (p : ℕ). all_passed (take p j.forms) (input_of v s) (affine_image form.map.map x)) now
        ∙ sym (next_passed s v j form below is (affine_image form.map.map x)
        (image_below_records s form x (j.bodies j.done form is).of_shape))

-- the counted loads are moved
counted_moved : (s : Shape) (job : Job) (passes done every part slot : ℕ) (v : RackView) → v.stands ≡ Some (dims_of s)
    → HasSizes (dims_of s) v.contents
    → IsHeld s job passes done every part slot v → AreMoved s done part v.contents
counted_moved s job passes done every part slot v stands sizes held = elim (cases_lt slot 2) [
  | inl h ↦ by_slot h
  | inr two ↦ (let range = held.counted.range in let zero : part ≡ 0 = held.counted.nothing (omega (arith, two, range)) in
      subst (λ (p : ℕ). AreMoved s done p v.contents) (sym zero) (moved_none s done v.contents))
]
  where
    by_slot : slot < 2 → AreMoved s done part v.contents
    by_slot h =
        let at = stands_at s job passes done every part slot v stands sizes held in
        let c = held.counted.counts h in
        let most = held.body.fits.every_few in
        let less : at.job.every < loads_of s = elim (cases_lt every (loads_of s)) [
          | inl less ↦ (let e = at.every_is in omega (arith, less, e))
          | inr more ↦ (let two = held.counted.none (omega (arith, more, most)) in absurd (omega (arith, two, h)))
        ] in
        let t = at.job.slots less slot h c.opened in
        let both = part_unique s (page_at v.contents (slot_body slot)) t.pass t.loads (done + 1) part t.body c.body in
        let pass_is = both.0 in
        let now = at.done_is in
        subst (λ (d : ℕ). AreMoved s d part v.contents) at.done_is (slot_moved s v.contents at.job slot part t (omega (arith, pass_is, now))
        both.1)

-- a machine that goes on with an open job
pub resumed_follows : (s : Shape) (job : Job) (m : Machine) (v : RackView) → v.stands ≡ Some (dims_of s) → HasSizes (dims_of s) v.contents
    → v.attached ≡ Some (dims_of s)
    → IsSound v → IsClean v → IsFresh s job m → StateAnswer v.contents (Ok (state_of m)) → Follows m v
resumed_follows s job m v stands sizes attached sound clean fresh told =
    let held : IsHeld m.shape m.job m.passes m.done m.every m.part m.slot v = record {
      sound = sound;
      attached = subst (λ (t : Shape). v.attached ≡ Some (dims_of t)) (sym fresh.shape) attached;
      outside = λ u not. clean u;
      durable = λ form next x below. clean _;
      load_body = told.0.load_body;
      load_gate = told.0.load_gate;
      job_gate = told.0.job_gate;
      body = told.1.body;
      gates = told.1.stand.gates;
      counted = told.1.counted;
    } in
    record {
      held = held;
      form = λ form is. absurd (none_some form (sym fresh.form ∙ is));
      moved = subst (λ (l : ℕ). AreMoved m.shape m.done l v.contents) (sym fresh.load)
          (counted_moved m.shape m.job m.passes m.done m.every m.part m.slot v
          (subst (λ (t : Shape). v.stands ≡ Some (dims_of t)) (sym fresh.shape) stands)
          (subst (λ (t : Shape). HasSizes (dims_of t) v.contents) (sym fresh.shape) sizes) held);
    }

-- its progress
pub resumed_gone : (s : Shape) (job : Job) (m : Machine) (v : Contents) → IsFresh s job m → StateAnswer v (Ok (state_of m))
    → IsGone v (loads_moved m)
resumed_gone s job m v fresh told = inr (record {
  shape = m.shape;
  job = m.job;
  passes = m.passes;
  every = m.every;
  done = m.done;
  part = m.part;
  slot = m.slot;
  opened = told.0.job_gate;
  load = told.0.load_body;
  body = told.1.body;
  gates = told.1.stand.gates;
  counted = told.1.counted;
  sum = ap (λ (l : ℕ). m.done * loads_of m.shape + l) fresh.load;
})

-- the same refusal is of the same error
pub err_injective : {T E : Type 0} (e f : E) → ◌≡◌ {A = Result T E} (Err e) (Err f) → e ≡ f
err_injective e f is = cc

-- a refusal of a wrong page names the first one
pub bad_of : {T : Type 0} (v : Contents) (e : RunError) (r : Result T RunError) (page : ℕ) → IsErrAnd r (λ made. made ≡ e)
    → r ≡ Err (run.BadPage page)
    → SettledAnswer v (Err e) → IsFirstBad v page
bad_of v e r page is bad answer =
    subst (λ (x : RunError). SettledAnswer v (Err x)) (err_injective e (run.BadPage page) (sym (error_is r e is) ∙ bad)) answer

-- why a job can't be gone on with
refused : (s : Shape) (job : Job) (passes every : ℕ) (v : Contents) (state : SlateState) (e : RunError) → StateAnswer v (Ok state)
    → ResumeAnswer s job state (Err e)
    → BeginAnswer s job passes every v (Err e)
refused s job passes every v state run.Failed told answer = tt
refused s job passes every v state run.NotLoaded told answer = subst (λ (x : SlateState). StateAnswer v (Ok x)) answer told
refused s job passes every v state run.OtherShape told answer = (state, told, answer)
refused s job passes every v state run.OtherJob told answer = (state, told, answer.0, answer.1)
refused s job passes every v state (run.BadPage page) told answer = absurd answer

pub refused_by : (s : Shape) (job : Job) (passes every : ℕ) (v : Contents) (state : SlateState) (e : RunError) (r : Result Machine RunError)
    → IsErrAnd r (λ made. made ≡ e)
    → StateAnswer v (Ok state) → ResumeAnswer s job state (Err e) → BeginAnswer s job passes every v r
refused_by s job passes every v state e r is told answer =
    subst (BeginAnswer s job passes every v) (sym (error_is r e is)) (refused s job passes every v state e told answer)

-- what is known of a state that is gone on with
pub resumed_of : (s : Shape) (job : Job) (state : SlateState) (o : Option Machine) (m : Machine) → o ≡ Some m
    → ResumeAnswer s job state (Ok o)
    → IsFresh s job m × (state ≡ state_of m)
resumed_of s job state o m is answer = subst (λ (x : Option Machine). ResumeAnswer s job state (Ok x)) is answer

-- and of one in which the job is to be opened
pub loaded_of : (s : Shape) (job : Job) (state : SlateState) (o : Option Machine) → o ≡ None → ResumeAnswer s job state (Ok o)
    → state ≡ Loaded s
loaded_of s job state o is answer = subst (λ (x : Option Machine). ResumeAnswer s job state (Ok x)) is answer

-- a state that was told, of contents that are the same
pub told_of : (v w : Contents) (state other : SlateState) → w ≡ v → state ≡ other → StateAnswer v (Ok state) → StateAnswer w (Ok other)
told_of v w state other same is told =
    subst (λ (c : Contents). StateAnswer c (Ok other)) (sym same) (subst (λ (x : SlateState). StateAnswer v (Ok x)) is told)

pub alone_of : (s : Shape) (v : Contents) → StateAnswer v (Ok (Loaded s)) → IsLoadedAlone s v
alone_of s v told = record { load_gate = told.0; load_body = told.1; job_gate = told.2 }

-- a refusal but `Failed` of a call that has none
pub kept_unless : {T : Type 0} (r : Result T RunError) (P : Type 0) → IsOkUnless r run.Failed → IfErr r (λ e. e ≢ run.Failed → P)
kept_unless (Ok x) P failed = tt
kept_unless (Err e) P failed = λ other. absurd (other failed)

-- a start leaves the input
pub start_input : (passes : ℕ) (parts : Type 0) (dims : Dims) (old new : RackView) → DirtiesOnly (IsStartPage passes parts) old new
    → SameInput dims old new
start_input passes parts dims old new w = record {
  contents = λ u input. w.contents u (apart u input);
  dirty = λ u input clean. w.dirty u (apart u input) clean;
}
  where
    apart : (u : RackUnit) → IsInputUnit dims u → ¬ IsStartPage passes parts u
    apart (page_unit k) input is = input
    apart (block_unit disk place) input (inl is) = is
    apart (block_unit disk place) input (inr (inl is)) = is
    apart (block_unit disk place) input (inr (inr (inl is))) = is
    apart (block_unit disk place) input (inr (inr (inr is))) = is.1
