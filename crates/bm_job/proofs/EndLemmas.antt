-- What stands after a run, and what it answers.
use Rattle.std.proofs.Common.{Ok, Err, ◌≡◌, ◌≢◌, inl, inr, ℕ, ◌%◌, ◌^◌, ◌<◌, List, length, replicate, slice_index, Some, refl}
use Rattle.std.proofs.Common.{sym, ◌∙◌, ap, subst, arith}
use Rattle.std.proofs.lemmas.List.{length-replicate}
use Rattle.std.specs.Fork.{slice_chunk}
use Rattle.bm_base.specs.declared.dims.Dims.{Dims}
use Rattle.bm_base.specs.declared.report.RunReport.{RunReport}
use Rattle.bm_base.specs.declared.shape.Shape.{Shape}
use Rattle.bm_base.specs.declared.area.Area.TheVariants.{Input}
use Rattle.bm_base.specs.Area.{area_after}
use Rattle.bm_base.specs.Contents.{Contents, RackUnit, block_unit, page_unit, page_at, HasSizes}
use Rattle.bm_base.specs.Records.{SameRecords, record_at}
use Rattle.bm_base.specs.Shape.{dims_of}
use Rattle.bm_forms.specs.declared.job.Job.{Job}
use Rattle.bm_forms.specs.declared.job.Job.TheVariants.{Permute, Walsh}
use Rattle.bm_forms.specs.Job.{meaning, HasBits}
use Rattle.bm_forms.proofs.JobLemmas.{meaning-same}
use Rattle.bm_rack.specs.RackView.{RackView}
use Rattle.bm_rack.specs.Frames.{DirtiesOnly}
use Rattle.bm_rack.specs.Image.{IsImage, InEveryImage, IsInputUnit, SameInput}
use Rattle.bm_stripe.specs.Units.{record_unit}
use Rattle.bm_stripe.proofs.UnitLemmas.{IsAreaUnit-record}
use Rattle.bm_control.specs.declared.state.SlateState.{SlateState}
use Rattle.bm_control.specs.declared.state.SlateState.TheVariants.{Closed, Loaded, Working}
use Rattle.bm_control.specs.Bodies.{load_page, kind_of, IsJobBody}
use Rattle.bm_control.specs.Pages.{load_body, job_body, job_gate, HasOpenJob, HasLoadBody, HasJobBody}
use Rattle.bm_control.specs.Consistent.{input_of}
use Rattle.bm_control.specs.PageCalls.{IsStartPage}
use Rattle.bm_control.specs.Sound.{IsSound}
use Rattle.bm_control.specs.State.{StateAnswer}
use Rattle.bm_control.proofs.ImageLemmas.{image_self, Settled, never_settled, open_settled}
use Rattle.bm_control.proofs.JobBodyLemmas.{job_numbers}
use Rattle.bm_control.proofs.MomentLemmas.{load_unique}
use Rattle.bm_job.specs.declared.answers.RunError.{RunError}
use Rattle.bm_job.specs.declared.answers.RunError.TheVariants.{Failed, NotLoaded, OtherShape, OtherJob, BadPage}
use Rattle.bm_job.specs.declared.machine.Machine.{Machine}
use Rattle.bm_job.specs.Begins.{BeginAnswer, IsFresh, IsLoadedState, IsOpenState, OpensOnly, state_of}
use Rattle.bm_job.specs.Follows.{Follows}
use Rattle.bm_job.specs.Turns.{IsTurnRefusal}
use Rattle.bm_job.specs.Runs.{IsJobsPage, IsWorkUnit, IsRunUnit, IsReportOf, RunAnswer, IsRunnable, RunDone}
use Rattle.bm_job.specs.Runs.{KeepsJobs, KeepsOpenJob, IsEnd}
use Rattle.bm_job.proofs.KeptJobLemmas.{has_bits}
use Rattle.bm_job.proofs.DoneLemmas.{finished_means}
use Rattle.bm_job.proofs.WorkUnitLemmas.{front_kept}
use Rattle.bm_control.proofs.UniqueLemmas.{job_unique}

-- ---- what is written

-- the pages of a start are pages of jobs
pub start_run : (s : Shape) (passes : ℕ) (parts : Type 0) (u : RackUnit) → IsStartPage passes parts u → IsRunUnit s u
start_run s passes parts u is = inr (inr (jobs u is))
  where
    jobs : (u : RackUnit) → IsStartPage passes parts u → IsJobsPage u
    jobs (page_unit page) (inl is) = omega (arith, is)
    jobs (page_unit page) (inr (inl is)) = omega (arith, is)
    jobs (page_unit page) (inr (inr (inl is))) = (let from = is.0 in omega (arith, from))
    jobs (page_unit page) (inr (inr (inr (parts, inl is)))) = omega (arith, is)
    jobs (page_unit page) (inr (inr (inr (parts, inr is)))) = omega (arith, is)
    jobs (block_unit disk place) (inl is) = is
    jobs (block_unit disk place) (inr (inl is)) = is
    jobs (block_unit disk place) (inr (inr (inl is))) = is
    jobs (block_unit disk place) (inr (inr (inr is))) = is.1

-- so are those of the turns
pub work_run : (s : Shape) (u : RackUnit) → IsWorkUnit s u → IsRunUnit s u
work_run s u (inl is) = inl is
work_run s u (inr (inl is)) = inr (inl is)
work_run s (page_unit page) (inr (inr is)) = inr (inr (let from = is.0 in omega (arith, from)))
work_run s (block_unit disk place) (inr (inr is)) = absurd is

-- ---- images

-- an image after a call that changed nothing is one from before
pub image_before : (old new : RackView) (dims : Dims) (image : Contents) → DirtiesOnly (λ u. ⊥) old new → IsImage dims new image
    → IsImage dims old image
image_before old new dims image w i = record {
  sizes = i.sizes;
  clean = λ u h. i.clean u (w.dirty u (λ e. e) h) ∙ w.contents u (λ e. e);
}

-- the first pages of an image after turns are as before them
pub front_image : (m : Machine) (t : Shape) (old new : RackView) (dims : Dims) (image : Contents) (page : ℕ) → Follows m old
    → DirtiesOnly (IsWorkUnit t) old new
    → IsImage dims new image → page < 5 → page_at image page ≡ page_at old.contents page
front_image m t old new dims image page follows w i early =
    i.clean (page_unit page) (w.dirty (page_unit page) (front_kept t page early) (follows.held.outside (page_unit page) (λ left is. is)))
    ∙ w.contents (page_unit page) (front_kept t page early)

-- the jobs of images where no turn was taken
pub begin_images : (s : Shape) (job : Job) (passes every : ℕ) (old new : RackView) → OpensOnly s job passes every old new
    → KeepsJobs s job passes every old new
begin_images s job passes every old new opens = record {
  bodies = λ dims image stands i gate. elim (opens dims image stands i gate) [
    | inl was ↦ inl (record { image = image; is_image = was; opened = gate; body = refl })
    | inr is ↦ inr is
  ];
  others = λ dims image stands i gate t other p q body differs. elim (opens dims image stands i gate) [
    | inl was ↦ was
    | inr is ↦ absurd (differs (job_unique t s (page_at image job_body) other job p passes q every body is))
  ];
}

-- and where turns were taken
pub end_images : (m : Machine) (s : Shape) (job : Job) (passes every : ℕ) (old mid new : RackView) → OpensOnly s job passes every old mid
    → IsFresh s job m
    → Follows m mid → DirtiesOnly (IsWorkUnit m.shape) mid new → ((dims : Dims) → mid.stands ≡ Some dims → HasSizes dims mid.contents)
    → KeepsJobs s job passes every old new
end_images m s job passes every old mid new opens fresh follows w sizes = record {
  bodies = λ dims image stands i gate.
      let here : mid.stands ≡ Some dims = sym w.stands ∙ stands in
      let body = front_image m m.shape mid new dims image job_body follows w i (omega arith) in
      elim (opens dims mid.contents here (image_self mid dims (sizes dims here)) follows.held.job_gate) [
        | inl was ↦ inl (record { image = mid.contents; is_image = was; opened = follows.held.job_gate; body = sym body })
        | inr is ↦ inr (subst (λ (page : List ℕ). IsJobBody s page job passes every) (sym body) is)
      ];
  others = λ dims image stands i gate t other p q is differs.
      let body = front_image m m.shape mid new dims image job_body follows w i (omega arith) in
      let mine = subst (λ (page : List ℕ). IsJobBody m.shape page m.job m.passes m.every) (sym body) follows.held.body in
      absurd (differs (job_unique t m.shape (page_at image job_body) other m.job p m.passes q m.every is mine ∙ fresh.job_is));
}

-- ---- answers

-- what a report says
pub report_told : (s : Shape) (job : Job) (m : Machine) (v : Contents) (passes every : ℕ) (r : RunReport)
    → BeginAnswer s job passes every v (Ok m)
    → r.passes ≡ m.passes → r.done_before ≡ m.done → r.part_before ≡ m.part → IsReportOf s job passes v r
report_told s job m v passes every r (fresh, inl (loaded, start)) count done part = inl (
  loaded,
  count ∙ start.passes_are,
  done
      ∙ start.done,
  part ∙ start.part,
)
report_told s job m v passes every r (fresh, inr told) count done part =
    let shape : m.shape ≡ s = fresh.shape in
    let job_is : m.job ≡ job = fresh.job_is in
    let same : state_of m ≡ Working s job r.passes r.done_before m.every r.part_before m.slot = cc in
    inr (m.every, m.slot, subst (λ (state : SlateState). StateAnswer v (Ok state)) same told)

-- a refusal of a turn: no page of a job that was begun is wrong
pub turn_refused : (s : Shape) (job : Job) (passes every : ℕ) (old new : RackView) (e : RunError) → IsTurnRefusal e
    → ((page : ℕ) → e ≢ BadPage page)
    → RunAnswer s job passes every old new (Err e)
turn_refused s job passes every old new Failed is good = tt
turn_refused s job passes every old new NotLoaded is good = absurd is
turn_refused s job passes every old new OtherShape is good = absurd is
turn_refused s job passes every old new OtherJob is good = absurd is
turn_refused s job passes every old new (BadPage page) is good = absurd (good page refl)

-- ---- where a job can be run

-- a shape that is loaded is the one that is told
pub loaded_shape : (s t : Shape) (v : Contents) (state : SlateState) → StateAnswer v (Ok state) → IsLoadedState t state → HasLoadBody s v
    → t ≡ s
loaded_shape s t v Closed told is body = absurd is
loaded_shape s t v (Loaded u) told is body = sym is ∙ load_unique u s (page_at v load_body) told.1 body
loaded_shape s t v (Working u job passes done every part slot) told is body = sym is
    ∙ load_unique u s (page_at v load_body) told.0.load_body body

-- and a job that is open
pub open_job : (s : Shape) (job other : Job) (v : Contents) (state : SlateState) → StateAnswer v (Ok state) → IsOpenState other state
    → IsRunnable s job v → other ≡ job
open_job s job other v Closed told is r = absurd is
open_job s job other v (Loaded u) told is r = absurd is
open_job s job other v (Working u mine passes done every part slot) told is r = elim r.job_gate [
  | inl closed ↦ absurd (closed told.0.job_gate)
  | inr body ↦
      let shape : u ≡ s = load_unique u s (page_at v load_body) told.0.load_body r.load_body in
      let here : HasJobBody s v mine passes every = subst (λ (t : Shape). HasJobBody t v mine passes every) shape told.1.body in
      sym is ∙ job_unique s s (page_at v job_body) mine job passes body.0 every body.1 here body.2
]

-- nothing but the rack refuses a begin where the job can be run
pub begin_complete : (s : Shape) (job : Job) (passes every : ℕ) (v : Contents) (e : RunError) → BeginAnswer s job passes every v (Err e)
    → IsRunnable s job v
    → ((page : ℕ) → e ≢ BadPage page) → e ≡ Failed
begin_complete s job passes every v Failed answer r good = refl
begin_complete s job passes every v NotLoaded answer r good = absurd (answer r.load_gate)
begin_complete s job passes every v OtherShape answer r good = absurd
    (answer.2.2 (loaded_shape s answer.2.0 v answer.0 answer.1 answer.2.1 r.load_body))
begin_complete s job passes every v OtherJob answer r good = absurd
    (answer.3.2 (open_job s job answer.3.0 v answer.0 answer.1 answer.3.1 r))
begin_complete s job passes every v (BadPage page) answer r good = absurd (good page refl)

-- nor a turn
pub turn_complete : (e : RunError) → IsTurnRefusal e → ((page : ℕ) → e ≢ BadPage page) → e ≡ Failed
turn_complete Failed is good = refl
turn_complete NotLoaded is good = absurd is
turn_complete OtherShape is good = absurd is
turn_complete OtherJob is good = absurd is
turn_complete (BadPage page) is good = absurd (good page refl)

-- ---- what was done

-- a record of the input lies in a block of the input
pub input_record : (s : Shape) (x : ℕ) → x < 2 ^ s.n → IsInputUnit (dims_of s) (record_unit s Input x)
input_record s x below = (let area = IsAreaUnit-record s Input x below in let less = area.1 in omega (arith, less))

-- the same input has the same records
pub same_input_records : (s : Shape) (old new : RackView) → SameInput (dims_of s) old new
    → SameRecords (2 ^ s.n) (input_of new.contents s) (input_of old.contents s)
same_input_records s old new same x below =
    ap (λ (bytes : List ℕ). slice_chunk bytes s.width (x % 2 ^ s.b)) (same.contents (record_unit s Input x) (input_record s x below))

-- the records of a job whose passes are all done
pub done_records : (s : Shape) (job : Job) (m : Machine) (old new : RackView) (passes : ℕ) → m.shape ≡ s → m.job ≡ job → m.passes ≡ passes
    → m.done ≡ m.passes
    → new.stands ≡ Some (dims_of s) → HasSizes (dims_of s) new.contents → Follows m new → SameInput (dims_of s) old new
    → SameRecords (2 ^ s.n) (record_at new.contents s (area_after passes)) (meaning s.n job (input_of old.contents s))
done_records s job m old new passes shape job_is count end stands sizes follows input x below =
    let mine = finished_means m new (subst (λ (t : Shape). new.stands ≡ Some (dims_of t)) (sym shape) stands)
    (subst (λ (t : Shape). HasSizes (dims_of t) new.contents) (sym shape) sizes) follows end in
    let means : SameRecords (2 ^ s.n) (record_at new.contents s (area_after passes)) (meaning s.n job (input_of new.contents s)) =
    subst (λ (p : ℕ). SameRecords (2 ^ s.n) (record_at new.contents s (area_after p)) (meaning s.n job (input_of new.contents s))) count
    (subst (λ (k : Job). SameRecords (2 ^ s.n) (record_at new.contents s (area_after m.passes)) (meaning s.n k (input_of new.contents s)))
    job_is
    (subst (λ (t : Shape). SameRecords (2 ^ t.n) (record_at new.contents t (area_after m.passes))
    (meaning t.n m.job (input_of new.contents t))) shape mine)) in
    let bits : HasBits s.n job = subst (λ (t : Shape). HasBits t.n job) shape
    (subst (HasBits m.shape.n) job_is (has_bits m.shape m.job follows.held.body.fits.fits)) in
    means x below ∙ meaning-same s.n job (input_of new.contents s) (input_of old.contents s) bits (same_input_records s old new input) x
    below

-- all that a run that succeeded leaves
pub run_done : (s : Shape) (job : Job) (start end : Machine) (passes every : ℕ) (r : RunReport) (old mid new : RackView)
    → BeginAnswer s job passes every old.contents (Ok start) → (HasOpenJob old.contents → DirtiesOnly (λ u. ⊥) old mid)
    → DirtiesOnly (IsWorkUnit start.shape) mid new → IsEnd start end → Follows end new → r.passes ≡ start.passes
    → new.stands ≡ Some (dims_of s) → HasSizes (dims_of s) new.contents → SameInput (dims_of s) old new
    → RunDone s job passes every r old new
run_done s job start end passes every r old mid new (fresh, told) unchanged w is follows count stands sizes input =
    let shape : end.shape ≡ s = is.same.shape ∙ fresh.shape in
    let job_is : end.job ≡ job = is.same.job ∙ fresh.job_is in
    let all : end.passes ≡ r.passes = is.same.passes ∙ sym count in
    let h = follows.held in
    record {
      records = done_records s job end old new r.passes shape job_is all is.done stands sizes follows input;
      input = same_input_records s old new input;
      load_body = h.load_body ∙ ap load_page shape;
      load_gate = h.load_gate;
      job_gate = h.job_gate;
      loads = end.every;
      body = subst (λ (p : ℕ). HasJobBody s new.contents job p end.every) all
          (subst (λ (k : Job). HasJobBody s new.contents k end.passes end.every) job_is
          (subst (λ (t : Shape). HasJobBody t new.contents end.job end.passes end.every) shape h.body));
      gates = λ k below. h.gates.opened k (let done = is.done in omega (arith, below, all, done));
      clean = λ u. h.outside u (λ left. absurd (let done = is.done in omega (arith, left, done)));
      fresh = λ closed. elim told [
        | inl at_start ↦ (count ∙ at_start.1.passes_are, is.same.every ∙ at_start.1.every_is)
        | inr opened ↦ absurd (closed opened.0.job_gate)
      ];
      stored = λ opened. w.contents (page_unit job_body) (front_kept start.shape job_body (omega arith))
          ∙ (unchanged opened).contents (page_unit job_body) (λ e. e);
    }

-- a job's kind is no zero
kind_some : (job : Job) → kind_of job ≢ 0
kind_some (Permute f) is = omega (arith, is)
kind_some Walsh is = omega (arith, is)

-- a job that is open in every image stays open
pub keeps_open : (s : Shape) (dims : Dims) (old new : RackView) → old.stands ≡ Some dims → HasSizes dims old.contents → IsSound old
    → InEveryImage HasOpenJob old → (HasOpenJob old.contents → DirtiesOnly (IsWorkUnit s) old new) → KeepsOpenJob old new
keeps_open s dims old new stands sizes sound opened unchanged =
    let gate = open_settled old dims job_gate (omega arith) stands sizes opened in
    let zeros : slice_index (replicate 512 0) 10 ≡ 0 = refl in
    let body : Settled (λ p. slice_index p 10 ≢ 0) job_body old =
    never_settled (λ p. slice_index p 10 ≢ 0) old dims job_body (replicate 512 0) (omega arith) (length-replicate {A = ℕ} 512 0) stands
    sizes (λ none. none zeros)
    (λ d image is i. is_body d image is i) in
    let w = unchanged gate.holds in
    record {
      body = w.contents (page_unit job_body) (front_kept s job_body (omega arith));
      gate = w.contents (page_unit job_gate) (front_kept s job_gate (omega arith));
      body_clean = w.dirty (page_unit job_body) (front_kept s job_body (omega arith)) body.clean;
      gate_clean = w.dirty (page_unit job_gate) (front_kept s job_gate (omega arith)) gate.clean;
    }
  where
    is_body : (d : Dims) (image : Contents) → old.stands ≡ Some d → IsImage d old image → slice_index (page_at image job_body) 10 ≢ 0
    is_body d image is i none =
        let c = sound.consistent d is d image is i in
        let open3 = opened d image is i in
        let l = c.loaded (c.after_load open3) in
        let j = c.job open3 l.shape l.body in
        kind_some j.job (sym (job_numbers l.shape (page_at image job_body) j.job (length j.forms) j.every j.body).kind ∙ none)
