-- What a refused session says of the rack at entry.
use Rattle.std.proofs.Common.{Ok, Err, ◌≡◌, ◌≢◌, inl, inr, ℕ, List, length, Some, refl, sym, ◌∙◌, ap, subst, Bool, arith}
use Rattle.bm_base.specs.declared.dims.Dims.{Dims}
use Rattle.bm_base.specs.declared.shape.Shape.{Shape}
use Rattle.bm_base.specs.Contents.{Contents, page_at, HasSizes}
use Rattle.bm_base.specs.Shape.{dims_of}
use Rattle.bm_forms.specs.declared.job.Job.{Job}
use Rattle.bm_rack.specs.RackView.{RackView}
use Rattle.bm_rack.specs.Image.{IsImage, InEveryImage}
use Rattle.bm_control.specs.declared.state.SlateState.{SlateState}
use Rattle.bm_control.specs.declared.state.SlateState.TheVariants.{Closed, Loaded, Working}
use Rattle.bm_control.specs.Bodies.{load_page, IsJobBody}
use Rattle.bm_control.specs.Consistent.{GatesAre, JobStands, IsConsistent}
use Rattle.bm_control.specs.Progress.{IsCounted, JobGone}
use Rattle.bm_control.specs.Sound.{IsSound}
use Rattle.bm_control.specs.State.{StateAnswer}
use Rattle.bm_control.proofs.GoneLemmas.{consistent_gone}
use Rattle.bm_control.proofs.MomentLemmas.{gate_cases, load_unique}
use Rattle.bm_control.proofs.UniqueLemmas.{passes_unique, every_unique, done_unique}
use Rattle.bm_control.proofs.ImageLemmas.{image_self}
use Rattle.bm_job.specs.declared.answers.RunError.{RunError}
use Rattle.bm_job.specs.declared.answers.RunError.TheVariants.{Failed, NotLoaded, OtherShape, OtherJob, BadPage}
use Rattle.bm_job.specs.Begins.{BeginAnswer, IsLoadedState, IsOpenState}
use Rattle.bm_job.specs.Runs.{IsRunnable, KeepsJobs}
use Rattle.bm_control.proofs.JobStandsLemmas.{element}
use Rattle.bm_control.specs.Pages.{HasOpenLoad, HasOpenJob, HasLoadBody, load_body, job_body, job_gate, HasJobBody}
use Rattle.bm_drill.specs.Sessions.{KeepsRest, IsRefusedOnSome}
use Rattle.bm_drill.specs.Session.{SessionRefused, SessionStopped, SessionAnswer}
use Rattle.bm_drill.proofs.FrontLemmas.{front_image, load_kept}

-- a state that tells of this shape has it loaded
loaded_as : (t : Shape) (v : Contents) (state : SlateState) → StateAnswer v (Ok state) → IsLoadedState t state
    → HasOpenLoad v × HasLoadBody t v
loaded_as t v Closed told is = absurd is
loaded_as t v (Loaded u) told is = (told.0, told.1 ∙ ap load_page is)
loaded_as t v (Working u job passes done every part slot) told is = (told.0.load_gate, told.0.load_body ∙ ap load_page is)

-- what an open job tells of itself
working_told : (t : Shape) (v : Contents) (j : JobStands t v) (g : ℕ) → HasOpenLoad v → HasLoadBody t v → HasOpenJob v → JobGone v g
    → (state : SlateState) × StateAnswer v (Ok state) × IsLoadedState t state
working_told t v j g gate load opened x =
    let shape : x.shape ≡ t = load_unique x.shape t (page_at v load_body) x.load load in
    let body : HasJobBody t v x.job x.passes x.every = subst (λ (s : Shape). HasJobBody s v x.job x.passes x.every) shape x.body in
    let count : length j.forms ≡ x.passes = passes_unique t (page_at v job_body) j.job x.job
    (length j.forms) x.passes j.every x.every j.body body in
    let every : j.every ≡ x.every = every_unique t (page_at v job_body) j.job x.job (length j.forms) x.passes j.every x.every j.body body in
    let done : j.done ≡ x.done = done_unique v x.passes j.done x.done (subst (λ (p : ℕ). GatesAre v p j.done) count j.gates) x.gates in (
      Working t x.job x.passes x.done x.every x.part x.slot,
      (
        record { load_gate = gate; load_body = load; job_gate = opened },
        record {
          body = body;
          stand = record {
            bodies = λ i less. (let at = element j.forms i (omega
                (arith, less, count)) in record { pass = at.0; body = j.bodies i at.0 at.1 });
            gates = x.gates;
          };
          slots = λ parts other less is_open. (let y = j.slots (omega (arith, parts, every)) other less is_open in
              record {
                pass = y.pass;
                loads = y.loads;
                body = y.body;
                known = (let known = y.known in omega (arith, known, count));
                soon = (let soon = y.soon in omega (arith, soon, done));
              });
          counted = subst (λ (s : Shape). IsCounted s v x.every x.done x.part x.slot) shape x.counted;
        },
      ),
      refl,
    )

-- consistent contents in which a shape is loaded tell a state of it
loaded_state : (dims : Dims) (t : Shape) (v : Contents) → IsConsistent dims v → HasOpenLoad v → HasLoadBody t v
    → (state : SlateState) × StateAnswer v (Ok state) × IsLoadedState t state
loaded_state dims t v c gate load = elim (consistent_gone dims v c).1 [
  | inl closed ↦ (Loaded t, (gate, load, closed.0), refl)
  | inr x ↦ working_told t v (c.job x.opened t load) _ gate load x.opened x
]

-- another job that is open stands on an image at entry
other_image : (s : Shape) (job other : Job) (passes every : ℕ) (old mid : RackView) (state : SlateState) → mid.stands ≡ Some (dims_of s)
    → HasSizes (dims_of s) mid.contents → KeepsJobs s job passes every old mid → StateAnswer mid.contents (Ok state)
    → IsOpenState other state → other ≢ job
    → IsImage (dims_of s) old mid.contents
other_image s job other passes every old mid Closed stands sizes keeps told is apart = absurd is
other_image s job other passes every old mid (Loaded u) stands sizes keeps told is apart = absurd is
other_image s job other passes every old mid (Working u mine p done q part slot) stands sizes keeps told is apart =
    keeps.others (dims_of s) mid.contents stands (image_self mid (dims_of s) sizes) told.0.job_gate u mine p q told.1.body (λ same. apart
    (sym is ∙ same))

-- a refusal comes on some image of the rack at entry
pub refused_on_some : (s : Shape) (job : Job) (passes every : ℕ) (e : RunError) (old mid : RackView) → old.stands ≡ Some (dims_of s)
    → mid.stands ≡ old.stands
    → HasSizes (dims_of s) old.contents → HasSizes (dims_of s) mid.contents → IsSound old → KeepsJobs s job passes every old mid
    → KeepsRest s old mid
    → e ≢ Failed → ((page : ℕ) → e ≢ BadPage page) → BeginAnswer s job passes every mid.contents (Err e)
    → IsRefusedOnSome s job passes every old e
refused_on_some s job passes every Failed old mid stands here sizes sizes_mid sound keeps rest fails good answer = absurd (fails refl)
refused_on_some s job passes every (BadPage page) old mid stands here sizes sizes_mid sound keeps rest fails good answer = absurd
    (good page refl)
refused_on_some s job passes every NotLoaded old mid stands here sizes sizes_mid sound keeps rest fails good answer =
    let f = front_image s (dims_of s) old mid sizes sizes_mid rest in
    record { dims = dims_of s; stands = stands; image = f.image; is_image = f.is_image; answer = λ opened. answer (sym f.one ∙ opened) }
refused_on_some s job passes every OtherShape old mid stands here sizes sizes_mid sound keeps rest fails good answer =
    let f = front_image s (dims_of s) old mid sizes sizes_mid rest in
    let t = answer.2.0 in
    let at = loaded_as t mid.contents answer.0 answer.1 answer.2.1 in
    let told = loaded_state (dims_of s) t f.image (sound.consistent (dims_of s) stands (dims_of s) f.image stands f.is_image) (f.one
    ∙ at.0) (f.zero ∙ at.1) in
    record { dims = dims_of s; stands = stands; image = f.image; is_image = f.is_image; answer = (told.0, told.1, (t, told.2, answer.2.2)) }
refused_on_some s job passes every OtherJob old mid stands here sizes sizes_mid sound keeps rest fails good answer = record {
  dims = dims_of s;
  stands = stands;
  image = mid.contents;
  is_image = other_image s job answer.3.0 passes every old mid answer.0 (here ∙ stands) sizes_mid keeps answer.1 answer.3.1 answer.3.2;
  answer = answer;
}

-- what each image before can run is run after
pub runnable_kept : (s : Shape) (job : Job) (passes every : ℕ) (old mid : RackView) → old.stands ≡ Some (dims_of s)
    → mid.stands ≡ old.stands
    → HasSizes (dims_of s) old.contents → HasSizes (dims_of s) mid.contents → KeepsJobs s job passes every old mid → KeepsRest s old mid
    → InEveryImage (λ v. IsRunnable s job v) old → IsRunnable s job mid.contents
runnable_kept s job passes every old mid stands here sizes sizes_mid keeps rest runs =
    let load = load_kept s (dims_of s) old mid stands sizes rest (λ dims image is i. (runs dims image is i).load_gate)
    (λ dims image is i. (runs dims image is i).load_body) in
    record {
      load_gate = load.0;
      load_body = load.1;
      job_gate = elim (gate_cases (page_at mid.contents job_gate)) [
        | inl opened ↦ elim (keeps.bodies (dims_of s) mid.contents (here ∙ stands) (image_self mid (dims_of s) sizes_mid) opened) [
          | inl was ↦ elim (runs (dims_of s) was.image stands was.is_image).job_gate [
            | inl closed ↦ absurd (closed was.opened)
            | inr found ↦ inr (found.0, found.1, subst (λ (p : List ℕ). IsJobBody s p job found.0 found.1) was.body found.2)
          ]
          | inr body ↦ inr (passes, every, body)
        ]
        | inr closed ↦ inl closed
      ];
    }

-- the refusals of a session
pub refusal_of_session : (ts tc : Bool) (s : Shape) (job : Job) (passes every : ℕ) (old new : RackView) (e : RunError)
    → SessionAnswer ts tc s job passes every old new (Err e)
    → e ≢ Failed → SessionRefused ts tc s job passes every e old new
refusal_of_session ts tc s job passes every old new Failed answer fails = absurd (fails refl)
refusal_of_session ts tc s job passes every old new NotLoaded answer fails = answer
refusal_of_session ts tc s job passes every old new OtherShape answer fails = answer
refusal_of_session ts tc s job passes every old new OtherJob answer fails = answer
refusal_of_session ts tc s job passes every old new (BadPage page) answer fails = answer

-- and a session that a stop ended
pub stop_of_session : (ts tc : Bool) (s : Shape) (job : Job) (passes every : ℕ) (old new : RackView) (e : RunError)
    → SessionAnswer ts tc s job passes every old new (Err e)
    → e ≡ Failed → SessionStopped ts tc s job old new
stop_of_session ts tc s job passes every old new e answer is =
    subst (λ (error : RunError). SessionAnswer ts tc s job passes every old new (Err error)) is answer
