-- A rack while a job is opened.
use Rattle.std.proofs.Common.{◌≡◌, ◌≢◌, ◌⊎◌, inl, inr, ℕ, ◌+◌, ◌*◌, ◌<◌, ◌≤◌, false, List, length, slice_get, get_or, Some, refl, sym, ◌∙◌}
use Rattle.std.proofs.Common.{ap}
use Rattle.std.proofs.Common.{subst, arith}
use Rattle.std.specs.List.{slice_index_or}
use Rattle.std.proofs.lemmas.Bool.{cases_eq}
use Rattle.std.proofs.lemmas.Option.{slice_get_within, slice_get-get_or}
use Rattle.bm_base.specs.declared.dims.Dims.{Dims}
use Rattle.bm_base.specs.declared.shape.Shape.{Shape}
use Rattle.bm_base.specs.Contents.{Contents, RackUnit, block_unit, page_unit, page_at, HasSizes}
use Rattle.bm_base.specs.Gate.{open_gate, IsOpenGate, IsClosedGate}
use Rattle.bm_base.specs.Shape.{dims_of, loads_of}
use Rattle.bm_rack.specs.RackView.{RackView, IsClean}
use Rattle.bm_rack.specs.Image.{InEveryImage, IsInputUnit}
use Rattle.bm_rack.specs.Frames.{DirtiesOnly}
use Rattle.bm_rack.specs.Calls.{IsPage}
use Rattle.bm_forms.specs.declared.job.Job.{Job}
use Rattle.bm_forms.specs.declared.pass_form.PassForm.{PassForm}
use Rattle.bm_forms.specs.Plan.{DoJob, all_passed}
use Rattle.bm_control.specs.Bodies.{padded, load_page, IsJobBody, IsPassBody}
use Rattle.bm_control.specs.Consistent.{input_of, JobStands}
use Rattle.bm_control.specs.Moments.{PassesAreWritten, JobIsWritten}
use Rattle.bm_control.specs.Pages.{load_gate, load_body, job_body, job_gate, pass_body, pass_gate, slot_gate, HasOpenLoad, HasClosedJob}
use Rattle.bm_control.specs.Pages.{HasLoadBody, HasJobBody, IsZeroPage}
use Rattle.bm_control.specs.Sound.{IsSound}
use Rattle.bm_control.proofs.EqualLemmas.{some_injective}
use Rattle.bm_control.proofs.ImageLemmas.{zeros_closed, Settled, settled_within, never_settled, open_settled, closed_settled}
use Rattle.bm_control.proofs.ImageLemmas.{length-open_gate, image_self}
use Rattle.bm_control.proofs.ImageLemmas.{image_of_clean, DiffersAt}
use Rattle.bm_control.proofs.SoundLemmas.{sound_loaded, sound_page}
use Rattle.bm_control.proofs.MomentLemmas.{load_unique}
use Rattle.bm_control.specs.PageCalls.{IsPassPage, IsSlotGate, IsJobPage, IsStartPage}

-- the pages of fewer passes are among those of more
pub earlier_pages : (k : ℕ) (u : RackUnit) → IsPassPage k u → IsPassPage (k + 1) u
earlier_pages k (block_unit disk place) is = is
earlier_pages k (page_unit page) is = (let a = is.0 in a, let b = is.1 in omega (arith, b))

-- and so are those of the last one
pub own_pages : (k : ℕ) (u : RackUnit) → IsPage (4 + 2 * k) u ⊎ IsPage (5 + 2 * k) u → IsPassPage (k + 1) u
own_pages k (block_unit disk place) (inl is) = is
own_pages k (block_unit disk place) (inr is) = is
own_pages k (page_unit page) (inl is) = (omega (arith, is), omega (arith, is))
own_pages k (page_unit page) (inr is) = (omega (arith, is), omega (arith, is))

-- no pages are written yet
pub written_none : (s : Shape) (forms : List PassForm) (v : Contents) → PassesAreWritten s forms 0 v
written_none s forms v = record { bodies = λ i pass h. absurd (omega (arith, h)); gates = λ i h. absurd (omega (arith, h)) }

-- one more pass
pub written_more : (s : Shape) (forms : List PassForm) (k : ℕ) (pass : PassForm) (old new : RackView) → slice_get forms k ≡ Some pass
    → DirtiesOnly (λ u. IsPage (4 + 2 * k) u ⊎ IsPage (5 + 2 * k) u) old new
    → IsPassBody s k (page_at new.contents (pass_body k)) pass → IsZeroPage (page_at new.contents (pass_gate k))
    → PassesAreWritten s forms k old.contents → PassesAreWritten s forms (k + 1) new.contents
written_more s forms k pass old new is w body gate before = record {
  bodies = λ i other h there. elim (cases_eq i k) [
    | inl same ↦
        let one : pass ≡ other = some_injective pass other (sym is ∙ ap (slice_get forms) (sym same) ∙ there) in
        subst (λ (x : ℕ). IsPassBody s x (page_at new.contents (pass_body x)) other) (sym same)
        (subst (IsPassBody s k (page_at new.contents (pass_body k))) one body)
    | inr not ↦ subst (λ (p : List ℕ). IsPassBody s i p other) (sym (w.contents (page_unit (pass_body i)) (apart_body i not)))
        (before.bodies i other (omega (arith, h, not)) there)
  ];
  gates = λ i h. elim (cases_eq i k) [
    | inl same ↦ subst (λ (x : ℕ). IsZeroPage (page_at new.contents (pass_gate x))) (sym same) gate
    | inr not ↦ subst IsZeroPage (sym (w.contents (page_unit (pass_gate i)) (apart_gate i not))) (before.gates i (omega (arith, h, not)))
  ];
}
  where
    apart_body : (i : ℕ) → i ≢ k → ¬ (IsPage (4 + 2 * k) (page_unit (pass_body i)) ⊎ IsPage (5 + 2 * k) (page_unit (pass_body i)))
    apart_body i not (inl e) = not (omega (arith, e))
    apart_body i not (inr e) = omega (arith, e)

    apart_gate : (i : ℕ) → i ≢ k → ¬ (IsPage (4 + 2 * k) (page_unit (pass_gate i)) ⊎ IsPage (5 + 2 * k) (page_unit (pass_gate i)))
    apart_gate i not (inl e) = omega (arith, e)
    apart_gate i not (inr e) = not (omega (arith, e))

-- the pages of the passes are as before where the gates of the slots are changed
pub passes_kept : (s : Shape) (forms : List PassForm) (k : ℕ) (old new : RackView) → k ≤ 254 → DirtiesOnly IsSlotGate old new
    → PassesAreWritten s forms k old.contents
    → PassesAreWritten s forms k new.contents
passes_kept s forms k old new few w before = record {
  bodies = λ i pass h there. subst (λ (p : List ℕ). IsPassBody s i p pass)
      (sym (w.contents (page_unit (pass_body i)) (late (pass_body i) (omega arith)))) (before.bodies i pass h there);
  gates = λ i h. subst IsZeroPage (sym (w.contents (page_unit (pass_gate i)) (late (pass_gate i) (omega arith)))) (before.gates i h);
}
  where
    late : (page : ℕ) → page < slot_gate 0 → ¬ IsSlotGate (page_unit page)
    late page early (inl is) = omega (arith, early, is)
    late page early (inr is) = omega (arith, early, is)

-- all pages of the job
pub job_written : (s : Shape) (job : Job) (forms : List PassForm) (every : ℕ) (v : Contents) → HasJobBody s v job (length forms) every
    → PassesAreWritten s forms (length forms) v
    → (every < loads_of s → IsZeroPage (page_at v (slot_gate 0)) × IsZeroPage (page_at v (slot_gate 1)))
    → JobIsWritten s job forms every v
job_written s job forms every v body passes slots = record {
  body = body;
  bodies = λ k pass there. passes.bodies k pass (slice_get_within forms k pass there) there;
  gates = passes.gates;
  slots = λ less slot h. elim (cases_eq slot 0) [
    | inl zero ↦ subst (λ (x : ℕ). IsZeroPage (page_at v (slot_gate x))) (sym zero) (slots less).0
    | inr not ↦ (let one : slot ≡ 1 = omega arith in subst (λ (x : ℕ). IsZeroPage (page_at v (slot_gate x))) (sym one) (slots less).1)
  ];
}

-- are as before where its gate is changed
pub job_written_kept : (s : Shape) (job : Job) (forms : List PassForm) (every : ℕ) (old new : RackView)
    → DirtiesOnly (IsPage job_gate) old new
    → JobIsWritten s job forms every old.contents → JobIsWritten s job forms every new.contents
job_written_kept s job forms every old new w j = record {
  body = subst (λ (p : List ℕ). IsJobBody s p job (length forms) every) (sym (w.contents (page_unit job_body) (λ e. omega (arith, e))))
      j.body;
  bodies = λ k pass there. subst (λ (p : List ℕ). IsPassBody s k p pass)
      (sym (w.contents (page_unit (pass_body k)) (λ e. omega (arith, e))))
      (j.bodies k pass there);
  gates = λ k h. subst IsZeroPage (sym (w.contents (page_unit (pass_gate k)) (λ e. omega (arith, e)))) (j.gates k h);
  slots = λ less slot h. subst IsZeroPage (sym (w.contents (page_unit (slot_gate slot)) (λ e. omega (arith, e)))) (j.slots less slot h);
}

-- a loaded rack with no job, up to the moment at which its gate is written
pub record IsLoadedRack (s : Shape) (v : RackView) : Type 0 where
  pub stands : v.stands ≡ Some (dims_of s)
  pub loaded : Settled IsOpenGate load_gate v
  pub body_stands : Settled (λ p. p ≡ load_page s) load_body v
  pub no_job : Settled IsClosedGate job_gate v
  pub input : (u : RackUnit) → IsInputUnit (dims_of s) u → v.dirty u ≡ false

-- the sizes of a sound rack are those of the shape that is loaded
pub loaded_stands : (s : Shape) (v : RackView) (dims : Dims) → v.stands ≡ Some dims → HasSizes dims v.contents → IsSound v
    → InEveryImage HasOpenLoad v
    → HasLoadBody s v.contents → v.stands ≡ Some (dims_of s)
loaded_stands s v dims stands sizes sound opened body =
    let self = image_self v dims sizes in
    let l = (sound.consistent dims stands dims v.contents stands self).loaded (opened dims v.contents stands self) in
    stands ∙ ap Some (sym l.dims_are ∙ ap dims_of (load_unique l.shape s (page_at v.contents load_body) l.body body))

-- an open gate is no load body
pub gate_no_body : ¬ ((s : Shape) × (open_gate ≡ load_page s))
unfolding open_gate load_page padded
gate_no_body found =
    let e : slice_index_or open_gate 4 0 ≡ slice_index_or (load_page found.0) 4 0 = ap (λ (p : List ℕ). slice_index_or p 4 0) found.1 in
    omega (arith, e)

-- at its beginning
pub loaded_start : (s : Shape) (v : RackView) → v.stands ≡ Some (dims_of s) → HasSizes (dims_of s) v.contents → IsSound v
    → InEveryImage HasOpenLoad v → InEveryImage HasClosedJob v → HasLoadBody s v.contents
    → IsLoadedRack s v
loaded_start s v stands sizes sound opened closed body =
    let some = never_settled (λ p. (t : Shape) × (p ≡ load_page t)) v (dims_of s) load_body open_gate (omega arith) length-open_gate stands
    sizes gate_no_body
    (λ dims image is i. (let l = (sound.consistent dims is dims image is i).loaded (opened dims image is i) in (l.shape, l.body))) in
    record {
      stands = stands;
      loaded = open_settled v (dims_of s) load_gate (omega arith) stands sizes opened;
      body_stands = record { clean = some.clean; holds = body };
      no_job = closed_settled v (dims_of s) job_gate (omega arith) stands sizes closed;
      input = sound.input (dims_of s) v.contents stands (image_self v (dims_of s) sizes)
          (opened (dims_of s) v.contents stands (image_self v (dims_of s) sizes));
    }

-- no page of a job but its gate is one of these
job_page_apart : (passes page : ℕ) (parts : Type 0) → page < 4 → page ≢ 2 → ¬ IsJobPage passes parts (page_unit page)
job_page_apart passes page parts early not (inl is) = not is
job_page_apart passes page parts early not (inr (inl is)) = (let a = is.0 in omega (arith, early, a))
job_page_apart passes page parts early not (inr (inr is)) = elim is.1 [
  | inl e ↦ omega (arith, early, e)
  | inr e ↦ omega (arith, early, e)
]

input_no_job_page : (passes : ℕ) (parts : Type 0) (dims : Dims) (u : RackUnit) → IsInputUnit dims u → ¬ IsJobPage passes parts u
input_no_job_page passes parts dims (block_unit disk place) input (inl is) = is
input_no_job_page passes parts dims (block_unit disk place) input (inr (inl is)) = is
input_no_job_page passes parts dims (block_unit disk place) input (inr (inr is)) = is.1
input_no_job_page passes parts dims (page_unit page) input is = input

-- while the job's pages are written
pub loaded_within : (passes : ℕ) (parts : Type 0) (s : Shape) (old new : RackView) → DirtiesOnly (IsJobPage passes parts) old new
    → IsLoadedRack s old → IsLoadedRack s new
loaded_within passes parts s old new w r = record {
  stands = w.stands ∙ r.stands;
  loaded = settled_within IsOpenGate (IsJobPage passes parts) load_gate old new w
      (job_page_apart passes load_gate parts (omega arith) (λ e. omega (arith, e))) r.loaded;
  body_stands = settled_within (λ p. p ≡ load_page s) (IsJobPage passes parts) load_body old new w
      (job_page_apart passes load_body parts (omega arith) (λ e. omega (arith, e))) r.body_stands;
  no_job = settled_within IsClosedGate (IsJobPage passes parts) job_gate old new w
      (job_page_apart passes job_gate parts (omega arith) (λ e. omega (arith, e))) r.no_job;
  input = λ u is. w.dirty u (input_no_job_page passes parts (dims_of s) u is) (r.input u is);
}

-- the job gate alone
pub job_gate_within : (passes : ℕ) (parts : Type 0) (old new : RackView) → DirtiesOnly (IsJobPage passes parts) old new
    → Settled IsClosedGate job_gate old
    → Settled IsClosedGate job_gate new
job_gate_within passes parts old new w r = settled_within IsClosedGate (IsJobPage passes parts) job_gate old new w
    (job_page_apart passes job_gate parts (omega arith) (λ e. omega (arith, e))) r

-- such a rack is sound
pub loaded_sound : (s : Shape) (v : RackView) → IsLoadedRack s v → IsSound v
loaded_sound s v r = sound_loaded v s r.stands r.body_stands r.no_job r.input

-- the job stands where its pages do and its gate alone is changed
started : (s : Shape) (job : Job) (forms : List PassForm) (every : ℕ) (a b : Contents) → DoJob forms s.n job
    → JobIsWritten s job forms every a
    → DiffersAt 3 a b → JobStands s b
unfolding all_passed
started s job forms every a b does j d = record {
  job = job;
  forms = forms;
  every = every;
  body = subst (λ (p : List ℕ). IsJobBody s p job (length forms) every) (sym (d.pages job_body (λ e. omega (arith, e)))) j.body;
  of_shape = λ k d h. (j.bodies k (get_or forms k d) (slice_get-get_or forms k d h)).of_shape;
  bodies = λ k pass there. subst (λ (p : List ℕ). IsPassBody s k p pass) (sym (d.pages (pass_body k) (λ e. omega (arith, e))))
      (j.bodies k pass there);
  means = does (input_of b s);
  done = 0;
  gates = record {
    few = omega arith;
    opened = λ k h. absurd (omega (arith, h));
    closed = λ k from h opened. zeros_closed _ (j.gates k h) (sym (d.pages (pass_gate k) (λ e. omega (arith, e))) ∙ opened);
  };
  work = λ x h. refl;
  slots = λ less slot h opened. absurd (zeros_closed _ (j.slots less slot h) (sym (d.pages (slot_gate slot) (λ e. omega (arith, e)))
      ∙ opened));
}

-- while the gate of a job is written whose pages are on the disks
pub sound_started : (s : Shape) (job : Job) (forms : List PassForm) (every : ℕ) (old new : RackView) → HasSizes (dims_of s) old.contents
    → IsClean old → IsLoadedRack s old
    → DoJob forms s.n job → JobIsWritten s job forms every old.contents → DirtiesOnly (IsPage job_gate) old new → IsSound new
sound_started s job forms every old new sizes clean r does j w =
    sound_page job_gate old new (dims_of s) (omega arith) (λ e. omega (arith, e)) r.stands sizes (loaded_sound s old r) w
    (λ before image was i d c.
    let d' = image_of_clean job_gate old new (dims_of s) image clean w i in
    let zero = d'.pages load_body (λ e. omega (arith, e)) ∙ r.body_stands.holds in
    record {
      loaded = λ gate. record { shape = s; body = zero; dims_are = refl };
      after_load = λ gate. d'.pages load_gate (λ e. omega (arith, e)) ∙ r.loaded.holds;
      job = λ gate t loaded. subst (λ (u : Shape). JobStands u image) (load_unique s t (page_at image load_body) zero loaded)
          (started s job forms every old.contents image does j d');
    })

-- the frames of a start
pub start_passes : (passes : ℕ) (parts : Type 0) (u : RackUnit) → IsJobPage passes parts u → IsStartPage passes parts u
start_passes passes parts u is = inr is

pub start_gate : (passes : ℕ) (parts : Type 0) (u : RackUnit) → IsPage job_gate u → IsStartPage passes parts u
start_gate passes parts u is = inl is
