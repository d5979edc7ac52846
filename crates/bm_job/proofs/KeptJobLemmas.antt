-- An open job while a load is moved.
use Rattle.std.proofs.Common.{◌≡◌, ℕ, ◌+◌, ◌*◌, ◌^◌, ◌<◌, ◌≤◌, List, length, take, All, get_or, sym, ◌∙◌}
use Rattle.std.proofs.Common.{subst, arith, get_or-take, length-take}
use Rattle.std.proofs.Math.Nat.{mul-le-mul_right}
use Rattle.bm_base.specs.declared.shape.Shape.{Shape}
use Rattle.bm_base.specs.declared.area.Area.TheVariants.{Input}
use Rattle.bm_base.specs.Area.{area_after}
use Rattle.bm_base.specs.Contents.{Contents, page_at}
use Rattle.bm_base.specs.Gate.{IsOpenGate}
use Rattle.bm_base.specs.Records.{record_at, SameRecords}
use Rattle.bm_base.specs.Shape.{loads_of}
use Rattle.bm_gf2.specs.Affine.{affine_image}
use Rattle.bm_forms.specs.declared.job.Job.{Job}
use Rattle.bm_forms.specs.declared.job.Job.TheVariants.{Permute, Walsh}
use Rattle.bm_forms.specs.declared.pass_form.PassForm.{PassForm}
use Rattle.bm_forms.specs.Job.{HasBits, JobFits}
use Rattle.bm_forms.specs.PassForm.{IsOfShape}
use Rattle.bm_forms.proofs.JobLemmas.{meaning-same}
use Rattle.bm_forms.proofs.PassFormLemmas.{FitsBits, fits_of_shape}
use Rattle.bm_forms.proofs.PlanLemmas.{all_passed-same}
use Rattle.bm_pass.proofs.PassLemmas.{image_below_records}
use Rattle.bm_control.specs.Bodies.{IsJobBody, IsPassBody, IsPartBody}
use Rattle.bm_control.specs.Pages.{job_body, pass_body, pass_gate, slot_body, slot_gate}
use Rattle.bm_control.specs.Consistent.{input_of, SlotStands, JobStands}
use Rattle.bm_control.specs.Progress.{Counts}
use Rattle.bm_job.specs.Follows.{IsNext}

-- what stays while a load is moved: the pages, the input, the records that the pass reads, and the counted ones that it wrote
pub record KeepsJob (s : Shape) (done part : ℕ) (a b : Contents) : Type 0 where
  pub pages : (k : ℕ) → page_at b k ≡ page_at a k
  pub input : SameRecords (2 ^ s.n) (record_at b s Input) (record_at a s Input)
  pub work : SameRecords (2 ^ s.n) (record_at b s (area_after done)) (record_at a s (area_after done))
  pub counted : (form : PassForm) → IsNext s done a form → (x : ℕ) → x < part * 2 ^ s.m
      → record_at b s (area_after (done + 1)) (affine_image form.map.map x) ≡ record_at a s (area_after (done + 1))
      (affine_image form.map.map x)

-- passes of a shape, some of them
pub forms_fit : (s : Shape) (forms : List PassForm) → All (IsOfShape s) forms → All (FitsBits s.n) forms
forms_fit s forms all k d h = fits_of_shape s (get_or forms k d) s.keeps.memory (all k d h)

pub take_fit : (s : Shape) (forms : List PassForm) (count : ℕ) → All (IsOfShape s) forms → All (FitsBits s.n) (take count forms)
take_fit s forms count all k d h =
    let long = length-take count forms in
    let within : k < count = omega (arith, h, long) in
    let inside : k < length forms = omega (arith, h, long) in
    subst (FitsBits s.n) (sym (get_or-take count forms k d within)) (forms_fit s forms all k d inside)

-- a job that fits a shape has its bits
pub has_bits : (s : Shape) (job : Job) → JobFits s job → HasBits s.n job
has_bits s (Permute f) fits = fits.0
has_bits s Walsh fits = tt

-- an open slot still stands
slot_works_on : (s : Shape) (part : ℕ) (a b : Contents) (j : JobStands s a) (slot : ℕ) → KeepsJob s j.done part a b
    → ((loads : ℕ) → Counts s a j.done slot loads → loads ≤ part) → IsOpenGate (page_at a (slot_gate slot))
    → SlotStands s a j.forms j.done slot
    → SlotStands s b j.forms j.done slot
slot_works_on s part a b j slot k most gate t = record {
  pass = t.pass;
  loads = t.loads;
  body = subst (λ (p : List ℕ). IsPartBody s p t.pass t.loads) (sym (k.pages (slot_body slot))) t.body;
  known = t.known;
  soon = t.soon;
  moved = λ now form is x below.
      let few : t.loads ≤ part = most t.loads (record {
        opened = gate;
        body = subst (λ (p : ℕ). IsPartBody s (page_at a (slot_body slot)) p t.loads) now t.body;
      }) in
      let more : t.loads * 2 ^ s.m ≤ part * 2 ^ s.m = mul-le-mul_right (2 ^ s.m) few in
      let body = j.bodies j.done form is in
      let here : record_at b s (area_after t.pass) (affine_image form.map.map x) ≡ record_at a s (area_after t.pass)
      (affine_image form.map.map x) =
      subst (λ (p : ℕ). record_at b s (area_after p) (affine_image form.map.map x) ≡ record_at a s (area_after p)
      (affine_image form.map.map x)) (sym now)
      (k.counted form body x (omega (arith, below, more))) in
      here ∙ t.moved now form is x below
      ∙ sym (all_passed-same s.n (take t.pass j.forms) (input_of b s) (input_of a s) (take_fit s j.forms t.pass j.of_shape) k.input
      (affine_image form.map.map x) (image_below_records s form x body.of_shape));
}

-- the open job still stands
pub job_works_on : (s : Shape) (part : ℕ) (a b : Contents) (j : JobStands s a) → KeepsJob s j.done part a b
    → (j.every < loads_of s → (slot loads : ℕ) → slot < 2 → Counts s a j.done slot loads → loads ≤ part) → JobStands s b
job_works_on s part a b j k most = record {
  job = j.job;
  forms = j.forms;
  every = j.every;
  body = subst (λ (p : List ℕ). IsJobBody s p j.job (length j.forms) j.every) (sym (k.pages job_body)) j.body;
  of_shape = j.of_shape;
  bodies = λ i pass is. subst (λ (p : List ℕ). IsPassBody s i p pass) (sym (k.pages (pass_body i))) (j.bodies i pass is);
  means = λ x below. all_passed-same s.n j.forms (input_of b s) (input_of a s) (forms_fit s j.forms j.of_shape) k.input x below
      ∙ j.means x below
      ∙ sym (meaning-same s.n j.job (input_of b s) (input_of a s) (has_bits s j.job j.body.fits.fits) k.input x below);
  done = j.done;
  gates = record {
    few = j.gates.few;
    opened = λ i h. k.pages (pass_gate i) ∙ j.gates.opened i h;
    closed = λ i from h gate. j.gates.closed i from h (sym (k.pages (pass_gate i)) ∙ gate);
  };
  work = λ x below. k.work x below ∙ j.work x below
      ∙ sym (all_passed-same s.n (take j.done j.forms) (input_of b s) (input_of a s) (take_fit s j.forms j.done j.of_shape) k.input x
      below);
  slots = λ less slot h gate.
      let was = sym (k.pages (slot_gate slot)) ∙ gate in
      slot_works_on s part a b j slot k (λ loads. most less slot loads h) was (j.slots less slot h was);
}
