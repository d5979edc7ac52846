-- An open job in contents of which one page is another.
use Rattle.std.proofs.Common.{◌≡◌, ◌≢◌, ◌⊎◌, inl, inr, ℕ, ◌+◌, ◌/◌, ◌%◌, ◌^◌, ◌<◌, ◌≤◌, List, [], ◌∷◌, length, take, slice_get, get_or}
use Rattle.std.proofs.Common.{Some, sym, ◌∙◌, ap, subst, arith}
use Rattle.std.proofs.Math.Path.{subst₂, fun_ext}
use Rattle.std.proofs.lemmas.Bool.{cases_eq}
use Rattle.std.proofs.lemmas.Option.{slice_get_within, slice_get-get_or}
use Rattle.std.specs.Fork.{slice_chunk}
use Rattle.bm_base.specs.declared.dims.Dims.{Dims}
use Rattle.bm_base.specs.declared.shape.Shape.{Shape}
use Rattle.bm_base.specs.declared.area.Area.{Area}
use Rattle.bm_base.specs.declared.area.Area.TheVariants.{Input}
use Rattle.bm_base.specs.Area.{area_after, area_start}
use Rattle.bm_base.specs.Contents.{Contents, page_at}
use Rattle.bm_base.specs.Gate.{IsOpenGate}
use Rattle.bm_base.specs.Records.{record_at, SameRecords}
use Rattle.bm_forms.specs.declared.pass_form.PassForm.{PassForm}
use Rattle.bm_forms.specs.Job.{meaning}
use Rattle.bm_forms.specs.Plan.{all_passed}
use Rattle.bm_base.specs.Shape.{loads_of}
use Rattle.bm_control.specs.Bodies.{IsJobBody, IsPassBody, IsPartBody}
use Rattle.bm_control.specs.Pages.{load_body, load_gate, job_body, job_gate, pass_body, pass_gate, slot_body, slot_gate, HasOpenJob}
use Rattle.bm_control.specs.Pages.{HasLoadBody}
use Rattle.bm_control.specs.Consistent.{input_of, GatesAre, HoldsFirstLoads, SlotStands, JobStands}
use Rattle.bm_control.specs.Consistent.{IsConsistent}
use Rattle.bm_control.proofs.ImageLemmas.{DiffersIn}
use Rattle.bm_control.proofs.JobBodyLemmas.{limit-most}

-- an element of a list
pub element : (forms : List PassForm) (k : ℕ) → k < length forms → (form : PassForm) × (slice_get forms k ≡ Some form)
element [] k h = absurd (omega (arith, h))
element (form ∷ forms) k h = (get_or (form ∷ forms) k form, slice_get-get_or (form ∷ forms) k form h)

-- the records are the same where the blocks are
pub recs_same : (P : ℕ → Type 0) (s : Shape) (area : Area) (a b : Contents) → DiffersIn P a b → record_at b s area ≡ record_at a s area
recs_same P s area a b d =
    fun_ext (λ (x : ℕ). ap (λ (bytes : List ℕ). slice_chunk bytes s.width (x % 2 ^ s.b))
    (d.blocks (x / 2 ^ s.b % 2 ^ s.d) (area_start s area + x / 2 ^ s.b / 2 ^ s.d)))

-- an open job has few passes
pub job_few : (s : Shape) (v : Contents) (j : JobStands s v) → length j.forms ≤ 254
job_few s v j =
    let few = limit-most s j.job in
    let less = j.body.fits.passes_few in
    omega (arith, few, less)

-- a slot that is open and stands, where another page than its body is changed
pub slot_kept : (P : ℕ → Type 0) (s : Shape) (a b : Contents) (forms : List PassForm) (done slot : ℕ) → DiffersIn P a b
    → ¬ P (slot_body slot)
    → SlotStands s a forms done slot → SlotStands s b forms done slot
slot_kept P s a b forms done slot d other t = record {
  pass = t.pass;
  loads = t.loads;
  body = subst (λ (p : List ℕ). IsPartBody s p t.pass t.loads) (sym (d.pages (slot_body slot) other)) t.body;
  known = t.known;
  soon = t.soon;
  moved = λ now form is. subst₂
      (λ (target input : ℕ → List ℕ). HoldsFirstLoads s form t.loads target (all_passed (take t.pass forms) input))
      (sym (recs_same P s (area_after t.pass) a b d)) (sym (recs_same P s Input a b d)) (t.moved now form is);
}

-- the open job, with its progress told anew, where a page is changed that is no body of it
pub job_kept : (P : ℕ → Type 0) (s : Shape) (a b : Contents) (j : JobStands s a) (done : ℕ) → DiffersIn P a b → ¬ P 2
    → ((k : ℕ) → k < length j.forms → ¬ P (pass_body k)) → GatesAre b (length j.forms) done
    → SameRecords (2 ^ s.n) (record_at a s (area_after done)) (all_passed (take done j.forms) (input_of a s))
    → (j.every < loads_of s → (slot : ℕ) → slot < 2 → IsOpenGate (page_at b (slot_gate slot)) → SlotStands s b j.forms done slot)
    → JobStands s b
job_kept P s a b j done d two bodies gates work slots = record {
  job = j.job;
  forms = j.forms;
  every = j.every;
  body = subst (λ (p : List ℕ). IsJobBody s p j.job (length j.forms) j.every) (sym (d.pages job_body two)) j.body;
  of_shape = j.of_shape;
  bodies = λ k pass is. subst (λ (p : List ℕ). IsPassBody s k p pass)
      (sym (d.pages (pass_body k) (bodies k (slice_get_within j.forms k pass is))))
      (j.bodies k pass is);
  means = subst (λ (input : ℕ → List ℕ). SameRecords (2 ^ s.n) (all_passed j.forms input) (meaning s.n j.job input))
      (sym (recs_same P s Input a b d)) j.means;
  done = done;
  gates = gates;
  work = subst₂ (λ (target input : ℕ → List ℕ). SameRecords (2 ^ s.n) target (all_passed (take done j.forms) input))
      (sym (recs_same P s (area_after done) a b d)) (sym (recs_same P s Input a b d)) work;
  slots = slots;
}

-- the pass gates, where another page is changed
pub gates_kept : (P : ℕ → Type 0) (a b : Contents) (passes done : ℕ) → DiffersIn P a b → ((k : ℕ) → k < passes → ¬ P (pass_gate k))
    → GatesAre a passes done → GatesAre b passes done
gates_kept P a b passes done d other g = record {
  few = g.few;
  opened = λ k h. d.pages (pass_gate k) (other k (let few = g.few in omega (arith, few, h))) ∙ g.opened k h;
  closed = λ k from h gate. g.closed k from h (sym (d.pages (pass_gate k) (other k h)) ∙ gate);
}

-- consistent contents, of which other pages than the first and the gates are changed, and an open job still stands
pub consistent_kept : (P : ℕ → Type 0) (dims : Dims) (a b : Contents) → DiffersIn P a b → ¬ P 0 → ¬ P 1 → ¬ P 3 → IsConsistent dims a
    → (HasOpenJob a → (s : Shape) → HasLoadBody s a → JobStands s a → JobStands s b) → IsConsistent dims b
consistent_kept P dims a b d body_kept load_kept gate_kept c job =
    let zero = d.pages load_body body_kept in
    let one = d.pages load_gate load_kept in
    let three = d.pages job_gate gate_kept in
    record {
      loaded = λ gate. (let l = c.loaded (sym one ∙ gate) in record { shape = l.shape; body = zero ∙ l.body; dims_are = l.dims_are });
      after_load = λ gate. one ∙ c.after_load (sym three ∙ gate);
      job = λ gate s body. job (sym three ∙ gate) s (sym zero ∙ body) (c.job (sym three ∙ gate) s (sym zero ∙ body));
    }

-- a page of a slot
abbrev pub InSlot : ℕ → ℕ → Type 0
InSlot slot page = (page ≡ slot_body slot) ⊎ (page ≡ slot_gate slot)

-- no page of a slot is an earlier one
pub slot_late : (slot page : ℕ) → page < 512 → ¬ InSlot slot page
slot_late slot page early (inl is) = omega (arith, early, is)
slot_late slot page early (inr is) = omega (arith, early, is)

-- nor one of another slot
slot_apart : (slot other : ℕ) → other ≢ slot → ¬ InSlot slot (slot_body other)
slot_apart slot other not (inl is) = not (omega (arith, is))
slot_apart slot other not (inr is) = omega (arith, is)

slot_apart_gate : (slot other : ℕ) → other ≢ slot → ¬ InSlot slot (slot_gate other)
slot_apart_gate slot other not (inl is) = omega (arith, is)
slot_apart_gate slot other not (inr is) = not (omega (arith, is))

-- the open job, where the pages of a slot are changed and it stands if it is open
pub job_slot : (slot : ℕ) (s : Shape) (a b : Contents) (j : JobStands s a) → DiffersIn (InSlot slot) a b
    → (j.every < loads_of s → IsOpenGate (page_at b (slot_gate slot)) → SlotStands s b j.forms j.done slot) → JobStands s b
job_slot slot s a b j d stands =
    let few = job_few s a j in
    job_kept (InSlot slot) s a b j j.done d (slot_late slot job_body (omega arith))
    (λ k h. slot_late slot (pass_body k) (omega (arith, h, few)))
    (gates_kept (InSlot slot) a b (length j.forms) j.done d (λ k h. slot_late slot (pass_gate k) (omega (arith, h, few))) j.gates)
    j.work
    (λ less other h gate. elim (cases_eq other slot) [
      | inl same ↦ subst (SlotStands s b j.forms j.done) (sym same)
          (stands less (subst (λ (x : ℕ). IsOpenGate (page_at b (slot_gate x))) same gate))
      | inr not ↦ slot_kept (InSlot slot) s a b j.forms j.done other d (slot_apart slot other not)
          (j.slots less other h (sym (d.pages (slot_gate other) (slot_apart_gate slot other not)) ∙ gate))
    ])
