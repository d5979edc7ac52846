-- Consistent contents have a progress, and mean their job once all passes are done.
use Rattle.std.proofs.Common.{◌≡◌, inl, inr, ℕ, ◌+◌, ◌*◌, ◌^◌, Option, Some, None, List, length, take, refl, sym, ◌∙◌, ap, subst, arith}
use Rattle.std.proofs.lemmas.Bool.{cases_lt, cases_eq}
use Rattle.std.proofs.lemmas.List.{take_all}
use Rattle.bm_base.specs.declared.dims.Dims.{Dims}
use Rattle.bm_base.specs.declared.shape.Shape.{Shape}
use Rattle.bm_base.specs.Area.{area_after}
use Rattle.bm_base.specs.Contents.{Contents, page_at}
use Rattle.bm_base.specs.Gate.{IsOpenGate}
use Rattle.bm_base.specs.Records.{record_at, SameRecords}
use Rattle.bm_base.specs.Shape.{loads_of}
use Rattle.bm_forms.specs.declared.job.Job.{Job}
use Rattle.bm_forms.specs.declared.pass_form.PassForm.{PassForm}
use Rattle.bm_forms.specs.Job.{meaning}
use Rattle.bm_forms.specs.Plan.{all_passed}
use Rattle.bm_control.specs.Bodies.{IsPartBody}
use Rattle.bm_control.specs.Pages.{job_body, job_gate, slot_body, slot_gate, no_slot, HasOpenJob, HasLoadBody, HasJobBody}
use Rattle.bm_control.specs.Consistent.{input_of, GatesAre, SlotStands, JobStands, IsConsistent}
use Rattle.bm_control.specs.Progress.{Counts, IsCounted, IsGone}
use Rattle.bm_control.specs.State.{SlotRead, CountedOf}
use Rattle.bm_control.proofs.EqualLemmas.{some_injective, none_some}
use Rattle.bm_control.proofs.MomentLemmas.{gate_cases}
use Rattle.bm_control.proofs.StateLemmas.{slot_old, slot_now, counted_none, counted_both}
use Rattle.bm_control.proofs.UniqueLemmas.{job_unique, passes_unique, done_unique}

-- a slot that counts also counts in contents with the same pages
pub counts_kept : (s : Shape) (done slot loads : ℕ) (a b : Contents) → ((k : ℕ) → page_at b k ≡ page_at a k) → Counts s a done slot loads
    → Counts s b done slot loads
counts_kept s done slot loads a b same c = record {
  opened = same (slot_gate slot) ∙ c.opened;
  body = subst (λ (p : List ℕ). IsPartBody s p (done + 1) loads) (sym (same (slot_body slot))) c.body;
}

-- what is found of a slot that tells the truth if it is open
found_slot : (s : Shape) (v : Contents) (forms : List PassForm) (done slot : ℕ)
    → (IsOpenGate (page_at v (slot_gate slot)) → SlotStands s v forms done slot)
    → (found : Option ℕ) × SlotRead s v (length forms) done slot found
found_slot s v forms done slot stands = elim (gate_cases (page_at v (slot_gate slot))) [
  | inl opened ↦
      let t = stands opened in
      elim (cases_eq t.pass (done + 1)) [
        | inl now ↦ (Some t.loads, slot_now s v (length forms) done slot t.pass t.loads opened t.body t.known now)
        | inr other ↦
            let soon = t.soon in
            (None, slot_old s v (length forms) done slot t.pass t.loads t.body t.known (omega (arith, soon, other)))
      ]
  | inr closed ↦ (
    None,
    record {
      good = λ opened. absurd (closed opened);
      counts = λ l is. absurd (none_some l is);
      only = λ l c. absurd (closed c.opened);
    },
  )
]

-- one of two slots is counted, or none
counted_of : (one two : Option ℕ) → (part : ℕ) × (slot : ℕ) × CountedOf one two part slot
counted_of None None = (
  0,
  no_slot,
  record {
    range = omega arith;
    none = λ _. (refl, refl, refl);
    zero = λ is. absurd (omega (arith, is));
    one = λ is. absurd (omega (arith, is));
  },
)
counted_of (Some a) None = (
  a,
  0,
  record {
    range = omega arith;
    none = λ is. absurd (omega (arith, is));
    zero = λ _. (refl, λ l is. absurd (none_some l is));
    one = λ is. absurd (omega (arith, is));
  },
)
counted_of None (Some b) = (
  b,
  1,
  record {
    range = omega arith;
    none = λ is. absurd (omega (arith, is));
    zero = λ is. absurd (omega (arith, is));
    one = λ _. (refl, λ l is. absurd (none_some l is));
  },
)
counted_of (Some a) (Some b) = elim (cases_lt a b) [
  | inl less ↦ (
    b,
    1,
    record {
      range = omega arith;
      none = λ is. absurd (omega (arith, is));
      zero = λ is. absurd (omega (arith, is));
      one = λ _. (refl, λ l is. (let e = some_injective a l is in omega (arith, e, less)));
    },
  )
  | inr more ↦ (
    a,
    0,
    record {
      range = omega arith;
      none = λ is. absurd (omega (arith, is));
      zero = λ _. (refl, λ l is. (let e = some_injective b l is in omega (arith, e, more)));
      one = λ is. absurd (omega (arith, is));
    },
  )
]

-- the progress of an open job, by the slot that is counted
gone_by : (s : Shape) (v : Contents) (j : JobStands s v) (part slot : ℕ) → HasOpenJob v → HasLoadBody s v
    → IsCounted s v j.every j.done part slot → (gone : ℕ) × IsGone v gone
gone_by s v j part slot opened load counted = (
  j.done * loads_of s + part,
  inr (record {
    shape = s;
    job = j.job;
    passes = length j.forms;
    every = j.every;
    done = j.done;
    part = part;
    slot = slot;
    opened = opened;
    load = load;
    body = j.body;
    gates = j.gates;
    counted = counted;
    sum = refl;
  }),
)

-- an open job has a progress
stands_gone : (s : Shape) (v : Contents) (j : JobStands s v) → HasOpenJob v → HasLoadBody s v → (gone : ℕ) × IsGone v gone
stands_gone s v j opened load = elim (cases_lt j.every (loads_of s)) [
  | inl less ↦
      let first = found_slot s v j.forms j.done 0 (j.slots less 0 (omega arith)) in
      let second = found_slot s v j.forms j.done 1 (j.slots less 1 (omega arith)) in
      let found = counted_of first.0 second.0 in
      gone_by s v j found.0 found.1 opened load
      (counted_both s v (length j.forms) j.done j.every found.0 found.1 first.0 second.0 less first.1 second.1 found.2).counted
  | inr whole ↦
      let few = j.body.fits.every_few in
      gone_by s v j 0 no_slot opened load (counted_none s v (length j.forms) j.done j.every (omega (arith, whole, few))).counted
]

-- and so have consistent contents
pub consistent_gone : (dims : Dims) (v : Contents) → IsConsistent dims v → (gone : ℕ) × IsGone v gone
consistent_gone dims v c = elim (gate_cases (page_at v job_gate)) [
  | inl opened ↦
      let l = c.loaded (c.after_load opened) in
      stands_gone l.shape v (c.job opened l.shape l.body) opened l.body
  | inr closed ↦ (0, inl (closed, refl))
]

-- Once all passes of an open job are done, the records of the last pass's area are the job's meaning of the input.
pub all_done_means : (dims : Dims) (v : Contents) (s : Shape) (job : Job) (passes every : ℕ) → IsConsistent dims v → HasOpenJob v
    → HasLoadBody s v → HasJobBody s v job passes every → GatesAre v passes passes
    → SameRecords (2 ^ s.n) (record_at v s (area_after passes)) (meaning s.n job (input_of v s))
all_done_means dims v s job passes every c opened load body gates x below =
    let j = c.job opened s load in
    let count = passes_unique s (page_at v job_body) j.job job (length j.forms) passes j.every every j.body body in
    let done : j.done ≡ passes = done_unique v passes j.done passes (subst (λ (p : ℕ). GatesAre v p j.done) count j.gates) gates in
    let whole : take j.done j.forms ≡ j.forms = take_all j.done j.forms (omega (arith, done, count)) in
    let same = job_unique s s (page_at v job_body) j.job job (length j.forms) passes j.every every j.body body in
    ap (λ (k : ℕ). record_at v s (area_after k) x) (sym done) ∙ j.work x below
    ∙ ap (λ (forms : List PassForm). all_passed forms (input_of v s) x) whole ∙ j.means x below
    ∙ ap (λ (k : Job). meaning s.n k (input_of v s) x) same
