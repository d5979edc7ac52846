-- Sound racks while a pass gate or a slot is written.
use Rattle.std.proofs.Common.{◌≡◌, ◌≢◌, ◌⊎◌, inl, inr, ℕ, ◌+◌, ◌^◌, ◌<◌, List, [], ◌∷◌, length, take, Some, refl, sym, ◌∙◌, subst, arith}
use Rattle.std.proofs.Math.Path.{subst₂}
use Rattle.std.proofs.lemmas.Bool.{cases_eq}
use Rattle.bm_base.specs.declared.dims.Dims.{Dims}
use Rattle.bm_base.specs.declared.shape.Shape.{Shape}
use Rattle.bm_base.specs.declared.area.Area.TheVariants.{Input}
use Rattle.bm_base.specs.Area.{area_after}
use Rattle.bm_base.specs.Contents.{Contents, block_unit, page_unit, page_at, HasSizes}
use Rattle.bm_base.specs.Gate.{open_gate, IsOpenGate, IsClosedGate}
use Rattle.bm_base.specs.Records.{record_at, SameRecords}
use Rattle.bm_rack.specs.RackView.{RackView, IsClean}
use Rattle.bm_rack.specs.Frames.{DirtiesOnly}
use Rattle.bm_rack.specs.Calls.{IsPage}
use Rattle.bm_forms.specs.Plan.{all_passed}
use Rattle.bm_control.specs.Bodies.{load_page, PartBodyFits, part_page}
use Rattle.bm_control.specs.Consistent.{input_of, GatesAre, HoldsFirstLoads, JobStands, IsConsistent}
use Rattle.bm_control.specs.Moments.{PassIsDone, PartIsMoved}
use Rattle.bm_control.specs.Pages.{load_gate, job_gate, load_body, pass_gate, slot_body, slot_gate}
use Rattle.bm_control.specs.Sound.{IsSound}
use Rattle.bm_control.proofs.BodyLemmas.{load_numbers}
use Rattle.bm_base.proofs.EqualLemmas.{shape_equal}
use Rattle.bm_control.proofs.ImageLemmas.{DiffersAt, DiffersIn, Settled, settled_in_image, image_self, image_same, image_of_clean}
use Rattle.bm_control.proofs.JobStandsLemmas.{recs_same, job_few, slot_kept, job_kept, consistent_kept, InSlot, slot_late, job_slot}
use Rattle.bm_control.proofs.SoundLemmas.{sound_page}

-- two lists of numbers are the same, or they aren't
list_cases : (xs ys : List ℕ) → (xs ≡ ys) ⊎ (xs ≢ ys)
list_cases [] [] = inl refl
list_cases [] (y ∷ ys) = inr (λ e. cc)
list_cases (x ∷ xs) [] = inr (λ e. cc)
list_cases (x ∷ xs) (y ∷ ys) = elim (cases_eq x y) [
  | inl same ↦ elim (list_cases xs ys) [
    | inl rest ↦ inl (cc)
    | inr rest ↦ inr (λ e. rest (cc))
  ]
  | inr other ↦ inr (λ e. other (cc))
]

-- a gate is open or closed
pub gate_cases : (page : List ℕ) → IsOpenGate page ⊎ IsClosedGate page
gate_cases page = list_cases page open_gate

-- a page is the load body of one shape
pub load_unique : (s t : Shape) (page : List ℕ) → page ≡ load_page s → page ≡ load_page t → s ≡ t
load_unique s t page one two =
    let x = load_numbers s page one in
    let y = load_numbers t page two in
    shape_equal s t (sym x.n ∙ y.n) (sym x.b ∙ y.b) (sym x.d ∙ y.d) (sym x.m ∙ y.m) (sym x.width ∙ y.width)

-- the pass gates, with that of pass k + 1 open besides
gates_opened : (a b : Contents) (passes k : ℕ) → DiffersAt (pass_gate k) a b → k < passes → IsOpenGate (page_at b (pass_gate k))
    → GatesAre a passes k → GatesAre b passes (k + 1)
gates_opened a b passes k d below gate g = record {
  few = omega (arith, below);
  opened = λ i h. elim (cases_eq i k) [
    | inl same ↦ subst (λ (x : ℕ). IsOpenGate (page_at b (pass_gate x))) (sym same) gate
    | inr other ↦ d.pages (pass_gate i) (λ e. omega (arith, e, other)) ∙ g.opened i (omega (arith, h, other))
  ];
  closed = λ i from h opened. g.closed i (omega (arith, from)) h (sym (d.pages (pass_gate i) (λ e. omega (arith, e, from))) ∙ opened);
}

-- and with that of pass k + 1 closed as before
gates_closed : (a b : Contents) (passes k : ℕ) → DiffersAt (pass_gate k) a b → IsClosedGate (page_at b (pass_gate k)) → GatesAre a passes k
    → GatesAre b passes k
gates_closed a b passes k d gate g = record {
  few = g.few;
  opened = λ i h. d.pages (pass_gate i) (λ e. omega (arith, e, h)) ∙ g.opened i h;
  closed = λ i from h. elim (cases_eq i k) [
    | inl same ↦ subst (λ (x : ℕ). IsClosedGate (page_at b (pass_gate x))) (sym same) gate
    | inr other ↦ λ opened. g.closed i from h (sym (d.pages (pass_gate i) (λ e. omega (arith, e, other))) ∙ opened)
  ];
}

-- the open job while the gate of the pass that is done is written
job_opening : (s : Shape) (a b : Contents) (k : ℕ) (j : JobStands s a) → j.done ≡ k → k < length j.forms → DiffersAt (pass_gate k) a b
    → SameRecords (2 ^ s.n) (record_at a s (area_after (k + 1))) (all_passed (take (k + 1) j.forms) (input_of a s)) → JobStands s b
job_opening s a b k j now below d records =
    let few = job_few s a j in
    let gates = subst (GatesAre a (length j.forms)) now j.gates in
    elim (gate_cases (page_at b (pass_gate k))) [
      | inl opened ↦ job_kept (λ i. i ≡ pass_gate k) s a b j (k + 1) d (λ e. omega (arith, e)) (λ i h e. omega (arith, e))
          (gates_opened a b (length j.forms) k d below opened gates) records
          (λ less slot h gate.
          let t = j.slots less slot h (sym (d.pages (slot_gate slot) (λ e. omega (arith, e, few, below, h))) ∙ gate) in
          let soon = t.soon in
          slot_kept (λ i. i ≡ pass_gate k) s a b j.forms (k + 1) slot d (λ e. omega (arith, e, few, below, h)) (record {
            pass = t.pass;
            loads = t.loads;
            body = t.body;
            known = t.known;
            soon = omega (arith, soon, now);
            moved = λ is. absurd (omega (arith, soon, now, is));
          }))
      | inr closed ↦ job_kept (λ i. i ≡ pass_gate k) s a b j j.done d (λ e. omega (arith, e)) (λ i h e. omega (arith, e))
          (subst (GatesAre b (length j.forms)) (sym now) (gates_closed a b (length j.forms) k d closed gates)) j.work
          (λ less slot h gate. slot_kept (λ i. i ≡ pass_gate k) s a b j.forms j.done slot d (λ e. omega (arith, e, few, below, h))
          (j.slots less slot h (sym (d.pages (slot_gate slot) (λ e. omega (arith, e, few, below, h))) ∙ gate)))
    ]

-- while the gate of the pass that is done is written on a clean rack
pub sound_opening : (old new : RackView) (dims : Dims) (k : ℕ) → old.stands ≡ Some dims → HasSizes dims old.contents → IsSound old
    → IsClean old
    → PassIsDone old.contents k → DirtiesOnly (IsPage (pass_gate k)) old new → IsSound new
sound_opening old new dims k stands sizes sound clean p w =
    let few = job_few p.shape old.contents p.job in
    let below = p.below in
    sound_page (pass_gate k) old new dims (omega (arith, few, below)) (λ e. omega (arith, e)) stands sizes sound w
    (λ before image was i d c.
    let d' = image_of_clean (pass_gate k) old new dims image clean w i in
    let c' = sound.consistent dims stands dims old.contents stands (image_self old dims sizes) in
    consistent_kept (λ i. i ≡ pass_gate k) dims old.contents image d' (λ e. omega (arith, e)) (λ e. omega (arith, e))
    (λ e. omega (arith, e)) c'
    (λ gate s body j.
    subst (λ (t : Shape). JobStands t image) (load_unique p.shape s (page_at old.contents load_body) p.load body)
    (job_opening p.shape old.contents image k p.job p.now p.below d' p.records)))

-- contents that differ in a page of a slot differ in the slot
in_gate : (slot : ℕ) (a b : Contents) → DiffersAt (slot_gate slot) a b → DiffersIn (InSlot slot) a b
in_gate slot a b d = record { blocks = d.blocks; pages = λ k not. d.pages k (λ is. not (inr is)) }

in_body : (slot : ℕ) (a b : Contents) → DiffersAt (slot_body slot) a b → DiffersIn (InSlot slot) a b
in_body slot a b d = record { blocks = d.blocks; pages = λ k not. d.pages k (λ is. not (inl is)) }

-- consistent contents of which a slot is changed, and is closed now
slot_closed : (slot : ℕ) (dims : Dims) (a b : Contents) → DiffersIn (InSlot slot) a b → IsClosedGate (page_at b (slot_gate slot))
    → IsConsistent dims a → IsConsistent dims b
slot_closed slot dims a b d closed c =
    consistent_kept (InSlot slot) dims a b d (slot_late slot load_body (omega arith)) (slot_late slot load_gate (omega arith))
    (slot_late slot job_gate (omega arith)) c
    (λ gate s body j. job_slot slot s a b j d (λ less opened. absurd (closed opened)))

-- while the open gate of a slot is written over
pub sound_closing_slot : (old new : RackView) (dims : Dims) (slot : ℕ) → slot < 2 → old.stands ≡ Some dims → HasSizes dims old.contents
    → IsSound old
    → IsOpenGate (page_at old.contents (slot_gate slot)) → DirtiesOnly (IsPage (slot_gate slot)) old new → IsSound new
sound_closing_slot old new dims slot below stands sizes sound gate w =
    sound_page (slot_gate slot) old new dims (omega arith) (λ e. omega (arith, e)) stands sizes sound w (λ before image was i d c.
    elim (gate_cases (page_at image (slot_gate slot))) [
      | inl opened ↦ sound.consistent dims stands dims image stands (image_same (slot_gate slot) old new dims image w i (opened ∙ sym gate))
      | inr closed ↦ slot_closed slot dims before image (in_gate slot before image d) closed c
    ])

-- while the body of a slot is written whose gate is closed in every image
pub sound_writing_part : (old new : RackView) (dims : Dims) (slot : ℕ) → slot < 2 → old.stands ≡ Some dims → HasSizes dims old.contents
    → IsSound old
    → Settled IsClosedGate (slot_gate slot) old → DirtiesOnly (IsPage (slot_body slot)) old new → IsSound new
sound_writing_part old new dims slot below stands sizes sound shut w =
    sound_page (slot_body slot) old new dims (omega arith) (λ e. omega (arith, e)) stands sizes sound w (λ before image was i d c.
    let gate = d.pages (slot_gate slot) (λ e. omega (arith, e)) in
    slot_closed slot dims before image (in_body slot before image d)
    (λ opened. settled_in_image IsClosedGate (slot_gate slot) old dims before shut was (sym gate ∙ opened)) c)

-- contents before a slot was closed and its body written, and an image after its gate was
marked : (slot : ℕ) (first second third : RackView) (dims : Dims) (image : Contents) → DirtiesOnly (IsPage (slot_gate slot)) first second
    → DirtiesOnly (IsPage (slot_body slot)) second third → DiffersAt (slot_gate slot) third.contents image
    → DiffersIn (InSlot slot) first.contents image
marked slot first second third dims image w x d = record {
  blocks = λ disk place. d.blocks disk place ∙ x.contents (block_unit disk place) (λ e. e) ∙ w.contents (block_unit disk place) (λ e. e);
  pages = λ k not. d.pages k (λ is. not (inr is)) ∙ x.contents (page_unit k) (λ is. not (inl is))
      ∙ w.contents (page_unit k) (λ is. not (inr is));
}

-- while the gate of a slot is written whose body is on the disks, as are the loads that it counts
pub sound_marking : (slot pass loads : ℕ) (s : Shape) (first second old new : RackView) (dims : Dims) → slot < 2 → PartBodyFits s pass loads
    → old.stands ≡ Some dims
    → HasSizes dims old.contents → IsSound old → IsClean old → PartIsMoved s first.contents pass loads
    → DirtiesOnly (IsPage (slot_gate slot)) first second
    → DirtiesOnly (IsPage (slot_body slot)) second old → page_at old.contents (slot_body slot) ≡ part_page pass loads
    → DirtiesOnly (IsPage (slot_gate slot)) old new → IsSound new
sound_marking slot pass loads s first second old new dims below fits stands sizes sound clean p w x body y =
    sound_page (slot_gate slot) old new dims (omega arith) (λ e. omega (arith, e)) stands sizes sound y (λ before image was i d c.
    let d' = image_of_clean (slot_gate slot) old new dims image clean y i in
    let all = marked slot first second old dims image w x d' in
    let zero = x.contents (page_unit load_body) (λ e. omega (arith, e)) ∙ w.contents (page_unit load_body) (λ e. omega (arith, e)) in
    let c' = sound.consistent dims stands dims old.contents stands (image_self old dims sizes) in
    consistent_kept (λ k. k ≡ slot_gate slot) dims old.contents image d' (λ e. omega (arith, e)) (λ e. omega (arith, e))
    (λ e. omega (arith, e)) c'
    (λ gate t loaded j.
    subst (λ (u : Shape). JobStands u image) (load_unique s t (page_at old.contents load_body) (zero ∙ p.load) loaded)
    (job_slot slot s first.contents image p.job all (λ less opened. record {
      pass = pass;
      loads = loads;
      body = record { fits = fits; page_is = d'.pages (slot_body slot) (λ e. omega (arith, e)) ∙ body };
      known = p.known;
      soon = (let now = p.now in omega (arith, now));
      moved = λ now form is. subst₂
          (λ (target input : ℕ → List ℕ). HoldsFirstLoads s form loads target (all_passed (take pass p.job.forms) input))
          (sym (recs_same (InSlot slot) s (area_after pass) first.contents image all))
          (sym (recs_same (InSlot slot) s Input first.contents image all)) (p.moved form is);
    }))))
