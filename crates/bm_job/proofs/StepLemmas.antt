-- A job that is open with its progress, after a load is moved and after its progress is made durable.
use Rattle.std.proofs.Common.{◌≡◌, ◌≢◌, inl, inr, ℕ, ◌+◌, ◌-◌, ◌*◌, ◌^◌, ◌<◌, ◌≤◌, Some, List, length, take, slice_get, refl, sym, ◌∙◌, ap}
use Rattle.std.proofs.Common.{subst, arith}
use Rattle.std.proofs.Math.Path.{subst₂}
use Rattle.std.proofs.Math.Nat.{mul_comm}
use Rattle.std.proofs.lemmas.Bool.{cases_eq}
use Rattle.std.proofs.lemmas.Option.{get_or_from_slice_get}
use Rattle.bm_base.specs.declared.shape.Shape.{Shape}
use Rattle.bm_base.specs.Area.{area_after}
use Rattle.bm_base.specs.Contents.{Contents, RackUnit, block_unit, page_unit, page_at, HasSizes}
use Rattle.bm_base.specs.Gate.{IsOpenGate}
use Rattle.bm_base.specs.Records.{record_at, SameRecords}
use Rattle.bm_base.specs.Butterfly.{butterflies}
use Rattle.bm_base.specs.Shape.{dims_of, loads_of}
use Rattle.bm_base.proofs.AreaLemmas.{areas_apart}
use Rattle.bm_gf2.specs.declared.affine.Affine.{Affine}
use Rattle.bm_gf2.specs.Affine.{affine_image}
use Rattle.bm_forms.specs.declared.job.Job.{Job}
use Rattle.bm_forms.specs.declared.pass_form.PassForm.{PassForm}
use Rattle.bm_forms.specs.Permutation.{permuted}
use Rattle.bm_forms.specs.PassForm.{passed}
use Rattle.bm_forms.specs.Plan.{all_passed}
use Rattle.bm_forms.proofs.PassFormLemmas.{fits_of_shape, passed-same}
use Rattle.bm_forms.proofs.PlanLemmas.{all_passed-more}
use Rattle.bm_rack.specs.RackView.{RackView, IsClean}
use Rattle.bm_rack.specs.Calls.{IsPage}
use Rattle.bm_rack.specs.Frames.{ChangesOnly, DirtiesOnly}
use Rattle.bm_rack.proofs.FrameLemmas.{ChangesOnly-wider}
use Rattle.bm_stripe.specs.Units.{IsAreaUnit}
use Rattle.bm_pass.specs.LoadMove.{LoadMoved, LoadsMoved, IsTargetUnit}
use Rattle.bm_pass.proofs.PassLemmas.{IsTargetUnit-area, image_below_records, source_stays, LoadsMoved-more, LoadsMoved-same}
use Rattle.bm_pass.proofs.PassLemmas.{LoadsMoved-all}
use Rattle.bm_control.specs.Bodies.{part_page, PartBodyFits, IsJobBody, IsPassBody, IsPartBody}
use Rattle.bm_control.specs.Consistent.{input_of, HoldsFirstLoads, JobStands}
use Rattle.bm_control.specs.Moments.{PassIsDone, PartIsMoved}
use Rattle.bm_control.specs.Pages.{pass_body, pass_gate, slot_body, slot_gate}
use Rattle.bm_control.specs.PageCalls.{IsSlotPage}
use Rattle.bm_control.specs.Progress.{Counts}
use Rattle.bm_control.specs.Sound.{IsSound}
use Rattle.bm_control.proofs.ImageLemmas.{DiffersIn}
use Rattle.bm_control.proofs.JobStandsLemmas.{recs_same, element}
use Rattle.bm_control.proofs.StateLemmas.{part_unique}
use Rattle.bm_job.specs.Follows.{IsNext, AreMoved, IsHeld}
use Rattle.bm_control.proofs.UniqueLemmas.{pass_map_unique, pass_low_unique}
use Rattle.bm_job.proofs.HeldLemmas.{stands_at}

-- what a pass makes rests on its numbers
passed_numbers : (p q : PassForm) (xs : ℕ → List ℕ) → p.low ≡ q.low → p.map.map ≡ q.map.map → passed p xs ≡ passed q xs
passed_numbers p q xs low map =
    ap (λ (f : Affine). permuted f (butterflies p.low xs)) map ∙ ap (λ (l : ℕ). permuted q.map.map (butterflies l xs)) low

-- what is moved by one form of a body is moved by the other
pub moved_by : (s : Shape) (done loads : ℕ) (v : Contents) (form other : PassForm) (target source : ℕ → List ℕ) → IsNext s done v form
    → IsNext s done v other
    → HoldsFirstLoads s form loads target (passed form source) → HoldsFirstLoads s other loads target (passed other source)
moved_by s done loads v form other target source next also moved x below =
    let map = pass_map_unique s done (page_at v (pass_body done)) form other next also in
    let low = pass_low_unique s done (page_at v (pass_body done)) form other next also in
    subst₂ (λ (f : Affine) (made : ℕ → List ℕ). target (affine_image f x) ≡ made (affine_image f x)) map
    (passed_numbers form other source low map) (moved x below)

-- one load more is moved
pub moved_more : (s : Shape) (done load : ℕ) (form : PassForm) (old new : RackView) → IsNext s done old.contents form
    → load < 2 ^ (s.n - s.m)
    → ChangesOnly (IsTargetUnit s form (area_after (done + 1)) load) old new → AreMoved s done load old.contents
    → LoadMoved s form (area_after done) (area_after (done + 1)) load old.contents new.contents → AreMoved s done (load + 1) new.contents
moved_more s done load form old new next inside only moved one other also =
    let from = area_after done in
    let to = area_after (done + 1) in
    let wide = ChangesOnly-wider (IsTargetUnit s form to load) (IsAreaUnit s to) old new
    (λ u. IsTargetUnit-area s form to load u next.of_shape) only in
    let source = source_stays s from to old new (areas_apart done) wide in
    let before : LoadsMoved s form from to load old.contents old.contents =
    (λ x below. moved form next x (let turned = mul_comm load (2 ^ s.m) in omega (arith, below, turned))) in
    let more = LoadsMoved-more s form from to load old.contents old new next.of_shape inside (λ z below. refl) only before one in
    let now = LoadsMoved-same s form from to (load + 1) old.contents new.contents new.contents next.of_shape
    (λ z below. sym (source z below)) more in
    let page : page_at new.contents (pass_body done) ≡ page_at old.contents (pass_body done) = only.contents (page_unit (pass_body done))
    (λ is. IsTargetUnit-area s form to load (page_unit (pass_body done)) next.of_shape is) in
    let next' : IsNext s done new.contents form = subst (λ (p : List ℕ). IsPassBody s done p form) (sym page) next in
    moved_by s done (load + 1) new.contents form other (record_at new.contents s to) (record_at new.contents s from) next' also
    (λ x below. now x (let turned = mul_comm (load + 1) (2 ^ s.m) in omega (arith, below, turned)))

-- the pass under way makes of the records that it reads what the first passes make of the input
pub next_passed : (s : Shape) (v : Contents) (j : JobStands s v) (form : PassForm) → j.done < length j.forms
    → slice_get j.forms j.done ≡ Some form
    → SameRecords (2 ^ s.n) (passed form (record_at v s (area_after j.done))) (all_passed (take (j.done + 1) j.forms) (input_of v s))
next_passed s v j form left is x below =
    let body = j.bodies j.done form is in
    passed-same s.n form (record_at v s (area_after j.done)) (all_passed (take j.done j.forms) (input_of v s))
    (fits_of_shape s form s.keeps.memory body.of_shape) j.work x below
    ∙ ap (λ (f : PassForm). passed f (all_passed (take j.done j.forms) (input_of v s)) x)
    (sym (get_or_from_slice_get j.forms j.done form form is))
    ∙ ap (λ (made : ℕ → List ℕ). made x) (sym (all_passed-more j.forms j.done form (input_of v s) left))

-- all loads of the pass under way are moved
pub pass_done : (s : Shape) (job : Job) (passes done every part slot loads : ℕ) (v : RackView) → v.stands ≡ Some (dims_of s)
    → HasSizes (dims_of s) v.contents
    → IsHeld s job passes done every part slot v → done < passes → loads ≡ 2 ^ (s.n - s.m) → AreMoved s done loads v.contents
    → PassIsDone v.contents done
pass_done s job passes done every part slot loads v stands sizes held left all moved =
    let at = stands_at s job passes done every part slot v stands sizes held in
    let j = at.job in
    let below : j.done < length j.forms = omega (arith, left, at.done_is, at.passes_are) in
    let next = element j.forms j.done below in
    let body = j.bodies j.done next.0 next.1 in
    let moved' = subst (λ (d : ℕ). AreMoved s d loads v.contents) (sym at.done_is) moved in
    let made = LoadsMoved-all s next.0 (area_after j.done) (area_after (j.done + 1)) loads v.contents v.contents body.of_shape all
    (λ x h. moved' next.0 body x (let turned = mul_comm loads (2 ^ s.m) in omega (arith, h, turned))) in
    subst (PassIsDone v.contents) at.done_is (record {
      shape = s;
      load = held.load_body;
      gate = held.job_gate;
      job = j;
      now = refl;
      below = below;
      records = λ x h. made x h ∙ next_passed s v.contents j next.0 below next.1 x h;
    })

-- some loads of it are
pub part_moved : (s : Shape) (job : Job) (passes done every part slot loads : ℕ) (v : RackView) → v.stands ≡ Some (dims_of s)
    → HasSizes (dims_of s) v.contents
    → IsHeld s job passes done every part slot v → done < passes → every < loads_of s → AreMoved s done loads v.contents
    → PartIsMoved s v.contents (done + 1) loads
part_moved s job passes done every part slot loads v stands sizes held left less moved =
    let at = stands_at s job passes done every part slot v stands sizes held in
    let j = at.job in
    let below : j.done < length j.forms = omega (arith, left, at.done_is, at.passes_are) in
    let moved' = subst (λ (d : ℕ). AreMoved s d loads v.contents) (sym at.done_is) moved in
    subst (λ (d : ℕ). PartIsMoved s v.contents (d + 1) loads) at.done_is (record {
      load = held.load_body;
      gate = held.job_gate;
      job = j;
      parts = subst (λ (e : ℕ). e < loads_of s) (sym at.every_is) less;
      now = refl;
      known = omega (arith, below);
      moved = λ form is x h.
          let body = j.bodies j.done form is in
          moved' form body x h ∙ next_passed s v.contents j form below is (affine_image form.map.map x)
          (image_below_records s form x body.of_shape);
    })

-- pages alone are changed
pub pages_differ : (P : RackUnit → Type 0) (old new : RackView) → DirtiesOnly P old new → ((disk place : ℕ) → ¬ P (block_unit disk place))
    → DiffersIn (λ k. P (page_unit k)) old.contents new.contents
pages_differ P old new w blocks = record {
  blocks = λ disk place. w.contents (block_unit disk place) (blocks disk place);
  pages = λ k not. w.contents (page_unit k) not;
}

-- what is moved stays moved where pages alone are changed
pub moved_kept : (P : ℕ → Type 0) (s : Shape) (done loads : ℕ) (a b : Contents) → DiffersIn P a b → ¬ P (pass_body done)
    → AreMoved s done loads a
    → AreMoved s done loads b
moved_kept P s done loads a b d not moved form next =
    subst₂ (λ (target source : ℕ → List ℕ). HoldsFirstLoads s form loads target (passed form source))
    (sym (recs_same P s (area_after (done + 1)) a b d)) (sym (recs_same P s (area_after done) a b d))
    (moved form (subst (λ (p : List ℕ). IsPassBody s done p form) (d.pages (pass_body done) not) next))

-- no load of a pass is moved at its start
pub moved_none : (s : Shape) (done : ℕ) (v : Contents) → AreMoved s done 0 v
moved_none s done v form next x below = absurd (let none : 0 * 2 ^ s.m ≡ 0 = omega arith in omega (arith, below, none))

-- a slot that counts, where its pages are as before
pub counts_same : (s : Shape) (done slot loads : ℕ) (a b : Contents) → page_at b (slot_gate slot) ≡ page_at a (slot_gate slot)
    → page_at b (slot_body slot) ≡ page_at a (slot_body slot) → Counts s b done slot loads → Counts s a done slot loads
counts_same s done slot loads a b gate body c = record {
  opened = sym gate ∙ c.opened;
  body = subst (λ (p : List ℕ). IsPartBody s p (done + 1) loads) body c.body;
}

-- the gate of the pass under way is open now, and nothing is dirty
pub held_finished : (s : Shape) (job : Job) (passes done every part slot : ℕ) (old new : RackView) → old.stands ≡ Some (dims_of s)
    → HasSizes (dims_of s) old.contents → IsHeld s job passes done every part slot old → done < passes → passes ≤ 254
    → DirtiesOnly (IsPage (pass_gate done)) old new → IsClean new → IsOpenGate (page_at new.contents (pass_gate done)) → IsSound new
    → IsHeld s job passes (done + 1) every 0 2 new
held_finished s job passes done every part slot old new stands sizes held left few w clean gate sound = record {
  sound = sound;
  attached = w.attached ∙ held.attached;
  outside = λ u not. clean u;
  durable = λ form next x below. clean _;
  load_body = same 0 (omega arith) ∙ held.load_body;
  load_gate = same 1 (omega arith) ∙ held.load_gate;
  job_gate = same 3 (omega arith) ∙ held.job_gate;
  body = subst (λ (p : List ℕ). IsJobBody s p job passes every) (sym (same 2 (omega arith))) held.body;
  gates = record {
    few = omega (arith, left);
    opened = λ i h. elim (cases_eq i done) [
      | inl here ↦ subst (λ (x : ℕ). IsOpenGate (page_at new.contents (pass_gate x))) (sym here) gate
      | inr other ↦ page (pass_gate i) (λ e. omega (arith, e, other)) ∙ held.gates.opened i (omega (arith, h, other))
    ];
    closed = λ i from h opened. held.gates.closed i (omega (arith, from)) h (sym (page (pass_gate i) (λ e. omega (arith, e, from)))
        ∙ opened);
  };
  counted = record {
    none = λ whole. refl;
    range = omega arith;
    nothing = λ is. refl;
    counts = λ less. absurd (omega (arith, less));
    most = λ less other loads h c. absurd (too_late less other loads h c);
    first = λ is. absurd (omega (arith, is));
  };
}
  where
    page : (k : ℕ) → k ≢ pass_gate done → page_at new.contents k ≡ page_at old.contents k
    page k not = w.contents (page_unit k) not

    same : (k : ℕ) → k < 4 → page_at new.contents k ≡ page_at old.contents k
    same k h = page k (λ e. omega (arith, e, h))

    too_late : every < loads_of s → (other loads : ℕ) → other < 2 → ¬ Counts s new.contents (done + 1) other loads
    too_late less other loads h c =
        let at = stands_at s job passes done every part slot old stands sizes held in
        let c' = counts_same s (done + 1) other loads old.contents new.contents (page (slot_gate other) (λ e. omega (arith, e, left, few)))
        (page (slot_body other) (λ e. omega (arith, e, left, few))) c in
        let t = at.job.slots (subst (λ (x : ℕ). x < loads_of s) (sym at.every_is) less) other h c'.opened in
        let is = (part_unique s (page_at old.contents (slot_body other)) t.pass t.loads (done + 1 + 1) loads t.body c'.body).0 in
        let soon = t.soon in
        omega (arith, is, soon, at.done_is)

-- a slot counts more loads now, and nothing is dirty
pub held_marked : (s : Shape) (job : Job) (passes done every part slot loads free : ℕ) (old new : RackView)
    → IsHeld s job passes done every part slot old
    → done < passes → passes ≤ 254 → every < loads_of s → PartBodyFits s (done + 1) loads → part < loads → free < 2
    → DirtiesOnly (IsSlotPage free) old new → IsClean new → IsOpenGate (page_at new.contents (slot_gate free))
    → page_at new.contents (slot_body free) ≡ part_page (done + 1) loads → IsSound new → IsHeld s job passes done every loads free new
held_marked s job passes done every part slot loads free old new held left few less fits more slot_few w clean gate body sound = record {
  sound = sound;
  attached = w.attached ∙ held.attached;
  outside = λ u not. clean u;
  durable = λ form next x below. clean _;
  load_body = same 0 (omega arith) ∙ held.load_body;
  load_gate = same 1 (omega arith) ∙ held.load_gate;
  job_gate = same 3 (omega arith) ∙ held.job_gate;
  body = subst (λ (p : List ℕ). IsJobBody s p job passes every) (sym (same 2 (omega arith))) held.body;
  gates = record {
    few = held.gates.few;
    opened = λ i h. same (pass_gate i) (omega (arith, h, left, few)) ∙ held.gates.opened i h;
    closed = λ i from h opened. held.gates.closed i from h (sym (same (pass_gate i) (omega (arith, h, few))) ∙ opened);
  };
  counted = record {
    none = λ whole. absurd (omega (arith, whole, less));
    range = omega (arith, slot_few);
    nothing = λ is. absurd (omega (arith, is, slot_few));
    counts = λ h. record { opened = gate; body = record { fits = fits; page_is = body } };
    most = λ _ other count h c. (slot_few, most other count h c);
    first = λ is c. (let e = (held.counted.most less 0 loads (omega arith) (counts_before 0 loads (λ z. omega (arith, z, is)) c)).1 in omega
        (arith, e, more));
  };
}
  where
    same : (k : ℕ) → k < 512 → page_at new.contents k ≡ page_at old.contents k
    same k h = w.contents (page_unit k) (late k h)
      where
        late : (k : ℕ) → k < 512 → ¬ IsSlotPage free (page_unit k)
        late k h (inl is) = omega (arith, is, h)
        late k h (inr is) = omega (arith, is, h)

    apart_body : (other : ℕ) → other ≢ free → ¬ IsSlotPage free (page_unit (slot_body other))
    apart_body other not (inl is) = not (omega (arith, is))
    apart_body other not (inr is) = omega (arith, is)

    apart_gate : (other : ℕ) → other ≢ free → ¬ IsSlotPage free (page_unit (slot_gate other))
    apart_gate other not (inl is) = omega (arith, is)
    apart_gate other not (inr is) = not (omega (arith, is))

    counts_before : (other count : ℕ) → other ≢ free → Counts s new.contents done other count → Counts s old.contents done other count
    counts_before other count not = counts_same s done other count old.contents new.contents
        (w.contents (page_unit (slot_gate other)) (apart_gate other not)) (w.contents (page_unit (slot_body other)) (apart_body other not))

    most : (other count : ℕ) → other < 2 → Counts s new.contents done other count → count ≤ loads
    most other count h c = elim (cases_eq other free) [
      | inl here ↦
          let is = (part_unique s (page_at new.contents (slot_body free)) (done + 1) loads (done + 1) count
          (record { fits = fits; page_is = body })
          (subst (λ (x : ℕ). IsPartBody s (page_at new.contents (slot_body x)) (done + 1) count) here c.body)).1 in
          omega (arith, is)
      | inr not ↦ (let e = (held.counted.most less other count h (counts_before other count not c)).1 in omega (arith, e, more))
    ]
