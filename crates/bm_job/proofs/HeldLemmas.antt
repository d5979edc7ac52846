-- A job that is open with its progress, while a load of its pass under way is moved.
use Rattle.std.proofs.Common.{◌≡◌, ◌≢◌, ℕ, ◌+◌, ◌-◌, ◌*◌, ◌%◌, ◌^◌, ◌<◌, ◌≤◌, Bool, false, Some, List, length, sym, ◌∙◌}
use Rattle.std.proofs.Common.{ap, subst, arith}
use Rattle.std.proofs.Math.Nat.{mul_comm, mul-le-mul_right}
use Rattle.std.specs.Fork.{slice_chunk}
use Rattle.bm_base.specs.declared.dims.Dims.{Dims}
use Rattle.bm_base.specs.declared.shape.Shape.{Shape}
use Rattle.bm_base.specs.declared.area.Area.{Area}
use Rattle.bm_base.specs.declared.area.Area.TheVariants.{Input}
use Rattle.bm_base.specs.Area.{area_after}
use Rattle.bm_base.specs.Contents.{Contents, RackUnit, page_unit, unit_at, page_at, HasSizes}
use Rattle.bm_base.specs.Records.{record_at}
use Rattle.bm_base.specs.Shape.{dims_of, loads_of}
use Rattle.bm_base.proofs.AreaLemmas.{target_no_input, areas_apart}
use Rattle.bm_gf2.specs.Affine.{affine_image}
use Rattle.bm_forms.specs.declared.job.Job.{Job}
use Rattle.bm_forms.specs.declared.pass_form.PassForm.{PassForm}
use Rattle.bm_forms.specs.PassForm.{IsOfShape}
use Rattle.bm_rack.specs.RackView.{RackView}
use Rattle.bm_rack.specs.Image.{IsImage, IsInputUnit}
use Rattle.bm_rack.specs.Frames.{ChangesOnly, SameState}
use Rattle.bm_stripe.specs.Units.{IsAreaUnit, record_unit}
use Rattle.bm_stripe.proofs.UnitLemmas.{IsAreaUnit-record, IsAreaUnit-apart}
use Rattle.bm_pass.specs.LoadMove.{IsTargetUnit}
use Rattle.bm_pass.proofs.PassLemmas.{IsTargetUnit-area, targets_apart}
use Rattle.bm_control.specs.Bodies.{IsJobBody, IsPassBody}
use Rattle.bm_control.specs.Pages.{load_gate, job_gate, load_body, job_body, pass_body, pass_gate, HasOpenLoad}
use Rattle.bm_control.specs.Pages.{HasOpenJob, HasLoadBody, HasJobBody}
use Rattle.bm_control.specs.Consistent.{GatesAre, JobStands, IsConsistent}
use Rattle.bm_control.specs.Progress.{Counts, IsCounted}
use Rattle.bm_control.proofs.GoneLemmas.{counts_kept}
use Rattle.bm_control.specs.Sound.{IsSound}
use Rattle.bm_control.proofs.ImageLemmas.{image_self}
use Rattle.bm_control.proofs.MomentLemmas.{load_unique}
use Rattle.bm_control.proofs.SoundLemmas.{one_size, sound_same}
use Rattle.bm_job.specs.declared.machine.Machine.{Machine}
use Rattle.bm_job.specs.Follows.{IsNext, AreMoved, IsHeld, Follows}
use Rattle.bm_job.proofs.InputUnitLemmas.{input_unit}
use Rattle.bm_control.proofs.UniqueLemmas.{passes_unique, every_unique, done_unique, pass_map_unique}
use Rattle.bm_job.proofs.KeptJobLemmas.{KeepsJob, job_works_on}

-- contents in which an open job stands with these passes, of which so many are done
pub record StandsAt (s : Shape) (v : Contents) (passes done every : ℕ) : Type 0 where
  pub job : JobStands s v
  pub passes_are : length job.forms ≡ passes
  pub every_is : job.every ≡ every
  pub done_is : job.done ≡ done

pub stands_at : (s : Shape) (job : Job) (passes done every part slot : ℕ) (v : RackView) → v.stands ≡ Some (dims_of s)
    → HasSizes (dims_of s) v.contents
    → IsHeld s job passes done every part slot v → StandsAt s v.contents passes done every
stands_at s job passes done every part slot v stands sizes held =
    let c = held.sound.consistent (dims_of s) stands (dims_of s) v.contents stands (image_self v (dims_of s) sizes) in
    let j = c.job held.job_gate s held.load_body in
    let passes_are : length j.forms ≡ passes = passes_unique s (page_at v.contents job_body) j.job job (length j.forms) passes j.every every
    j.body held.body in
    record {
      job = j;
      passes_are = passes_are;
      every_is = every_unique s (page_at v.contents job_body) j.job job (length j.forms) passes j.every every j.body held.body;
      done_is = done_unique v.contents passes j.done done (subst (λ (p : ℕ). GatesAre v.contents p j.done) passes_are j.gates) held.gates;
    }

-- contents of which so much stays are consistent still
consistent_works_on : (s : Shape) (job : Job) (passes done every part slot : ℕ) (v : RackView) (dims : Dims) (image : Contents)
    → IsHeld s job passes done every part slot v
    → (at : StandsAt s v.contents passes done every) → KeepsJob s done part v.contents image → IsConsistent dims v.contents
    → IsConsistent dims image
consistent_works_on s job passes done every part slot v dims image held at k c = record {
  loaded = λ gate. (let l = c.loaded (sym (k.pages load_gate) ∙ gate) in record {
    shape = l.shape;
    body = k.pages load_body
        ∙ l.body;
    dims_are = l.dims_are;
  });
  after_load = λ gate. k.pages load_gate ∙ c.after_load (sym (k.pages job_gate) ∙ gate);
  job = λ gate t body.
      subst (λ (u : Shape). JobStands u image) (load_unique s t (page_at v.contents load_body) held.load_body (sym (k.pages load_body)
      ∙ body))
      (job_works_on s part v.contents image at.job (subst (λ (d : ℕ). KeepsJob s d part v.contents image) (sym at.done_is) k)
      (λ less other loads h counts.
      (held.counted.most (subst (λ (e : ℕ). e < loads_of s) at.every_is less) other loads h
      (subst (λ (d : ℕ). Counts s v.contents d other loads) at.done_is counts)).1));
}

-- the records of one unit
record_frozen : (s : Shape) (area : Area) (x : ℕ) (a b : Contents) → unit_at b (record_unit s area x) ≡ unit_at a (record_unit s area x)
    → record_at b s area x ≡ record_at a s area x
record_frozen s area x a b same = ap (λ (bytes : List ℕ). slice_chunk bytes s.width (x % 2 ^ s.b)) same

-- a unit that is clean and not written is in every image as before
unit_frozen : (P : RackUnit → Type 0) (old new : RackView) (dims : Dims) (image : Contents) (u : RackUnit) → ChangesOnly P old new
    → IsImage dims new image → ¬ P u
    → old.dirty u ≡ false → unit_at image u ≡ unit_at old.contents u
unit_frozen P old new dims image u only i not clean = i.clean u (only.dirty u not ∙ clean) ∙ only.contents u not

-- records of counted loads are earlier ones than those of the load that is moved
earlier : (s : Shape) (part load x : ℕ) → part ≤ load → x < part * 2 ^ s.m → x < 2 ^ s.m * load
earlier s part load x few below =
    let more : part * 2 ^ s.m ≤ load * 2 ^ s.m = mul-le-mul_right (2 ^ s.m) few in
    let turned : load * 2 ^ s.m ≡ 2 ^ s.m * load = mul_comm load (2 ^ s.m) in
    omega (arith, more, turned, below)

-- a unit outside the target area is in no target
outside_target : (s : Shape) (form : PassForm) (done load : ℕ) (u : RackUnit) → IsOfShape s form → ¬ IsAreaUnit s (area_after (done + 1)) u
    → ¬ IsTargetUnit s form (area_after (done + 1)) load u
outside_target s form done load u of not is = not (IsTargetUnit-area s form (area_after (done + 1)) load u of is)

-- a record of another area is outside the target area
record_outside : (s : Shape) (area : Area) (done x : ℕ) → area ≢ area_after (done + 1) → x < 2 ^ s.n
    → ¬ IsAreaUnit s (area_after (done + 1)) (record_unit s area x)
record_outside s area done x other below is = other
    (IsAreaUnit-apart s area (area_after (done + 1)) (record_unit s area x) (IsAreaUnit-record s area x below) is)

-- the load that is moved is none of those counted
counted_apart : (s : Shape) (done part load : ℕ) (form other : PassForm) (v : Contents) (x : ℕ) → IsNext s done v form
    → IsNext s done v other → part ≤ load
    → load < 2 ^ (s.n - s.m) → x < part * 2 ^ s.m
    → ¬ IsTargetUnit s form (area_after (done + 1)) load (record_unit s (area_after (done + 1)) (affine_image other.map.map x))
counted_apart s done part load form other v x next also few inside below is =
    targets_apart s form (area_after (done + 1)) load x next.of_shape inside (earlier s part load x few below)
    (subst (λ (y : ℕ). IsTargetUnit s form (area_after (done + 1)) load (record_unit s (area_after (done + 1)) y))
    (ap (λ f. affine_image f x) (pass_map_unique s done (page_at v (pass_body done)) other form also next)) is)

-- while a load is moved
keeps_job : (s : Shape) (job : Job) (passes done every part slot load : ℕ) (form : PassForm) (old new : RackView) (dims : Dims)
    (image : Contents)
    → IsHeld s job passes done every part slot old → IsNext s done old.contents form → part ≤ load → load < 2 ^ (s.n - s.m)
    → ChangesOnly (IsTargetUnit s form (area_after (done + 1)) load) old new → IsImage dims new image
    → KeepsJob s done part old.contents image
keeps_job s job passes done every part slot load form old new dims image held next few inside only i = record {
  pages = λ k. frozen (page_unit k) (λ is. is);
  input = λ x below. record_frozen s Input x old.contents image
      (frozen (record_unit s Input x) (record_outside s Input done x (λ e. target_no_input done (sym e)) below));
  work = λ x below. record_frozen s (area_after done) x old.contents image
      (frozen (record_unit s (area_after done) x) (record_outside s (area_after done) done x (areas_apart done) below));
  counted = λ other also x below. record_frozen s (area_after (done + 1)) (affine_image other.map.map x) old.contents image
      (unit_frozen (IsTargetUnit s form (area_after (done + 1)) load) old new dims image _ only i
      (counted_apart s done part load form other old.contents x next also few inside below) (held.durable other also x below));
}
  where
    frozen : (u : RackUnit) → ¬ IsAreaUnit s (area_after (done + 1)) u → unit_at image u ≡ unit_at old.contents u
    frozen u not = unit_frozen (IsTargetUnit s form (area_after (done + 1)) load) old new dims image u only i
        (outside_target s form done load u next.of_shape not) (held.outside u (λ left. not))

-- an input block is outside the target area
pub input_outside : (s : Shape) (done : ℕ) (u : RackUnit) → IsInputUnit (dims_of s) u → ¬ IsAreaUnit s (area_after (done + 1)) u
input_outside s done u input is = target_no_input done (sym (IsAreaUnit-apart s Input (area_after (done + 1)) u (input_unit s u input) is))

-- the rack is sound
sound_working : (s : Shape) (job : Job) (passes done every part slot load : ℕ) (form : PassForm) (old new : RackView)
    → old.stands ≡ Some (dims_of s)
    → HasSizes (dims_of s) old.contents → IsHeld s job passes done every part slot old → IsNext s done old.contents form → part ≤ load
    → load < 2 ^ (s.n - s.m)
    → ChangesOnly (IsTargetUnit s form (area_after (done + 1)) load) old new → IsSound new
sound_working s job passes done every part slot load form old new stands sizes held next few inside only = record {
  consistent = λ dims is dims' image is' i.
      let c = held.sound.consistent dims (sym only.stands ∙ is) (dims_of s) old.contents stands (image_self old (dims_of s) sizes) in
      consistent_works_on s job passes done every part slot old dims image held
      (stands_at s job passes done every part slot old stands sizes held)
      (keeps_job s job passes done every part slot load form old new dims' image held next few inside only i) c;
  input = λ dims image is i gate u input.
      let not = input_outside s done u (subst (λ (d : Dims). IsInputUnit d u) (one_size (sym only.stands ∙ is) stands) input) in
      only.dirty u (outside_target s form done load u next.of_shape not) ∙ held.outside u (λ left. not);
}

-- the next pass is as before
pub next_kept : (s : Shape) (done : ℕ) (a b : Contents) (form : PassForm) → ((k : ℕ) → page_at b k ≡ page_at a k) → IsNext s done b form
    → IsNext s done a form
next_kept s done a b form pages next = subst (λ (p : List ℕ). IsPassBody s done p form) (pages (pass_body done)) next

-- and the job is open with the progress as before, whether the move fails or not
pub held_working : (s : Shape) (job : Job) (passes done every part slot load : ℕ) (form : PassForm) (old new : RackView)
    → old.stands ≡ Some (dims_of s)
    → HasSizes (dims_of s) old.contents → IsHeld s job passes done every part slot old → IsNext s done old.contents form → done < passes
    → part ≤ load
    → load < 2 ^ (s.n - s.m) → ChangesOnly (IsTargetUnit s form (area_after (done + 1)) load) old new
    → IsHeld s job passes done every part slot new
held_working s job passes done every part slot load form old new stands sizes held next left few inside only = record {
  sound = sound_working s job passes done every part slot load form old new stands sizes held next few inside only;
  attached = only.attached ∙ held.attached;
  outside = λ u not. only.dirty u (outside_target s form done load u next.of_shape (not left)) ∙ held.outside u not;
  durable = λ other also x below.
      let was = next_kept s done old.contents new.contents other page also in
      only.dirty (record_unit s (area_after (done + 1)) (affine_image other.map.map x))
      (counted_apart s done part load form other old.contents x next was few inside below)
      ∙ held.durable other was x below;
  load_body = page 0 ∙ held.load_body;
  load_gate = page 1 ∙ held.load_gate;
  job_gate = page 3 ∙ held.job_gate;
  body = subst (λ (p : List ℕ). IsJobBody s p job passes every) (sym (page 2)) held.body;
  gates = record {
    few = held.gates.few;
    opened = λ i h. page (pass_gate i) ∙ held.gates.opened i h;
    closed = λ i from h gate. held.gates.closed i from h (sym (page (pass_gate i)) ∙ gate);
  };
  counted = counted_kept s every done part slot old.contents new.contents page held.counted;
}
  where
    page : (k : ℕ) → page_at new.contents k ≡ page_at old.contents k
    page k = only.contents (page_unit k) (outside_target s form done load (page_unit k) next.of_shape (λ is. is))

    counted_kept : (s : Shape) (every done part slot : ℕ) (a b : Contents) → ((k : ℕ) → page_at b k ≡ page_at a k)
        → IsCounted s a every done part slot
        → IsCounted s b every done part slot
    counted_kept s every done part slot a b pages c = record {
      none = c.none;
      range = c.range;
      nothing = c.nothing;
      counts = λ h. counts_kept s done slot part a b pages (c.counts h);
      most = λ less other loads h counts. c.most less other loads h (counts_kept s done other loads b a (λ k. sym (pages k)) counts);
      first = λ is counts. c.first is (counts_kept s done 0 part b a (λ k. sym (pages k)) counts);
    }

-- nothing but counts changed
pub held_state : (s : Shape) (job : Job) (passes done every part slot : ℕ) (old new : RackView) → SameState old new
    → IsHeld s job passes done every part slot old
    → IsHeld s job passes done every part slot new
held_state s job passes done every part slot old new same held = record {
  sound = sound_same old new same held.sound;
  attached = same.attached ∙ held.attached;
  outside = λ u not. ap (λ (f : RackUnit → Bool). f u) same.dirty ∙ held.outside u not;
  durable = λ form next x below. ap (λ (f : RackUnit → Bool). f (record_unit s (area_after (done + 1)) (affine_image form.map.map x)))
      same.dirty
      ∙ held.durable form (subst (λ (v : Contents). IsNext s done v form) same.contents next) x below;
  load_body = subst (λ (v : Contents). HasLoadBody s v) (sym same.contents) held.load_body;
  load_gate = subst (λ (v : Contents). HasOpenLoad v) (sym same.contents) held.load_gate;
  job_gate = subst (λ (v : Contents). HasOpenJob v) (sym same.contents) held.job_gate;
  body = subst (λ (v : Contents). HasJobBody s v job passes every) (sym same.contents) held.body;
  gates = subst (λ (v : Contents). GatesAre v passes done) (sym same.contents) held.gates;
  counted = subst (λ (v : Contents). IsCounted s v every done part slot) (sym same.contents) held.counted;
}

pub follows_state : (m : Machine) (old new : RackView) → SameState old new → Follows m old → Follows m new
follows_state m old new same follows = record {
  held = held_state m.shape m.job m.passes m.done m.every m.part m.slot old new same follows.held;
  form = λ form is. subst (λ (v : Contents). IsNext m.shape m.done v form) (sym same.contents) (follows.form form is);
  moved = subst (AreMoved m.shape m.done m.load) (sym same.contents) follows.moved;
}
