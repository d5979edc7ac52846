-- A turn as a whole: what it leaves as it was, at each exit.
use Rattle.std.proofs.Common.{◌≡◌, ◌≢◌, ◌⊎◌, inl, inr, ℕ, ◌<◌, ◌≤◌, Bool, false, IsTrue, Some, Result, Ok, Err, IfOk, refl, sym, ◌∙◌, ap}
use Rattle.std.proofs.Common.{arith}
use Rattle.std.proofs.lemmas.Bool.{cases_lt, cases_eq, eq-eqb, ne_eqb}
use Rattle.bm_base.specs.declared.dims.Dims.{Dims}
use Rattle.bm_base.specs.Contents.{Contents, RackUnit, block_unit, page_unit, HasSizes}
use Rattle.bm_base.specs.Shape.{dims_of}
use Rattle.bm_forms.specs.declared.pass_form.PassForm.{PassForm}
use Rattle.bm_rack.specs.RackView.{RackView}
use Rattle.bm_rack.specs.Frames.{DirtiesOnly}
use Rattle.bm_rack.specs.Image.{IsImage, IsInputUnit, SameInput}
use Rattle.bm_control.specs.Progress.{IsGone}
use Rattle.bm_control.proofs.EqualLemmas.{one_outcome}
use Rattle.bm_job.specs.declared.answers.RunError.{RunError}
use Rattle.bm_job.specs.declared.machine.Machine.{Machine}
use Rattle.bm_job.specs.Follows.{IsNext, Follows, loads_counted}
use Rattle.bm_job.specs.Turns.{free_slot, KeepsForm, HasRead, IsTurnUnit}
use Rattle.bm_job.proofs.RangeLemmas.{few_passes}
use Rattle.bm_job.proofs.HeldLemmas.{stands_at, input_outside}
use Rattle.bm_control.proofs.JobStandsLemmas.{element}
use Rattle.bm_job.proofs.CountedLemmas.{KeepsPages, counted_stays}
use Rattle.bm_control.specs.Pages.{pass_gate, slot_body, slot_gate}

-- a pass is left where not all are done
pub left_of : (finished : Bool) (done passes : ℕ) → finished ≡ false → (done ≡ passes → IsTrue finished) → done ≤ passes → done < passes
left_of finished done passes not all few = elim (cases_lt done passes) [
  | inl less ↦ less
  | inr more ↦ absurd (one_outcome finished (all (omega (arith, more, few))) not)
]

-- a refusal of one call is that of another
pub refusal_of : {T U E : Type 0} (e f : E) → ◌≡◌ {A = Result T E} (Err e) (Err f) → ◌≡◌ {A = Result U E} (Err e) (Err f)
refusal_of e f is = (let same : e ≡ f = cc in ap Err same)

-- the slot that is written is not the counted one
free_apart : (slot : ℕ) → free_slot slot ≢ slot
free_apart slot is = elim (cases_eq slot 0) [
  | inl zero ↦ (let one : free_slot slot ≡ 1 = rw (eq-eqb slot 0 zero) refl in omega (arith, one, zero, is))
  | inr not ↦ (let none : free_slot slot ≡ 0 = rw (ne_eqb slot 0 not) refl in not (sym is ∙ none))
]

-- the pages that a turn may write
turn_page : (m : Machine) (k : ℕ) → IsTurnUnit m (page_unit k) → (k ≡ pass_gate m.done)
    ⊎ ((k ≡ slot_body (free_slot m.slot)) ⊎ (k ≡ slot_gate (free_slot m.slot)))
turn_page m k (inl is) = absurd is
turn_page m k (inr (inl is)) = inl is
turn_page m k (inr (inr is)) = inr is

-- an image at the end has the other pages as they were
pub keeps_pages : (m : Machine) (old new : RackView) (dims : Dims) (image : Contents) → Follows m old → m.done < m.passes
    → DirtiesOnly (IsTurnUnit m) old new → IsImage dims new image
    → KeepsPages (λ k. IsTurnUnit m (page_unit k)) m.passes m.done m.slot old.contents image
keeps_pages m old new dims image follows left w i = record {
  pages = λ k not. i.clean (page_unit k) (w.dirty (page_unit k) not (follows.held.outside (page_unit k) (λ left is. is)))
      ∙ w.contents (page_unit k) not;
  front = λ k h is. elim (turn_page m k is) [
    | inl e ↦ omega (arith, e, h)
    | inr (inl e) ↦ omega (arith, e, h)
    | inr (inr e) ↦ omega (arith, e, h)
  ];
  gates = λ k h other is. elim (turn_page m (pass_gate k) is) [
    | inl e ↦ other (omega (arith, e))
    | inr (inl e) ↦ omega (arith, e)
    | inr (inr e) ↦ omega (arith, e, h, few)
  ];
  slot_body_kept = λ h is. elim (turn_page m (slot_body m.slot) is) [
    | inl e ↦ omega (arith, e, left, few)
    | inr (inl e) ↦ free_apart m.slot (omega (arith, e))
    | inr (inr e) ↦ omega (arith, e)
  ];
  slot_gate_kept = λ h is. elim (turn_page m (slot_gate m.slot) is) [
    | inl e ↦ omega (arith, e, left, few)
    | inr (inl e) ↦ omega (arith, e)
    | inr (inr e) ↦ free_apart m.slot (omega (arith, e))
  ];
}
  where
    few : m.passes ≤ 254
    few = few_passes m.shape m.job m.passes m.done m.every m.part m.slot m.load m.keeps

-- no stop loses what is counted
pub turn_sure : (m : Machine) (old new : RackView) (dims : Dims) (image : Contents) (gone : ℕ) → Follows m old → m.done < m.passes
    → DirtiesOnly (IsTurnUnit m) old new
    → IsImage dims new image → IsGone image gone → loads_counted m ≤ gone
turn_sure m old new dims image gone follows left w i is =
    counted_stays (λ k. IsTurnUnit m (page_unit k)) m.shape m.job m.passes m.done m.every m.part m.slot old image gone follows.held
    m.keeps.counted.few
    (keeps_pages m old new dims image follows left w i) is

-- and where nothing is done
pub rest_sure : (m : Machine) (v : RackView) (dims : Dims) (image : Contents) (gone : ℕ) → Follows m v → IsImage dims v image
    → IsGone image gone → loads_counted m ≤ gone
rest_sure m v dims image gone follows i is =
    counted_stays (λ k. ⊥) m.shape m.job m.passes m.done m.every m.part m.slot v image gone follows.held m.keeps.counted.few
    (record {
      pages = λ k not. i.clean (page_unit k) (follows.held.outside (page_unit k) (λ left is. is));
      front = λ k h is. is;
      gates = λ k h other is. is;
      slot_body_kept = λ h is. is;
      slot_gate_kept = λ h is. is;
    }) is

-- the input is the same
pub turn_input : (m : Machine) (old new : RackView) → DirtiesOnly (IsTurnUnit m) old new → SameInput (dims_of m.shape) old new
turn_input m old new w = record {
  contents = λ u input. w.contents u (apart u input);
  dirty = λ u input clean. w.dirty u (apart u input) clean;
}
  where
    apart : (u : RackUnit) → IsInputUnit (dims_of m.shape) u → ¬ IsTurnUnit m u
    apart (page_unit k) input is = input
    apart (block_unit disk place) input (inl is) = input_outside m.shape m.done (block_unit disk place) input is
    apart (block_unit disk place) input (inr (inl is)) = is
    apart (block_unit disk place) input (inr (inr is)) = is

-- a pass that is left has a body
pub has_next : (m : Machine) (v : RackView) → v.stands ≡ Some (dims_of m.shape) → HasSizes (dims_of m.shape) v.contents → Follows m v
    → m.done < m.passes
    → (form : PassForm) × IsNext m.shape m.done v.contents form
has_next m v stands sizes follows left =
    let at = stands_at m.shape m.job m.passes m.done m.every m.part m.slot v stands sizes follows.held in
    let next = element at.job.forms m.done (omega (arith, left, at.passes_are)) in
    (next.0, at.job.bodies m.done next.0 next.1)

-- the form that a turn read is the one that it keeps
pub read_of : (old : Machine) (v : Contents) (form : PassForm) (r : Result Machine RunError) → IsNext old.shape old.done v form
    → IfOk r (λ next. KeepsForm form next.form) → IfOk r (λ next. HasRead old next v)
read_of old v form (Ok next) body kept = record { form = form; body = body; kept = kept }
read_of old v form (Err e) body kept = tt
