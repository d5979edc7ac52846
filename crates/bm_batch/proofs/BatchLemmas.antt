-- Bays of a batch, each by its number.
use Rattle.std.proofs.Common.{◌≡◌, inl, inr, ℕ, ◌<◌, Bool, IsTrue, List, [], ◌∷◌, length, map, slice_index_or, slice_set, Some, None}
use Rattle.std.proofs.Common.{refl, sym, ◌∙◌, ap, subst}
use Rattle.std.proofs.Common.{subst₂, arith}
use Rattle.std.proofs.lemmas.Bool.{cases_eq}
use Rattle.std.proofs.lemmas.List.{get_or-map, get_or_default, get_or-set_same, get_or-set_other, length-set}
use Rattle.std.proofs.lemmas.List.Elements.{All-get_or}
use Rattle.std.specs.List.{All}
use Rattle.bm_base.specs.declared.shape.Shape.{Shape}
use Rattle.bm_base.specs.Shape.{dims_of}
use Rattle.bm_rack.specs.RackView.{RackView, IsWellFormed}
use Rattle.bm_rack.specs.Image.{SameInput}
use Rattle.bm_rack.specs.Untold.{untold_view}
use Rattle.bm_job.specs.declared.machine.Machine.{Machine}
use Rattle.bm_job.proofs.RunLemmas.{same_input_none, same_input_then}
use Rattle.bm_batch.specs.declared.bay_slot.BaySlot.{BaySlot}
use Rattle.bm_batch.specs.declared.bay_state.BayState.TheVariants.{Going}
use Rattle.bm_batch.specs.Bays.{IsBayOfShape, BayTurns, BayStep}
use Rattle.bm_batch.specs.Batches.{BatchValue, view_at, AreAttached, BatchFollows, IsNoneGoing, BatchTurns, AreStillSound, AreDone}
use Rattle.bm_batch.specs.Batches.{AreComplete}
use Rattle.bm_batch.proofs.BayLemmas.{turns_none, turns_then, was_going, follows_after, attached_after, input_after, sound_after}
use Rattle.bm_batch.proofs.BayLemmas.{done_after, complete_after}

-- ---- views

-- the view of a bay in a list
pub view_here : {A : Type 0} (view : A → RackView) (bays : List A) (k : ℕ) (d : A) → k < length bays
    → view_at (map view bays) k ≡ view (slice_index_or bays k d)
view_here view bays k d below = get_or-map view bays k d (untold_view None 0 0 0 0) below

-- an element of a list that has one
pub element_of : {A : Type 0} (xs : List A) (k : ℕ) → k < length xs → A
element_of [] k below = absurd (omega (arith, below))
element_of (x ∷ xs) k below = x

-- each is well formed where those of all racks are
pub well_here : {A : Type 0} (view : A → RackView) (ts tc : Bool) (bays : List A) (k : ℕ) → ((y : A) → IsWellFormed ts tc (view y))
    → k < length bays → IsWellFormed ts tc (view_at (map view bays) k)
well_here view ts tc bays k well below =
    let d = element_of bays k below in
    subst (IsWellFormed ts tc) (sym (view_here view bays k d below)) (well (slice_index_or bays k d))

-- ---- one turn

-- turns of a bay by other names
turns_same : (ts tc : Bool) (a b a' b' : BaySlot) (u v u' v' : RackView) → a' ≡ a → b' ≡ b → u' ≡ u → v' ≡ v → BayTurns ts tc a b u v
    → BayTurns ts tc a' b' u' v'
turns_same ts tc a b a' b' u v u' v' first second third fourth x =
    subst₂ (λ (p : RackView) (q : RackView). BayTurns ts tc a' b' p q) (sym third) (sym fourth)
    (subst₂ (λ (p : BaySlot) (q : BaySlot). BayTurns ts tc p q u v) (sym first) (sym second) x)

-- the view of the bay that took it, before and after
pub own_before : {A : Type 0} (view : A → RackView) (at : ℕ) (bays : List A) (rack : A) → at < length bays
    → view_at (map view bays) at ≡ view (slice_index_or bays at rack)
own_before view at bays rack below = view_here view bays at rack below

pub own_after : {A : Type 0} (view : A → RackView) (at : ℕ) (bays : List A) (after : A) → at < length bays
    → view_at (map view (slice_set bays at after)) at ≡ view after
own_after view at bays after below =
    let many = length-set bays at after in
    view_here view (slice_set bays at after) at after (omega (arith, below, many)) ∙ ap view (get_or-set_same bays at after after below)

-- what a turn of one bay did with every bay
pub batch_turned : {A : Type 0} (view : A → RackView) (ts tc : Bool) (s : Shape) (at : ℕ) (slots : List BaySlot) (bays : List A)
    (slot next : BaySlot) (rack after : A) → ((y : A) → IsWellFormed ts tc (view y)) → at < length slots → length bays ≡ length slots
    → slot ≡ slice_index_or slots at slot → All (IsBayOfShape s) slots
    → BayTurns ts tc slot next (view (slice_index_or bays at rack)) (view after)
    → BatchTurns ts tc (record { shape = s; slots = slots }) (record { shape = s; slots = slice_set slots at next })
    (map view bays) (map view (slice_set bays at after))
batch_turned {A} view ts tc s at slots bays slot next rack after well below many slot_is of_shape turns = record {
  shape = refl;
  count = length-set slots at next;
  bays = each;
  input = λ k here. input_after ts tc s (slice_index_or slots k slot) (slice_index_or (slice_set slots at next) k slot)
      (view_at (map view bays) k) (view_at (map view (slice_set bays at after)) k)
      (All-get_or (IsBayOfShape s) slots k slot here of_shape) (each k slot here);
}
  where
    Turned : ℕ → BaySlot → Type 0
    Turned j d = BayTurns ts tc (slice_index_or slots j d) (slice_index_or (slice_set slots at next) j d) (view_at (map view bays) j)
        (view_at (map view (slice_set bays at after)) j)

    set_many : length (slice_set bays at after) ≡ length bays
    set_many = length-set bays at after

    own : (d : BaySlot) → Turned at d
    own d = turns_same ts tc slot next _ _ (view (slice_index_or bays at rack)) (view after) _ _
        (get_or_default slots at d slot below ∙ sym slot_is) (get_or-set_same slots at next d below)
        (own_before view at bays rack (omega (arith, below, many))) (own_after view at bays after (omega (arith, below, many))) turns

    each : (k : ℕ) (d : BaySlot) → k < length slots → Turned k d
    each k d here = elim (cases_eq k at) [
      | inl same ↦ subst (λ (j : ℕ). Turned j d) (sym same) (own d)
      | inr other ↦ turns_same ts tc _ _ _ _ _ _ _ _ refl (get_or-set_other slots at k next d other) refl
          (view_here view (slice_set bays at after) k rack (omega (arith, here, many, set_many))
          ∙ ap view (get_or-set_other bays at k after rack other) ∙ sym (view_here view bays k rack (omega (arith, here, many))))
          (turns_none ts tc (slice_index_or slots k d) (view_at (map view bays) k)
          (well_here view ts tc bays k well (omega (arith, here, many))))
    ]

-- and the step of that bay
pub batch_step : {A : Type 0} (view : A → RackView) (ts tc : Bool) (at : ℕ) (slots : List BaySlot) (bays : List A) (m : Machine)
    (next d : BaySlot) (rack after : A) → at < length slots → length bays ≡ length slots
    → BayStep ts tc m next (view (slice_index_or bays at rack)) (view after)
    → BayStep ts tc m (slice_index_or (slice_set slots at next) at d) (view_at (map view bays) at)
    (view_at (map view (slice_set bays at after)) at)
batch_step view ts tc at slots bays m next d rack after below many step =
    subst₂ (λ (p : RackView) (q : RackView). BayStep ts tc m (slice_index_or (slice_set slots at next) at d) p q)
    (sym (own_before view at bays rack (omega (arith, below, many)))) (sym (own_after view at bays after (omega (arith, below, many))))
    (subst (λ (x : BaySlot). BayStep ts tc m x (view (slice_index_or bays at rack)) (view after))
    (sym (get_or-set_same slots at next d below)) step)

-- ---- the conditions of the turn

-- its slot is of the shape
pub own_shape : (s : Shape) (slots : List BaySlot) (at : ℕ) (slot : BaySlot) → All (IsBayOfShape s) slots → at < length slots
    → slot ≡ slice_index_or slots at slot → IsBayOfShape s slot
own_shape s slots at slot all below slot_is = subst (IsBayOfShape s) (sym slot_is) (All-get_or (IsBayOfShape s) slots at slot below all)

-- its rack is attached
pub own_attached : {A : Type 0} (view : A → RackView) (s : Shape) (slots : List BaySlot) (bays : List A) (at : ℕ) (slot : BaySlot)
    (rack : A) (m : Machine) → All (IsBayOfShape s) slots → at < length slots → length bays ≡ length slots
    → slot ≡ slice_index_or slots at slot → AreAttached (record { shape = s; slots = slots }) (map view bays) → slot.state ≡ Going
    → slot.machine ≡ Some m → (view (slice_index_or bays at rack)).attached ≡ Some (dims_of m.shape)
own_attached view s slots bays at slot rack m all below many slot_is attached going machine =
    ap (λ (v : RackView). v.attached) (sym (own_before view at bays rack (omega (arith, below, many))))
    ∙ attached at slot below (ap (λ (x : BaySlot). x.state) (sym slot_is) ∙ going)
    ∙ ap (λ (t : Shape). Some (dims_of t)) (sym (own_shape s slots at slot all below slot_is m machine))

-- ---- turns in a row

-- no turn
pub batch_none : {A : Type 0} (view : A → RackView) (ts tc : Bool) (b : BatchValue) (bays : List A)
    → ((y : A) → IsWellFormed ts tc (view y)) → length bays ≡ length b.slots → BatchTurns ts tc b b (map view bays) (map view bays)
batch_none view ts tc b bays well many = record {
  shape = refl;
  count = refl;
  bays = λ k d here. turns_none ts tc (slice_index_or b.slots k d) (view_at (map view bays) k)
      (well_here view ts tc bays k well (omega (arith, here, many)));
  input = λ k here. same_input_none b.shape (view_at (map view bays) k);
}

-- turns after others
pub batch_then : (ts tc : Bool) (a b c : BatchValue) (u v w : List RackView) → BatchTurns ts tc a b u v → BatchTurns ts tc b c v w
    → BatchTurns ts tc a c u w
batch_then ts tc a b c u v w x y = record {
  shape = y.shape ∙ x.shape;
  count = y.count ∙ x.count;
  bays = λ k d here. turns_then ts tc _ _ _ _ _ _ (x.bays k d here) (y.bays k d (let many = x.count in omega (arith, here, many)));
  input = λ k here. same_input_then a.shape (view_at u k) (view_at v k) (view_at w k) (x.input k here)
      (subst (λ (s : Shape). SameInput (dims_of s) (view_at v k) (view_at w k)) x.shape
      (y.input k (let many = x.count in omega (arith, here, many))));
}

-- ---- what turns leave

pub batch_follows : (ts tc : Bool) (a b : BatchValue) (u v : List RackView) → IsTrue ts → IsTrue tc → BatchTurns ts tc a b u v
    → BatchFollows a u → BatchFollows b v
batch_follows ts tc a b u v told_stands told_contents x follows k d here =
    let there : k < length a.slots = (let many = x.count in omega (arith, here, many)) in
    follows_after ts tc (slice_index_or a.slots k d) (slice_index_or b.slots k d) (view_at u k) (view_at v k) told_stands told_contents
    (x.bays k d there) (follows k d there)

pub batch_attached : (ts tc : Bool) (a b : BatchValue) (u v : List RackView) → BatchTurns ts tc a b u v → AreAttached a u → AreAttached b v
batch_attached ts tc a b u v x attached k d here going =
    let there : k < length a.slots = (let many = x.count in omega (arith, here, many)) in
    let turns = x.bays k d there in
    attached_after ts tc (slice_index_or a.slots k d) (slice_index_or b.slots k d) (view_at u k) (view_at v k) turns
    ∙ attached k d there (was_going ts tc (slice_index_or a.slots k d) (slice_index_or b.slots k d) (view_at u k) (view_at v k) turns going)
    ∙ ap (λ (s : Shape). Some (dims_of s)) (sym x.shape)

pub batch_sound : (ts tc : Bool) (a b : BatchValue) (u v : List RackView) → IsTrue ts → IsTrue tc → BatchTurns ts tc a b u v
    → BatchFollows a u → AreStillSound a u v
batch_sound ts tc a b u v told_stands told_contents x follows k here =
    let d = element_of a.slots k here in
    sound_after ts tc (slice_index_or a.slots k d) (slice_index_or b.slots k d) (view_at u k) (view_at v k) told_stands told_contents
    (x.bays k d here) (follows k d here)

pub batch_done : {A : Type 0} (view : A → RackView) (ts tc : Bool) (a b : BatchValue) (u : List RackView) (bays : List A)
    → IsTrue ts → IsTrue tc → ((y : A) → IsWellFormed ts tc (view y)) → length bays ≡ length a.slots
    → BatchTurns ts tc a b u (map view bays) → BatchFollows a u → AreDone a b u (map view bays)
batch_done view ts tc a b u bays told_stands told_contents well many x follows k d here on finished n machine =
    done_after ts tc (slice_index_or a.slots k d) (slice_index_or b.slots k d) (view_at u k) (view_at (map view bays) k) told_stands
    told_contents (well_here view ts tc bays k well (omega (arith, here, many))) (x.bays k d here) (follows k d here) on finished n
    machine

pub batch_complete : (ts tc : Bool) (a b : BatchValue) (u v : List RackView) → IsTrue ts → IsTrue tc → BatchTurns ts tc a b u v
    → BatchFollows a u → IsNoneGoing b.slots → AreComplete a b u v
batch_complete ts tc a b u v told_stands told_contents x follows none k d here on quiet =
    complete_after ts tc (slice_index_or a.slots k d) (slice_index_or b.slots k d) (view_at u k) (view_at v k) told_stands told_contents
    (x.bays k d here) (follows k d here) on (none k d (let many = x.count in omega (arith, here, many))) quiet
