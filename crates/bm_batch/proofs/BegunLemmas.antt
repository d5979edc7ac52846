-- Bays that are begun in order.
use Rattle.std.proofs.Common.{◌≡◌, inl, inr, ℕ, ◌+◌, ◌<◌, ◌≤◌, Bool, IsTrue, List, [], ◌∷◌, ◌++◌, length, map, slice_index_or, slice_set}
use Rattle.std.proofs.Common.{Some, refl, sym, ◌∙◌}
use Rattle.std.proofs.Common.{ap, subst, subst₂, arith}
use Rattle.std.specs.List.{All}
use Rattle.std.proofs.lemmas.Bool.{cases_eq}
use Rattle.std.proofs.lemmas.List.{get_or_default, get_or-set_other, get_or_push, get_or_append_left, length-set, length_push, length-map}
use Rattle.std.proofs.lemmas.List.Elements.{All-nil, All-push}
use Rattle.bm_base.specs.declared.shape.Shape.{Shape}
use Rattle.bm_base.specs.Shape.{dims_of}
use Rattle.bm_rack.specs.RackView.{RackView}
use Rattle.bm_batch.specs.declared.batch_job.BatchJob.{BatchJob}
use Rattle.bm_batch.specs.declared.bay_slot.BaySlot.{BaySlot}
use Rattle.bm_batch.specs.Bays.{IsBayOfShape, BayBegun}
use Rattle.bm_batch.specs.Batches.{BatchValue, view_at, AreAllAttached, AreAttached, AreSound, BatchFollows, BatchBegun}
use Rattle.bm_batch.proofs.BatchLemmas.{element_of, view_here, own_before, own_after}

-- what a begin of this job did with a bay
abbrev pub IsBegun : Bool → Bool → Shape → BatchJob → BaySlot → RackView → RackView → Type 0
IsBegun ts tc s j slot old new = BayBegun ts tc s j.job (length j.plan.forms) j.every slot old new

-- so many bays are begun, and the others are as they were
pub record BegunTo {A : Type 0} (view : A → RackView) (ts tc : Bool) (s : Shape) (jobs : List BatchJob) (count : ℕ) (slots : List BaySlot)
    (old new : List A) : Type 0 where
  pub count_is : length slots ≡ count
  pub many : length new ≡ length old
  pub of_shape : All (IsBayOfShape s) slots
  pub rest : (k : ℕ) (d : A) → count ≤ k → slice_index_or new k d ≡ slice_index_or old k d
  pub bays : (k : ℕ) (j : BatchJob) (d : BaySlot) → k < count
      → IsBegun ts tc s (slice_index_or jobs k j) (slice_index_or slots k d) (view_at (map view old) k) (view_at (map view new) k)

-- none
pub begun_none : {A : Type 0} (view : A → RackView) (ts tc : Bool) (s : Shape) (jobs : List BatchJob) (bays : List A)
    → BegunTo view ts tc s jobs 0 [] bays bays
begun_none view ts tc s jobs bays = record {
  count_is = refl;
  many = refl;
  of_shape = All-nil (IsBayOfShape s);
  rest = λ k d _. refl;
  bays = λ k j d below. absurd (omega (arith, below));
}

-- a begin by other names
begun_same : (ts tc : Bool) (s : Shape) (j j' : BatchJob) (slot slot' : BaySlot) (u v u' v' : RackView) → j' ≡ j → slot' ≡ slot → u' ≡ u
    → v' ≡ v → IsBegun ts tc s j slot u v → IsBegun ts tc s j' slot' u' v'
begun_same ts tc s j j' slot slot' u v u' v' first second third fourth x =
    subst₂ (λ (p : RackView) (q : RackView). IsBegun ts tc s j' slot' p q) (sym third) (sym fourth)
    (subst₂ (λ (p : BatchJob) (q : BaySlot). IsBegun ts tc s p q u v) (sym first) (sym second) x)

-- one more
pub begun_next : {A : Type 0} (view : A → RackView) (ts tc : Bool) (s : Shape) (jobs : List BatchJob) (count : ℕ) (slots : List BaySlot)
    (old new : List A) (job : BatchJob) (slot : BaySlot) (rack after : A) → BegunTo view ts tc s jobs count slots old new
    → count < length old → count < length jobs → job ≡ slice_index_or jobs count job
    → IsBegun ts tc s job slot (view (slice_index_or new count rack)) (view after)
    → BegunTo view ts tc s jobs (count + 1) (slots ++ slot ∷ []) old (slice_set new count after)
begun_next {A} view ts tc s jobs count slots old new job slot rack after x below has job_is begun = record {
  count_is = (let one = length_push slots slot in let is = x.count_is in omega (arith, one, is));
  many = set_many ∙ x.many;
  of_shape = All-push (IsBayOfShape s) slots slot x.of_shape (λ m is. (begun.fresh m is).shape);
  rest = λ k d later. get_or-set_other new count k after d (omega (arith, later)) ∙ x.rest k d (omega (arith, later));
  bays = λ k j d early. elim (cases_eq k count) [
    | inl same ↦ subst (λ (i : ℕ). Begun i j d) (sym same) (own j d)
    | inr other ↦
        let before : k < count = omega (arith, early, other) in
        let many = x.many in
        let is = x.count_is in
        begun_same ts tc s (slice_index_or jobs k j) (slice_index_or jobs k j) _ _ _ _ _ _ refl (get_or_append_left slots
        (slot ∷ []) d k (omega (arith, before, is))) refl
        (view_here view (slice_set new count after) k rack (omega (arith, before, below, many, set_many))
        ∙ ap view (get_or-set_other new count k after rack other)
        ∙ sym (view_here view new k rack (omega (arith, before, below, many)))) (x.bays k j d before)
  ];
}
  where
    Begun : ℕ → BatchJob → BaySlot → Type 0
    Begun i j d = IsBegun ts tc s (slice_index_or jobs i j) (slice_index_or (slots ++ slot ∷ []) i d) (view_at (map view old) i)
        (view_at (map view (slice_set new count after)) i)

    set_many : length (slice_set new count after) ≡ length new
    set_many = length-set new count after

    own : (j : BatchJob) (d : BaySlot) → Begun count j d
    own j d =
        let many = x.many in
        begun_same ts tc s job _ slot _ (view (slice_index_or new count rack)) (view after) _ _
        (get_or_default jobs count j job has ∙ sym job_is) (get_or_push slots slot d count x.count_is)
        (own_before view count old rack below ∙ ap view (sym (x.rest count rack (omega arith))))
        (own_after view count new after (omega (arith, below, many))) begun

-- the condition of the next one
pub next_attached : {A : Type 0} (view : A → RackView) (ts tc : Bool) (s : Shape) (jobs : List BatchJob) (count : ℕ) (slots : List BaySlot)
    (old new : List A) (rack : A) → BegunTo view ts tc s jobs count slots old new → count < length old → AreAllAttached s (map view old)
    → (view (slice_index_or new count rack)).attached ≡ Some (dims_of s)
next_attached view ts tc s jobs count slots old new rack x below attached =
    ap (λ (y : _). (view y).attached) (x.rest count rack (omega arith))
    ∙ ap (λ (v : RackView). v.attached) (sym (own_before view count old rack below))
    ∙ attached count (let many = length-map old view in omega (arith, below, many))

-- ---- all of them

pub all_begun : {A : Type 0} (view : A → RackView) (ts tc : Bool) (s : Shape) (jobs : List BatchJob) (count : ℕ) (slots : List BaySlot)
    (old new : List A) → BegunTo view ts tc s jobs count slots old new → length jobs ≡ count
    → BatchBegun ts tc s jobs (record { shape = s; slots = slots }) (map view old) (map view new)
all_begun view ts tc s jobs count slots old new x all = record {
  shape = refl;
  count = x.count_is ∙ sym all;
  bays = λ k j d below. x.bays k j d (omega (arith, below, all));
}

pub begun_attached : (ts tc : Bool) (s : Shape) (jobs : List BatchJob) (b : BatchValue) (old new : List RackView)
    → length old ≡ length jobs → BatchBegun ts tc s jobs b old new → AreAllAttached s old → AreAttached b new
begun_attached ts tc s jobs b old new many x attached k d below going =
    let count = x.count in
    let there : k < length jobs = omega (arith, below, count) in
    let begun = x.bays k (element_of jobs k there) d there in
    begun.call.frame.attached ∙ attached k (omega (arith, below, count, many)) ∙ ap (λ (t : Shape). Some (dims_of t)) (sym x.shape)

pub begun_follows : (ts tc : Bool) (s : Shape) (jobs : List BatchJob) (b : BatchValue) (old new : List RackView)
    → IsTrue ts → IsTrue tc → length old ≡ length jobs → BatchBegun ts tc s jobs b old new → AreSound old → BatchFollows b new
begun_follows ts tc s jobs b old new told_stands told_contents many x sound k d below going m machine =
    let count = x.count in
    let there : k < length jobs = omega (arith, below, count) in
    (x.bays k (element_of jobs k there) d there).follows told_stands told_contents (sound k (omega (arith, below, count, many))) m machine
