-- Bays whose jobs were begun and took all their turns.
use Rattle.std.proofs.Common.{◌≡◌, ℕ, ◌<◌, ◌≤◌, List, length, map, slice_index_or, refl, sym, ◌∙◌, ap, subst, arith}
use Rattle.std.proofs.lemmas.List.{length-map, get_or-map, get_or_default}
use Rattle.bm_base.specs.declared.shape.Shape.{Shape}
use Rattle.bm_forms.specs.declared.job.Job.{Job}
use Rattle.bm_rack.specs.RackView.{RackView, IsWellFormed}
use Rattle.bm_batch.specs.Batches.{view_at, BatchValue, BatchBegun, BatchTurns, IsNoneGoing, AreAllAttached}
use Rattle.bm_batch.specs.declared.batch_job.BatchJob.{BatchJob}
use Rattle.bm_batch.specs.declared.bay_slot.BaySlot.{BaySlot}
use Rattle.bm_batch.proofs.BatchLemmas.{element_of}
use Rattle.bm_top.specs.Moment.{Tells}
use Rattle.bm_batch_call.specs.Bays.{BayRan}
use Rattle.bm_batch_call.specs.Dumping.{passes_at}
use Rattle.bm_batch_call.specs.Moment.{Work, no_view}
use Rattle.bm_batch_call.specs.Running.{AllRan, BaysRan}
use Rattle.bm_batch_call.proofs.RanLemmas.{bay_ran}

all_ran : (t : Tells) (w : Work) (jobs : List BatchJob) (b0 b : BatchValue) (mid a new : List RackView) (d : BaySlot)
    → ((k : ℕ) (j : BatchJob) → k < w.count → (slice_index_or jobs k j).job ≡ w.job k) → length jobs ≡ w.count
    → ((k : ℕ) → k < w.count → IsWellFormed t.stands t.contents (view_at new k))
    → BatchBegun t.stands t.contents w.shape jobs b0 mid a → BatchTurns t.stands t.contents b0 b a new → IsNoneGoing b.slots
    → AllRan t w (passes_at b.slots d) b.slots d mid new
all_ran t w jobs b0 b mid a new d jobs_are many well begun turns over k below =
    let has : k < length jobs = omega (arith, below, many) in
    let j = element_of jobs k has in
    let count = begun.count in
    let more = turns.count in
    let here : k < length b0.slots = omega (arith, has, count) in
    subst (λ (x : Job). BayRan t w.shape x (passes_at b.slots d k) (slice_index_or b.slots k d).state (view_at mid k) (view_at new k))
    (jobs_are k j below)
    (bay_ran t w.shape _ _ _ (slice_index_or b0.slots k d) (slice_index_or b.slots k d) (view_at mid k) (view_at a k) (view_at new k)
    (well k below) (begun.bays k j d has) (turns.bays k d here) (over k d (omega (arith, here, more))))

pub has_run : {A : Type 0} (view : A → RackView) (t : Tells) (w : Work) (s : Shape) (jobs : List BatchJob) (b0 b : BatchValue)
    (mid a new : List A) → w.shape ≡ s → w.count ≡ length mid → length jobs ≡ length mid
    → ((k : ℕ) (j : BatchJob) → k < w.count → (slice_index_or jobs k j).job ≡ w.job k) → length new ≡ length mid
    → ((y : A) → IsWellFormed t.stands t.contents (view y))
    → BatchBegun t.stands t.contents s jobs b0 (map view mid) (map view a)
    → BatchTurns t.stands t.contents b0 b (map view a) (map view new) → IsNoneGoing b.slots
    → BaysRan t w b.slots (map view mid) (map view new)
has_run view t w s jobs b0 b mid a new shape count many jobs_are same well begun turns over = record {
  many = (let x = turns.count in let y = begun.count in omega (arith, x, y, many, count));
  count = length-map new view ∙ same ∙ sym (length-map mid view);
  ran = λ d. all_ran t w jobs b0 b (map view mid) (map view a) (map view new) d jobs_are (many ∙ sym count)
      (λ k below. well_at k (omega (arith, below, count, same)))
      (subst (λ (x : Shape). BatchBegun t.stands t.contents x jobs b0 (map view mid) (map view a)) (sym shape) begun) turns over;
}
  where
    well_at : (k : ℕ) → k < length new → IsWellFormed t.stands t.contents (view_at (map view new) k)
    well_at k below =
        let d = element_of new k below in
        subst (IsWellFormed t.stands t.contents) (sym (get_or-map view new k d no_view below)) (well (slice_index_or new k d))

-- the work of a list of jobs
unfoldable pub list_work : Shape → List BatchJob → BatchJob → Work
list_work s jobs j = record { shape = s; count = length jobs; job = λ k. (slice_index_or jobs k j).job }

pub list_attached : {A : Type 0} (view : A → RackView) (t : Tells) (s : Shape) (jobs : List BatchJob) (b0 b : BatchValue)
    (mid a new : List A) → 1 ≤ length mid → length jobs ≡ length mid → length new ≡ length mid
    → ((y : A) → IsWellFormed t.stands t.contents (view y))
    → BatchBegun t.stands t.contents s jobs b0 (map view mid) (map view a)
    → BatchTurns t.stands t.contents b0 b (map view a) (map view new) → IsNoneGoing b.slots
    → AreAllAttached s (map view mid) → AreAllAttached s (map view new)
unfolding list_work
list_attached view t s jobs b0 b mid a new some many same well begun turns over attached k below =
    let j = element_of jobs 0 (omega (arith, some, many)) in
    let w = list_work s jobs j in
    let run = has_run view t w s jobs b0 b mid a new refl many many
    (λ i x low. ap (λ (y : BatchJob). y.job) (get_or_default jobs i x j low)) same well begun turns over in
    let first : k < length (map view mid) = (let c = run.count in omega (arith, below, c)) in
    let here : k < length jobs = (let l = length-map mid view in omega (arith, first, l, many)) in
    let d = element_of b.slots k (let m = run.many in omega (arith, here, m)) in
    (run.ran d k here).attached ∙ attached k first
