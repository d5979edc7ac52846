-- Tasks that are read in order, and their jobs.
use Rattle.std.proofs.Common.{◌≡◌, inl, inr, ℕ, ◌+◌, ◌-◌, ◌*◌, ◌/◌, ◌<◌, ◌≤◌, Bool, List}
use Rattle.std.proofs.Common.{[], ◌∷◌, ◌++◌, length, slice_index_or, slice_set, Some, sym, ◌∙◌, ap, subst, arith}
use Rattle.std.proofs.lemmas.Bool.{cases_eq}
use Rattle.std.proofs.lemmas.List.{get_or_append_left, get_or_push, get_or_default, length_push}
use Rattle.std.proofs.lemmas.Nat.{pow_pos, div-mul-add}
use Rattle.bm_base.specs.declared.shape.Shape.{Shape}
use Rattle.bm_base.specs.Shape.{loads_of}
use Rattle.bm_job.specs.declared.machine.Machine.{Machine}
use Rattle.bm_job.proofs.RangeLemmas.{few_passes}
use Rattle.bm_batch.specs.declared.batch_job.BatchJob.{BatchJob}
use Rattle.bm_batch.specs.declared.bay_slot.BaySlot.{BaySlot}
use Rattle.bm_batch.specs.declared.bay_state.BayState.TheVariants.{Finished}
use Rattle.bm_batch.proofs.BayLemmas.{some_of}
use Rattle.bm_top.specs.Moment.{SourceView, source_of}
use Rattle.bm_top.specs.declared.task.Task.{Task}
use Rattle.bm_batch_call.specs.Dumping.{passes_by, passes_at, AreFinished}
use Rattle.bm_batch_call.specs.Lists.{UpTo, EndsAt}
use Rattle.bm_batch_call.specs.Moment.{no_source, sources_of}
use Rattle.bm_batch_call.specs.Texts.{TaskRead, AreRead}
use Rattle.bm_batch_call.proofs.ListLemmas.{up_to_as, up_to_next, up_to_at, ends_at}
use Rattle.bm_batch.proofs.BatchLemmas.{element_of}

abbrev pub TasksTo : Bool → List Task → ℕ → List SourceView → List SourceView → Type 0
TasksTo told tasks at old new = UpTo no_source (λ k was is. (d : Task) → TaskRead told (slice_index_or tasks k d) was is) at old new

-- one more is read
pub read_next : {A : Type 0} (left : A → List ℕ) (faults : A → ℕ) (told : Bool) (tasks : List Task) (at : ℕ) (old : List SourceView)
    (xs : List A) (x after : A) (task : Task) → length tasks ≡ at → at < length xs → TasksTo told tasks at old (sources_of left faults xs)
    → TaskRead told task (source_of (left (slice_index_or xs at x)) (faults (slice_index_or xs at x)))
    (source_of (left after) (faults after))
    → TasksTo told (tasks ++ task ∷ []) (at + 1) old (sources_of left faults (slice_set xs at after))
read_next left faults told tasks at old xs x after task len below u read =
    up_to_next (λ y. source_of (left y) (faults y)) no_source
    (λ k was is. (d : Task) → TaskRead told (slice_index_or (tasks ++ task ∷ []) k d) was is) at old xs x after below
    (up_to_as no_source (λ k was is. (d : Task) → TaskRead told (slice_index_or tasks k d) was is)
    (λ k was is. (d : Task) → TaskRead told (slice_index_or (tasks ++ task ∷ []) k d) was is) at old (sources_of left faults xs)
    (λ k a b early p d. subst (λ (y : Task). TaskRead told y a b)
    (sym (get_or_append_left tasks (task ∷ []) d k (omega (arith, early, len)))) (p d)) u)
    (λ d. subst (λ (y : Task). TaskRead told y (source_of (left (slice_index_or xs at x)) (faults (slice_index_or xs at x)))
    (source_of (left after) (faults after))) (sym (get_or_push tasks task d at len)) read)

pub many_next : (tasks new : List Task) (task : Task) (at : ℕ) → new ≡ tasks ++ task ∷ [] → length tasks ≡ at → length new ≡ at + 1
many_next tasks new task at is many = (let one = length_push tasks task in ap (λ (ts : List Task). length ts) is ∙ omega (arith, one, many))

-- or one is refused
pub read_ends : {A : Type 0} (left : A → List ℕ) (faults : A → ℕ) (told : Bool) (Q : ℕ → SourceView → SourceView → Type 0)
    (tasks : List Task) (at : ℕ) (old : List SourceView) (xs : List A) (x after : A) → length tasks ≡ at → at < length xs
    → TasksTo told tasks at old (sources_of left faults xs)
    → Q at (source_of (left (slice_index_or xs at x)) (faults (slice_index_or xs at x))) (source_of (left after) (faults after))
    → EndsAt no_source (λ k was is. (task : Task) × TaskRead told task was is) Q at old (sources_of left faults (slice_set xs at after))
read_ends left faults told Q tasks at old xs x after len below u q =
    ends_at (λ y. source_of (left y) (faults y)) no_source (λ k was is. (task : Task) × TaskRead told task was is) Q at old xs x after below
    (up_to_as no_source (λ k was is. (d : Task) → TaskRead told (slice_index_or tasks k d) was is)
    (λ k was is. (task : Task) × TaskRead told task was is) at old (sources_of left faults xs)
    (λ k a b early p. (let d = element_of tasks k (omega (arith, early, len)) in (slice_index_or tasks k d, p d))) u) q

-- all are read
pub read_all : (told : Bool) (tasks : List Task) (at count : ℕ) (old new : List SourceView) (d : Task) → at ≡ count → length old ≡ count
    → TasksTo told tasks at old new → AreRead told count (λ k. slice_index_or tasks k d) old new
read_all told tasks at count old new d same many u = record {
  many = many;
  read = up_to_at no_source (λ k. TaskRead told (slice_index_or tasks k d)) at count old new same
      (up_to_as no_source (λ k was is. (e : Task) → TaskRead told (slice_index_or tasks k e) was is)
      (λ k. TaskRead told (slice_index_or tasks k d))
      at old new (λ k a b early p. p d) u);
}

-- ---- their jobs

pub jobs_next : (tasks : List Task) (jobs : List BatchJob) (at : ℕ) (task : Task) (job : BatchJob) → length jobs ≡ at → at < length tasks
    → task ≡ slice_index_or tasks at task → job.job ≡ task.job
    → ((k : ℕ) (d : BatchJob) (e : Task) → k < at → (slice_index_or jobs k d).job ≡ (slice_index_or tasks k e).job)
    → (k : ℕ) (d : BatchJob) (e : Task) → k < at + 1 → (slice_index_or (jobs ++ job ∷ []) k d).job ≡ (slice_index_or tasks k e).job
jobs_next tasks jobs at task job len below is same before k d e early = elim (cases_eq k at) [
  | inl here ↦ subst (λ (i : ℕ). (slice_index_or (jobs ++ job ∷ []) i d).job ≡ (slice_index_or tasks i e).job) (sym here)
      (ap (λ (x : BatchJob). x.job) (get_or_push jobs job d at len) ∙ same
      ∙ ap (λ (x : Task). x.job) (is ∙ get_or_default tasks at task e below))
  | inr other ↦ ap (λ (x : BatchJob). x.job) (get_or_append_left jobs (job ∷ []) d k (omega (arith, early, other, len)))
      ∙ before k d e (omega (arith, early, other))
]

-- ---- the passes of a bay that is Finished

pub passes_are : (slots : List BaySlot) (s t : Shape) (bay moved loads : ℕ) → bay < length slots → AreFinished slots → s ≡ t
    → ((d : BaySlot) (m : Machine) → (slice_index_or slots bay d).state ≡ Finished → (slice_index_or slots bay d).machine ≡ Some m
    → moved ≡ m.passes * loads_of s) → loads ≡ loads_of t → (d : BaySlot)
    → (moved / loads ≡ passes_at slots d bay) × (passes_at slots d bay ≤ 254)
passes_are slots s t bay moved loads below finished same all is d =
    let slot = slice_index_or slots bay d in
    let fin = finished bay d below in
    let m = some_of slot.machine (slot.keeps.finished fin) in
    let passes : passes_at slots d bay ≡ m.0.passes = ap passes_by m.1 in
    let few = few_passes _ _ _ _ _ _ _ _ m.0.keeps in
    let one : loads_of t ≡ loads = sym is in
    let product : moved ≡ m.0.passes * loads_of t + 0 =
    all d m.0 fin m.1 ∙ ap (λ (x : Shape). m.0.passes * loads_of x) same
    ∙ (let e : m.0.passes * loads_of t ≡ m.0.passes * loads_of t + 0 = omega arith in e) in (
      ap (λ (n : ℕ). n / loads) product
          ∙ ap (λ (n : ℕ). (m.0.passes * loads_of t + 0) / n) (sym one)
          ∙ div-mul-add m.0.passes (loads_of t) 0 (pow_pos (t.n - t.m))
          ∙ sym passes,
      omega (arith, passes, few),
    )
