-- The call by its words and its texts.
use Rattle.std.proofs.Common.{Ok, ◌≡◌, ◌≢◌, inl, inr, codes, ℕ, ◌≤◌}
use Rattle.std.proofs.Common.{List, ◌∷◌, length, slice_index_or, decimal, String, Global, string_bytes, Some}
use Rattle.std.proofs.Common.{refl, sym, ◌∙◌, ap, subst, arith}
use Rattle.std.proofs.lemmas.Bool.{cases_lt}
use Rattle.std.proofs.lemmas.List.{length-map}
use Rattle.bm_base.specs.declared.shape.Shape.{Shape}
use Rattle.bm_top.specs.Moment.{Tells}
use Rattle.bm_top.specs.Status.{RefusesJob, IsBeforeTask}
use Rattle.bm_top.specs.Words.{texts_of}
use Rattle.bm_top.specs.declared.task.Task.{Task}
use Rattle.bm_top.specs.declared.words.Verb.TheVariants.{Carry}
use Rattle.bm_top.specs.declared.status.Status.{Status}
use Rattle.bm_top.specs.declared.status.Status.TheVariants.{Done, OutOfMemory, Usage, JobFault, JobText, JobField, JobShape, JobMap}
use Rattle.bm_top.specs.declared.status.Status.TheVariants.{DataFault, DataShort, DataLong, RackFault, NoDisks, WrongDims, Exists}
use Rattle.bm_top.specs.declared.status.Status.TheVariants.{NotLoaded, OtherShape, OtherJob, NotDone, NoJob, BadPage, SinkFault, OutOfRange}
use Rattle.bm_top.specs.declared.status.Status.TheVariants.{NotAffine, NotPermutation, BatchShape}
use Rattle.bm_top.proofs.JobCauseLemmas.{not_refused}
use Rattle.bm_top.proofs.ExitLemmas.{SameDisks-refl, SameCalls-refl, IsRead-none}
use Rattle.bm_batch_call.specs.declared.words.BatchVerb.{BatchVerb}
use Rattle.bm_batch_call.specs.declared.words.BatchVerb.TheVariants.{Batch, Run}
use Rattle.bm_base.specs.Shape.{dims_of}
use Rattle.bm_rack.specs.RackView.{RackView}
use Rattle.bm_batch.specs.Batches.{AreAllAttached}
use Rattle.bm_batch.specs.declared.batch_job.BatchJob.{BatchJob}
use Rattle.bm_batch.proofs.BatchLemmas.{element_of}
use Rattle.bm_batch_call.specs.Bays.{BayReady}
use Rattle.bm_batch_call.specs.BatchCall.{BatchCall, PrepareCall, TasksCall, VerbCall, BatchTop, LeavesMemory}
use Rattle.bm_batch_call.specs.Causes.{BatchCause}
use Rattle.bm_batch_call.specs.Moment.{BatchDevices, BatchMoment, Work, work_of, source_at}
use Rattle.bm_batch_call.specs.Output.{ReadsFew}
use Rattle.bm_batch_call.specs.Texts.{AreRead, AreRefused, IsAfterTexts, IsFirstOther, AreOfOneShape}
use Rattle.bm_batch_call.specs.Words.{IsBatchWords, IsNoBatch, AreEnough, batch_word}
use Rattle.bm_batch_call.proofs.BayLemmas.{leaves_none}
use Rattle.bm_batch_call.proofs.RunningLemmas.{list_work}
use Rattle.bm_batch_call.proofs.StoppedLemmas.{stopped}

-- ---- want of memory before the disks

pub memory_stopped : (t : Tells) (verb : BatchVerb) (w : Work) (old : BatchDevices) → BatchCall t verb w old OutOfMemory old
memory_stopped t verb w old =
    stopped t verb w old OutOfMemory old tt (λ is. absurd (cc)) (λ is. absurd (cc)) refl refl
    (λ k below. leaves_none t verb w.shape (w.job k) _ _ _)
    (λ of. absurd of) (λ is k below. memory verb k) (few verb) (omega arith)
  where
    memory : (verb : BatchVerb) (k : ℕ) → LeavesMemory verb old old k
    memory Batch k = tt
    memory Run k = record { disks = SameDisks-refl _; calls = SameCalls-refl _ }

    few : (verb : BatchVerb) → ReadsFew t verb w old.input old.input
    few Batch = λ told. IsRead-none _ _
    few Run = refl

-- ---- answers after the texts

cause_late : (t : Tells) (verb : BatchVerb) (w : Work) (old : BatchDevices) (answer : Status) (new : BatchDevices)
    → BatchCause t verb w old answer new → IsAfterTexts answer
cause_late t verb w old Done new x = tt
cause_late t verb w old OutOfMemory new x = tt
cause_late t verb w old Usage new x = x
cause_late t verb w old JobFault new x = x
cause_late t verb w old JobText new x = x
cause_late t verb w old (JobField which) new x = x
cause_late t verb w old (JobShape rule) new x = x
cause_late t verb w old (JobMap fault) new x = x
cause_late t verb w old DataFault new x = tt
cause_late t verb w old (DataShort got) new x = tt
cause_late t verb w old DataLong new x = tt
cause_late t verb w old RackFault new x = tt
cause_late t verb w old NoDisks new x = tt
cause_late t verb w old WrongDims new x = tt
cause_late t verb w old Exists new x = tt
cause_late t verb w old NotLoaded new x = tt
cause_late t verb w old OtherShape new x = tt
cause_late t verb w old OtherJob new x = tt
cause_late t verb w old (NotDone done all) new x = tt
cause_late t verb w old NoJob new x = tt
cause_late t verb w old (BadPage page) new x = tt
cause_late t verb w old SinkFault new x = tt
cause_late t verb w old (OutOfRange a b) new x = tt
cause_late t verb w old (NotAffine a b want) new x = tt
cause_late t verb w old (NotPermutation a) new x = tt
cause_late t verb w old (BatchShape bay) new x = tt

late_refuses : (answer : Status) → IsAfterTexts answer → ¬ RefusesJob answer
late_refuses JobFault late is = late
late_refuses JobText late is = late
late_refuses (JobField which) late is = late
late_refuses (JobShape rule) late is = late
late_refuses (JobMap fault) late is = late
late_refuses _ late is = is

-- ---- shapes

first_unique : (count : ℕ) (tasks : ℕ → Task) (a b : ℕ) → IsFirstOther count tasks a → IsFirstOther count tasks b → a ≡ b
first_unique count tasks a b x y = elim (cases_lt a b) [
  | inl less ↦ absurd (x.differs (y.earlier a less))
  | inr more ↦ elim (cases_lt b a) [
    | inl less ↦ absurd (y.differs (x.earlier b less))
    | inr same ↦ omega (arith, more, same)
  ]
]

shape_injective : (a b : ℕ) → ◌≡◌ {A = Status} (BatchShape a) (BatchShape b) → a ≡ b
shape_injective a b is = cc

pub other_shape : (t : Tells) (verb : BatchVerb) (count : ℕ) (tasks : ℕ → Task) (old : BatchDevices) (bay : ℕ)
    → IsFirstOther count tasks bay → TasksCall t verb count tasks old (BatchShape bay) old
other_shape t verb count tasks old bay first = record {
  late = tt;
  shape = λ b. (
    λ is. subst (IsFirstOther count tasks) (shape_injective bay b is) first,
    λ other. ap BatchShape (first_unique count tasks bay b first other),
  );
  other = λ b is. refl;
  call = λ one. absurd (first.differs (one bay first.below));
}

pub one_shape : (t : Tells) (verb : BatchVerb) (count : ℕ) (tasks : ℕ → Task) (old : BatchDevices) (answer : Status) (new : BatchDevices)
    → AreOfOneShape count tasks → BatchCall t verb (work_of count tasks) old answer new → TasksCall t verb count tasks old answer new
one_shape t verb count tasks old answer new one call = record {
  late = cause_late t verb (work_of count tasks) old answer new call.cause;
  shape = λ b. (
    λ is. absurd (subst (λ (x : Status). BatchCause t verb (work_of count tasks) old x new) is call.cause),
    λ other. absurd (other.differs (one b other.below)),
  );
  other = λ b other. absurd (other.differs (one b other.below));
  call = λ _. call;
}

-- ---- texts

pub texts_refused : (t : Tells) (verb : BatchVerb) (count : ℕ) (old : BatchMoment) (answer : Status) (new : BatchMoment)
    → AreRefused t.job old.jobs answer new.jobs → new.devices ≡ old.devices → VerbCall t verb count old answer new
texts_refused t verb count old answer new refused same = record {
  task = inl (refused, same);
  accepted = λ told well is. elim refused.at [
    | inl memory ↦ subst RefusesJob memory.0 is
    | inr at ↦
        let below = at.texts.below in
        let text = well.texts at.at below in
        not_refused Carry t.job (source_at old.jobs at.at) answer (source_at new.jobs at.at) text.0 at.texts.here told text.1 tt
        (well.calm at.at below) is
  ];
}

pub texts_read : (t : Tells) (verb : BatchVerb) (count : ℕ) (tasks : ℕ → Task) (old : BatchMoment) (answer : Status) (new : BatchMoment)
    → AreRead t.job count tasks old.jobs new.jobs → TasksCall t verb count tasks old.devices answer new.devices
    → VerbCall t verb count old answer new
texts_read t verb count tasks old answer new read call = record {
  task = inr (tasks, read, call);
  accepted = λ told well. late_refuses answer call.late;
}

-- ---- words

verb_known : (v w : BatchVerb) → batch_word v ≡ batch_word w → v ≡ w
verb_known Batch Batch same = refl
verb_known Run Run same = refl
verb_known Batch Run same =
    (let long : length (codes "batch") ≡ length (codes "batch-run") = ap (λ (x : List ℕ). length x) same in absurd (omega (arith, long)))
verb_known Run Batch same =
    (let long : length (codes "batch-run") ≡ length (codes "batch") = ap (λ (x : List ℕ). length x) same in absurd (omega (arith, long)))

one_verb : (words : List (String Global)) (v w : BatchVerb) (a b : ℕ) (xs ys : List (List ℕ)) → IsBatchWords words v a xs
    → IsBatchWords words w b ys → v ≡ w
one_verb words v w a b xs ys x y =
    let same : batch_word v ∷ decimal a ∷ xs ≡ batch_word w ∷ decimal b ∷ ys = sym x.words_are ∙ y.words_are in
    let word : batch_word v ≡ batch_word w = cc in
    verb_known v w word

not_usage : (t : Tells) (verb : BatchVerb) (count : ℕ) (old : BatchMoment) (answer : Status) (new : BatchMoment)
    → VerbCall t verb count old answer new → answer ≢ Usage
not_usage t verb count old answer new call is = elim call.task [
  | inl refused ↦ subst IsBeforeTask is refused.0.early
  | inr done ↦ subst IsAfterTexts is done.2.late
]

pub top_none : (t : Tells) (words : List (String Global)) (old : BatchMoment) → IsNoBatch words → BatchTop t words old Usage old
top_none t words old none = record {
  usage = (λ is. none, λ is. refl);
  nothing = λ is. refl;
  batch = λ verb seed names is. absurd (none verb seed names is);
}

pub top_batch : (t : Tells) (words : List (String Global)) (verb : BatchVerb) (seed count bays : ℕ) (names : List (List ℕ))
    (old : BatchMoment) (answer : Status) (new : BatchMoment) → AreEnough words count bays → IsBatchWords words verb seed names
    → VerbCall t verb count old answer new → BatchTop t words old answer new
top_batch t words verb seed count bays names old answer new enough is call = record {
  usage = (λ u. absurd (not_usage t verb count old answer new call u), λ none. absurd (none verb seed names is));
  nothing = λ none. absurd (none verb seed names is);
  batch = λ v a xs also.
      subst (λ (x : BatchVerb). VerbCall t x (length xs) old answer new) (one_verb words verb v seed a names xs is also)
      (subst (λ (n : ℕ). VerbCall t verb n old answer new) (enough v a xs also).0 call);
}

-- ---- tasks in a list

-- the tasks of a list
pub tasks_read : (t : Tells) (verb : BatchVerb) (count : ℕ) (tasks items : List Task) (old : BatchMoment) (answer : Status)
    (new : BatchMoment)
    → 1 ≤ count → length items ≡ count → tasks ≡ items
    → ((d : Task) → AreRead t.job count (λ k. slice_index_or items k d) old.jobs new.jobs)
    → ((e : Task) → TasksCall t verb (length tasks) (λ k. slice_index_or tasks k e) old.devices answer new.devices)
    → VerbCall t verb count old answer new
tasks_read t verb count tasks items old answer new some many same read call =
    let e = element_of items 0 (omega (arith, some, many)) in
    texts_read t verb count (λ k. slice_index_or items k e) old answer new (read e)
    (subst (λ (n : ℕ). TasksCall t verb n (λ k. slice_index_or items k e) old.devices answer new.devices) many
    (subst (λ (xs : List Task). TasksCall t verb (length xs) (λ k. slice_index_or xs k e) old.devices answer new.devices) same (call e)))

-- ---- bays that are ready are attached

ready_attached : (t : Tells) (verb : BatchVerb) (s : Shape) (bytes : List ℕ) (old new : RackView) → BayReady t verb s bytes old new
    → new.attached ≡ Some (dims_of s)
ready_attached t Batch s bytes old new r = r.attached
ready_attached t Run s bytes old new r = r.attached

pub planned_attached : (verb : BatchVerb) (t : Tells) (s : Shape) (jobs : List BatchJob) (old mid : BatchDevices) → 1 ≤ length jobs
    → length jobs ≡ length old.bays
    → ((w : Work) → w.shape ≡ s → w.count ≡ length jobs → PrepareCall t verb w old (Ok tt) mid) → AreAllAttached s mid.bays
unfolding list_work
planned_attached verb t s jobs old mid some many call k below =
    let w = list_work s jobs (element_of jobs 0 some) in
    let ready = (call w refl refl).ready refl in
    ready_attached t verb s _ _ _ (ready.bays k (let c = ready.count in omega (arith, below, c, many)))

-- ---- as many jobs as the words name

pub enough_jobs : (words jobs : List (String Global)) (verb : BatchVerb) (seed : ℕ) → IsBatchWords words verb seed (texts_of jobs)
    → AreEnough words (length jobs) (length jobs)
enough_jobs words jobs verb seed x v a names y =
    let same : batch_word verb ∷ decimal seed ∷ texts_of jobs ≡ batch_word v ∷ decimal a ∷ names = sym x.words_are ∙ y.words_are in
    let tails : texts_of jobs ≡ names = cc in
    let many : length jobs ≡ length names = sym (length-map jobs string_bytes) ∙ ap (λ (ts : List (List ℕ)). length ts) tails in
    (many, many)
