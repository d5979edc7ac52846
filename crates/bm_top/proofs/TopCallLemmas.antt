-- The call by the form of its words.
use Rattle.std.proofs.Common.{◌≡◌, ◌≢◌, inl, inr, ⊎_elim, ℕ, ◌≤◌, Bool, IsTrue, List, [], length, String, Global, Result, Ok, Err}
use Rattle.std.proofs.Common.{IfOk, IfErr, IsErrOf, refl, sym, ap, subst, ◌∙◌}
use Rattle.bm_base.specs.declared.shape.Shape.{Shape}
use Rattle.bm_base.specs.ShapeRules.{broken_rule}
use Rattle.bm_base.proofs.EqualLemmas.{shape_equal, broken_rule-kept}
use Rattle.bm_jobfile.specs.declared.job_file.JobFile.{JobFile}
use Rattle.bm_jobfile.specs.JobFile.{IsJobFile}
use Rattle.bm_top.specs.Causes.{CauseOf}
use Rattle.bm_top.specs.JobRead.{JobCause, JobRead, TakesShape}
use Rattle.bm_top.specs.Moment.{SourceView, Devices, Moment, Tells}
use Rattle.bm_top.specs.Status.{IsOfWords, RefusesJob, IsBeforeTask}
use Rattle.bm_top.specs.Task.{HoldsTask, IsTaskOf, IsFlipTask, TaskFits}
use Rattle.bm_top.specs.TopCall.{TaskCall, JobCall, FlipCall, TopCall}
use Rattle.bm_top.specs.Words.{IsFlip, IsNoFlip, IsJobWords, IsNoCommand}
use Rattle.bm_top.specs.declared.task.Task.{Task}
use Rattle.bm_top.specs.declared.words.Flip.{Flip}
use Rattle.bm_top.specs.declared.words.Verb.{Verb}
use Rattle.bm_top.specs.declared.words.Verb.TheVariants.{Carry}
use Rattle.bm_top.specs.declared.words.Command.TheVariants as command
use Rattle.bm_top.specs.declared.status.Status.{Status}
use Rattle.bm_top.specs.declared.status.Status.TheVariants.{Done, OutOfMemory, Usage, JobFault, JobText, JobField, JobShape, JobMap}
use Rattle.bm_top.specs.declared.status.Status.TheVariants.{DataFault, DataShort, DataLong, RackFault, NoDisks, WrongDims, Exists}
use Rattle.bm_top.specs.declared.status.Status.TheVariants.{NotLoaded, OtherShape, OtherJob, NotDone, NoJob, BadPage, SinkFault, OutOfRange}
use Rattle.bm_top.specs.declared.status.Status.TheVariants.{NotAffine, NotPermutation, BatchShape}
use Rattle.bm_top.proofs.JobCauseLemmas.{not_refused}
use Rattle.bm_top.proofs.JobReadLemmas.{source_ended, source_taken}
use Rattle.bm_top.proofs.WordsLemmas.{IsFlip-unique, the_verb, verb_no_flip}

-- ---- answers that no command gives once its job is read

pub not_refusing : (t : Tells) (verb : Verb) (task : Task) (old : Devices) (answer : Status) (new : Devices)
    → CauseOf t verb task old answer new → ¬ RefusesJob answer
not_refusing _ _ _ _ Done _ cause is = is
not_refusing _ _ _ _ OutOfMemory _ cause is = is
not_refusing _ _ _ _ Usage _ cause is = is
not_refusing _ _ _ _ JobFault _ cause is = cause
not_refusing _ _ _ _ JobText _ cause is = cause
not_refusing _ _ _ _ (JobField which) _ cause is = cause
not_refusing _ _ _ _ (JobShape rule) _ cause is = cause
not_refusing _ _ _ _ (JobMap fault) _ cause is = cause
not_refusing _ _ _ _ DataFault _ cause is = is
not_refusing _ _ _ _ (DataShort got) _ cause is = is
not_refusing _ _ _ _ DataLong _ cause is = is
not_refusing _ _ _ _ RackFault _ cause is = is
not_refusing _ _ _ _ NoDisks _ cause is = is
not_refusing _ _ _ _ WrongDims _ cause is = is
not_refusing _ _ _ _ Exists _ cause is = is
not_refusing _ _ _ _ NotLoaded _ cause is = is
not_refusing _ _ _ _ OtherShape _ cause is = is
not_refusing _ _ _ _ OtherJob _ cause is = is
not_refusing _ _ _ _ (NotDone done all) _ cause is = is
not_refusing _ _ _ _ NoJob _ cause is = is
not_refusing _ _ _ _ (BadPage page) _ cause is = is
not_refusing _ _ _ _ SinkFault _ cause is = is
not_refusing _ _ _ _ (OutOfRange x y) _ cause is = is
not_refusing _ _ _ _ (NotAffine x y want) _ cause is = is
not_refusing _ _ _ _ (NotPermutation x) _ cause is = is
not_refusing _ _ _ _ (BatchShape bay) _ cause is = is

pub not_of_words : (t : Tells) (verb : Verb) (task : Task) (old : Devices) (answer : Status) (new : Devices)
    → CauseOf t verb task old answer new → ¬ IsOfWords answer
not_of_words _ _ _ _ Done _ cause is = is
not_of_words _ _ _ _ OutOfMemory _ cause is = is
not_of_words _ _ _ _ Usage _ cause is = cause
not_of_words _ _ _ _ JobFault _ cause is = is
not_of_words _ _ _ _ JobText _ cause is = is
not_of_words _ _ _ _ (JobField which) _ cause is = is
not_of_words _ _ _ _ (JobShape rule) _ cause is = cause
not_of_words _ _ _ _ (JobMap fault) _ cause is = is
not_of_words _ _ _ _ DataFault _ cause is = is
not_of_words _ _ _ _ (DataShort got) _ cause is = is
not_of_words _ _ _ _ DataLong _ cause is = is
not_of_words _ _ _ _ RackFault _ cause is = is
not_of_words _ _ _ _ NoDisks _ cause is = is
not_of_words _ _ _ _ WrongDims _ cause is = is
not_of_words _ _ _ _ Exists _ cause is = is
not_of_words _ _ _ _ NotLoaded _ cause is = is
not_of_words _ _ _ _ OtherShape _ cause is = is
not_of_words _ _ _ _ OtherJob _ cause is = is
not_of_words _ _ _ _ (NotDone done all) _ cause is = is
not_of_words _ _ _ _ NoJob _ cause is = is
not_of_words _ _ _ _ (BadPage page) _ cause is = is
not_of_words _ _ _ _ SinkFault _ cause is = is
not_of_words _ _ _ _ (OutOfRange x y) _ cause is = is
not_of_words _ _ _ _ (NotAffine x y want) _ cause is = is
not_of_words _ _ _ _ (NotPermutation x) _ cause is = is
not_of_words _ _ _ _ (BatchShape bay) _ cause is = is

pub task_known : {t : Tells} {verb : Verb} {task : Task} {old : Devices} {answer : Status} {new : Devices}
    → TaskCall t verb task old answer new → answer ≢ Usage
task_known {t} {verb} {task} {old} {answer} {new} call e =
    not_of_words t verb task old answer new call.cause (subst IsOfWords (sym e) tt)

-- ---- a command that has a job

-- the task of a text is that of the source that held it
pub holds_task : (told : Bool) (v : SourceView) (text : List ℕ) (result : Result Task Status) → (IsTrue told → text ≡ v.left)
    → IfOk result (λ task. (file : JobFile) × IsJobFile text file × IsTaskOf file task) → IfOk result (λ task. HoldsTask told v task)
holds_task told v text (Err e) same is = tt
holds_task told v text (Ok task) same is = λ t. (is.0, subst (λ (x : List ℕ). IsJobFile x is.0) (same t) is.1, is.2)

-- and so is its refusal
pub text_refused : (verb : Verb) (told : Bool) (old new : SourceView) (text : List ℕ) (result : Result Task Status)
    → (IsTrue told → text ≡ old.left) → (IsTrue told → (new.left ≡ []) × (length old.left ≤ 65536)) → old.faults ≤ new.faults
    → ¬ IsErrOf result JobFault → IfErr result (λ status. JobCause verb text status)
    → IfErr result (λ status. JobRead verb told old status new)
text_refused verb told old new text (Ok task) same end low calm cause = tt
text_refused verb told old new text (Err status) same end low calm cause =
    source_ended verb told status old new (λ e. calm (ap Err e)) end low
    (λ t. subst (λ (x : List ℕ). JobCause verb x status) (same t) cause)

-- once its task was taken
pub job_done : (t : Tells) (verb : Verb) (task : Task) (old : Moment) (answer : Status) (new : Moment) → HoldsTask t.job old.job task
    → TaskFits task → TakesShape verb task.shape → (IsTrue t.job → (new.job.left ≡ []) × (length old.job.left ≤ 65536))
    → old.job.faults ≤ new.job.faults
    → TaskCall t verb task old.devices answer new.devices → JobCall t verb old answer new
job_done t verb task old answer new holds fits takes end low call =
    let fine = not_refusing t verb task old.devices answer new.devices call.cause in
    record {
      source = source_taken verb t.job answer old.job new.job fine end low;
      task = inr (task, holds, fits, takes, call);
      refused = λ is. absurd (fine is);
      accepted = λ file told means its calm. fine;
    }

-- where it was refused
pub job_stopped : (t : Tells) (verb : Verb) (old : Moment) (answer : Status) (new : Moment) → IsBeforeTask answer
    → new.devices ≡ old.devices
    → JobRead verb t.job old.job answer new.job → JobCall t verb old answer new
job_stopped t verb old answer new before same read = record {
  source = read;
  task = inl (before, same);
  refused = λ is. same;
  accepted = λ file told means its calm. not_refused verb t.job old.job answer new.job file read told means its calm;
}

-- and it is one of a command
pub job_known : (t : Tells) (verb : Verb) (old : Moment) (answer : Status) (new : Moment) → JobCall t verb old answer new → answer ≢ Usage
job_known t verb old answer new call e =
    ⊎_elim
    (λ before. (let is : IsBeforeTask Usage = subst IsBeforeTask e before.0 in absurd is))
    (λ done. not_of_words t verb done.0 old.devices answer new.devices done.4.cause (subst IsOfWords (sym e) tt))
    call.task

-- ---- a flip

-- where its numbers are a shape's
pub flip_done : (t : Tells) (f : Flip) (shape : Shape) (task : Task) (old : Moment) (answer : Status) (new : Moment)
    → shape.n ≡ f.n → shape.b ≡ f.b → shape.d ≡ f.d → shape.m ≡ f.m → shape.width ≡ f.width → new.job ≡ old.job
    → IsFlipTask shape f.c task → TaskCall t Carry task old.devices answer new.devices → FlipCall t f old answer new
flip_done t f shape task old answer new n b d m width same is call =
    let fine = not_of_words t Carry task old.devices answer new.devices call.cause in
    let kept : broken_rule f.n f.b f.d f.m f.width ≡ 0 =
    rw (sym n, sym b, sym d, sym m, sym width) (broken_rule-kept shape.n shape.b shape.d shape.m shape.width shape.keeps) in
    record {
      source = same;
      task = λ s e.
          let one : shape ≡ s = shape_equal shape s (n ∙ ap (λ (x : Flip). x.n) e) (b ∙ ap (λ (x : Flip). x.b) e) (d ∙ ap (λ
          (x : Flip). x.d) e)
          (m ∙ ap (λ (x : Flip). x.m) e) (width ∙ ap (λ (x : Flip). x.width) e) in
          (task, subst (λ (x : Shape). IsFlipTask x f.c task) one is, call);
      shape = λ rule. (λ e. absurd (fine (subst IsOfWords (sym e) tt)), λ broken. absurd (broken.0 (broken.1 ∙ kept)));
      refused = λ of. absurd (fine of);
    }

-- where they break a rule
pub flip_refused : (t : Tells) (f : Flip) (rule : ℕ) (old new : Moment) → rule ≢ 0 → rule ≡ broken_rule f.n f.b f.d f.m f.width → new ≡ old
    → FlipCall t f old (JobShape rule) new
flip_refused t f rule old new some is same = record {
  source = ap (λ (m : Moment). m.job) same;
  task = λ s e.
      let kept : broken_rule f.n f.b f.d f.m f.width ≡ 0 =
      ap (λ (x : Flip). broken_rule x.n x.b x.d x.m x.width) e ∙ broken_rule-kept s.n s.b s.d s.m s.width s.keeps in
      absurd (some (is ∙ kept));
  shape = λ other. (
    λ e. (let one : rule ≡ other = cc in (subst (λ (r : ℕ). r ≢ 0) one some, sym one ∙ is)),
    λ broken. ap JobShape (is ∙ sym broken.1),
  );
  refused = λ of. ap (λ (m : Moment). m.devices) same;
}

-- ---- the whole call

-- words that are none of the forms
pub no_command : (words : List (String Global)) → ((verb : Verb) → ¬ IsJobWords words verb) → IsNoFlip words → IsNoCommand words
no_command words none flip (command.On verb) is = none verb is
no_command words none flip (command.Flip f) is = flip f is

pub top_usage : (t : Tells) (words : List (String Global)) (old : Moment) → IsNoCommand words → TopCall t words old Usage old
top_usage t words old none = record {
  usage = (λ e. none, λ e. refl);
  nothing = λ e. refl;
  job = λ verb is. absurd (none (command.On verb) is);
  flip = λ f is. absurd (none (command.Flip f) is);
}

pub top_job : (t : Tells) (words : List (String Global)) (verb : Verb) (old : Moment) (answer : Status) (new : Moment)
    → IsJobWords words verb
    → answer ≢ Usage → JobCall t verb old answer new → TopCall t words old answer new
top_job t words verb old answer new is known call = record {
  usage = (λ e. absurd (known e), λ none. absurd (none (command.On verb) is));
  nothing = λ none. absurd (none (command.On verb) is);
  job = λ other also. subst (λ (v : Verb). JobCall t v old answer new) (the_verb words verb other is also) call;
  flip = λ f also. absurd (verb_no_flip words verb f is also);
}

pub top_flip : (t : Tells) (words : List (String Global)) (f : Flip) (old : Moment) (answer : Status) (new : Moment) → IsFlip words f
    → answer ≢ Usage → FlipCall t f old answer new → TopCall t words old answer new
top_flip t words f old answer new is known call = record {
  usage = (λ e. absurd (known e), λ none. absurd (none (command.Flip f) is));
  nothing = λ none. absurd (none (command.Flip f) is);
  job = λ verb also. absurd (verb_no_flip words verb f also is);
  flip = λ g also. subst (λ (x : Flip). FlipCall t x old answer new) (IsFlip-unique words f g is also) call;
}
