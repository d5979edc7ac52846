-- The call by its words and its text.
use Rattle.std.proofs.Common.{◌≡◌, ◌≢◌, inl, inr, ⊎_elim, ℕ, ◌≤◌, IsTrue, List, [], length, String, Global, refl, sym, subst}
use Rattle.bm_kindjob.specs.declared.kind_file.KindFile.{KindFile}
use Rattle.bm_top.specs.Moment.{Moment, Tells}
use Rattle.bm_top.specs.Status.{IsOfWords, IsBeforeTask}
use Rattle.bm_top.specs.declared.words.Verb.TheVariants.{Carry}
use Rattle.bm_top.specs.declared.status.Status.{Status}
use Rattle.bm_top.specs.declared.status.Status.TheVariants.{Usage}
use Rattle.bm_top.proofs.TopCallLemmas.{not_refusing, not_of_words}
use Rattle.bm_kind_call.specs.Exits.{shape_task, KindCall}
use Rattle.bm_kind_call.specs.KindTop.{KindOnJob, KindTop}
use Rattle.bm_kind_call.specs.Texts.{FileFits, HoldsFile, TextRead}
use Rattle.bm_kind_call.specs.Words.{NamesKind, IsNoKind}
use Rattle.bm_kind_call.proofs.TextLemmas.{not_refused, source_taken}

-- once its file was taken
pub file_done : (t : Tells) (file : KindFile) (old : Moment) (answer : Status) (new : Moment) → HoldsFile t.job old.job file
    → FileFits file → (IsTrue t.job → (new.job.left ≡ []) × (length old.job.left ≤ 65536)) → old.job.faults ≤ new.job.faults
    → KindCall t file old.devices answer new.devices → KindOnJob t old answer new
file_done t file old answer new holds fits end low call =
    let fine = not_refusing t Carry (shape_task file.shape) old.devices answer new.devices call.cause in
    record {
      source = source_taken t.job answer old.job new.job fine end low;
      file = inr (file, holds, fits, call);
      refused = λ is. absurd (fine is);
      accepted = λ other told means calm. fine;
    }

-- where it was refused
pub file_stopped : (t : Tells) (old : Moment) (answer : Status) (new : Moment) → IsBeforeTask answer → new.devices ≡ old.devices
    → TextRead t.job old.job answer new.job → KindOnJob t old answer new
file_stopped t old answer new before same read = record {
  source = read;
  file = inl (before, same);
  refused = λ is. same;
  accepted = λ file told means calm. not_refused t.job old.job answer new.job file read told means calm;
}

-- it is not told of the words then
on_job_known : (t : Tells) (old : Moment) (answer : Status) (new : Moment) → KindOnJob t old answer new → answer ≢ Usage
on_job_known t old answer new call e =
    ⊎_elim
    (λ before. (let is : IsBeforeTask Usage = subst IsBeforeTask e before.0 in absurd is))
    (λ done. not_of_words t Carry (shape_task done.0.shape) old.devices answer new.devices done.3.cause (subst IsOfWords (sym e) tt))
    call.file

-- ---- the whole call

pub top_known : (t : Tells) (words : List (String Global)) (job : List ℕ) (old : Moment) (answer : Status) (new : Moment)
    → NamesKind words job → KindOnJob t old answer new → KindTop t words old answer new
top_known t words job old answer new names call = record {
  usage = (λ e. absurd (on_job_known t old answer new call e), λ none. absurd (none job names));
  nothing = λ none. absurd (none job names);
  job = λ other also. call;
}

pub top_none : (t : Tells) (words : List (String Global)) (old : Moment) → IsNoKind words → KindTop t words old Usage old
top_none t words old none = record {
  usage = (λ e. none, λ other. refl);
  nothing = λ other. refl;
  job = λ job names. absurd (none job names);
}
