-- What the whole call does.
use Rattle.std.specs.Prelude.{◌≡◌, ◌⊎◌, ◌↔◌, ℕ, List, String, IsTrue}
use Rattle.std.specs.declared.alloc.Global.{Global}
use Rattle.bm_base.specs.Count.{Rose}
use Rattle.bm_kindjob.specs.declared.kind_file.KindFile.{KindFile}
use Rattle.bm_kindjob.specs.KindFile.{IsKindFile}
use Rattle.bm_top.specs.Moment.{Moment, Tells}
use Rattle.bm_top.specs.Status.{RefusesJob, IsBeforeTask}
use Rattle.bm_top.specs.declared.status.Status.{Status}
use Rattle.bm_top.specs.declared.status.Status.TheVariants.{Usage}
use Rattle.bm_kind_call.specs.Exits.{KindCall}
use Rattle.bm_kind_call.specs.Texts.{FileFits, HoldsFile, TextRead}
use Rattle.bm_kind_call.specs.Words.{NamesKind, IsNoKind}

-- Where the words are those of the call: the job source is read, and a text that is refused or not read leaves all else as it was.
-- Otherwise the source holds a file whose numbers keep their ranges, and the call does it. A text that means a file is refused only
-- where the source failed.
pub record KindOnJob (t : Tells) (old : Moment) (answer : Status) (new : Moment) : Type 0 where
  pub source : TextRead t.job old.job answer new.job
  pub file : (IsBeforeTask answer × (new.devices ≡ old.devices))
      ⊎ ((file : KindFile) × HoldsFile t.job old.job file × FileFits file × KindCall t file old.devices answer new.devices)
  -- these two follow from those above; they stay since a reader looks for them here
  pub refused : RefusesJob answer → new.devices ≡ old.devices
  pub accepted : (file : KindFile) → IsTrue t.job → IsKindFile old.job.left file → ¬ Rose old.job.faults new.job.faults
      → ¬ RefusesJob answer

-- The whole call but its last line, which only `err` takes.
pub record KindTop (t : Tells) (words : List (String Global)) (old : Moment) (answer : Status) (new : Moment) : Type 0 where
  pub usage : (answer ≡ Usage) ↔ IsNoKind words
  pub nothing : IsNoKind words → new ≡ old
  pub job : (job : List ℕ) → NamesKind words job → KindOnJob t old answer new
