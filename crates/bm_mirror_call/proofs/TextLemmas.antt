-- A job text, and the source that held it.
use Rattle.std.proofs.Common.{◌≡◌, ◌≢◌, inl, ⊎_elim, true, ℕ, ◌≤◌, Bool, IsTrue, List, [], length, Result, Ok, Err, IfErr}
use Rattle.std.proofs.Common.{subst, refl, arith}
use Rattle.bm_base.specs.declared.field_name.FieldName.{FieldName}
use Rattle.bm_base.specs.declared.shape.Shape.{Shape}
use Rattle.bm_named.specs.declared.map_fault.MapFault.{MapFault}
use Rattle.bm_jobfile.specs.declared.job_file.JobFile.{JobFile}
use Rattle.bm_jobfile.specs.JobFile.{IsJobFile, IsNoDocument, HasFaultyField, HasBrokenRule, HasMapFault}
use Rattle.bm_rack.specs.RackView.{RackView}
use Rattle.bm_top.specs.Causes.{Attaches}
use Rattle.bm_top.specs.JobRead.{JobCause, JobRead, TakesShape}
use Rattle.bm_top.specs.Moment.{SourceView, source_of}
use Rattle.bm_top.specs.Status.{RefusesJob}
use Rattle.bm_top.specs.declared.words.Verb.{Verb}
use Rattle.bm_top.specs.declared.words.Verb.TheVariants.{Load}
use Rattle.bm_top.specs.declared.status.Status.{Status}
use Rattle.bm_top.specs.declared.status.Status.TheVariants.{JobFault, JobText, JobField, JobShape, JobMap}
use Rattle.bm_top.proofs.JobCauseLemmas.{not_refused}
use Rattle.bm_top.proofs.JobReadLemmas.{read_whole, source_ended}
use Rattle.bm_mirror_call.specs.Healing.{HealStops, StopsAt}

-- ---- the source

-- What is read of a sure source of the text is read of the one that held it.
pub read_of_text : (verb : Verb) (told : Bool) (text rest : List ℕ) (old new : SourceView) (answer : Status)
    → JobRead verb true (source_of text 0) answer (source_of rest 0) → (IsTrue told → text ≡ old.left) → length text ≤ 65536
    → (IsTrue told → new.left ≡ []) → old.faults ≤ new.faults → JobRead verb told old answer new
read_of_text verb told text rest old new answer r same short end low =
    source_ended verb told answer old new (λ e. ⊎_elim (λ lt. omega (arith, lt)) (λ last. omega (arith, last)) (r.fault e))
    (read_whole told text old new same short end) low (λ t. subst (λ (x : List ℕ). JobCause verb x answer) (same t) (r.cause refl))

-- ---- a text that means a job is not refused

-- The text of a job file is refused by no cause. The shape is one that a load takes, as it takes each.
text_taken : (text : List ℕ) (file : JobFile) (answer : Status) → IsJobFile text file → length text ≤ 65536 → answer ≢ JobFault
    → JobCause Load text answer → ¬ RefusesJob answer
text_taken text file answer means short other cause =
    not_refused Load true (source_of text 0) answer (source_of [] 0) file
    (source_ended Load true answer (source_of text 0) (source_of [] 0) other (λ t. (refl, short)) (omega arith) (λ t. cause))
    refl means tt (λ rose. ⊎_elim (λ lt. omega (arith, lt)) (λ last. omega (arith, last)) rose)

module _ (text : List ℕ) (file : JobFile) (means : IsJobFile text file) where
  short : length text ≤ 65536
  short = means.says.read.short

  pub no_document : ¬ IsNoDocument text
  no_document none =
      text_taken text file JobText means short (λ e. absurd (cc))
      (record { document = λ e. none; field = λ which e. absurd (cc); rule = λ rule e. absurd (cc); map = λ fault e. absurd (cc) }) tt

  pub no_field : (which : FieldName) → ¬ HasFaultyField text which
  no_field which faulty =
      text_taken text file (JobField which) means short (λ e. absurd (cc))
      (record {
        document = λ e. absurd (cc);
        field = λ other e. (let same : which ≡ other = cc in subst (HasFaultyField text) same faulty);
        rule = λ rule e. absurd (cc);
        map = λ fault e. absurd (cc);
      }) tt

  pub no_rule : (rule : ℕ) → ¬ HasBrokenRule text rule
  no_rule rule broken =
      text_taken text file (JobShape rule) means short (λ e. absurd (cc))
      (record {
        document = λ e. absurd (cc);
        field = λ which e. absurd (cc);
        rule = λ other e. inl (let same : rule ≡ other = cc in subst (HasBrokenRule text) same broken);
        map = λ fault e. absurd (cc);
      }) tt

  pub no_map : (shape : Shape) (fault : MapFault) → ¬ HasMapFault text shape fault
  no_map shape fault faulty =
      text_taken text file (JobMap fault) means short (λ e. absurd (cc))
      (record {
        document = λ e. absurd (cc);
        field = λ which e. absurd (cc);
        rule = λ rule e. absurd (cc);
        map = λ other e. inl (let same : fault ≡ other = cc in
            record { shape = shape; takes = tt; faulty = subst (HasMapFault text shape) same faulty });
      }) tt

-- ---- a text whose job the mirror is healed for

pub stops_for : {X : Type 0} (verb : Verb) (text : List ℕ) (file : JobFile) (result : Result X Status) (old new : RackView)
    → Attaches verb → IsJobFile text file → TakesShape verb file.shape → IfErr result (λ status. StopsAt status old new)
    → IfErr result (λ status. HealStops verb text status old new)
stops_for verb text file (Ok x) old new attaches means takes stops = tt
stops_for verb text file (Err status) old new attaches means takes stops =
    record { attaches = attaches; stops = stops; task = λ _. (file, means, takes) }
