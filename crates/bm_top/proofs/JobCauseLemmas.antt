-- The first fault of a text, and a text that means a job file, which has none.
use Rattle.std.proofs.Common.{◌≡◌, ◌⊎◌, inl, inr, ⊎_elim, ℕ, ◌^◌, ◌<◌, ◌≤◌, Bool, IsTrue, List, length, Some, Ok, Err}
use Rattle.std.proofs.Common.{sym, ap, subst, ◌∙◌, refl, arith}
use Rattle.bm_base.specs.declared.field_name.FieldName.{FieldName}
use Rattle.bm_base.specs.declared.shape.Shape.{Shape}
use Rattle.bm_base.specs.Count.{Rose}
use Rattle.bm_base.proofs.EqualLemmas.{shape_equal}
use Rattle.bm_named.specs.declared.map_fault.MapFault.{MapFault}
use Rattle.bm_named.specs.declared.map_fault.MapFault.TheVariants as fault
use Rattle.bm_jobfile.specs.declared.job_file.JobFile.{JobFile}
use Rattle.bm_jobfile.specs.declared.map_table.MapText.{MapText}
use Rattle.bm_jobfile.specs.declared.map_table.MapText.TheVariants.{Permute, Walsh}
use Rattle.bm_jobfile.specs.declared.reading.JobText.{JobText as Said}
use Rattle.bm_jobfile.specs.JobText.{text_of}
use Rattle.bm_jobfile.specs.MapJob.{MapFaultIs, NamedFaultIs, NamedIsFaultless}
use Rattle.bm_jobfile.specs.JobFile.{IsNoDocument, HasFaultyField, HasBrokenRule, HasMapFault, IsJobFile}
use Rattle.bm_jobfile.proofs.OneFileLemmas.{said_once}
use Rattle.bm_top.specs.declared.status.Status.{Status}
use Rattle.bm_top.specs.declared.status.Status.TheVariants.{Done, OutOfMemory, Usage, JobFault, JobText, JobField, JobShape, JobMap}
use Rattle.bm_top.specs.declared.status.Status.TheVariants.{DataFault, DataShort, DataLong, RackFault, NoDisks, WrongDims, Exists}
use Rattle.bm_top.specs.declared.status.Status.TheVariants.{NotLoaded, OtherShape, OtherJob, NotDone, NoJob, BadPage, SinkFault, OutOfRange}
use Rattle.bm_top.specs.declared.status.Status.TheVariants.{NotAffine, NotPermutation, BatchShape}
use Rattle.bm_top.specs.Moment.{SourceView}
use Rattle.bm_top.specs.Status.{RefusesJob}
use Rattle.bm_top.specs.JobRead.{JobCause, JobRead, HasJobMapFault, HasRefusedShape, SaysShape, TakesShape, RefusesShape}
use Rattle.bm_top.specs.declared.words.Verb.{Verb}
use Rattle.bm_top.specs.declared.words.Verb.TheVariants as verbs

-- a text that means a job file is a document
not_no_document : (text : List ℕ) (file : JobFile) → IsJobFile text file → ¬ IsNoDocument text
not_no_document text file means none =
    ⊎_elim
    (λ long. absurd (omega (arith, long, means.says.read.short)))
    (λ none. let no = none means.says.read.utf8 in let some = means.says.read.parsed in absurd (cc))
    none

-- its fields are not faulty
no_faulty_field : (text : List ℕ) (file : JobFile) (which : FieldName) → IsJobFile text file → ¬ HasFaultyField text which
no_faulty_field text file which means faulty =
    let parsed : Some means.says.document ≡ Some faulty.document = sym means.says.read.parsed ∙ faulty.read.parsed in
    let document : means.says.document ≡ faulty.document = cc in
    let fields : Ok means.said ≡ Err which = sym means.says.fields ∙ ap text_of document ∙ faulty.faulty in
    absurd (cc)

-- its shape breaks no rule
no_broken_rule : (text : List ℕ) (file : JobFile) (rule : ℕ) → IsJobFile text file → ¬ HasBrokenRule text rule
no_broken_rule text file rule means broken =
    let same = said_once text broken.said means.said broken.says means.says in
    let kept = means.file_said.kept in
    let is = broken.rule_broken.broken in
    broken.rule_broken.some (cc)

-- the faults of a map are those for the address bits and the width of a shape
map_fault-same : (s t : Shape) (map : MapText) (e : MapFault) → s.n ≡ t.n → s.width ≡ t.width → MapFaultIs s map e → MapFaultIs t map e
map_fault-same s t Walsh e n width is = (is.0, λ eight. is.1 (width ∙ eight))
map_fault-same s t (Permute named complement) e n width is =
    subst (λ (n : ℕ). NamedFaultIs n named e ⊎ ((e ≡ fault.Complement complement) × (2 ^ n ≤ complement) × NamedIsFaultless n named)) n is

-- its map has no fault
no_map_fault : (verb : Verb) (text : List ℕ) (file : JobFile) (e : MapFault) → IsJobFile text file → ¬ HasJobMapFault verb text e
no_map_fault verb text file e means faulty =
    let map = faulty.faulty in
    let same = said_once text map.said means.said map.says means.says in
    let here : MapFaultIs faulty.shape means.said.map e = subst (λ
    (said : Said). MapFaultIs faulty.shape said.map e) same map.map_faulty.faulty in
    let n : faulty.shape.n ≡ file.shape.n = map.map_faulty.numbers.n ∙ ap (λ (said : Said). said.shape.n) same
    ∙ sym means.file_said.numbers.n in
    let width : faulty.shape.width ≡ file.shape.width =
    map.map_faulty.numbers.width ∙ ap (λ (said : Said). said.shape.width) same ∙ sym means.file_said.numbers.width in
    means.file_said.faultless e (map_fault-same faulty.shape file.shape means.said.map e n width here)

-- a shape that the command takes is not refused
takes_or_refuses : (verb : Verb) (s : Shape) (answer : Status) → TakesShape verb s → ¬ RefusesShape verb s answer
takes_or_refuses verbs.New s answer takes refuses = refuses
takes_or_refuses verbs.Load s answer takes refuses = refuses
takes_or_refuses verbs.Plan s answer takes refuses = refuses
takes_or_refuses verbs.Run s answer takes refuses = refuses
takes_or_refuses verbs.Status s answer takes refuses = refuses
takes_or_refuses verbs.Dump s answer takes refuses = refuses
takes_or_refuses verbs.Drop s answer takes refuses = refuses
takes_or_refuses verbs.Detect s answer takes refuses = refuses.0 takes
takes_or_refuses verbs.Carry s answer takes refuses = refuses
takes_or_refuses verbs.Drill s answer takes refuses = let large = refuses.0 in absurd (omega (arith, takes, large))

-- the shape of a text is that of its file
no_refused_shape : (verb : Verb) (text : List ℕ) (file : JobFile) (answer : Status) → IsJobFile text file → TakesShape verb file.shape
    → ¬ HasRefusedShape verb text answer
no_refused_shape verb text file answer means takes refused =
    let is = refused.says in
    let same : is.said ≡ means.said = said_once text is.said means.said is.says means.says in
    let x = is.numbers in
    let y = means.file_said.numbers in
    let shape : refused.shape ≡ file.shape =
    shape_equal refused.shape file.shape (x.n ∙ ap (λ (said : Said). said.shape.n) same ∙ sym y.n)
    (x.b ∙ ap (λ (said : Said). said.shape.b) same ∙ sym y.b) (x.d ∙ ap (λ (said : Said). said.shape.d) same ∙ sym y.d)
    (x.m ∙ ap (λ (said : Said). said.shape.m) same ∙ sym y.m)
    (x.width ∙ ap (λ (said : Said). said.shape.width) same ∙ sym y.width) in
    takes_or_refuses verb file.shape answer takes (subst (λ (s : Shape). RefusesShape verb s answer) shape refused.refused)

-- a source whose text means a job file is refused only where it failed
pub not_refused : (verb : Verb) (told : Bool) (old : SourceView) (answer : Status) (new : SourceView) (file : JobFile)
    → JobRead verb told old answer new → IsTrue told → IsJobFile old.left file → TakesShape verb file.shape
    → ¬ Rose old.faults new.faults → ¬ RefusesJob answer
not_refused verb _ old Done new file r t means takes calm is = is
not_refused verb _ old OutOfMemory new file r t means takes calm is = is
not_refused verb _ old Usage new file r t means takes calm is = is
not_refused verb _ old JobFault new file r t means takes calm is = absurd (calm (r.fault refl))
not_refused verb _ old JobText new file r t means takes calm is = absurd (not_no_document _ file means ((r.cause t).document refl))
not_refused verb _ old (JobField which) new file r t means takes calm is = absurd
    (no_faulty_field _ file which means ((r.cause t).field which refl))
not_refused verb _ old (JobShape rule) new file r t means takes calm is =
    absurd (⊎_elim (no_broken_rule _ file rule means) (no_refused_shape verb _ file (JobShape rule) means takes)
    ((r.cause t).rule rule refl))
not_refused verb _ old (JobMap fault) new file r t means takes calm is =
    absurd (⊎_elim (no_map_fault verb _ file fault means) (no_refused_shape verb _ file (JobMap fault) means takes)
    ((r.cause t).map fault refl))
not_refused verb _ old DataFault new file r t means takes calm is = is
not_refused verb _ old (DataShort got) new file r t means takes calm is = is
not_refused verb _ old DataLong new file r t means takes calm is = is
not_refused verb _ old RackFault new file r t means takes calm is = is
not_refused verb _ old NoDisks new file r t means takes calm is = is
not_refused verb _ old WrongDims new file r t means takes calm is = is
not_refused verb _ old Exists new file r t means takes calm is = is
not_refused verb _ old NotLoaded new file r t means takes calm is = is
not_refused verb _ old OtherShape new file r t means takes calm is = is
not_refused verb _ old OtherJob new file r t means takes calm is = is
not_refused verb _ old (NotDone done all) new file r t means takes calm is = is
not_refused verb _ old NoJob new file r t means takes calm is = is
not_refused verb _ old (BadPage page) new file r t means takes calm is = is
not_refused verb _ old SinkFault new file r t means takes calm is = is
not_refused verb _ old (OutOfRange x y) new file r t means takes calm is = is
not_refused verb _ old (NotAffine x y want) new file r t means takes calm is = is
not_refused verb _ old (NotPermutation x) new file r t means takes calm is = is
not_refused verb _ old (BatchShape bay) new file r t means takes calm is = is

-- an answer that names no fault of the text
pub no_cause : (verb : Verb) (text : List ℕ) (answer : Status) → ¬ RefusesJob answer → JobCause verb text answer
no_cause verb text answer fine = record {
  document = λ e. absurd (fine (subst RefusesJob (sym e) tt));
  field = λ which e. absurd (fine (subst RefusesJob (sym e) tt));
  rule = λ rule e. absurd (fine (subst RefusesJob (sym e) tt));
  map = λ fault e. absurd (fine (subst RefusesJob (sym e) tt));
}

-- a text that is too long
pub too_long_cause : (verb : Verb) (text : List ℕ) → 65536 < length text → JobCause verb text JobText
too_long_cause verb text long = record {
  document = λ e. inl long;
  field = λ which e. absurd (cc);
  rule = λ rule e. absurd (cc);
  map = λ fault e. absurd (cc);
}

-- a rule that is broken
pub rule_cause : (verb : Verb) (text : List ℕ) (rule : ℕ) → HasBrokenRule text rule → JobCause verb text (JobShape rule)
rule_cause verb text rule broken = record {
  document = λ e. absurd (cc);
  field = λ which e. absurd (cc);
  rule = λ other e. let same : rule ≡ other = cc in inl (subst (λ (x : ℕ). HasBrokenRule text x) same broken);
  map = λ fault e. absurd (cc);
}

-- a map that is at fault
pub map_cause : (verb : Verb) (text : List ℕ) (shape : Shape) (fault : MapFault) → TakesShape verb shape → HasMapFault text shape fault
    → JobCause verb text (JobMap fault)
map_cause verb text shape fault takes faulty = record {
  document = λ e. absurd (cc);
  field = λ which e. absurd (cc);
  rule = λ rule e. absurd (cc);
  map = λ other e. let same : fault ≡ other = cc in inl (record {
    shape = shape;
    takes = takes;
    faulty = subst (λ (x : MapFault). HasMapFault text shape x) same faulty;
  });
}

-- the shape of a text is one that the command refuses
shape_cause : (verb : Verb) (text : List ℕ) (shape : Shape) (answer : Status) → SaysShape text shape → RefusesShape verb shape answer
    → JobCause verb text answer
shape_cause verbs.New text shape answer says refuses = absurd refuses
shape_cause verbs.Load text shape answer says refuses = absurd refuses
shape_cause verbs.Plan text shape answer says refuses = absurd refuses
shape_cause verbs.Run text shape answer says refuses = absurd refuses
shape_cause verbs.Status text shape answer says refuses = absurd refuses
shape_cause verbs.Dump text shape answer says refuses = absurd refuses
shape_cause verbs.Drop text shape answer says refuses = absurd refuses
shape_cause verbs.Detect text shape answer says refuses =
    let is = refuses.1 in
    record {
      document = λ e. let no : JobMap fault.Width ≡ JobText = sym is ∙ e in absurd (cc);
      field = λ which e. let no : JobMap fault.Width ≡ JobField which = sym is ∙ e in absurd (cc);
      rule = λ rule e. inr (record { shape = shape; says = says; refused = refuses });
      map = λ other e. inr (record { shape = shape; says = says; refused = refuses });
    }
shape_cause verbs.Carry text shape answer says refuses = absurd refuses
shape_cause verbs.Drill text shape answer says refuses =
    let is = refuses.1 in
    record {
      document = λ e. let no : JobShape 8 ≡ JobText = sym is ∙ e in absurd (cc);
      field = λ which e. let no : JobShape 8 ≡ JobField which = sym is ∙ e in absurd (cc);
      rule = λ rule e. inr (record { shape = shape; says = says; refused = refuses });
      map = λ other e. inr (record { shape = shape; says = says; refused = refuses });
    }

-- that of a job file
pub file_cause : (verb : Verb) (text : List ℕ) (file : JobFile) (answer : Status) → IsJobFile text file
    → RefusesShape verb file.shape answer → JobCause verb text answer
file_cause verb text file answer means =
    shape_cause verb text file.shape answer (record {
      said = means.said;
      says = means.says;
      kept = means.file_said.kept;
      numbers = means.file_said.numbers;
    })

-- or that of a text whose map is at fault
pub early_cause : (verb : Verb) (text : List ℕ) (shape : Shape) (fault : MapFault) (answer : Status) → HasMapFault text shape fault
    → RefusesShape verb shape answer → JobCause verb text answer
early_cause verb text shape fault answer faulty =
    shape_cause verb text shape answer (record {
      said = faulty.said;
      says = faulty.says;
      kept = faulty.map_faulty.kept;
      numbers = faulty.map_faulty.numbers;
    })
