-- The text of a transform: what is read of its source, the first fault of one, and a text that means a file, which has none.
use Rattle.std.proofs.Common.{◌≡◌, ◌≢◌, inr, ⊎_elim, ℕ, ◌≤◌, Bool, IsTrue, List, [], length, slice_index, Some}
use Rattle.std.proofs.Common.{Result, Ok, Err, IfOk, IfErr, IsErrOf, refl, sym, ap, subst, ◌∙◌, arith}
use Rattle.std.proofs.lemmas.List.{drop_all}
use Rattle.bm_base.specs.declared.field_name.FieldName.{FieldName}
use Rattle.bm_base.specs.declared.shape.Shape.{Shape}
use Rattle.bm_base.specs.Count.{Rose}
use Rattle.bm_named.specs.declared.map_fault.MapFault.{MapFault}
use Rattle.bm_named.specs.declared.map_fault.MapFault.TheVariants.{Width, Side, Length, Range, Twice, Wide, Singular, Complement}
use Rattle.bm_jobfile.specs.JobFile.{IsNoDocument}
use Rattle.bm_kinds.specs.OnBits.{AreBits}
use Rattle.bm_kindjob.specs.declared.kind_file.KindFile.{KindFile}
use Rattle.bm_kindjob.specs.declared.reading.KindText.{KindText}
use Rattle.bm_kindjob.specs.SetList.{SetFaultIs}
use Rattle.bm_kindjob.specs.KindText.{text_of}
use Rattle.bm_kindjob.specs.KindFile.{HasFaultyField, HasBrokenRule, HasMapFault, IsKindFile, MapFaultIs, Says}
use Rattle.bm_top.specs.JobRead.{JobRead}
use Rattle.bm_top.specs.Moment.{SourceView}
use Rattle.bm_top.specs.Status.{IsBeforeDocument, RefusesJob}
use Rattle.bm_top.specs.declared.words.Verb.{Verb}
use Rattle.bm_top.specs.declared.words.Verb.TheVariants.{New}
use Rattle.bm_top.specs.declared.status.Status.{Status}
use Rattle.bm_top.specs.declared.status.Status.TheVariants.{Done, OutOfMemory, Usage, JobFault, JobText, JobField, JobShape, JobMap}
use Rattle.bm_top.specs.declared.status.Status.TheVariants.{DataFault, DataShort, DataLong, RackFault, NoDisks, WrongDims, Exists}
use Rattle.bm_top.specs.declared.status.Status.TheVariants.{NotLoaded, OtherShape, OtherJob, NotDone, NoJob, BadPage, SinkFault, OutOfRange}
use Rattle.bm_top.specs.declared.status.Status.TheVariants.{NotAffine, NotPermutation, BatchShape}
use Rattle.bm_kind_call.specs.Texts.{FileFits, HoldsFile, IsSetFault, TextCause, TextRead}

-- ---- a text that means a file has no fault

-- a text says one thing alone
said_once : (text : List ℕ) (a b : KindText) → Says text a → Says text b → a ≡ b
said_once text a b x y =
    let parsed : Some x.document ≡ Some y.document = sym x.read.parsed ∙ y.read.parsed in
    let document : x.document ≡ y.document = cc in
    let fields : Ok a ≡ Ok b = sym x.fields ∙ ap text_of document ∙ y.fields in
    cc

not_no_document : (text : List ℕ) (file : KindFile) → IsKindFile text file → ¬ IsNoDocument text
not_no_document text file means none =
    ⊎_elim
    (λ long. absurd (omega (arith, long, means.says.read.short)))
    (λ none. let no = none means.says.read.utf8 in let some = means.says.read.parsed in absurd (cc))
    none

no_faulty_field : (text : List ℕ) (file : KindFile) (which : FieldName) → IsKindFile text file → ¬ HasFaultyField text which
no_faulty_field text file which means faulty =
    let parsed : Some means.says.document ≡ Some faulty.document = sym means.says.read.parsed ∙ faulty.read.parsed in
    let document : means.says.document ≡ faulty.document = cc in
    let fields : Ok means.said ≡ Err which = sym means.says.fields ∙ ap text_of document ∙ faulty.faulty in
    absurd (cc)

no_broken_rule : (text : List ℕ) (file : KindFile) (rule : ℕ) → IsKindFile text file → ¬ HasBrokenRule text rule
no_broken_rule text file rule means broken =
    let same = said_once text broken.said means.said broken.says means.says in
    let kept = means.file_said.kept in
    let is = broken.rule_broken.broken in
    broken.rule_broken.some (cc)

-- different bits below n have no fault
no_set_fault : (n : ℕ) (list : List ℕ) (e : MapFault) → AreBits n (length list) (slice_index list) → ¬ SetFaultIs n list e
no_set_fault n list Width bits is = is
no_set_fault n list (Side p) bits is = is
no_set_fault n list (Length got) bits is = is
no_set_fault n list (Range i) bits is = let low = bits.below i is.inside in let high = is.outside in absurd (omega (arith, low, high))
no_set_fault n list (Twice i j) bits is = bits.apart i j is.earlier is.inside is.same
no_set_fault n list (Wide i) bits is = is
no_set_fault n list (Singular x) bits is = is
no_set_fault n list (Complement c) bits is = is

no_map_fault : (text : List ℕ) (file : KindFile) (e : MapFault) → IsKindFile text file → ¬ ((shape : Shape) × HasMapFault text shape e)
no_map_fault text file e means faulty =
    let map = faulty.1 in
    let same = said_once text map.said means.said map.says means.says in
    let here : MapFaultIs faulty.0 means.said.list e =
    subst (λ (said : KindText). MapFaultIs faulty.0 said.list e) same map.map_faulty.faulty in
    let n : faulty.0.n ≡ file.shape.n = map.map_faulty.numbers.n ∙ ap (λ (said : KindText). said.shape.n) same
    ∙ sym means.file_said.numbers.n in
    let width : faulty.0.width ≡ file.shape.width = map.map_faulty.numbers.width ∙ ap (λ (said : KindText). said.shape.width) same
    ∙ sym means.file_said.numbers.width in
    ⊎_elim
    (λ (wide : (e ≡ Width) × (faulty.0.width ≢ 8)). wide.1 (width ∙ means.file_said.set.width))
    (λ (set : (faulty.0.width ≡ 8) × SetFaultIs faulty.0.n means.said.list e).
    no_set_fault faulty.0.n means.said.list e
    (subst (λ (k : ℕ). AreBits k (length means.said.list) (slice_index means.said.list)) (sym n) means.file_said.set.bits) set.1)
    here

-- its source is refused only where it failed
pub not_refused : (told : Bool) (old : SourceView) (answer : Status) (new : SourceView) (file : KindFile)
    → TextRead told old answer new → IsTrue told → IsKindFile old.left file → ¬ Rose old.faults new.faults → ¬ RefusesJob answer
not_refused _ old Done new file r t means calm is = is
not_refused _ old OutOfMemory new file r t means calm is = is
not_refused _ old Usage new file r t means calm is = is
not_refused _ old JobFault new file r t means calm is = absurd (calm (r.fault refl))
not_refused _ old JobText new file r t means calm is = absurd (not_no_document _ file means ((r.cause t).document refl))
not_refused _ old (JobField which) new file r t means calm is = absurd (no_faulty_field _ file which means ((r.cause t).field which refl))
not_refused _ old (JobShape rule) new file r t means calm is = absurd (no_broken_rule _ file rule means ((r.cause t).rule rule refl))
not_refused _ old (JobMap fault) new file r t means calm is = absurd (no_map_fault _ file fault means ((r.cause t).map fault refl))
not_refused _ old DataFault new file r t means calm is = is
not_refused _ old (DataShort got) new file r t means calm is = is
not_refused _ old DataLong new file r t means calm is = is
not_refused _ old RackFault new file r t means calm is = is
not_refused _ old NoDisks new file r t means calm is = is
not_refused _ old WrongDims new file r t means calm is = is
not_refused _ old Exists new file r t means calm is = is
not_refused _ old NotLoaded new file r t means calm is = is
not_refused _ old OtherShape new file r t means calm is = is
not_refused _ old OtherJob new file r t means calm is = is
not_refused _ old (NotDone done all) new file r t means calm is = is
not_refused _ old NoJob new file r t means calm is = is
not_refused _ old (BadPage page) new file r t means calm is = is
not_refused _ old SinkFault new file r t means calm is = is
not_refused _ old (OutOfRange x y) new file r t means calm is = is
not_refused _ old (NotAffine x y want) new file r t means calm is = is
not_refused _ old (NotPermutation x) new file r t means calm is = is
not_refused _ old (BatchShape bay) new file r t means calm is = is

-- ---- the file of a text

-- its numbers keep their ranges
pub fits_file : (text : List ℕ) (result : Result KindFile Status) → IfOk result (λ file. IsKindFile text file)
    → IfOk result (λ file. FileFits file)
fits_file text (Err e) is = tt
fits_file text (Ok file) is = record { width = is.file_said.set.width; set = is.file_said.set.below }

-- it is that of the source that held the text
pub holds_file : (told : Bool) (v : SourceView) (text : List ℕ) (result : Result KindFile Status) → (IsTrue told → text ≡ v.left)
    → IfOk result (λ file. IsKindFile text file) → IfOk result (λ file. HoldsFile told v file)
holds_file told v text (Err e) same is = tt
holds_file told v text (Ok file) same is = λ t. subst (λ (x : List ℕ). IsKindFile x file) (same t) is

-- ---- the first fault of a text

-- an answer that names none
no_cause : (text : List ℕ) (answer : Status) → ¬ RefusesJob answer → TextCause text answer
no_cause text answer fine = record {
  document = λ e. absurd (fine (subst RefusesJob (sym e) tt));
  field = λ which e. absurd (fine (subst RefusesJob (sym e) tt));
  rule = λ rule e. absurd (fine (subst RefusesJob (sym e) tt));
  map = λ fault e. absurd (fine (subst RefusesJob (sym e) tt));
}

-- the first fault of a map is one that a set of bits can have
pub set_fault : (s : Shape) (list : List ℕ) (e : MapFault) → MapFaultIs s list e → IsSetFault e
set_fault s list Width is = tt
set_fault s list (Range i) is = tt
set_fault s list (Twice i j) is = tt
set_fault s list (Side p) is = ⊎_elim (λ (w : (Side p ≡ Width) × (s.width ≢ 8)). let e = w.0 in absurd (cc)) (λ x. absurd x.1) is
set_fault s list (Length got) is = ⊎_elim (λ (w : (Length got ≡ Width) × (s.width ≢ 8)). let e = w.0 in absurd (cc)) (λ x. absurd x.1) is
set_fault s list (Wide i) is = ⊎_elim (λ (w : (Wide i ≡ Width) × (s.width ≢ 8)). let e = w.0 in absurd (cc)) (λ x. absurd x.1) is
set_fault s list (Singular x) is = ⊎_elim (λ (w : (Singular x ≡ Width) × (s.width ≢ 8)). let e = w.0 in absurd (cc)) (λ y. absurd y.1) is
set_fault s list (Complement c) is =
    ⊎_elim (λ (w : (Complement c ≡ Width) × (s.width ≢ 8)). let e = w.0 in absurd (cc)) (λ x. absurd x.1) is

-- so it is of each map that is told
pub map_set : (text : List ℕ) (shape : Shape) (e other : MapFault) → HasMapFault text shape e → e ≡ other → IsSetFault other
map_set text shape e other faulty same = subst IsSetFault same (set_fault shape faulty.said.list e faulty.map_faulty.faulty)

-- a map that is at fault
pub map_cause : (text : List ℕ) (shape : Shape) (e : MapFault) → HasMapFault text shape e → TextCause text (JobMap e)
map_cause text shape e faulty = record {
  document = λ is. absurd (cc);
  field = λ which is. absurd (cc);
  rule = λ rule is. absurd (cc);
  map = λ other is. let same : e ≡ other = cc in (shape, subst (λ (x : MapFault). HasMapFault text shape x) same faulty);
}

-- ---- the source

-- one that failed or was too long, or for whose text there was no memory
pub source_refused : (told : Bool) (old : SourceView) (answer : Status) (new : SourceView) → IsBeforeDocument answer
    → ((verb : Verb) → JobRead verb told old answer new) → TextRead told old answer new
source_refused told old answer new early reads = record {
  cause = λ t. record {
    document = λ e. (read.cause t).document e;
    field = λ which e. absurd (subst IsBeforeDocument e early);
    rule = λ rule e. absurd (subst IsBeforeDocument e early);
    map = λ fault e. absurd (subst IsBeforeDocument e early);
  };
  map = λ fault e. absurd (subst IsBeforeDocument e early);
  ended = read.ended;
  read = read.read;
  memory = read.memory;
  few = read.few;
  fault = read.fault;
  faults = read.faults;
}
  where
    read : JobRead New told old answer new
    read = reads New

-- one that ended
source_ended : (told : Bool) (answer : Status) (old new : SourceView) → answer ≢ JobFault
    → (IsTrue told → (new.left ≡ []) × (length old.left ≤ 65536)) → old.faults ≤ new.faults → (IsTrue told → TextCause old.left answer)
    → ((fault : MapFault) → answer ≡ JobMap fault → IsSetFault fault) → TextRead told old answer new
source_ended told answer old new other end low cause map = record {
  cause = cause;
  map = map;
  ended = λ t is. (end t).0;
  read = λ t read. (end t).0 ∙ sym (drop_all 65537 old.left (omega (arith, (end t).1)));
  memory = λ t e. inr (end t).0;
  few = λ t. (length old.left, omega (arith, (end t).1), (end t).0 ∙ sym (drop_all (length old.left) old.left (omega arith)));
  fault = λ e. absurd (other e);
  faults = low;
}

-- one whose text is refused
pub text_refused : (told : Bool) (old new : SourceView) (text : List ℕ) (result : Result KindFile Status)
    → (IsTrue told → text ≡ old.left) → (IsTrue told → (new.left ≡ []) × (length old.left ≤ 65536)) → old.faults ≤ new.faults
    → ¬ IsErrOf result JobFault → IfErr result (λ status. TextCause text status)
    → ((fault : MapFault) → IsErrOf result (JobMap fault) → IsSetFault fault) → IfErr result (λ status. TextRead told old status new)
text_refused told old new text (Ok file) same end low calm cause map = tt
text_refused told old new text (Err status) same end low calm cause map =
    source_ended told status old new (λ e. calm (ap Err e)) end low (λ t. subst (λ (x : List ℕ). TextCause x status) (same t) cause)
    (λ fault e. map fault (ap Err e))

-- one whose file was taken
pub source_taken : (told : Bool) (answer : Status) (old new : SourceView) → ¬ RefusesJob answer
    → (IsTrue told → (new.left ≡ []) × (length old.left ≤ 65536)) → old.faults ≤ new.faults → TextRead told old answer new
source_taken told answer old new fine end low =
    source_ended told answer old new (λ e. fine (subst RefusesJob (sym e) tt)) end low (λ t. no_cause old.left answer fine)
    (λ fault e. absurd (fine (subst RefusesJob (sym e) tt)))
