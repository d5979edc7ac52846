-- Where no device fails, no refusal has its cause.
use Rattle.std.proofs.Common.{◌≡◌, inl, inr, ℕ, ◌+◌, ◌-◌, ◌*◌, ◌<◌, ◌≤◌}
use Rattle.std.proofs.Common.{IsTrue, length, drop, Some, None, refl, sym, ◌∙◌, arith, length-drop}
use Rattle.std.proofs.Math.Nat.{mul-le-mul_right}
use Rattle.bm_base.specs.Shape.{input_size}
use Rattle.bm_job.specs.declared.answers.RunError.TheVariants as run
use Rattle.bm_job.proofs.EndLemmas.{begin_complete}
use Rattle.bm_top.specs.Moment.{Tells}
use Rattle.bm_top.specs.TopCall.{IsDoneUnlessMemory}
use Rattle.bm_top.specs.declared.status.Status.{Status}
use Rattle.bm_top.specs.declared.status.Status.TheVariants.{Done, OutOfMemory, Usage, JobFault, JobText, JobField, JobShape, JobMap}
use Rattle.bm_top.specs.declared.status.Status.TheVariants.{DataFault, DataShort, DataLong, RackFault, NoDisks, WrongDims, Exists}
use Rattle.bm_top.specs.declared.status.Status.TheVariants.{NotLoaded, OtherShape, OtherJob, NotDone, NoJob, BadPage, SinkFault, OutOfRange}
use Rattle.bm_top.specs.declared.status.Status.TheVariants.{NotAffine, NotPermutation, BatchShape}
use Rattle.bm_batch.specs.Batches.{view_at}
use Rattle.bm_batch_call.specs.declared.words.BatchVerb.{BatchVerb}
use Rattle.bm_batch_call.specs.declared.words.BatchVerb.TheVariants.{Batch, Run}
use Rattle.bm_batch_call.specs.BatchCall.{IsCase, NoFaults}
use Rattle.bm_batch_call.specs.Causes.{BatchCause, EndsIn}
use Rattle.bm_batch_call.specs.Moment.{BatchDevices, Work, whole_size}

-- an input that fits ends in no part
ends_nowhere : (t : Tells) (w : Work) (old new : BatchDevices) (got k : ℕ) → k < w.count → IsTrue t.input
    → length old.input.left ≡ whole_size w → ¬ EndsIn t w old.input new.input got k
ends_nowhere t w old new got k below told whole ends =
    let size = input_size w.shape in
    let more : (k + 1) * size ≤ w.count * size = mul-le-mul_right size (omega (arith, below)) in
    let one : (k + 1) * size ≡ k * size + size = omega arith in
    let rest : length (drop (k * size) old.input.left) ≡ length old.input.left - k * size = length-drop (k * size) old.input.left in
    let less = ends.0.0 in
    let all = (ends.0.1 told).0 in
    never (k * size) size (w.count * size) got (length old.input.left) (length (drop (k * size) old.input.left)) (omega (arith, more, one))
    whole rest less all
  where
    never : (a b c got all left : ℕ) → a + b ≤ c → all ≡ c → left ≡ all - a → got < b → got ≡ left → ⊥
    never a b c got all left h same rest less is = omega arith

pub complete_of : (t : Tells) (verb : BatchVerb) (w : Work) (old : BatchDevices) (answer : Status) (new : BatchDevices)
    → BatchCause t verb w old answer new → IsCase t verb w old → NoFaults w old new → IsDoneUnlessMemory answer
complete_of t verb w old Done new cause is calm = inl refl
complete_of t verb w old OutOfMemory new cause is calm = inr refl
complete_of t verb w old Usage new cause is calm = absurd cause
complete_of t verb w old JobFault new cause is calm = absurd cause
complete_of t verb w old JobText new cause is calm = absurd cause
complete_of t verb w old (JobField which) new cause is calm = absurd cause
complete_of t verb w old (JobShape rule) new cause is calm = absurd cause
complete_of t verb w old (JobMap fault) new cause is calm = absurd cause
complete_of t verb w old DataFault new cause is calm = absurd (calm.input cause.1)
complete_of t Batch w old (DataShort got) new cause is calm =
    absurd (ends_nowhere t w old new got cause.1.at cause.1.below is.input_told is.size cause.1.here)
complete_of t Run w old (DataShort got) new cause is calm = absurd cause.0
complete_of t Batch w old DataLong new cause is calm =
    (let more = (cause.2 is.input_told).0 in let size = is.size in absurd (omega (arith, more, size)))
complete_of t Run w old DataLong new cause is calm = absurd cause.0
complete_of t verb w old RackFault new cause is calm = absurd (calm.bays cause.bay cause.below (cause.cause.rose tt))
complete_of t Batch w old NoDisks new cause is calm = absurd (cause is.told.0)
complete_of t Run w old NoDisks new cause is calm =
    (let none = cause.here is.told.0 in let some = is.stands cause.at cause.below in
    let e : None ≡ Some _ = sym none ∙ some in absurd (cc))
complete_of t Batch w old WrongDims new cause is calm = absurd (cause is.told.0)
complete_of t Run w old WrongDims new cause is calm = absurd ((cause.here is.told.0).1 (is.stands cause.at cause.below))
complete_of t Batch w old Exists new cause is calm = absurd (cause.1.here is.told.0 (is.absent cause.1.at cause.1.below))
complete_of t Run w old Exists new cause is calm = absurd cause.0
complete_of t Batch w old NotLoaded new cause is calm = absurd (cause.first.here is.told)
complete_of t Run w old NotLoaded new cause is calm =
    absurd ((cause.first.here is.told.1).0 (is.runnable cause.first.at cause.first.below).load_gate)
complete_of t Batch w old OtherShape new cause is calm = absurd (cause.first.here is.told)
complete_of t Run w old OtherShape new cause is calm =
    let x = (cause.first.here is.told.1).0 in
    let e : run.OtherShape ≡ run.Failed =
    begin_complete w.shape (w.job cause.first.at) 0 0 (view_at old.bays cause.first.at).contents run.OtherShape
    (x.state, x.told, (x.other, x.loaded, x.differs)) (is.runnable cause.first.at cause.first.below) (λ page bad. cc) in
    absurd (cc)
complete_of t Batch w old OtherJob new cause is calm = absurd (cause.first.here is.told)
complete_of t Run w old OtherJob new cause is calm =
    let x = (cause.first.here is.told.1).0 in
    let e : run.OtherJob ≡ run.Failed =
    begin_complete w.shape (w.job cause.first.at) 0 0 (view_at old.bays cause.first.at).contents run.OtherJob
    (x.state, x.told, x.loaded, (x.other, x.opened, x.differs)) (is.runnable cause.first.at cause.first.below) (λ page bad. cc) in
    absurd (cc)
complete_of t verb w old (NotDone done all) new cause is calm = absurd cause
complete_of t verb w old NoJob new cause is calm = absurd cause
complete_of t Batch w old (BadPage page) new cause is calm = absurd (cause.first.here is.told)
complete_of t Run w old (BadPage page) new cause is calm =
    absurd ((cause.first.here is.told.1).0.unsound is.told (is.sound cause.first.at cause.first.below))
complete_of t verb w old SinkFault new cause is calm = absurd (calm.out cause.1)
complete_of t verb w old (OutOfRange x y) new cause is calm = absurd cause
complete_of t verb w old (NotAffine x y want) new cause is calm = absurd cause
complete_of t verb w old (NotPermutation x) new cause is calm = absurd cause
complete_of t verb w old (BatchShape bay) new cause is calm = absurd cause
