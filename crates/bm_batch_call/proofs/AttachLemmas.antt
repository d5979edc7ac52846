-- Bays that are attached, or not.
use Rattle.std.proofs.Common.{Ok, Err, ◌≡◌, length, Result, refl, ap, subst, arith}
use Rattle.std.proofs.lemmas.Bool.{false≢true}
use Rattle.bm_base.specs.declared.shape.Shape.{Shape}
use Rattle.bm_rack.specs.RackView.{RackView}
use Rattle.bm_top.specs.Moment.{SourceView, Tells}
use Rattle.bm_top.specs.Status.{IsOfInput}
use Rattle.bm_top.specs.commands.Run.{NoSession}
use Rattle.bm_top.specs.declared.status.Status.{Status}
use Rattle.bm_top.specs.declared.status.Status.TheVariants.{Done, OutOfMemory, Usage, JobFault, JobText, JobField, JobShape, JobMap}
use Rattle.bm_top.specs.declared.status.Status.TheVariants.{DataFault, DataShort, DataLong, RackFault, NoDisks, WrongDims, Exists}
use Rattle.bm_top.specs.declared.status.Status.TheVariants.{NotLoaded, OtherShape, OtherJob, NotDone, NoJob, BadPage, SinkFault, OutOfRange}
use Rattle.bm_top.specs.declared.status.Status.TheVariants.{NotAffine, NotPermutation, BatchShape}
use Rattle.bm_top.proofs.ExitLemmas.{SameDisks-refl, SameCalls-refl}
use Rattle.bm_batch.specs.Batches.{view_at}
use Rattle.bm_batch_call.specs.declared.words.BatchVerb.TheVariants.{Run}
use Rattle.bm_batch_call.specs.Bays.{BayLeaves, BayAttached, AttachCause, AttachFails}
use Rattle.bm_batch_call.specs.BatchCall.{PrepareCall}
use Rattle.bm_batch_call.specs.Causes.{BatchCause}
use Rattle.bm_batch_call.specs.Moment.{BatchDevices, Work, no_view, whole_size, part_of}
use Rattle.bm_batch_call.specs.Opening.{AttachCall, AttachEnds}
use Rattle.bm_batch_call.proofs.BayLemmas.{leaves_none, leaves_attached}
use Rattle.bm_batch_call.proofs.ListLemmas.{ends_each}
use Rattle.bm_batch_call.proofs.StoppedLemmas.{stopped}

attach_cause : (t : Tells) (w : Work) (old new : BatchDevices) (e : Status) (r : AttachEnds t w.shape old.bays e new.bays)
    → length old.bays ≡ w.count → AttachCause t w.shape (view_at old.bays r.at) e (view_at new.bays r.at) → BatchCause t Run w old e new
attach_cause t w old new Done r many x = absurd x
attach_cause t w old new OutOfMemory r many x = tt
attach_cause t w old new Usage r many x = absurd x
attach_cause t w old new JobFault r many x = absurd x
attach_cause t w old new JobText r many x = absurd x
attach_cause t w old new (JobField which) r many x = absurd x
attach_cause t w old new (JobShape rule) r many x = absurd x
attach_cause t w old new (JobMap fault) r many x = absurd x
attach_cause t w old new DataFault r many x = absurd x
attach_cause t w old new (DataShort got) r many x = absurd x
attach_cause t w old new DataLong r many x = absurd x
attach_cause t w old new RackFault r many x =
    record { bay = r.at; below = (let b = r.bays.below in omega (arith, b, many)); cause = x }
attach_cause t w old new NoDisks r many x = record {
  at = r.at;
  below = (let b = r.bays.below in omega (arith, b, many));
  here = x;
  before = λ k early. (r.bays.before k early).stood;
}
attach_cause t w old new WrongDims r many x = record {
  at = r.at;
  below = (let b = r.bays.below in omega (arith, b, many));
  here = x;
  before = λ k early. (r.bays.before k early).stood;
}
attach_cause t w old new Exists r many x = absurd x
attach_cause t w old new NotLoaded r many x = absurd x
attach_cause t w old new OtherShape r many x = absurd x
attach_cause t w old new OtherJob r many x = absurd x
attach_cause t w old new (NotDone done all) r many x = absurd x
attach_cause t w old new NoJob r many x = absurd x
attach_cause t w old new (BadPage page) r many x = absurd x
attach_cause t w old new SinkFault r many x = absurd x
attach_cause t w old new (OutOfRange a b) r many x = absurd x
attach_cause t w old new (NotAffine a b want) r many x = absurd x
attach_cause t w old new (NotPermutation a) r many x = absurd x
attach_cause t w old new (BatchShape bay) r many x = absurd x

not_of_input : (t : Tells) (s : Shape) (old new : RackView) (e : Status) → AttachCause t s old e new → ¬ IsOfInput e
not_of_input t s old new DataFault x of = x
not_of_input t s old new (DataShort got) x of = x
not_of_input t s old new DataLong x of = x
not_of_input t s old new _ x of = of

pub attach_done : (t : Tells) (w : Work) (old new : BatchDevices) (r : Result (Unit {0}) Status) → length old.bays ≡ w.count
    → new.out ≡ old.out → new.input ≡ old.input → AttachCall t w.shape old.bays r new.bays → PrepareCall t Run w old r new
attach_done t w old new (Ok x) many out input o = record {
  ready = λ ok. record {
    many = many;
    count = (o.attached refl).count;
    bays = λ k below. (o.attached refl).before k (omega (arith, below, many));
    input = input;
    input_faults = (let same = ap (λ (v : SourceView). v.faults) input in omega (arith, same));
    out = out;
  };
  refused = tt;
}
attach_done t w old new (Err e) many out input o =
    let r = o.refused in
    let why = r.bays.here.cause in
    record {
      ready = λ ok. absurd (false≢true ok);
      refused = stopped t Run w old e new (attach_cause t w old new e r many why)
          (λ is. subst (λ (x : Status). AttachCause t w.shape (view_at old.bays r.at) x (view_at new.bays r.at)) is why)
          (λ is. subst (λ (x : Status). AttachCause t w.shape (view_at old.bays r.at) x (view_at new.bays r.at)) is why) out r.bays.count
          (λ k below. ends_each no_view (λ k was is. BayAttached t w.shape was is) (λ k was is. AttachFails t w.shape was e is)
          (λ k was is. BayLeaves t Run w.shape (w.job k) (length old.input.left ≡ whole_size w) (part_of w old.input.left k) was is) r.at
          old.bays new.bays r.bays
          (λ k a b early f. leaves_attached t w.shape (w.job k) _ _ a b f.from)
          (λ a b f. leaves_attached t w.shape (w.job r.at) _ _ a b f.from)
          (λ k a late. leaves_none t Run w.shape (w.job k) _ _ a) k)
          (λ of. absurd (not_of_input t w.shape _ _ e why of))
          (λ is k below. ends_each no_view (λ k was is. BayAttached t w.shape was is) (λ k was is. AttachFails t w.shape was e is)
          (λ k was is. NoSession was is) r.at old.bays new.bays r.bays
          (λ k a b early f. record { disks = f.from.disks; calls = f.from.calls })
          (λ a b f. record { disks = f.from.disks; calls = f.from.calls })
          (λ k a late. record { disks = SameDisks-refl a; calls = SameCalls-refl a }) k)
          input (let same = ap (λ (v : SourceView). v.faults) input in omega (arith, same));
    }
