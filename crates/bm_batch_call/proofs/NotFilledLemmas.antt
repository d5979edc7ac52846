-- A batch one of whose bays is not filled.
use Rattle.std.proofs.Common.{◌≡◌, ℕ, ◌*◌, IsTrue, List, length, Some, None, sym, ◌∙◌, ap, subst, arith}
use Rattle.bm_base.specs.declared.shape.Shape.{Shape}
use Rattle.bm_base.specs.Shape.{input_size}
use Rattle.bm_base.proofs.CountLemmas.{rose_earlier}
use Rattle.bm_rack.specs.RackView.{RackView}
use Rattle.bm_disks.specs.Input.{IsRead}
use Rattle.bm_top.specs.Moment.{Tells, TellsRack}
use Rattle.bm_top.specs.commands.Load.{LoadRefused}
use Rattle.bm_top.specs.declared.status.Status.{Status}
use Rattle.bm_top.specs.declared.status.Status.TheVariants.{Done, OutOfMemory, Usage, JobFault, JobText, JobField, JobShape, JobMap}
use Rattle.bm_top.specs.declared.status.Status.TheVariants.{DataFault, DataShort, DataLong, RackFault, NoDisks, WrongDims, Exists}
use Rattle.bm_top.specs.declared.status.Status.TheVariants.{NotLoaded, OtherShape, OtherJob, NotDone, NoJob, BadPage, SinkFault, OutOfRange}
use Rattle.bm_top.specs.declared.status.Status.TheVariants.{NotAffine, NotPermutation, BatchShape}
use Rattle.bm_top.proofs.CarryWholeLemmas.{none_stands}
use Rattle.bm_batch.specs.Batches.{view_at}
use Rattle.bm_batch_call.specs.declared.words.BatchVerb.TheVariants.{Batch}
use Rattle.bm_batch_call.specs.Bays.{BayLeaves, BayFilled, FillCause, FillRefusal}
use Rattle.bm_batch_call.specs.BatchCall.{BatchCall}
use Rattle.bm_batch_call.specs.Causes.{BatchCause}
use Rattle.bm_batch_call.specs.Filling.{HoldsItsPart, FillsRefusal}
use Rattle.bm_batch_call.specs.Moment.{BatchDevices, Work, no_view, whole_size, part_of}
use Rattle.bm_batch_call.proofs.BayLemmas.{leaves_none, leaves_shut, filled_shut}
use Rattle.bm_batch_call.proofs.ListLemmas.{ends_each}
use Rattle.bm_batch_call.proofs.StoppedLemmas.{stopped}

-- nothing stands, so nothing is loaded
none_refused : (v : RackView) → v.stands ≡ None → LoadRefused v
none_refused v none = record {
  load_gate = none_stands _ v none;
  job_gate = none_stands _ v none;
  sound = record {
    consistent = λ dims is. none_stands _ v none;
    input = λ dims image is i gate u input. (let e : None ≡ Some dims = sym none ∙ is in absurd (cc));
  };
}

pub filled_refused : (t : Tells) (s : Shape) (bytes : List ℕ) (old new : RackView) → BayFilled t s bytes old new → TellsRack t
    → LoadRefused new
filled_refused t s bytes old new f told = record {
  load_gate = λ dims image is i. (f.closed told.1 dims image is i).0;
  job_gate = λ dims image is i. (f.closed told.1 dims image is i).1;
  sound = f.sound told;
}

-- the answers of a bay that is not filled
fill_cause : (t : Tells) (w : Work) (old new : BatchDevices) (e : Status)
    (r : FillsRefusal t w.shape old.input old.bays e new.input new.bays)
    → length old.bays ≡ w.count
    → FillCause t w.shape r.here (view_at old.bays r.at) e new.input (view_at new.bays r.at) → BatchCause t Batch w old e new
fill_cause t w old new Done r many x = absurd x
fill_cause t w old new OutOfMemory r many x = tt
fill_cause t w old new Usage r many x = absurd x
fill_cause t w old new JobFault r many x = absurd x
fill_cause t w old new JobText r many x = absurd x
fill_cause t w old new (JobField which) r many x = absurd x
fill_cause t w old new (JobShape rule) r many x = absurd x
fill_cause t w old new (JobMap fault) r many x = absurd x
fill_cause t w old new DataFault r many x = (tt, rose_earlier old.input.faults r.here.faults new.input.faults r.is_from.faults x)
fill_cause t w old new (DataShort got) r many x = (
  tt,
  record {
    at = r.at;
    below = (let b = r.bays.below in omega (arith, b, many));
    here = (
      (x.0, λ told. ((x.1 told).0 ∙ ap (λ (z : List ℕ). length z) (r.is_from.left told), (x.1 told).1)),
      r.is_from.before,
    );
    before = λ k early. tt;
  },
)
fill_cause t w old new DataLong r many x = absurd x
fill_cause t w old new RackFault r many x =
    record { bay = r.at; below = (let b = r.bays.below in omega (arith, b, many)); cause = x }
fill_cause t w old new NoDisks r many x = x
fill_cause t w old new WrongDims r many x = x
fill_cause t w old new Exists r many x = (
  tt,
  record {
    at = r.at;
    below = (let b = r.bays.below in omega (arith, b, many));
    here = x;
    before = λ k early. (r.bays.before k early).stood;
  },
)
fill_cause t w old new NotLoaded r many x = absurd x
fill_cause t w old new OtherShape r many x = absurd x
fill_cause t w old new OtherJob r many x = absurd x
fill_cause t w old new (NotDone done all) r many x = absurd x
fill_cause t w old new NoJob r many x = absurd x
fill_cause t w old new (BadPage page) r many x = absurd x
fill_cause t w old new SinkFault r many x = absurd x
fill_cause t w old new (OutOfRange a b) r many x = absurd x
fill_cause t w old new (NotAffine a b want) r many x = absurd x
fill_cause t w old new (NotPermutation a) r many x = absurd x
fill_cause t w old new (BatchShape bay) r many x = absurd x

pub fill_stopped : (t : Tells) (w : Work) (old new : BatchDevices) (e : Status) → length old.bays ≡ w.count → new.out ≡ old.out
    → (IsTrue t.input → IsRead (length old.bays * input_size w.shape) old.input.left new.input.left)
    → FillsRefusal t w.shape old.input old.bays e new.input new.bays → BatchCall t Batch w old e new
fill_stopped t w old new e many out few r =
    stopped t Batch w old e new (fill_cause t w old new e r many why) (λ is. subst Why is why) (λ is. subst Why is why) out r.bays.count
    (λ k below. ends_each no_view (HoldsItsPart t w.shape old.input) (λ k was is. FillRefusal t w.shape r.here was e new.input is)
    (λ k was is. BayLeaves t Batch w.shape (w.job k) (length old.input.left ≡ whole_size w) (part_of w old.input.left k) was is) r.at
    old.bays new.bays
    r.bays
    (λ k a b early f. leaves_shut t w.shape (w.job k) _ _ a b (filled_shut t w.shape _ a b f))
    (λ a b f. leaves_shut t w.shape (w.job r.at) _ _ a b f.bay)
    (λ k a late. leaves_none t Batch w.shape (w.job k) _ _ a) k)
    (λ of k below told. ends_each no_view (HoldsItsPart t w.shape old.input) (λ k was is. FillRefusal t w.shape r.here was e new.input is)
    (λ k was is. was.stands ≡ None → LoadRefused is) r.at old.bays new.bays r.bays
    (λ k a b early f none. filled_refused t w.shape _ a b f told) (λ a b f none. f.refused of told)
    (λ k a late none. none_refused a none) k)
    (λ is k below. tt)
    (λ told. (let x = few told in (
      x.0,
      (let h = x.1 in let size : length old.bays * input_size w.shape ≡ whole_size w =
          ap (λ (n : ℕ). n * input_size w.shape) many in omega (arith, h, size)),
      x.2,
    )))
    (let a = r.is_from.faults in let b = r.faults in omega (arith, a, b))
  where
    Why : Status → Type 0
    Why x = FillCause t w.shape r.here (view_at old.bays r.at) x new.input (view_at new.bays r.at)

    why : Why e
    why = r.bays.here.cause
