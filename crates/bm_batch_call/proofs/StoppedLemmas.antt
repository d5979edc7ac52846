-- A batch that wrote nothing.
use Rattle.std.proofs.Common.{◌≡◌, ◌≢◌, inl, ℕ, ◌<◌, ◌≤◌, length, ap, arith}
use Rattle.bm_top.specs.Moment.{SinkView, Tells}
use Rattle.bm_top.specs.Status.{IsOfInput}
use Rattle.bm_top.specs.declared.status.Status.{Status}
use Rattle.bm_top.specs.declared.status.Status.TheVariants.{Done, OutOfMemory, SinkFault}
use Rattle.bm_batch.specs.Batches.{view_at}
use Rattle.bm_batch_call.specs.declared.words.BatchVerb.{BatchVerb}
use Rattle.bm_batch_call.specs.Bays.{BayLeaves}
use Rattle.bm_batch_call.specs.BatchCall.{BatchCall, LeavesShut, LeavesMemory}
use Rattle.bm_batch_call.specs.Causes.{BatchCause}
use Rattle.bm_batch_call.specs.Moment.{BatchDevices, Work, whole_size, part_of}
use Rattle.bm_batch_call.specs.Output.{ReadsFew}
use Rattle.bm_batch_call.proofs.CompleteLemmas.{complete_of}

pub stopped : (t : Tells) (verb : BatchVerb) (w : Work) (old : BatchDevices) (answer : Status) (new : BatchDevices)
    → BatchCause t verb w old answer new → answer ≢ Done → answer ≢ SinkFault → new.out ≡ old.out → length new.bays ≡ length old.bays
    → ((k : ℕ) → k < w.count → BayLeaves t verb w.shape (w.job k) (length old.input.left ≡ whole_size w) (part_of w old.input.left k)
    (view_at old.bays k) (view_at new.bays k))
    → (IsOfInput answer → (k : ℕ) → k < w.count → LeavesShut t old new k)
    → (answer ≡ OutOfMemory → (k : ℕ) → k < w.count → LeavesMemory verb old new k)
    → ReadsFew t verb w old.input new.input → old.input.faults ≤ new.input.faults → BatchCall t verb w old answer new
stopped t verb w old answer new cause not_done not_cut out count bays refused memory few faults = record {
  cause = cause;
  output = inl (record { out = out; not_done = not_done; not_cut = not_cut });
  count = count;
  bays = bays;
  refused = refused;
  memory = memory;
  few = few;
  input_faults = faults;
  out_faults = (let same = ap (λ (v : SinkView). v.faults) out in omega (arith, same));
  complete = complete_of t verb w old answer new cause;
}
