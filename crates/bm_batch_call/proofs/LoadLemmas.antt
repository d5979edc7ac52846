-- Bays that are all filled: their load gates are opened where the input ends there.
use Rattle.std.proofs.Common.{Ok, Err, ◌≡◌, ◌≢◌, ℕ, ◌+◌, ◌<◌, ◌≤◌, IsTrue, List, [], length, drop, Result}
use Rattle.std.proofs.Common.{refl, sym, ◌∙◌, ap, subst, arith}
use Rattle.std.proofs.lemmas.Bool.{false≢true}
use Rattle.std.proofs.lemmas.List.{drop_all}
use Rattle.bm_base.specs.Count.{Rose}
use Rattle.bm_base.specs.Shape.{input_size}
use Rattle.bm_base.proofs.CountLemmas.{rose_earlier}
use Rattle.bm_rack.specs.RackView.{RackView}
use Rattle.bm_rack.specs.Frames.{HasCause}
use Rattle.bm_rack.proofs.FrameLemmas.{HasCause-later}
use Rattle.bm_disks.specs.Input.{IsRead}
use Rattle.bm_disks.proofs.LoadLemmas.{input_whole, input_long, IsRead-later}
use Rattle.bm_top.specs.Moment.{Tells}
use Rattle.bm_top.specs.Status.{IsOfInput}
use Rattle.bm_top.specs.commands.Load.{LoadRefused}
use Rattle.bm_top.specs.declared.status.Status.{Status}
use Rattle.bm_top.specs.declared.status.Status.TheVariants.{Done, OutOfMemory, DataFault, DataLong, RackFault, SinkFault}
use Rattle.bm_batch.specs.Batches.{view_at}
use Rattle.bm_batch_call.specs.declared.words.BatchVerb.TheVariants.{Batch}
use Rattle.bm_batch_call.specs.Bays.{BayLeaves, BayFilled}
use Rattle.bm_batch_call.specs.BatchCall.{BatchCall, PrepareCall}
use Rattle.bm_batch_call.specs.Causes.{BatchCause}
use Rattle.bm_batch_call.specs.Filling.{HoldsItsPart, IsFrom, FillsCall}
use Rattle.bm_batch_call.specs.Lists.{UpTo}
use Rattle.bm_batch_call.specs.Moment.{BatchDevices, Work, no_view, whole_size, part_of}
use Rattle.bm_batch_call.specs.Opening.{OpensCall, IsOpened, IsNotOpened}
use Rattle.bm_batch_call.specs.Output.{IsReadWhole}
use Rattle.bm_batch_call.proofs.BayLemmas.{leaves_shut, filled_shut}
use Rattle.bm_batch_call.proofs.ListLemmas.{ends_each}
use Rattle.bm_batch_call.proofs.NotFilledLemmas.{filled_refused}
use Rattle.bm_batch_call.proofs.ReadyLemmas.{filled_part, part_size, bay_loaded, leaves_unopened, leaves_ready, ready_kept}
use Rattle.bm_batch_call.proofs.StoppedLemmas.{stopped}

-- the input was asked for one byte more, and is refused
pub end_stopped : (t : Tells) (w : Work) (old mid new : BatchDevices) (e : Status) → length old.bays ≡ w.count → new.out ≡ old.out
    → new.bays ≡ mid.bays → UpTo no_view (HoldsItsPart t w.shape old.input) (length old.bays) old.bays mid.bays
    → BatchCause t Batch w old e new → e ≢ Done → e ≢ SinkFault → e ≢ OutOfMemory
    → (IsTrue t.input → IsRead (whole_size w + 1) old.input.left new.input.left) → old.input.faults ≤ new.input.faults
    → BatchCall t Batch w old e new
end_stopped t w old mid new e many out same filled cause not_done not_cut not_memory few faults =
    stopped t Batch w old e new cause not_done not_cut out (ap (λ (l : List RackView). length l) same ∙ filled.count)
    (λ k below. subst (λ (l : List RackView). BayLeaves t Batch w.shape (w.job k) (length old.input.left ≡ whole_size w)
    (part_of w old.input.left k) (view_at old.bays k) (view_at l k)) (sym same)
    (leaves_shut t w.shape (w.job k) _ _ _ _ (filled_shut t w.shape _ _ _ (filled.before k (omega (arith, below, many))))))
    (λ of k below told none. subst (λ (l : List RackView). LoadRefused (view_at l k)) (sym same)
    (filled_refused t w.shape _ _ _ (filled.before k (omega (arith, below, many))) told))
    (λ is. absurd (not_memory is)) few faults

-- the load gates were opened, or one was not
pub opens_done : (t : Tells) (w : Work) (old mid new : BatchDevices) (r : Result (Unit {0}) Status) → length old.bays ≡ w.count
    → new.out ≡ old.out → UpTo no_view (HoldsItsPart t w.shape old.input) (length old.bays) old.bays mid.bays
    → (IsTrue t.input → IsReadWhole w old.input new.input) → old.input.faults ≤ new.input.faults
    → OpensCall t w.shape mid.bays r new.bays → PrepareCall t Batch w old r new
opens_done t w old mid new (Ok x) many out filled whole faults o = record {
  ready = λ ok. record {
    many = many;
    count = (o.opened refl).count ∙ filled.count;
    bays = λ k below. bay_loaded t w.shape (part_of w old.input.left k) _ _ _
        (filled_part t w old.input.left k _ _ (filled.before k (omega (arith, below, many))))
        ((o.opened refl).before k (let same = filled.count in omega (arith, below, many, same)));
    input = whole;
    input_faults = faults;
    out = out;
  };
  refused = tt;
}
opens_done t w old mid new (Err e) many out filled whole faults o =
    let r = o.refused in
    let size : (k : ℕ) → k < w.count → IsTrue t.input → (length old.input.left ≡ whole_size w)
    × (length (part_of w old.input.left k) ≡ input_size w.shape) =
    λ k below told. ((whole told).size, part_size w old.input.left k below (whole told).size) in
    record {
      ready = λ ok. absurd (false≢true ok);
      refused = stopped t Batch w old e new
          (subst (λ (x : Status). BatchCause t Batch w old x new) (sym r.fault) (record {
            bay = r.at;
            below = (let b = r.bays.below in let same = filled.count in omega (arith, b, many, same));
            cause = failed;
          }))
          (λ is. (let x : RackFault ≡ Done = sym r.fault ∙ is in absurd (cc)))
          (λ is. (let x : RackFault ≡ SinkFault = sym r.fault ∙ is in absurd (cc))) out (r.bays.count ∙ filled.count)
          (λ k below. ends_each no_view (IsOpened t w.shape) (IsNotOpened t w.shape)
          (λ k was is. k < w.count → BayFilled t w.shape (part_of w old.input.left k) (view_at old.bays k) was
          → BayLeaves t Batch w.shape (w.job k) (length old.input.left ≡ whole_size w) (part_of w old.input.left k) (view_at old.bays k)
          is) r.at mid.bays new.bays r.bays
          (λ k a b early opened here f. leaves_ready t Batch w.shape (w.job k) _ _ _ b b (bay_loaded t w.shape _ _ a b f opened)
          (ready_kept t w.shape (w.job k) b)
          (λ is. size k here))
          (λ a b opened here f. leaves_unopened t w.shape (w.job r.at) _ _ _ a b f opened (size r.at here))
          (λ k a late here f. leaves_shut t w.shape (w.job k) _ _ _ a (filled_shut t w.shape _ _ a f)) k below
          (filled_part t w old.input.left k _ _ (filled.before k (omega (arith, below, many)))))
          (λ of. absurd (subst (λ (x : Status). IsOfInput x) r.fault of))
          (λ is k below. tt)
          (λ told. (
            length old.input.left,
            (let s = (whole told).size in omega (arith, s)),
            (whole told).ended
                ∙ sym (all_dropped old.input.left),
          ))
          faults;
    }
  where
    failed : HasCause (Unit {0}) (view_at old.bays o.refused.at) (view_at new.bays o.refused.at)
    failed =
        let r = o.refused in
        let x = HasCause-later _ (view_at old.bays r.at) (view_at mid.bays r.at) (view_at new.bays r.at)
        (filled.before r.at (let b = r.bays.below in let same = filled.count in omega (arith, b, same))).keeps r.bays.here.call.cause in
        record { rose = λ _. x.rose refl; sure = λ steady going _. x.sure steady going refl }

    all_dropped : (xs : List ℕ) → drop (length xs) xs ≡ []
    all_dropped xs = drop_all (length xs) xs (omega arith)

-- where the input stands once all are filled
from_count : (t : Tells) (w : Work) (old mid : BatchDevices) → length old.bays ≡ w.count
    → IsFrom t.input w.shape old.input (length old.bays) mid.input → IsFrom t.input w.shape old.input w.count mid.input
from_count t w old mid many x = subst (λ (n : ℕ). IsFrom t.input w.shape old.input n mid.input) many x

-- the input goes on
pub load_long : (t : Tells) (w : Work) (old mid new : BatchDevices) → length old.bays ≡ w.count → new.out ≡ old.out → new.bays ≡ mid.bays
    → FillsCall t w.shape old.input old.bays (Ok tt) mid.input mid.bays → (IsTrue t.input → mid.input.left ≢ [])
    → (IsTrue t.input → new.input.left ≡ drop 1 mid.input.left) → mid.input.faults ≤ new.input.faults → BatchCall t Batch w old DataLong new
load_long t w old mid new many out same fills more taken low =
    let from = from_count t w old mid many (fills.taken refl) in
    let long = λ (told : IsTrue t.input). input_long (whole_size w) old.input.left mid.input.left new.input.left (from.before told)
    (from.left told)
    (more told) (taken told) in
    end_stopped t w old mid new DataLong many out same (fills.filled refl)
    (tt, (λ k below. ((fills.filled refl).before k (omega (arith, below, many))).stood), long)
    (λ is. absurd (cc)) (λ is. absurd (cc)) (λ is. absurd (cc)) (λ told. (whole_size w + 1, omega arith, (long told).1))
    (let a = from.faults in omega (arith, a, low))

-- the input failed
pub load_fault : (t : Tells) (w : Work) (old mid new : BatchDevices) → length old.bays ≡ w.count → new.out ≡ old.out → new.bays ≡ mid.bays
    → FillsCall t w.shape old.input old.bays (Ok tt) mid.input mid.bays → (IsTrue t.input → IsRead 1 mid.input.left new.input.left)
    → Rose mid.input.faults new.input.faults → mid.input.faults ≤ new.input.faults → BatchCall t Batch w old DataFault new
load_fault t w old mid new many out same fills few rose low =
    let from = from_count t w old mid many (fills.taken refl) in
    end_stopped t w old mid new DataFault many out same (fills.filled refl)
    (tt, rose_earlier old.input.faults mid.input.faults new.input.faults from.faults rose)
    (λ is. absurd (cc)) (λ is. absurd (cc)) (λ is. absurd (cc))
    (λ told. IsRead-later (whole_size w) 1 (whole_size w + 1) old.input.left mid.input.left new.input.left (omega arith) (from.left told)
    (few told))
    (let a = from.faults in omega (arith, a, low))

-- the input ended, and the gates were opened
pub load_opened : (t : Tells) (w : Work) (old mid new : BatchDevices) (r : Result (Unit {0}) Status) → length old.bays ≡ w.count
    → new.out ≡ old.out → FillsCall t w.shape old.input old.bays (Ok tt) mid.input mid.bays → (IsTrue t.input → mid.input.left ≡ [])
    → (IsTrue t.input → new.input.left ≡ drop 1 mid.input.left) → mid.input.faults ≤ new.input.faults
    → OpensCall t w.shape mid.bays r new.bays → PrepareCall t Batch w old r new
load_opened t w old mid new r many out fills ended taken low opens =
    let from = from_count t w old mid many (fills.taken refl) in
    opens_done t w old mid new r many out (fills.filled refl)
    (λ told. (let x = input_whole (whole_size w) old.input.left mid.input.left new.input.left (from.before told) (from.left told)
    (ended told)
    (taken told) in record { size = x.0; ended = x.1 }))
    (let a = from.faults in omega (arith, a, low)) opens
