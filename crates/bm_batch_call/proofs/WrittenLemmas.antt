-- A batch whose jobs are done, and written or not.
use Rattle.std.proofs.Common.{Ok, Err, ◌≡◌, ◌≢◌, inr, ℕ, ◌+◌, ◌<◌, ◌++◌, Bool, List, length, Result, refl, sym, ◌∙◌, ap, subst, arith}
use Rattle.bm_base.specs.declared.shape.Shape.{Shape}
use Rattle.bm_base.specs.Contents.{Contents, RackUnit, unit_at}
use Rattle.bm_base.specs.Count.{Rose}
use Rattle.bm_base.specs.Records.{bytes_of}
use Rattle.bm_base.specs.Shape.{stripes}
use Rattle.bm_forms.specs.declared.job.Job.{Job}
use Rattle.bm_rack.specs.RackView.{RackView}
use Rattle.bm_rack.specs.Sink.{AppendsFront}
use Rattle.bm_rack.proofs.FrameLemmas.{Keeps-trans, HasCause-later}
use Rattle.bm_job.specs.Runs.{run_most}
use Rattle.bm_disks.specs.declared.dumping.DumpError.{DumpError}
use Rattle.bm_disks.specs.declared.dumping.DumpError.TheVariants as dump
use Rattle.bm_batch.specs.declared.bay_slot.BaySlot.{BaySlot}
use Rattle.bm_batch.specs.declared.bay_state.BayState.{BayState}
use Rattle.bm_batch.specs.Batches.{view_at}
use Rattle.bm_top.specs.Moment.{SourceView, SinkView, Tells}
use Rattle.bm_top.specs.declared.status.Status.TheVariants as status
use Rattle.bm_top.proofs.DumpLemmas.{dump_answer, dumped_ok, dump_no_input}
use Rattle.bm_top.proofs.SameDisksLemmas.{sound_kept}
use Rattle.bm_batch_call.specs.declared.words.BatchVerb.{BatchVerb}
use Rattle.bm_batch_call.specs.Bays.{BayRan}
use Rattle.bm_batch_call.specs.BatchCall.{BatchCall, AreReady}
use Rattle.bm_batch_call.specs.Causes.{BatchCause, IsBayMade}
use Rattle.bm_batch_call.specs.Dumping.{AreFinished, IsLooked, last_areas, DumpsCall}
use Rattle.bm_batch_call.specs.Moment.{BatchDevices, Work}
use Rattle.bm_batch_call.specs.Output.{ReadsFew, TakesInput, IsLate}
use Rattle.bm_batch_call.specs.Running.{AllRan}
use Rattle.bm_batch_call.proofs.CompleteLemmas.{complete_of}
use Rattle.bm_batch_call.proofs.MadeLemmas.{bay_made, made_seen, part_made, made_rows}
use Rattle.bm_batch_call.proofs.ReadyLemmas.{KeepsReady, leaves_ready, have_disks, reads_few, whole_part, ready_keeps}
use Rattle.bm_batch_call.proofs.RowLemmas.{few_both}

-- what the dump keeps of a bay that ran
looked_kept : (t : Tells) (s : Shape) (job : Job) (passes : ℕ) (state : BayState) (mid now new : RackView)
    → BayRan t s job passes state mid now → IsLooked s now new → KeepsReady t s job mid new
looked_kept t s job passes state mid now new x l = record {
  sound = λ told sound. sound_kept now new (record { stands = l.state.stands; contents = l.state.contents; dirty = l.state.dirty })
      (x.sound told sound);
  input = record {
    contents = λ u is. ap (λ (c : Contents). unit_at c u) l.state.contents ∙ x.input.contents u is;
    dirty = λ u is clean. ap (λ (f : RackUnit → Bool). f u) l.state.dirty ∙ x.input.dirty u is clean;
  };
  stands = l.state.stands ∙ x.stands;
  keeps = Keeps-trans mid now new x.keeps l.keeps;
  moves = few_both (run_most s job) (stripes s) (run_most s job + stripes s) mid now new (omega arith) x.moves l.moves;
}

pub run_dumped : (t : Tells) (verb : BatchVerb) (w : Work) (passes : ℕ → ℕ) (slots : List BaySlot) (d : BaySlot)
    (result : Result (Unit {0}) DumpError) (start mid now new : BatchDevices) → AreReady t verb w start mid → length slots ≡ w.count
    → now.out ≡ mid.out → new.input ≡ mid.input → length now.bays ≡ length mid.bays → AllRan t w passes slots d mid.bays now.bays
    → AreFinished slots
    → DumpsCall t.out t.contents w.shape passes now.out now.bays result new.out new.bays
    → BatchCall t verb w start (dump_answer result) new
run_dumped t verb w passes slots d result start mid now new r many out input count ran fin dumps = record {
  cause = cause result dumps;
  output = inr (record {
    late = late result;
    disks = have_disks t verb w start mid r;
    input = subst (λ (v : SourceView). TakesInput t verb w start.input v) (sym input) r.input;
    passes = passes;
    rows = λ is k below. made_rows t verb w.shape (w.job k) _ (passes k) _ (view_at start.bays k) (view_at mid.bays k) (view_at now.bays k)
        (view_at new.bays k) (r.bays k below) (ran k below) (fin k d (omega (arith, below, many)))
        (dumps.rows (dumped_ok result is) k (omega (arith, below, all)));
    bays = λ k below. made_seen t verb w start k (passes k) (view_at now.bays k) (view_at new.bays k) (looked k below).state (made k below);
    parts = last_areas w.shape passes now.bays;
    means = λ k below. part_made t verb w start k (passes k) (view_at now.bays k) (made k below);
    front = λ sink rack. subst
        (λ (v : SinkView). AppendsFront v.taken new.out.taken (bytes_of w.count (last_areas w.shape passes now.bays)))
        (out ∙ r.out) (subst (λ (n : ℕ). AppendsFront now.out.taken new.out.taken (bytes_of n (last_areas w.shape passes now.bays))) all
        (dumps.front sink rack));
    all = λ is sink rack. dumps.done sink rack (dumped_ok result is)
        ∙ ap (λ (n : ℕ). now.out.taken ++ bytes_of n (last_areas w.shape passes now.bays)) all
        ∙ ap (λ (v : SinkView). v.taken ++ bytes_of w.count (last_areas w.shape passes now.bays)) (out ∙ r.out);
  });
  count = dumps.count ∙ count ∙ r.count;
  bays = λ k below. leaves_ready t verb w.shape (w.job k) _ _ _ _ _ (r.bays k below)
      (looked_kept t w.shape (w.job k) (passes k) _ _ _ _ (ran k below) (looked k below)) (whole_part t verb w _ _ k below r.input);
  refused = λ of. absurd (dump_no_input result of);
  memory = λ is. absurd (not_memory result is);
  few = subst (λ (v : SourceView). ReadsFew t verb w start.input v) (sym input) (reads_few t verb w _ _ r.input);
  input_faults = (let low = r.input_faults in let same = ap (λ (v : SourceView). v.faults) input in omega (arith, low, same));
  out_faults = (let low = dumps.sink_faults in let same = ap (λ (v : SinkView). v.faults) (out ∙ r.out) in omega (arith, low, same));
  complete = complete_of t verb w start (dump_answer result) new (cause result dumps);
}
  where
    all : length now.bays ≡ w.count
    all = count ∙ r.count ∙ r.many

    looked : (k : ℕ) → k < w.count → IsLooked w.shape (view_at now.bays k) (view_at new.bays k)
    looked k below = dumps.bays k (omega (arith, below, all))

    made : (k : ℕ) → k < w.count → IsBayMade t verb w start k (passes k) (view_at now.bays k)
    made k below = bay_made t verb w start k (passes k) _ (view_at mid.bays k) (view_at now.bays k) (r.bays k below) (ran k below)
        (fin k d (omega (arith, below, many)))

    late : (x : Result (Unit {0}) DumpError) → IsLate (dump_answer x)
    late (Ok x) = tt
    late (Err dump.Failed) = tt
    late (Err dump.SinkFault) = tt

    not_memory : (x : Result (Unit {0}) DumpError) → dump_answer x ≢ status.OutOfMemory
    not_memory (Ok x) is = absurd (cc)
    not_memory (Err dump.Failed) is = absurd (cc)
    not_memory (Err dump.SinkFault) is = absurd (cc)

    cause : (x : Result (Unit {0}) DumpError) → DumpsCall t.out t.contents w.shape passes now.out now.bays x new.out new.bays
        → BatchCause t verb w start (dump_answer x) new
    cause (Ok x) dumps = have_disks t verb w start mid r
    cause (Err dump.Failed) dumps =
        let f = dumps.failed refl in
        let below : f.at < w.count = (let b = f.below in omega (arith, b, all)) in
        record {
          bay = f.at;
          below = below;
          cause = HasCause-later _ _ _ _
              (Keeps-trans _ _ _ (ready_keeps t verb w.shape _ _ _ (r.bays f.at below)) (ran f.at below).keeps) f.cause;
        }
    cause (Err dump.SinkFault) dumps = (
      have_disks t verb w start mid r,
      subst (λ (v : SinkView). Rose v.faults new.out.faults) (out ∙ r.out) (dumps.sink_fault refl),
    )
