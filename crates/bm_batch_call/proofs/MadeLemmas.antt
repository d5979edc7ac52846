-- Jobs that are done, in other words.
use Rattle.std.proofs.Common.{◌≡◌, ℕ, ◌+◌, ◌-◌, ◌*◌, ◌^◌, Bool, List, sym, ◌∙◌, ap, subst}
use Rattle.bm_base.specs.declared.shape.Shape.{Shape}
use Rattle.bm_base.specs.Area.{area_after}
use Rattle.bm_base.specs.Contents.{Contents, RackUnit, page_at}
use Rattle.bm_base.specs.Count.{raised}
use Rattle.bm_base.specs.Gate.{IsOpenGate}
use Rattle.bm_base.specs.Records.{record_at, SameRecords}
use Rattle.bm_base.specs.Shape.{stripes, loads_of}
use Rattle.bm_base.proofs.RecordLemmas.{bytes_of-same}
use Rattle.bm_forms.specs.declared.job.Job.{Job}
use Rattle.bm_forms.specs.Job.{meaning}
use Rattle.bm_forms.proofs.JobLemmas.{meaning-same}
use Rattle.bm_rack.specs.RackView.{RackView}
use Rattle.bm_rack.specs.Frames.{SameState}
use Rattle.bm_control.specs.Consistent.{input_of}
use Rattle.bm_control.specs.Pages.{HasOpenLoad, HasOpenJob, HasLoadBody, HasJobBody}
use Rattle.bm_control.specs.Progress.{IsGone}
use Rattle.bm_disks.specs.Dumping.{area_bytes}
use Rattle.bm_job.specs.Runs.{load_rows}
use Rattle.bm_job.proofs.KeptJobLemmas.{has_bits}
use Rattle.bm_batch.specs.declared.bay_state.BayState.{BayState}
use Rattle.bm_batch.specs.declared.bay_state.BayState.TheVariants.{Finished}
use Rattle.bm_batch.specs.Batches.{view_at}
use Rattle.bm_top.specs.Moment.{Tells}
use Rattle.bm_top.proofs.SameDisksLemmas.{sound_kept}
use Rattle.bm_batch_call.specs.declared.words.BatchVerb.{BatchVerb}
use Rattle.bm_batch_call.specs.declared.words.BatchVerb.TheVariants.{Batch, Run}
use Rattle.bm_batch_call.specs.Bays.{IsJobDone, BayRan, BayReady}
use Rattle.bm_batch_call.specs.Causes.{IsBayMade}
use Rattle.bm_batch_call.specs.Moment.{BatchDevices, Work, part_of}
use Rattle.bm_batch_call.specs.Output.{IsOutputPart, HasMoved}
use Rattle.bm_batch_call.proofs.RowLemmas.{gone_none, whole_rows, rest_rows}

-- of another list of the same records
pub made_as : (s : Shape) (job : Job) (xs ys : ℕ → List ℕ) (passes : ℕ) (v : RackView) → SameRecords (2 ^ s.n) xs ys
    → IsJobDone s job xs passes v
    → IsJobDone s job ys passes v
made_as s job xs ys passes v same m = record {
  records = λ x below. m.records x below ∙ meaning-same s.n job xs ys (has_bits s job m.body.fits.fits) same x below;
  input_is = λ x below. m.input_is x below ∙ same x below;
  load_body = m.load_body;
  load_gate = m.load_gate;
  job_gate = m.job_gate;
  every = m.every;
  body = m.body;
  gates = m.gates;
  clean = m.clean;
}

-- where nothing but counts changed
pub made_looked : (s : Shape) (job : Job) (xs : ℕ → List ℕ) (passes : ℕ) (v u : RackView) → SameState v u → IsJobDone s job xs passes v
    → IsJobDone s job xs passes u
made_looked s job xs passes v u same m = record {
  records = subst (λ (c : Contents). SameRecords (2 ^ s.n) (record_at c s (area_after passes)) (meaning s.n job xs)) (sym same.contents)
      m.records;
  input_is = subst (λ (c : Contents). SameRecords (2 ^ s.n) (input_of c s) xs) (sym same.contents) m.input_is;
  load_body = subst (λ (c : Contents). HasLoadBody s c) (sym same.contents) m.load_body;
  load_gate = subst HasOpenLoad (sym same.contents) m.load_gate;
  job_gate = subst HasOpenJob (sym same.contents) m.job_gate;
  every = m.every;
  body = subst (λ (c : Contents). HasJobBody s c job passes m.every) (sym same.contents) m.body;
  gates = λ k few. subst (λ (c : Contents). IsOpenGate (page_at c (5 + 2 * k))) (sym same.contents) (m.gates k few);
  clean = λ unit. ap (λ (f : RackUnit → Bool). f unit) same.dirty ∙ m.clean unit;
}

pub bay_made : (t : Tells) (verb : BatchVerb) (w : Work) (start : BatchDevices) (k passes : ℕ) (state : BayState) (mid new : RackView)
    → BayReady t verb w.shape (part_of w start.input.left k) (view_at start.bays k) mid
    → BayRan t w.shape (w.job k) passes state mid new → state ≡ Finished → IsBayMade t verb w start k passes new
bay_made t Batch w start k passes state mid new r x fin = λ told input.
    made_as w.shape (w.job k) (input_of mid.contents w.shape) _ passes new (r.holds input told.1) (x.done told (r.sound told) fin)
bay_made t Run w start k passes state mid new r x fin = λ told sound.
    subst (λ (c : Contents). IsJobDone w.shape (w.job k) (input_of c w.shape) passes new) r.from.disks.contents
    (x.done told (sound_kept _ mid r.from.disks sound) fin)

pub made_seen : (t : Tells) (verb : BatchVerb) (w : Work) (start : BatchDevices) (k passes : ℕ) (v u : RackView) → SameState v u
    → IsBayMade t verb w start k passes v → IsBayMade t verb w start k passes u
made_seen t Batch w start k passes v u same m = λ told input. made_looked w.shape (w.job k) _ passes v u same (m told input)
made_seen t Run w start k passes v u same m = λ told sound. made_looked w.shape (w.job k) _ passes v u same (m told sound)

pub part_made : (t : Tells) (verb : BatchVerb) (w : Work) (start : BatchDevices) (k passes : ℕ) (v : RackView)
    → IsBayMade t verb w start k passes v → IsOutputPart t verb w start k (area_bytes v.contents w.shape (area_after passes))
part_made t Batch w start k passes v m = λ told input. bytes_of-same (2 ^ w.shape.n) _ _ (m told input).records
part_made t Run w start k passes v m = λ told sound. bytes_of-same (2 ^ w.shape.n) _ _ (m told sound).records

-- ---- row calls

-- those of a bay whose job is done and written
pub made_rows : (t : Tells) (verb : BatchVerb) (s : Shape) (job : Job) (bytes : List ℕ) (passes : ℕ) (state : BayState)
    (old mid now new : RackView) → BayReady t verb s bytes old mid → BayRan t s job passes state mid now → state ≡ Finished
    → new.moves ≡ raised now.moves (stripes s) → HasMoved t verb s passes old new
made_rows t Batch s job bytes passes state old mid now new r x fin written = λ told.
    let ran = x.moved told fin in
    whole_rows s passes ran.gone old.moves mid.moves now.moves new.moves r.rows
    (gone_none mid.contents ran.gone (r.no_job told) ran.is_gone) ran.rows written
made_rows t Run s job bytes passes state old mid now new r x fin written = λ told.
    let ran = x.moved told fin in (
      ran.gone,
      subst (λ (c : Contents). IsGone c ran.gone) r.from.disks.contents ran.is_gone,
      rest_rows old.moves now.moves new.moves (load_rows s (passes * loads_of s - ran.gone)) (stripes s)
          (ran.rows ∙ ap (λ (k : ℕ). raised k (load_rows s (passes * loads_of s - ran.gone))) r.from.calls.moves) written,
    )
