-- The command `status`.
use Rattle.std.proofs.Common.{Ok, Err, ◌≡◌, ◌≢◌, inl, inr, ◌≤◌, ◌++◌, IsTrue, Some, refl, ◌∙◌}
use Rattle.bm_base.specs.Count.{Rose}
use Rattle.bm_base.specs.Shape.{dims_of}
use Rattle.bm_rack.specs.RackView.{RackView, IsWellFormed}
use Rattle.bm_rack.specs.Frames.{HasCause}
use Rattle.bm_rack.specs.Sink.{AppendsFront}
use Rattle.bm_rack.proofs.FrameLemmas.{HasCause-later}
use Rattle.bm_text.specs.StatusText.{status_text}
use Rattle.bm_disks.specs.JobOpening.{OpenFits}
use Rattle.bm_disks.specs.declared.job_opening.OpenJob.{OpenJob}
use Rattle.bm_disks.specs.declared.job_opening.OpenError.{OpenError}
use Rattle.bm_top.specs.DiskStatus.{open_status}
use Rattle.bm_top.specs.Exits.{AttachedFrom}
use Rattle.bm_top.specs.Moment.{Devices, SinkView, Tells}
use Rattle.bm_top.specs.TopCall.{TaskCall}
use Rattle.bm_top.specs.commands.Status.{HasGates}
use Rattle.bm_top.specs.declared.task.Task.{Task}
use Rattle.bm_top.specs.declared.words.Verb.TheVariants as verbs
use Rattle.bm_top.specs.declared.status.Status.{Status}
use Rattle.bm_top.specs.declared.status.Status.TheVariants.{Done, RackFault, SinkFault}
use Rattle.bm_top.proofs.AttachedLemmas.{disks_stand}
use Rattle.bm_top.proofs.LookLemmas.{JobLooked, looks, looks_same, job_told, look_cause, look_may, look_not_done, look_not_sink, look_each}
use Rattle.bm_top.proofs.LookLemmas.{look_refused, look_complete}

-- the job is not open
pub status_refused : (t : Tells) (task : Task) (d : Devices) (before mid new : RackView) (error : OpenError)
    → IsWellFormed t.stands t.contents mid → mid.attached ≡ Some (dims_of task.shape) → AttachedFrom before mid
    → JobLooked t task mid (Err error) new
    → TaskCall t verbs.Status task (record d { rack = before }) (open_status error) (record d { rack = new })
status_refused t task d before mid new error well attached from j = record {
  may = look_may error;
  cause = look_cause t verbs.Status task (record d { rack = before }) (record d { rack = new }) mid error tt from
      (disks_stand t task before mid well attached from) j (HasCause-later _ before mid new from.keeps j.call.cause);
  done = λ is. absurd (look_not_done error is);
  leaves = record {
    looks = looks t task before mid new (Err error) from j;
    same = looks_same t task before mid new (Err error) from j;
    moves = j.counts.moves ∙ from.calls.moves;
    cut = λ is. absurd (look_not_sink error is);
    unwritten = inr (inr refl);
    input = refl;
  };
  each = look_refused t verbs.Status task d before mid new error from j;
  complete = λ is calm. look_complete t task before mid new error from j is.told is.sound is.job calm.rack;
}

-- no answer of the rack
pub no_fault : (answer : Status) (before new : RackView) → answer ≢ RackFault → HasCause (answer ≡ RackFault) before new
no_fault answer before new calm = record { rose = λ is. absurd (calm is); sure = λ steady going is. calm is }

-- the job's gates, as they were told
gates_told : (t : Tells) (task : Task) (before mid new : RackView) (o : OpenJob) → AttachedFrom before mid → OpenFits task.shape task.job o
    → JobLooked t task mid (Ok o) new → HasGates t task before o.done o.passes
gates_told t task before mid new o from fits j = record {
  few = fits.done_few;
  some = fits.body.passes_some;
  most = fits.body.passes_few;
  told = job_told t task before mid new o from j;
}

-- the text was written
pub status_done : (t : Tells) (task : Task) (d : Devices) (out : SinkView) (before mid new : RackView) (o : OpenJob)
    → IsWellFormed t.stands t.contents mid → mid.attached ≡ Some (dims_of task.shape) → AttachedFrom before mid
    → OpenFits task.shape task.job o
    → JobLooked t task mid (Ok o) new → (IsTrue t.out → out.taken ≡ d.out.taken ++ status_text task.job o.done o.passes)
    → d.out.faults ≤ out.faults
    → TaskCall t verbs.Status task (record d { rack = before }) Done (record d { out = out; rack = new })
status_done t task d out before mid new o well attached from fits j text more = record {
  may = tt;
  cause = disks_stand t task before mid well attached from;
  done = λ is. record {
    open_gates = o.done;
    all = o.passes;
    gates = gates_told t task before mid new o from fits j;
    text = text;
  };
  leaves = record {
    looks = looks t task before mid new (Ok o) from j;
    same = looks_same t task before mid new (Ok o) from j;
    moves = j.counts.moves ∙ from.calls.moves;
    cut = λ is. absurd (cc);
    unwritten = inl refl;
    input = refl;
  };
  each = look_each t verbs.Status task Done d before mid new out (Ok o) from j (no_fault Done before new (λ is. (cc))) (λ of. of) more;
  complete = λ is calm. inl refl;
}

-- a write of it failed
pub status_cut : (t : Tells) (task : Task) (d : Devices) (out : SinkView) (before mid new : RackView) (o : OpenJob)
    → IsWellFormed t.stands t.contents mid → mid.attached ≡ Some (dims_of task.shape) → AttachedFrom before mid
    → OpenFits task.shape task.job o
    → JobLooked t task mid (Ok o) new → (IsTrue t.out → AppendsFront d.out.taken out.taken (status_text task.job o.done o.passes))
    → d.out.faults ≤ out.faults → Rose d.out.faults out.faults
    → TaskCall t verbs.Status task (record d { rack = before }) SinkFault (record d { out = out; rack = new })
status_cut t task d out before mid new o well attached from fits j text more rose = record {
  may = tt;
  cause = (disks_stand t task before mid well attached from, rose);
  done = λ is. absurd (cc);
  leaves = record {
    looks = looks t task before mid new (Ok o) from j;
    same = looks_same t task before mid new (Ok o) from j;
    moves = j.counts.moves ∙ from.calls.moves;
    cut = λ is. record {
      open_gates = o.done;
      all = o.passes;
      gates = gates_told t task before mid new o from fits j;
      text = text;
    };
    unwritten = inr (inl refl);
    input = refl;
  };
  each = look_each t verbs.Status task SinkFault d before mid new out (Ok o) from j (no_fault SinkFault before new (λ is. (cc))) (λ of.
      of) more;
  complete = λ is calm. absurd (calm.out rose);
}
