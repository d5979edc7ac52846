-- The command `drill`.
use Rattle.std.proofs.Common.{Ok, Err, Result, IfOk, ◌≡◌, ◌≢◌, inl, inr, ◌^◌, ◌≤◌, ◌++◌, IsTrue, ℕ, length, refl, ap, subst, ◌∙◌, arith}
use Rattle.bm_base.specs.declared.report.DrillReport.{DrillReport}
use Rattle.bm_base.specs.Count.{Rose}
use Rattle.bm_base.specs.declared.fault.OutOfMemory.{OutOfMemory as NoMemory}
use Rattle.bm_base.proofs.RecordLemmas.{bytes_of-same}
use Rattle.bm_drill.specs.Drill.{IsDrilled, DrillCounts, SessionCounts}
use Rattle.bm_rack.specs.RackView.{RackView}
use Rattle.bm_rack.specs.Sink.{AppendsFront}
use Rattle.bm_rack.proofs.FrameLemmas.{Keeps-refl}
use Rattle.bm_text.specs.DrillText.{drill_text}
use Rattle.sha2.specs.Sha256.{sha256}
use Rattle.bm_top.specs.Exits.{EachExit}
use Rattle.bm_top.specs.Moment.{SinkView, Devices, Tells}
use Rattle.bm_top.specs.TopCall.{TaskCall}
use Rattle.bm_top.specs.commands.Run.{plan_of}
use Rattle.bm_top.specs.commands.Drill.{IsDrillOf}
use Rattle.bm_top.specs.declared.task.Task.{Task}
use Rattle.bm_top.specs.declared.words.Verb.TheVariants as verbs
use Rattle.bm_top.specs.declared.status.Status.{Status}
use Rattle.bm_top.specs.declared.status.Status.TheVariants.{Done, OutOfMemory, RackFault, SinkFault}
use Rattle.bm_top.proofs.ExitLemmas.{SameCalls-refl, IsRead-none, each_untouched}
use Rattle.bm_rack.proofs.CallLemmas.{CallsGrow-same}

-- what a drill with the plan of the task tells
drill_told : (task : Task) (passes : ℕ) (report : DrillReport) (new : RackView) → passes ≡ plan_of task
    → IsDrilled task.shape task.job task.start report new
    → SessionCounts task.shape task.job passes task.every (length task.stops) report → IsDrillOf task report
drill_told task passes report new is left counts = record {
  digest = left.digest ∙ ap sha256 (bytes_of-same (2 ^ task.shape.n) _ _ left.records);
  counts = subst (λ (p : ℕ). SessionCounts task.shape task.job p task.every (length task.stops) report) is counts;
}

pub drill_told_ok : (task : Task) (passes : ℕ) (result : Result DrillReport NoMemory) (old new : RackView) → passes ≡ plan_of task
    → IfOk result (λ report. IsDrilled task.shape task.job task.start report new)
    → IfOk result (λ report. DrillCounts task.shape task.job passes task.every (length task.stops) report old new)
    → IfOk result (λ report. IsDrillOf task report)
drill_told_ok task passes (Ok report) old new is left counts = drill_told task passes report new is left counts.sessions
drill_told_ok task passes (Err e) old new is left counts = tt

-- each exit at which its sink alone may have changed
drill_each : (t : Tells) (task : Task) (d : Devices) (old new : SinkView) (answer : Status) → answer ≢ RackFault → answer ≢ OutOfMemory
    → old.faults ≤ new.faults
    → EachExit t verbs.Drill task (record d { out = old }) answer (record d { out = new })
drill_each t task d old new answer calm some low = record {
  sound = λ told sound. sound;
  stands = λ told. inl refl;
  keeps = Keeps-refl d.rack;
  fault = record { rose = λ e. absurd (calm e); sure = λ steady going e. calm e };
  calls = λ of. SameCalls-refl d.rack;
  grow = CallsGrow-same d.rack d.rack (SameCalls-refl d.rack);
  unattached = λ e. absurd (some e);
  few = λ told. IsRead-none _ d.input.left;
  input_faults = omega arith;
  out_faults = low;
}

-- its report was written
pub drill_done : (t : Tells) (task : Task) (d : Devices) (old new : SinkView) (report : DrillReport) → IsDrillOf task report
    → (IsTrue t.out → new.taken ≡ old.taken ++ drill_text report) → old.faults ≤ new.faults
    → TaskCall t verbs.Drill task (record d { out = old }) Done (record d { out = new })
drill_done t task d old new report is text low = record {
  may = tt;
  cause = λ told. tt;
  done = λ e. record { report = report; drill = is; text = text };
  leaves = record { cut = λ e. absurd (cc); unwritten = inl refl; input = refl; rack = refl };
  each = drill_each t task d old new Done (λ e. (cc)) (λ e. (cc)) low;
  complete = λ any calm. inl refl;
}

-- a write of it failed
pub drill_cut : (t : Tells) (task : Task) (d : Devices) (old new : SinkView) (report : DrillReport) → IsDrillOf task report
    → (IsTrue t.out → AppendsFront old.taken new.taken (drill_text report)) → old.faults ≤ new.faults → Rose old.faults new.faults
    → TaskCall t verbs.Drill task (record d { out = old }) SinkFault (record d { out = new })
drill_cut t task d old new report is text low rose = record {
  may = tt;
  cause = (λ told. tt, rose);
  done = λ e. absurd (cc);
  leaves = record {
    cut = λ e. record { report = report; drill = is; text = text };
    unwritten = inr (inl refl);
    input = refl;
    rack = refl;
  };
  each = drill_each t task d old new SinkFault (λ e. (cc)) (λ e. (cc)) low;
  complete = λ any calm. absurd (calm.out rose);
}

-- there was no memory for it
pub drill_refused : (t : Tells) (task : Task) (d : Devices) → TaskCall t verbs.Drill task d OutOfMemory d
drill_refused t task d = record {
  may = tt;
  cause = tt;
  done = λ e. absurd (cc);
  leaves = record { cut = λ e. absurd (cc); unwritten = inr (inr refl); input = refl; rack = refl };
  each = each_untouched t verbs.Drill task OutOfMemory d (λ e. (cc));
  complete = λ any calm. inr refl;
}
