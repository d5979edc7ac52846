-- What a run leaves, from what the run of its job says.
use Rattle.std.proofs.Common.{◌≡◌, ◌≢◌, ◌⊎◌, inl, inr, ℕ, ◌^◌, ◌<◌, ◌≤◌, ◌++◌, IsTrue, Some, Result, Ok, Err, IsErrOf, refl, sym, ap, subst}
use Rattle.std.proofs.Common.{◌∙◌, arith}
use Rattle.bm_base.specs.declared.report.RunReport.{RunReport}
use Rattle.bm_base.specs.Contents.{Contents}
use Rattle.bm_base.specs.Count.{raised, Rose}
use Rattle.bm_base.specs.Shape.{dims_of}
use Rattle.bm_gf2.specs.Affine.{affine_image}
use Rattle.bm_forms.specs.declared.job.Job.{Job}
use Rattle.bm_forms.specs.declared.job.Job.TheVariants.{Permute}
use Rattle.bm_forms.specs.Job.{JobFits, meaning}
use Rattle.bm_forms.proofs.PermutationLemmas.{permuted-image, affine-lt}
use Rattle.bm_rack.specs.RackView.{RackView, IsWellFormed}
use Rattle.bm_rack.specs.Frames.{HasCause}
use Rattle.bm_rack.proofs.FrameLemmas.{HasCause-later}
use Rattle.bm_rack.specs.Sink.{AppendsFront}
use Rattle.bm_control.specs.Consistent.{input_of}
use Rattle.bm_control.specs.Pages.{HasClosedLoad, HasOpenJob}
use Rattle.bm_control.specs.Sound.{IsSound}
use Rattle.bm_control.specs.State.{StateAnswer}
use Rattle.bm_control.specs.declared.state.ControlError.TheVariants as control
use Rattle.bm_job.specs.declared.answers.RunError.{RunError}
use Rattle.bm_job.specs.declared.answers.RunError.TheVariants as run
use Rattle.bm_job.specs.Runs.{IsReportOf, RefusalKeeps, SameContents, IsRunUnit, IsRunnable}
use Rattle.bm_text.specs.ReportText.{report_text}
use Rattle.bm_top.specs.Causes.{CauseOf}
use Rattle.bm_top.specs.DiskStatus.{run_status}
use Rattle.bm_top.specs.Exits.{AttachedFrom}
use Rattle.bm_top.specs.Moment.{SinkView, Devices, Tells, TellsRack}
use Rattle.bm_top.specs.Status.{IsBeforeDisks, IsOfSlate}
use Rattle.bm_top.specs.Task.{TaskFits}
use Rattle.bm_top.specs.TopCall.{TaskCall, NoFaults, IsDoneUnlessMemory}
use Rattle.bm_top.specs.commands.Run.{RunMay, plan_of, bound_of, HasRun, RunCase, RunLeaves, RunSession, RunCut, IsNoRunUnit}
use Rattle.bm_top.specs.declared.task.Task.{Task}
use Rattle.bm_top.specs.declared.words.Verb.TheVariants.{Run}
use Rattle.bm_top.specs.declared.status.Status.{Status}
use Rattle.bm_top.specs.declared.status.Status.TheVariants.{Done, RackFault, SinkFault}
use Rattle.bm_top.proofs.BeforeLemmas.{has_disks, input_before, units_before, moves_before, contents_before, each_attached}
use Rattle.bm_top.proofs.ExitLemmas.{IsRead-none}
use Rattle.bm_top.proofs.SameDisksLemmas.{sound_kept}
use Rattle.bm_top.proofs.RanLemmas.{Ran, ran_grow, few_before, jobs_before, open_before, every_image, failed_before, calls_before}
use Rattle.bm_top.proofs.RanLemmas.{done_before}
use Rattle.bm_top.proofs.StepAnswerLemmas.{run_late, run_no_sink, run_not_done}
use Rattle.bm_top.proofs.StatusLemmas.{no_fault}

-- the job is done
has_run : (t : Tells) (task : Task) (before mid new : RackView) (r : RunReport) → TaskFits task → AttachedFrom before mid
    → Ran t task (plan_of task) mid new (Ok r) → HasRun t task before new
has_run t task before mid new r fits from ran =
    let s = task.shape in
    let done = λ (told : TellsRack t) (sound : IsSound before).
    done_before s task.job (plan_of task) task.every r before mid new from.disks
    (ran.done told.0 told.1 (sound_kept before mid from.disks sound)) in
    record {
      report = r;
      done = done;
      images = λ told sound f is x below.
          let fit : JobFits s (Permute f) = subst (λ (j : Job). JobFits s j) is fits.job in
          let low : x < 2 ^ f.a.n = subst (λ (n : ℕ). x < 2 ^ n) (sym fit.0) below in
          let image : affine_image f x < 2 ^ s.n = subst (λ (n : ℕ). affine_image f x < 2 ^ n) fit.0 (affine-lt f x) in
          let there = (done told sound).records (affine_image f x) image in
          there
          ∙ ap (λ (j : Job). meaning s.n j (input_of before.contents s) (affine_image f x)) is
          ∙ permuted-image f (input_of before.contents s) x fit.1 low;
      began = λ told. subst (λ (c : Contents). IsReportOf s task.job (plan_of task) c r) from.disks.contents (ran.answer told);
      fits = ran.report;
      moves = ran.moves ∙ ap (λ (m : ℕ). raised m r.moves) from.calls.moves;
    }

-- of the session
session : (t : Tells) (task : Task) (old new : Devices) (mid : RackView) (answer : Status) (result : Result RunReport RunError)
    → AttachedFrom old.rack mid → Ran t task (plan_of task) mid new.rack result → (answer ≡ RackFault → IsErrOf result run.Failed)
    → RunSession t task old.rack answer new.rack
session t task old new mid answer result from ran failed = record {
  jobs = λ told sound. jobs_before _ _ _ _ old.rack mid new.rack from.disks (ran.images told.0 told.1
      (sound_kept old.rack mid from.disks sound));
  settled = λ told sound all. open_before old.rack mid new.rack from.disks
      (ran.settled told.0 told.1 (sound_kept old.rack mid from.disks sound) (every_image HasOpenJob old.rack mid from.disks all));
  failed = λ told sound e. failed_before task.shape old.rack mid new.rack from.disks from.calls.moves
      (ran.failed told.0 told.1 (sound_kept old.rack mid from.disks sound) (failed e));
  calls = λ told. calls_before task.shape (plan_of task) task.every old.rack mid new.rack from (ran.calls told);
}

-- the rack's failure by the refusal alone
fault_of : (mid new : RackView) (e : RunError) → HasCause (IsErrOf {T = RunReport} (Err e) run.Failed) mid new → HasCause
    (e ≡ run.Failed) mid new
fault_of mid new e x = record { rose = λ is. x.rose (ap Err is); sure = λ steady going is. x.sure steady going (ap Err is) }

-- the job is not done, and the output is as before
refused_leaves : (t : Tells) (task : Task) (d : Devices) (before mid new : RackView) (e : RunError) → AttachedFrom before mid
    → Ran t task (plan_of task) mid new (Err e) → RunLeaves t task (record d { rack = before }) (run_status e) (record d { rack = new })
refused_leaves t task d before mid new e from ran = record {
  same = input_before _ before mid new from.disks ran.input;
  load = units_before (IsRunUnit task.shape) (IsNoRunUnit task) before mid new from.disks ran.call.frame (λ u q. q);
  most = moves_before (bound_of task) before mid new from.calls.moves ran.most;
  calls = few_before _ _ before mid new from.calls ran.few;
  session = inr (session t task (record d { rack = before }) (record d { rack = new }) mid (run_status e) (Err e) from ran (λ is. ap Err
      (rack_fault e is)));
  before = λ of. absurd (run_late e of);
  refused = λ of. contents_before before mid new from (of_slate e of ran.kept);
  cut = λ is. absurd (run_no_sink e is);
  unwritten = inr (inr refl);
  input = refl;
}
  where
    rack_fault : (e : RunError) → run_status e ≡ RackFault → e ≡ run.Failed
    rack_fault run.Failed is = refl
    rack_fault run.NotLoaded is = absurd (cc)
    rack_fault run.OtherShape is = absurd (cc)
    rack_fault run.OtherJob is = absurd (cc)
    rack_fault (run.BadPage page) is = absurd (cc)

    of_slate : (e : RunError) → IsOfSlate (run_status e) → RefusalKeeps mid new e → SameContents mid new
    of_slate run.Failed of kept = absurd of
    of_slate run.NotLoaded of kept = kept
    of_slate run.OtherShape of kept = kept
    of_slate run.OtherJob of kept = kept
    of_slate (run.BadPage page) of kept = absurd of

-- why, by the refusal
refused_cause : (t : Tells) (task : Task) (d : Devices) (before mid new : RackView) (e : RunError) → AttachedFrom before mid
    → IsWellFormed t.stands t.contents mid → mid.attached ≡ Some (dims_of task.shape)
    → Ran t task (plan_of task) mid new (Err e) → CauseOf t Run task (record d { rack = before }) (run_status e) (record d { rack = new })
refused_cause t task d before mid new run.Failed from well attached ran =
    (HasCause-later (run.Failed ≡ run.Failed) before mid new from.keeps (fault_of mid new run.Failed ran.call.cause)).rose refl
refused_cause t task d before mid new run.NotLoaded from well attached ran = (
  has_disks t Run task d before mid tt from.disks well attached,
  λ told. subst HasClosedLoad from.disks.contents (ran.answer told).0,
)
refused_cause t task d before mid new run.OtherShape from well attached ran = (
  has_disks t Run task d before mid tt from.disks well attached,
  λ told. (let why = (ran.answer told).0 in record {
    state = why.0;
    told = subst (λ (c : Contents). StateAnswer c (Ok why.0)) from.disks.contents why.1;
    other = why.2.0;
    loaded = why.2.1;
    differs = why.2.2;
  }),
)
refused_cause t task d before mid new run.OtherJob from well attached ran = (
  has_disks t Run task d before mid tt from.disks well attached,
  λ told. (let why = (ran.answer told).0 in record {
    state = why.0;
    told = subst (λ (c : Contents). StateAnswer c (Ok why.0)) from.disks.contents why.1;
    loaded = why.2;
    other = why.3.0;
    opened = why.3.1;
    differs = why.3.2;
  }),
)
refused_cause t task d before mid new (run.BadPage page) from well attached ran = (
  has_disks t Run task d before mid tt from.disks well attached,
  λ told. record {
    unsound = λ all sound. ran.good all.0 all.1 (sound_kept before mid from.disks sound) page refl;
    wrong = subst (λ (c : Contents). StateAnswer c (Err (control.BadPage page))) from.disks.contents (ran.answer told).0;
    same = contents_before before mid new from (ran.answer told).1;
  },
)

-- where the run can be made, nothing but the rack ends it
refused_complete : (t : Tells) (task : Task) (d : Devices) (before mid new : RackView) (e : RunError) → AttachedFrom before mid
    → Ran t task (plan_of task) mid new (Err e) → RunCase t task (record d { rack = before })
    → NoFaults (record d { rack = before }) (record d { rack = new }) → IsDoneUnlessMemory (run_status e)
refused_complete t task d before mid new e from ran is calm =
    let only : e ≡ run.Failed = ran.complete is.told.0 is.told.1 (sound_kept before mid from.disks is.sound)
    (subst (λ (c : Contents). IsRunnable task.shape task.job c) (sym from.disks.contents) is.runnable) in
    absurd (calm.rack
    ((HasCause-later (e ≡ run.Failed) before mid new from.keeps (fault_of mid new e ran.call.cause)).rose only))

pub run_refused : (t : Tells) (task : Task) (d : Devices) (before mid new : RackView) (e : RunError) → AttachedFrom before mid
    → IsWellFormed t.stands t.contents mid → mid.attached ≡ Some (dims_of task.shape)
    → Ran t task (plan_of task) mid new (Err e)
    → TaskCall t Run task (record d { rack = before }) (run_status e) (record d { rack = new })
run_refused t task d before mid new e from well attached ran = record {
  may = may e;
  cause = refused_cause t task d before mid new e from well attached ran;
  done = λ is. absurd (run_not_done e is);
  leaves = refused_leaves t task d before mid new e from ran;
  each = each_attached t Run task (record d { rack = before }) (record d { rack = new }) mid (run_status e) from ran.call.frame.stands
      ran.call.keeps (ran_grow t task (plan_of task) mid new (Err e) ran) (fault e (fault_of mid new e ran.call.cause))
      (λ told. ran.sound told.0 told.1) (run_late e)
      (λ told. IsRead-none _ d.input.left)
      (omega arith) (omega arith);
  complete = refused_complete t task d before mid new e from ran;
}
  where
    may : (e : RunError) → RunMay (run_status e)
    may run.Failed = tt
    may run.NotLoaded = tt
    may run.OtherShape = tt
    may run.OtherJob = tt
    may (run.BadPage page) = tt

    fault : (e : RunError) → HasCause (e ≡ run.Failed) mid new → HasCause (run_status e ≡ RackFault) mid new
    fault run.Failed x = record { rose = λ is. x.rose refl; sure = λ steady going is. x.sure steady going refl }
    fault run.NotLoaded x = record { rose = λ is. absurd (cc); sure = λ steady going is. absurd (cc) }
    fault run.OtherShape x = record { rose = λ is. absurd (cc); sure = λ steady going is. absurd (cc) }
    fault run.OtherJob x = record { rose = λ is. absurd (cc); sure = λ steady going is. absurd (cc) }
    fault (run.BadPage page) x = record { rose = λ is. absurd (cc); sure = λ steady going is. absurd (cc) }

-- the job is done, and its report was written or not
done_leaves : (t : Tells) (task : Task) (old new : Devices) (mid : RackView) (answer : Status) (r : RunReport)
    → AttachedFrom old.rack mid → Ran t task (plan_of task) mid new.rack (Ok r) → answer ≢ RackFault → ¬ IsBeforeDisks answer
    → ¬ IsOfSlate answer
    → new.input ≡ old.input → (answer ≡ SinkFault → RunCut t task old new) → (answer ≡ Done) ⊎ ((answer ≡ SinkFault) ⊎
    (new.out ≡ old.out))
    → RunLeaves t task old answer new
done_leaves t task old new mid answer r from ran calm late fine input cut written = record {
  same = input_before _ old.rack mid new.rack from.disks ran.input;
  load = units_before (IsRunUnit task.shape) (IsNoRunUnit task) old.rack mid new.rack from.disks ran.call.frame (λ u q. q);
  most = moves_before (bound_of task) old.rack mid new.rack from.calls.moves ran.most;
  calls = few_before _ _ old.rack mid new.rack from.calls ran.few;
  session = inr (session t task old new mid answer (Ok r) from ran (λ is. absurd (calm is)));
  before = λ of. absurd (late of);
  refused = λ of. absurd (fine of);
  cut = cut;
  unwritten = written;
  input = input;
}

pub run_done : (t : Tells) (task : Task) (d : Devices) (before mid new : RackView) (out out' : SinkView) (r : RunReport) → TaskFits task
    → AttachedFrom before mid → IsWellFormed t.stands t.contents mid → mid.attached ≡ Some (dims_of task.shape)
    → Ran t task (plan_of task) mid new (Ok r)
    → (IsTrue t.out → out'.taken ≡ out.taken ++ report_text r (bound_of task)) → out.faults ≤ out'.faults
    → TaskCall t Run task (record d { out = out; rack = before }) Done (record d { out = out'; rack = new })
unfolding has_run
run_done t task d before mid new out out' r fits from well attached ran text low = record {
  may = tt;
  cause = has_disks t Run task d before mid tt from.disks well attached;
  done = λ e. record { run = has_run t task before mid new r fits from ran; text = text };
  leaves = done_leaves t task (record d { out = out; rack = before }) (record d { out = out'; rack = new }) mid Done r from ran
      (λ e. (cc)) (λ is. is) (λ is. is) refl (λ e. absurd (cc)) (inl refl);
  each = each_attached t Run task (record d { out = out; rack = before })
      (record d { out = out'; rack = new }) mid Done from ran.call.frame.stands
      ran.call.keeps (ran_grow t task (plan_of task) mid new (Ok r) ran) (no_fault Done mid new (λ e. (cc)))
      (λ told. ran.sound told.0 told.1) (λ of. of)
      (λ told. IsRead-none _ d.input.left)
      (omega arith) low;
  complete = λ is calm. inl refl;
}

pub run_cut : (t : Tells) (task : Task) (d : Devices) (before mid new : RackView) (out out' : SinkView) (r : RunReport) → TaskFits task
    → AttachedFrom before mid → IsWellFormed t.stands t.contents mid → mid.attached ≡ Some (dims_of task.shape)
    → Ran t task (plan_of task) mid new (Ok r)
    → (IsTrue t.out → AppendsFront out.taken out'.taken (report_text r (bound_of task))) → Rose out.faults out'.faults
    → out.faults ≤ out'.faults
    → TaskCall t Run task (record d { out = out; rack = before }) SinkFault (record d { out = out'; rack = new })
unfolding has_run
run_cut t task d before mid new out out' r fits from well attached ran text rose low = record {
  may = tt;
  cause = (has_disks t Run task d before mid tt from.disks well attached, rose);
  done = λ e. absurd (cc);
  leaves = done_leaves t task (record d { out = out; rack = before }) (record d { out = out'; rack = new }) mid SinkFault r from ran
      (λ e. (cc)) (λ is. is) (λ is. is) refl (λ e. record { run = has_run t task before mid new r fits from ran; text = text }) (inr
      (inl refl));
  each = each_attached t Run task (record d { out = out; rack = before })
      (record d { out = out'; rack = new }) mid SinkFault from ran.call.frame.stands
      ran.call.keeps (ran_grow t task (plan_of task) mid new (Ok r) ran) (no_fault SinkFault mid new (λ e. (cc)))
      (λ told. ran.sound told.0 told.1) (λ of. of)
      (λ told. IsRead-none _ d.input.left)
      (omega arith) low;
  complete = λ is calm. absurd (calm.out rose);
}
