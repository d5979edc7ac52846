-- A carry whose job is not done.
use Rattle.std.proofs.Common.{◌≡◌, ◌≢◌, inl, inr, Err, IsErrOf, refl, sym, ap, subst, ◌∙◌, arith}
use Rattle.bm_base.specs.declared.report.RunReport.{RunReport}
use Rattle.bm_base.proofs.CountLemmas.{rose_earlier}
use Rattle.bm_rack.specs.RackView.{RackView}
use Rattle.bm_rack.specs.Sink.{AppendsFront}
use Rattle.bm_rack.proofs.FrameLemmas.{Keeps-trans}
use Rattle.bm_job.specs.declared.answers.RunError.{RunError}
use Rattle.bm_job.specs.declared.answers.RunError.TheVariants as run
use Rattle.bm_job.specs.Runs.{IsRunnable}
use Rattle.bm_top.specs.Causes.{CauseOf}
use Rattle.bm_top.specs.DiskStatus.{run_status}
use Rattle.bm_top.specs.Moment.{SinkView, Devices, Tells, TellsRack}
use Rattle.bm_top.specs.TopCall.{TaskCall}
use Rattle.bm_top.specs.commands.Run.{plan_of}
use Rattle.bm_top.specs.commands.Carry.{CarryMay, carried, IsLoadedFrom}
use Rattle.bm_top.specs.declared.task.Task.{Task}
use Rattle.bm_top.specs.declared.words.Verb.TheVariants.{Carry}
use Rattle.bm_top.specs.declared.status.Status.TheVariants.{OutOfMemory, RackFault, Exists}
use Rattle.bm_top.proofs.CarryWholeLemmas.{whole_loaded}
use Rattle.bm_top.proofs.ExitLemmas.{AppendsFront-none}
use Rattle.bm_rack.proofs.CallLemmas.{CallsGrow-trans, most_between}
use Rattle.bm_top.proofs.RanLemmas.{Ran, ran_grow}
use Rattle.bm_top.proofs.FaultLemmas.{cause_later}
use Rattle.bm_top.proofs.StepAnswerLemmas.{run_not_done, run_no_sink, run_late, run_no_input}

-- what was just loaded can be run
runnable : (t : Tells) (task : Task) (old mid : Devices) → IsLoadedFrom t task old mid → TellsRack t
    → IsRunnable task.shape task.job mid.rack.contents
runnable t task old mid loaded told = record {
  load_gate = loaded.load_gate told.1;
  load_body = loaded.load_body told.1;
  job_gate = inl (loaded.job_gate told.1);
}

pub carry_not_run : (t : Tells) (task : Task) (d old : Devices) (mid new : RackView) (e : RunError)
    → IsLoadedFrom t task old (record d { rack = mid })
    → Ran t task (plan_of task) mid new (Err e) → TaskCall t Carry task old (run_status e) (record d { rack = new })
carry_not_run t task d old mid new e loaded ran = record {
  may = may e;
  cause = cause e ran;
  done = λ is. absurd (run_not_done e is);
  leaves = record {
    front = λ told. subst (λ (v : SinkView). AppendsFront old.out.taken v.taken (carried task old.input.left)) (sym loaded.out)
        (AppendsFront-none old.out.taken _);
    unwritten = λ of. loaded.out;
    unread = λ of. absurd (run_late e of);
    written = λ told. inl loaded.out;
    whole = λ told is. absurd (run_no_sink e is);
    refused = λ told of. absurd (run_no_input e of);
    made = λ told of. absurd (run_no_input e of);
    cut = λ told is. absurd (run_no_sink e is);
    opened = λ told input none. whole_loaded task.shape old.input.left mid new loaded.clean ran.input (loaded.size input)
        (loaded.records input told.1);
    stood = inr loaded.stood;
    exists = λ is. absurd (no_exists e is);
    memory = λ is. absurd (no_memory e is);
    moves = most_between _ _ _ (omega (arith, ran.most.low, loaded.grow.moves)) (omega (arith, ran.most.high, loaded.moves));
  };
  each = record {
    sound = λ told sound. ran.sound told.0 told.1 (loaded.sound told);
    stands = λ told. inr (record { makes = tt; stood = loaded.stood told; stands = ran.call.frame.stands ∙ loaded.stands told });
    keeps = Keeps-trans old.rack mid new loaded.keeps ran.call.keeps;
    fault = cause_later _ _ old.rack mid new (rack_fault e) loaded.keeps ran.call.cause;
    calls = λ of. absurd (run_late e of);
    grow = CallsGrow-trans old.rack mid new loaded.grow (ran_grow t task (plan_of task) mid new (Err e) ran);
    unattached = λ is. absurd (no_memory e is);
    few = loaded.few;
    input_faults = loaded.input_faults;
    out_faults = omega (arith, ap (λ (v : SinkView). v.faults) loaded.out);
  };
  complete = λ is calm.
      absurd (calm.rack (rose_earlier old.rack.faults mid.faults new.faults loaded.keeps.faults (ran.call.cause.rose (ap Err
      (only is.told)))));
}
  where
    only : TellsRack t → e ≡ run.Failed
    only told = ran.complete told.0 told.1 (loaded.sound told) (runnable t task old (record d { rack = mid }) loaded told)

    may : (e : RunError) → CarryMay (run_status e)
    may run.Failed = tt
    may run.NotLoaded = tt
    may run.OtherShape = tt
    may run.OtherJob = tt
    may (run.BadPage page) = tt

    no_exists : (e : RunError) → run_status e ≢ Exists
    no_exists run.Failed is = absurd (cc)
    no_exists run.NotLoaded is = absurd (cc)
    no_exists run.OtherShape is = absurd (cc)
    no_exists run.OtherJob is = absurd (cc)
    no_exists (run.BadPage page) is = absurd (cc)

    no_memory : (e : RunError) → run_status e ≢ OutOfMemory
    no_memory run.Failed is = absurd (cc)
    no_memory run.NotLoaded is = absurd (cc)
    no_memory run.OtherShape is = absurd (cc)
    no_memory run.OtherJob is = absurd (cc)
    no_memory (run.BadPage page) is = absurd (cc)

    rack_fault : (e : RunError) → run_status e ≡ RackFault → IsErrOf {T = RunReport} {E = RunError} (Err e) run.Failed
    rack_fault run.Failed is = refl
    rack_fault run.NotLoaded is = absurd (cc)
    rack_fault run.OtherShape is = absurd (cc)
    rack_fault run.OtherJob is = absurd (cc)
    rack_fault (run.BadPage page) is = absurd (cc)

    other : (e : RunError) → Ran t task (plan_of task) mid new (Err e) → TellsRack t → e ≡ run.Failed
    other e by told = by.complete told.0 told.1 (loaded.sound told) (runnable t task old (record d { rack = mid }) loaded told)

    cause : (e : RunError) → Ran t task (plan_of task) mid new (Err e) → CauseOf t Carry task old (run_status e) (record d { rack = new })
    cause run.Failed by = rose_earlier old.rack.faults mid.faults new.faults loaded.keeps.faults (by.call.cause.rose refl)
    cause run.NotLoaded by = (loaded.stood, λ told. (let e = other run.NotLoaded by told in absurd (cc)))
    cause run.OtherShape by = (loaded.stood, λ told. (let e = other run.OtherShape by told in absurd (cc)))
    cause run.OtherJob by = (loaded.stood, λ told. (let e = other run.OtherJob by told in absurd (cc)))
    cause (run.BadPage page) by = (loaded.stood, λ told. (let e = other (run.BadPage page) by told in absurd (cc)))
