-- A carry whose disks are made, or not.
use Rattle.std.proofs.Common.{◌≡◌, ◌≢◌, inl, inr, ⊎_elim, IsTrue, IsFalse, None, refl, arith}
use Rattle.bm_base.specs.Count.{Rose}
use Rattle.bm_base.specs.Shape.{dims_of}
use Rattle.bm_rack.specs.RackView.{RackView, IsWellFormed}
use Rattle.bm_rack.specs.Frames.{SameDisks, RaisesCounts, Keeps, HasCause}
use Rattle.bm_control.specs.Pages.{job_gate}
use Rattle.bm_control.proofs.ImageLemmas.{zeros_closed}
use Rattle.bm_top.specs.Causes.{CauseOf}
use Rattle.bm_top.specs.declared.disks.DisksError.{DisksError}
use Rattle.bm_top.specs.declared.disks.DisksError.TheVariants as disks
use Rattle.bm_top.specs.Disks.{NewDisks, SameOrNewDisks, DisksRefusal, disks_status}
use Rattle.bm_top.specs.Moment.{Devices, Tells}
use Rattle.bm_top.specs.TopCall.{TaskCall, NoFaults, IsDoneUnlessMemory}
use Rattle.bm_top.specs.commands.Carry.{CarryMay, CarryCase, IsMadeFrom}
use Rattle.bm_top.specs.declared.task.Task.{Task}
use Rattle.bm_top.specs.declared.words.Verb.TheVariants.{Carry}
use Rattle.bm_top.specs.declared.status.Status.TheVariants.{RackFault, Exists}
use Rattle.bm_top.proofs.ExitLemmas.{IsRead-none, AppendsFront-none}
use Rattle.bm_rack.proofs.CallLemmas.{CallsGrow-same, MovesFew-same}
use Rattle.bm_top.proofs.CarryWholeLemmas.{new_closed, whole_not_loaded}
use Rattle.bm_top.proofs.NewLemmas.{sound_new}
use Rattle.bm_top.proofs.SameDisksLemmas.{sound_kept, calls_kept}
use Rattle.bm_top.proofs.StepAnswerLemmas.{disks_not_done, disks_no_sink, disks_no_input}

same_or_new : (t : Tells) (task : Task) (old new : RackView) (e : DisksError) → DisksRefusal t.stands t.contents
    (dims_of task.shape) old new e
    → SameOrNewDisks t.stands t.contents (dims_of task.shape) old new
same_or_new t task old new disks.RackFault why = why
same_or_new t task old new disks.OutOfMemory why = why
same_or_new t task old new disks.Exists why = inl why.1
same_or_new t task old new disks.NoDisks why = inr why.1
same_or_new t task old new disks.WrongDims why = inr why.1

-- where they could not be made or attached
pub carry_not_made : (t : Tells) (task : Task) (d : Devices) (old new : RackView) (e : DisksError) → IsWellFormed t.stands t.contents old
    → DisksRefusal t.stands t.contents (dims_of task.shape) old new e → new.attached ≡ None → RaisesCounts 0 0 0 old new → Keeps old new
    → (e ≡ disks.RackFault → Rose old.faults new.faults) → (IsTrue old.steady → IsFalse old.stopping → e ≢ disks.RackFault)
    → TaskCall t Carry task (record d { rack = old }) (disks_status e) (record d { rack = new })
carry_not_made t task d old new e well why none counts keeps rose sure = record {
  may = may e;
  cause = cause e why rose;
  done = λ is. absurd (disks_not_done e is);
  leaves = record {
    front = λ told. AppendsFront-none d.out.taken _;
    unwritten = λ of. refl;
    unread = λ of. refl;
    written = λ told. inl refl;
    whole = λ told is. absurd (disks_no_sink e is);
    refused = λ told of. absurd (disks_no_input e of);
    made = λ told of. absurd (disks_no_input e of);
    cut = λ told is. absurd (disks_no_sink e is);
    opened = λ told input none. whole_not_loaded task.shape d.input.left t.stands t.contents (dims_of task.shape) old new told.1
        (same_or_new t task old new e why) none;
    stood = ⊎_elim (λ (same : SameDisks old new). inl (record { disks = same; calls = calls_kept _ _ old new well counts }))
        (λ (made : NewDisks t.stands t.contents (dims_of task.shape) old new). inr made.stood)
        (same_or_new t task old new e why);
    exists = λ is. record { disks = exists e is why; calls = calls_kept _ _ old new well counts };
    memory = λ is. same_or_new t task old new e why;
    moves = MovesFew-same t.stands t.contents _ old new well (calls_kept _ _ old new well counts).moves;
  };
  each = record {
    sound = λ told sound.
        ⊎_elim (λ (same : SameDisks old new). sound_kept old new same sound)
        (λ (made : NewDisks t.stands t.contents (dims_of task.shape) old new). sound_new t.stands t.contents task old new told.1 made)
        (same_or_new t task old new e why);
    stands = λ told.
        ⊎_elim (λ (same : SameDisks old new). inl same.stands)
        (λ (made : NewDisks t.stands t.contents (dims_of task.shape) old new).
        inr (record { makes = tt; stood = made.stood told; stands = made.stands told }))
        (same_or_new t task old new e why);
    keeps = keeps;
    fault = fault e rose sure;
    calls = λ of. calls_kept _ _ old new well counts;
    grow = CallsGrow-same old new (calls_kept _ _ old new well counts);
    unattached = λ is. inr none;
    few = λ told. IsRead-none _ d.input.left;
    input_faults = omega arith;
    out_faults = omega arith;
  };
  complete = complete e why rose;
}
  where
    may : (e : DisksError) → CarryMay (disks_status e)
    may disks.RackFault = tt
    may disks.OutOfMemory = tt
    may disks.Exists = tt
    may disks.NoDisks = tt
    may disks.WrongDims = tt

    cause : (e : DisksError) → DisksRefusal t.stands t.contents (dims_of task.shape) old new e → (e ≡ disks.RackFault
        → Rose old.faults new.faults)
        → CauseOf t Carry task (record d { rack = old }) (disks_status e) (record d { rack = new })
    cause disks.RackFault why rose = rose refl
    cause disks.OutOfMemory why rose = tt
    cause disks.Exists why rose = why.0
    cause disks.NoDisks why rose = λ told. absurd (why.0 told)
    cause disks.WrongDims why rose = λ told. absurd (why.0 told)

    exists : (e : DisksError) → disks_status e ≡ Exists → DisksRefusal t.stands t.contents (dims_of task.shape) old new e
        → SameDisks old new
    exists disks.RackFault is why = absurd (cc)
    exists disks.OutOfMemory is why = absurd (cc)
    exists disks.Exists is why = why.1
    exists disks.NoDisks is why = absurd (cc)
    exists disks.WrongDims is why = absurd (cc)

    fault : (e : DisksError) → (e ≡ disks.RackFault → Rose old.faults new.faults) → (IsTrue old.steady → IsFalse old.stopping
        → e ≢ disks.RackFault)
        → HasCause (disks_status e ≡ RackFault) old new
    fault disks.RackFault rose sure = record { rose = λ is. rose refl; sure = λ steady going is. sure steady going refl }
    fault disks.OutOfMemory rose sure = record { rose = λ is. absurd (cc); sure = λ steady going is. absurd (cc) }
    fault disks.Exists rose sure = record { rose = λ is. absurd (cc); sure = λ steady going is. absurd (cc) }
    fault disks.NoDisks rose sure = record { rose = λ is. absurd (cc); sure = λ steady going is. absurd (cc) }
    fault disks.WrongDims rose sure = record { rose = λ is. absurd (cc); sure = λ steady going is. absurd (cc) }

    complete : (e : DisksError) → DisksRefusal t.stands t.contents (dims_of task.shape) old new e → (e ≡ disks.RackFault
        → Rose old.faults new.faults)
        → CarryCase t task (record d { rack = old }) → NoFaults (record d { rack = old }) (record d { rack = new }) → IsDoneUnlessMemory
        (disks_status e)
    complete disks.RackFault why rose is calm = absurd (calm.rack (rose refl))
    complete disks.OutOfMemory why rose is calm = inr refl
    complete disks.Exists why rose is calm = absurd (why.0 is.told.0 is.absent)
    complete disks.NoDisks why rose is calm = absurd (why.0 is.told.0)
    complete disks.WrongDims why rose is calm = absurd (why.0 is.told.0)

-- where they were
pub made_from : (t : Tells) (task : Task) (d : Devices) (old new : RackView) → IsWellFormed t.stands t.contents old
    → NewDisks t.stands t.contents (dims_of task.shape) old new → RaisesCounts 0 0 0 old new → Keeps old new
    → IsMadeFrom t task (record d { rack = old }) (record d { rack = new })
made_from t task d old new well made counts keeps = record {
  stood = made.stood;
  stands = made.stands;
  load_gate = λ told. new_closed t.stands t.contents (dims_of task.shape) old new told made;
  job_gate = λ told. zeros_closed _ ((made.blank told).pages job_gate (omega arith));
  sound = λ told. sound_new t.stands t.contents task old new told.1 made;
  calls = calls_kept _ _ old new well counts;
  keeps = keeps;
  input = refl;
  out = refl;
}
