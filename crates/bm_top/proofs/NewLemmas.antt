-- What a new leaves.
use Rattle.std.proofs.Common.{◌≡◌, ◌≢◌, inl, inr, Bool, IsTrue, IsFalse, None, refl, arith}
use Rattle.bm_base.specs.Count.{Rose}
use Rattle.bm_base.specs.Gate.{IsClosedGate}
use Rattle.bm_base.specs.Shape.{dims_of}
use Rattle.bm_rack.specs.RackView.{RackView, IsWellFormed}
use Rattle.bm_rack.specs.Frames.{SameDisks, Keeps, RaisesCounts}
use Rattle.bm_control.specs.Pages.{load_gate, job_gate}
use Rattle.bm_control.specs.Sound.{IsSound}
use Rattle.bm_control.proofs.ImageLemmas.{settled_clean, zeros_closed}
use Rattle.bm_control.proofs.SoundLemmas.{sound_closed}
use Rattle.bm_top.specs.declared.disks.DisksError.{DisksError}
use Rattle.bm_top.specs.declared.disks.DisksError.TheVariants as disks
use Rattle.bm_top.specs.Disks.{NewDisks, CreateRefusal, disks_status}
use Rattle.bm_top.specs.Moment.{Devices, Tells}
use Rattle.bm_top.specs.TopCall.{TaskCall}
use Rattle.bm_top.specs.declared.task.Task.{Task}
use Rattle.bm_top.specs.declared.words.Verb.TheVariants.{New}
use Rattle.bm_top.specs.declared.status.Status.TheVariants.{Done}
use Rattle.bm_top.proofs.ExitLemmas.{IsRead-none}
use Rattle.bm_rack.proofs.CallLemmas.{CallsGrow-same}
use Rattle.bm_top.proofs.SameDisksLemmas.{sound_kept, calls_kept}

-- new disks are sound: both gates are closed, and nothing is dirty
pub sound_new : (ts tc : Bool) (s : Task) (old new : RackView) → IsTrue tc → NewDisks ts tc (dims_of s.shape) old new → IsSound new
sound_new ts tc s old new told made =
    sound_closed new
    (settled_clean IsClosedGate load_gate new made.clean (zeros_closed _ ((made.blank told).pages load_gate (omega arith))))
    (settled_clean IsClosedGate job_gate new made.clean (zeros_closed _ ((made.blank told).pages job_gate (omega arith))))

-- where the disks were made
pub new_done : (t : Tells) (task : Task) (d : Devices) (old new : RackView) → IsWellFormed t.stands t.contents old
    → NewDisks t.stands t.contents (dims_of task.shape) old new → RaisesCounts 0 0 0 old new → Keeps old new
    → TaskCall t New task (record d { rack = old }) Done (record d { rack = new })
new_done t task d old new well made counts keeps = record {
  may = tt;
  cause = λ told. made.stood told;
  done = λ e. made;
  leaves = record {
    refused = λ e. absurd (e refl);
    calls = calls_kept _ _ old new well counts;
    input = refl;
    out = refl;
  };
  each = record {
    sound = λ told sound. sound_new t.stands t.contents task old new told.1 made;
    stands = λ told. inr (record { makes = tt; stood = made.stood told; stands = made.stands told });
    keeps = keeps;
    fault = record { rose = λ e. absurd (cc); sure = λ steady going e. absurd (cc) };
    calls = λ of. absurd of;
    grow = CallsGrow-same old new (calls_kept _ _ old new well counts);
    unattached = λ e. absurd (cc);
    few = λ told. IsRead-none _ d.input.left;
    input_faults = omega arith;
    out_faults = omega arith;
  };
  complete = λ is calm. inl refl;
}

-- where they were not
pub new_refused : (t : Tells) (task : Task) (d : Devices) (old new : RackView) (e : DisksError) → IsWellFormed t.stands t.contents old
    → CreateRefusal t.stands old e → SameDisks old new → new.attached ≡ None → RaisesCounts 0 0 0 old new → Keeps old new
    → (e ≡ disks.RackFault → Rose old.faults new.faults) → (IsTrue old.steady → IsFalse old.stopping → e ≢ disks.RackFault)
    → TaskCall t New task (record d { rack = old }) (disks_status e) (record d { rack = new })
new_refused t task d old new disks.RackFault well why same none counts keeps rose sure = record {
  may = tt;
  cause = rose refl;
  done = λ e. absurd (cc);
  leaves = record { refused = λ e. same; calls = calls_kept _ _ old new well counts; input = refl; out = refl };
  each = record {
    sound = λ told sound. sound_kept old new same sound;
    stands = λ told. inl same.stands;
    keeps = keeps;
    fault = record { rose = λ e. rose refl; sure = λ steady going e. sure steady going refl };
    calls = λ of. absurd of;
    grow = CallsGrow-same old new (calls_kept _ _ old new well counts);
    unattached = λ e. absurd (cc);
    few = λ told. IsRead-none _ d.input.left;
    input_faults = omega arith;
    out_faults = omega arith;
  };
  complete = λ is calm. absurd (calm.rack (rose refl));
}
new_refused t task d old new disks.OutOfMemory well why same none counts keeps rose sure = record {
  may = tt;
  cause = tt;
  done = λ e. absurd (cc);
  leaves = record { refused = λ e. same; calls = calls_kept _ _ old new well counts; input = refl; out = refl };
  each = record {
    sound = λ told sound. sound_kept old new same sound;
    stands = λ told. inl same.stands;
    keeps = keeps;
    fault = record { rose = λ e. absurd (cc); sure = λ steady going e. absurd (cc) };
    calls = λ of. calls_kept _ _ old new well counts;
    grow = CallsGrow-same old new (calls_kept _ _ old new well counts);
    unattached = λ e. inr none;
    few = λ told. IsRead-none _ d.input.left;
    input_faults = omega arith;
    out_faults = omega arith;
  };
  complete = λ is calm. inr refl;
}
new_refused t task d old new disks.Exists well why same none counts keeps rose sure = record {
  may = tt;
  cause = why;
  done = λ e. absurd (cc);
  leaves = record { refused = λ e. same; calls = calls_kept _ _ old new well counts; input = refl; out = refl };
  each = record {
    sound = λ told sound. sound_kept old new same sound;
    stands = λ told. inl same.stands;
    keeps = keeps;
    fault = record { rose = λ e. absurd (cc); sure = λ steady going e. absurd (cc) };
    calls = λ of. calls_kept _ _ old new well counts;
    grow = CallsGrow-same old new (calls_kept _ _ old new well counts);
    unattached = λ e. absurd (cc);
    few = λ told. IsRead-none _ d.input.left;
    input_faults = omega arith;
    out_faults = omega arith;
  };
  complete = λ is calm. absurd (why is.told is.absent);
}
new_refused t task d old new disks.NoDisks well why same none counts keeps rose sure = absurd why
new_refused t task d old new disks.WrongDims well why same none counts keeps rose sure = absurd why
