-- The command `load`.
use Rattle.std.proofs.Common.{Ok, Err, ◌≡◌, ◌≢◌, inl, ℕ, ◌+◌, ◌≤◌, IsTrue, Some, Result, IsOk, IfErr, OnOk, refl, ap, ◌∙◌, arith}
use Rattle.bm_base.specs.Contents.{page_at}
use Rattle.bm_base.specs.Count.{raised, Rose}
use Rattle.bm_base.specs.Shape.{dims_of, stripes, input_size}
use Rattle.bm_rack.specs.RackView.{RackView, IsClean, IsWellFormed}
use Rattle.bm_rack.specs.Image.{InEveryImage}
use Rattle.bm_rack.specs.Frames.{RackCall, HasCause, MakesCalls}
use Rattle.bm_rack.proofs.FrameLemmas.{Keeps-trans, HasCause-later}
use Rattle.bm_control.specs.Pages.{job_gate}
use Rattle.bm_control.specs.Sound.{IsSound}
use Rattle.bm_disks.specs.Input.{IsRead, InputAnswer, IsInputRefusal}
use Rattle.bm_disks.specs.Loading.{AreGatesClosed, HasLoad, HoldsInput, IsLoadingUnit, OpensWhole}
use Rattle.bm_disks.proofs.GateLemmas.{shut_closed}
use Rattle.bm_disks.specs.declared.load_error.LoadError.{LoadError}
use Rattle.bm_disks.specs.declared.load_error.LoadError.TheVariants as load
use Rattle.bm_top.specs.Causes.{CauseOf, HasDisks}
use Rattle.bm_top.specs.DiskStatus.{load_status}
use Rattle.bm_top.specs.Exits.{AttachedFrom}
use Rattle.bm_top.specs.Moment.{Devices, SourceView, Tells, TellsRack}
use Rattle.bm_top.specs.Status.{IsBeforeDisks, IsOfInput}
use Rattle.bm_top.specs.TopCall.{TaskCall, NoFaults, IsDoneUnlessMemory}
use Rattle.bm_top.specs.commands.Load.{LoadMay, LoadDone, LoadRefused, LoadCase}
use Rattle.bm_top.specs.declared.task.Task.{Task}
use Rattle.bm_top.specs.declared.words.Verb.TheVariants as verbs
use Rattle.bm_top.specs.declared.status.Status.{Status}
use Rattle.bm_top.specs.declared.status.Status.TheVariants.{Done, OutOfMemory, RackFault}
use Rattle.bm_top.proofs.AttachedLemmas.{disks_stand}
use Rattle.bm_rack.proofs.CallLemmas.{CallsGrow-same, CallsGrow-trans, CallsGrow-made, most_of}
use Rattle.bm_top.proofs.BeforeLemmas.{moves_before}
use Rattle.bm_top.proofs.SameDisksLemmas.{sound_kept}
use Rattle.bm_top.proofs.OpensLemmas.{opens_from}

-- what a load did to attached disks, and to its source
pub record InputLoaded (t : Tells) (task : Task) (old : SourceView) (mid : RackView) (r : Result (Unit {0}) LoadError) (new : RackView)
    (input : SourceView) : Type 0 where
  pub answer : InputAnswer t.input (input_size task.shape) old.left input.left r
  pub few : IsTrue t.input → IsRead (input_size task.shape + 1) old.left input.left
  pub data_fault : r ≡ Err load.DataFault → Rose old.faults input.faults
  pub data_faults : old.faults ≤ input.faults
  pub records : IsTrue t.input → IsTrue t.contents → OnOk r (HoldsInput task.shape old.left new.contents)
  pub gates : IsTrue t.contents → OnOk r (HasLoad task.shape mid.contents new.contents)
  pub clean : OnOk r (IsClean new)
  pub closed : IsTrue t.contents → IfErr r (λ e. IsInputRefusal e → AreGatesClosed new)
  pub sound : TellsRack t → IsSound mid → IsSound new
  pub mended : TellsRack t → ¬ (r ≡ Err load.Failed) → IsSound new
  pub opened : TellsRack t → IsTrue t.input → IsSound mid → InEveryImage (OpensWhole task.shape old.left mid) new
  pub call : RackCall (IsLoadingUnit task.shape) (r ≡ Err load.Failed) mid new
  pub counts : MakesCalls (IsOk r) (stripes task.shape) 6 5 mid new

-- the answer of the command
abbrev pub load_answer : Result (Unit {0}) LoadError → Status
load_answer (Ok x) = Done
load_answer (Err e) = load_status e

may : (r : Result (Unit {0}) LoadError) → LoadMay (load_answer r)
may (Ok x) = tt
may (Err load.Failed) = tt
may (Err load.DataFault) = tt
may (Err (load.DataShort got)) = tt
may (Err load.DataLong) = tt

no_memory : (r : Result (Unit {0}) LoadError) → load_answer r ≢ OutOfMemory
no_memory (Ok x) is = (cc)
no_memory (Err load.Failed) is = (cc)
no_memory (Err load.DataFault) is = (cc)
no_memory (Err (load.DataShort got)) is = (cc)
no_memory (Err load.DataLong) is = (cc)

late : (r : Result (Unit {0}) LoadError) → ¬ IsBeforeDisks (load_answer r)
late (Ok x) = λ of. of
late (Err load.Failed) = λ of. of
late (Err load.DataFault) = λ of. of
late (Err (load.DataShort got)) = λ of. of
late (Err load.DataLong) = λ of. of

failed : (r : Result (Unit {0}) LoadError) → load_answer r ≡ RackFault → r ≡ Err load.Failed
failed (Ok x) is = absurd (cc)
failed (Err load.Failed) is = refl
failed (Err load.DataFault) is = absurd (cc)
failed (Err (load.DataShort got)) is = absurd (cc)
failed (Err load.DataLong) is = absurd (cc)

cause : (t : Tells) (task : Task) (d : Devices) (input : SourceView) (before mid new : RackView) (r : Result (Unit {0}) LoadError)
    → HasDisks t verbs.Load task (record d { rack = before }) → InputLoaded t task d.input mid r new input
    → HasCause (r ≡ Err load.Failed) before new
    → CauseOf t verbs.Load task (record d { rack = before }) (load_answer r) (record d { input = input; rack = new })
cause t task d input before mid new (Ok x) stand j why = stand
cause t task d input before mid new (Err load.Failed) stand j why = why.rose refl
cause t task d input before mid new (Err load.DataFault) stand j why = (stand, j.data_fault refl)
cause t task d input before mid new (Err (load.DataShort got)) stand j why = (stand, j.answer)
cause t task d input before mid new (Err load.DataLong) stand j why = (stand, j.answer)

done : (t : Tells) (task : Task) (d : Devices) (input : SourceView) (before mid new : RackView) (r : Result (Unit {0}) LoadError)
    → AttachedFrom before mid → InputLoaded t task d.input mid r new input → load_answer r ≡ Done
    → LoadDone t task (record d { rack = before }) (record d { input = input; rack = new })
done t task d input before mid new (Ok x) from j is = record {
  size = λ told. (j.answer told).0;
  ended = λ told. (j.answer told).1;
  records = λ told rack. j.records told rack;
  load_body = λ told. (j.gates told).body;
  load_gate = λ told. (j.gates told).opened;
  job_gate = λ told. shut_closed (page_at mid.contents job_gate) (page_at new.contents job_gate) (j.gates told).no_job;
  clean = j.clean;
  sound = λ told. j.mended told (λ e. (cc));
  moves = j.counts.moves.done refl ∙ ap (λ (n : ℕ). raised n (stripes task.shape)) from.calls.moves;
}
done t task d input before mid new (Err load.Failed) from j is = absurd (cc)
done t task d input before mid new (Err load.DataFault) from j is = absurd (cc)
done t task d input before mid new (Err (load.DataShort got)) from j is = absurd (cc)
done t task d input before mid new (Err load.DataLong) from j is = absurd (cc)

-- what an input that is refused leaves
closed_by : (new : RackView) → IsSound new → AreGatesClosed new → LoadRefused new
closed_by new sound closed = record {
  load_gate = λ dims image stands i. (closed dims image stands i).0;
  job_gate = λ dims image stands i. (closed dims image stands i).1;
  sound = sound;
}

refused : (t : Tells) (task : Task) (old input : SourceView) (mid new : RackView) (r : Result (Unit {0}) LoadError)
    → InputLoaded t task old mid r new input → TellsRack t → IsOfInput (load_answer r) → LoadRefused new
refused t task old input mid new (Ok x) j told of = absurd of
refused t task old input mid new (Err load.Failed) j told of = absurd of
refused t task old input mid new (Err load.DataFault) j told of = closed_by new (j.mended told (λ e. (cc))) (j.closed told.1 tt)
refused t task old input mid new (Err (load.DataShort got)) j told of = closed_by new (j.mended told (λ e. (cc))) (j.closed told.1 tt)
refused t task old input mid new (Err load.DataLong) j told of = closed_by new (j.mended told (λ e. (cc))) (j.closed told.1 tt)

complete : (t : Tells) (task : Task) (d : Devices) (input : SourceView) (before mid new : RackView) (r : Result (Unit {0}) LoadError)
    → InputLoaded t task d.input mid r new input → HasCause (r ≡ Err load.Failed) before new → LoadCase t task (record d { rack = before })
    → NoFaults (record d { rack = before }) (record d { input = input; rack = new }) → IsDoneUnlessMemory (load_answer r)
complete t task d input before mid new (Ok x) j why is calm = inl refl
complete t task d input before mid new (Err load.Failed) j why is calm = absurd (calm.rack (why.rose refl))
complete t task d input before mid new (Err load.DataFault) j why is calm = absurd (calm.input (j.data_fault refl))
complete t task d input before mid new (Err (load.DataShort got)) j why is calm =
    (let less = j.answer.0 in let got_all = (j.answer.1 is.input_told).0 in let size = is.size in absurd (omega
    (arith, less, got_all, size)))
complete t task d input before mid new (Err load.DataLong) j why is calm =
    (let more = (j.answer is.input_told).0 in let size = is.size in absurd (omega (arith, more, size)))

-- What the command does, by what it did to its disks and its source.
pub load_done : (t : Tells) (task : Task) (d : Devices) (input : SourceView) (before mid new : RackView) (r : Result (Unit {0}) LoadError)
    → IsWellFormed t.stands t.contents mid → mid.attached ≡ Some (dims_of task.shape) → AttachedFrom before mid
    → InputLoaded t task d.input mid r new input
    → TaskCall t verbs.Load task (record d { rack = before }) (load_answer r) (record d { input = input; rack = new })
load_done t task d input before mid new r well attached from j =
    let why = HasCause-later _ before mid new from.keeps j.call.cause in
    record {
      may = may r;
      cause = cause t task d input before mid new r (disks_stand t task before mid well attached from) j why;
      done = done t task d input before mid new r from j;
      leaves = record {
        refused = refused t task d.input input mid new r j;
        opened = λ told input sound. opens_from task.shape d.input.left before mid new from.disks
            (j.opened told input (sound_kept before mid from.disks sound));
        unread = λ of. absurd (late r of);
        same = λ of. absurd (late r of);
        moves = moves_before _ before mid new from.calls.moves (most_of _ _ _ _ _ (omega arith) j.counts.moves);
        out = refl;
      };
      each = record {
        sound = λ told sound. j.sound told (sound_kept before mid from.disks sound);
        stands = λ told. inl (j.call.frame.stands ∙ from.disks.stands);
        keeps = Keeps-trans before mid new from.keeps j.call.keeps;
        fault = record { rose = λ is. why.rose (failed r is); sure = λ steady going is. why.sure steady going (failed r is) };
        calls = λ of. absurd (late r of);
        grow = CallsGrow-trans before mid new (CallsGrow-same before mid from.calls)
            (CallsGrow-made _ _ _ _ mid new j.counts);
        unattached = λ is. absurd (no_memory r is);
        few = j.few;
        input_faults = j.data_faults;
        out_faults = omega arith;
      };
      complete = complete t task d input before mid new r j why;
    }
