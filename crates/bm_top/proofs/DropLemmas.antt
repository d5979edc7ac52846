-- The command `drop`.
use Rattle.std.proofs.Common.{Ok, Err, ◌≡◌, inl, IsTrue, Some, Result, IsOk, OnOk, refl, sym, subst, ◌∙◌, arith}
use Rattle.bm_base.specs.declared.dims.Dims.{Dims}
use Rattle.bm_base.specs.Contents.{page_at}
use Rattle.bm_base.specs.Shape.{dims_of}
use Rattle.bm_rack.specs.RackView.{RackView, IsClean, IsWellFormed}
use Rattle.bm_rack.specs.Calls.{IsPage}
use Rattle.bm_rack.specs.Frames.{RackCall, HasCause, MakesPageCalls}
use Rattle.bm_rack.specs.Image.{SameInput}
use Rattle.bm_rack.proofs.FrameLemmas.{Keeps-trans, HasCause-later}
use Rattle.bm_control.specs.Pages.{job_gate, HasOpenJob, HasClosedJob}
use Rattle.bm_control.specs.Sound.{IsSound}
use Rattle.bm_control.proofs.ImageLemmas.{zeros_closed}
use Rattle.bm_disks.specs.Dropping.{DropAnswer}
use Rattle.bm_disks.specs.declared.dropping.DropError.{DropError}
use Rattle.bm_disks.specs.declared.dropping.DropError.TheVariants as drop
use Rattle.bm_top.specs.Causes.{CauseOf, HasDisks}
use Rattle.bm_top.specs.DiskStatus.{drop_status}
use Rattle.bm_top.specs.Exits.{AttachedFrom}
use Rattle.bm_top.specs.Moment.{Devices, Tells, TellsRack}
use Rattle.bm_top.specs.Status.{IsBeforeDisks, IsOfSlate}
use Rattle.bm_top.specs.TopCall.{TaskCall, NoFaults, IsDoneUnlessMemory}
use Rattle.bm_top.specs.commands.Drop.{DropMay, DropDone, DropCase, IsNoJobGate}
use Rattle.bm_top.specs.declared.task.Task.{Task}
use Rattle.bm_top.specs.declared.words.Verb.TheVariants.{Drop}
use Rattle.bm_top.specs.declared.status.Status.{Status}
use Rattle.bm_top.specs.declared.status.Status.TheVariants.{Done, OutOfMemory, RackFault}
use Rattle.bm_top.proofs.AttachedLemmas.{units_after, input_after, disks_stand}
use Rattle.bm_top.proofs.ExitLemmas.{IsRead-none}
use Rattle.bm_rack.proofs.CallLemmas.{CallsGrow-same, CallsGrow-trans, CallsGrow-pages}
use Rattle.bm_top.proofs.SameDisksLemmas.{sound_kept}

-- what a drop did to attached disks
pub record JobDropped (t : Tells) (mid : RackView) (r : Result (Unit {0}) DropError) (new : RackView) : Type 0 where
  pub answer : IsTrue t.contents → DropAnswer (page_at mid.contents job_gate) (page_at new.contents job_gate) r
  pub kept : r ≡ Err drop.NoJob → new.contents ≡ mid.contents
  pub clean : OnOk r (IsClean new)
  pub sound : TellsRack t → IsSound mid → IsSound new
  pub input : (dims : Dims) → SameInput dims mid new
  pub call : RackCall (IsPage job_gate) (r ≡ Err drop.Failed) mid new
  pub counts : MakesPageCalls (IsOk r) 2 2 mid new

-- the answer of the command
abbrev pub answer_of : Result (Unit {0}) DropError → Status
answer_of (Ok x) = Done
answer_of (Err e) = drop_status e

may : (r : Result (Unit {0}) DropError) → DropMay (answer_of r)
may (Ok x) = tt
may (Err drop.Failed) = tt
may (Err drop.NoJob) = tt

cause : (t : Tells) (task : Task) (d : Devices) (before mid new : RackView) (r : Result (Unit {0}) DropError) → AttachedFrom before mid
    → HasDisks t Drop task (record d { rack = before }) → JobDropped t mid r new
    → HasCause (r ≡ Err drop.Failed) before new
    → CauseOf t Drop task (record d { rack = before }) (answer_of r) (record d { rack = new })
cause t task d before mid new (Ok x) from stand j why = stand
cause t task d before mid new (Err drop.Failed) from stand j why = why.rose refl
cause t task d before mid new (Err drop.NoJob) from stand j why =
    (stand, λ told. subst HasClosedJob from.disks.contents (j.answer told))

done : (t : Tells) (task : Task) (d : Devices) (before mid new : RackView) (r : Result (Unit {0}) DropError) → AttachedFrom before mid
    → JobDropped t mid r new → answer_of r ≡ Done → DropDone t (record d { rack = before }) (record d { rack = new })
done t task d before mid new (Ok x) from j is = record {
  opened = λ told. subst HasOpenJob from.disks.contents (j.answer told).0;
  closed = λ told. zeros_closed (page_at new.contents job_gate) (j.answer told).1;
  clean = j.clean;
}
done t task d before mid new (Err drop.Failed) from j is = absurd (cc)
done t task d before mid new (Err drop.NoJob) from j is = absurd (cc)

fault : (r : Result (Unit {0}) DropError) (before new : RackView) → HasCause (r ≡ Err drop.Failed) before new
    → HasCause (answer_of r ≡ RackFault) before new
fault (Ok x) before new why = record { rose = λ is. absurd (cc); sure = λ steady going is. (cc) }
fault (Err drop.Failed) before new why = record { rose = λ is. why.rose refl; sure = λ steady going is. why.sure steady going refl }
fault (Err drop.NoJob) before new why = record { rose = λ is. absurd (cc); sure = λ steady going is. (cc) }

refused : (t : Tells) (before mid new : RackView) (r : Result (Unit {0}) DropError) → AttachedFrom before mid → JobDropped t mid r new
    → IsOfSlate (answer_of r) → new.contents ≡ before.contents
refused t before mid new (Ok x) from j of = absurd of
refused t before mid new (Err drop.Failed) from j of = absurd of
refused t before mid new (Err drop.NoJob) from j of = j.kept refl ∙ from.disks.contents

after_disks : (r : Result (Unit {0}) DropError) → ¬ IsBeforeDisks (answer_of r)
after_disks (Ok x) = λ of. of
after_disks (Err drop.Failed) = λ of. of
after_disks (Err drop.NoJob) = λ of. of

no_memory : (r : Result (Unit {0}) DropError) → ¬ (answer_of r ≡ OutOfMemory)
no_memory (Ok x) is = (cc)
no_memory (Err drop.Failed) is = (cc)
no_memory (Err drop.NoJob) is = (cc)

complete : (t : Tells) (task : Task) (d : Devices) (before mid new : RackView) (r : Result (Unit {0}) DropError) → AttachedFrom before mid
    → JobDropped t mid r new → HasCause (r ≡ Err drop.Failed) before new → DropCase t task (record d { rack = before })
    → NoFaults (record d { rack = before }) (record d { rack = new }) → IsDoneUnlessMemory (answer_of r)
complete t task d before mid new (Ok x) from j why is calm = inl refl
complete t task d before mid new (Err drop.Failed) from j why is calm = absurd (calm.rack (why.rose refl))
complete t task d before mid new (Err drop.NoJob) from j why is calm =
    absurd (j.answer is.contents_told (subst HasOpenJob (sym from.disks.contents) is.opened))

-- What the command does, by what it did to its disks.
pub drop_done : (t : Tells) (task : Task) (d : Devices) (before mid new : RackView) (r : Result (Unit {0}) DropError)
    → IsWellFormed t.stands t.contents mid → mid.attached ≡ Some (dims_of task.shape) → AttachedFrom before mid → JobDropped t mid r new
    → TaskCall t Drop task (record d { rack = before }) (answer_of r) (record d { rack = new })
drop_done t task d before mid new r well attached from j =
    let why = HasCause-later _ before mid new from.keeps j.call.cause in
    record {
      may = may r;
      cause = cause t task d before mid new r from (disks_stand t task before mid well attached from) j why;
      done = done t task d before mid new r from j;
      leaves = record {
        units = units_after IsNoJobGate before mid new from (λ u other. j.call.frame.contents u other)
            (λ u other. j.call.frame.dirty u other);
        same = input_after (dims_of task.shape) before mid new from (j.input (dims_of task.shape));
        before = λ of. absurd (after_disks r of);
        refused = refused t before mid new r from j;
        moves = j.counts.moves ∙ from.calls.moves;
        input = refl;
        out = refl;
      };
      each = record {
        sound = λ told sound. j.sound told (sound_kept before mid from.disks sound);
        stands = λ told. inl (j.call.frame.stands ∙ from.disks.stands);
        keeps = Keeps-trans before mid new from.keeps j.call.keeps;
        fault = fault r before new why;
        calls = λ of. absurd (after_disks r of);
        grow = CallsGrow-trans before mid new (CallsGrow-same before mid from.calls)
            (CallsGrow-pages _ _ _ mid new j.counts);
        unattached = λ is. absurd (no_memory r is);
        few = λ told. IsRead-none _ d.input.left;
        input_faults = omega arith;
        out_faults = omega arith;
      };
      complete = complete t task d before mid new r from j why;
    }
