-- What is told of the moment of the attach is told of the moment before it.
use Rattle.std.proofs.Common.{◌≡◌, inl, ℕ, ◌+◌, ◌≤◌, Bool, IsTrue, Some, sym, ap, subst, ◌∙◌}
use Rattle.bm_base.specs.declared.dims.Dims.{Dims}
use Rattle.bm_base.specs.Contents.{RackUnit, unit_at}
use Rattle.bm_base.specs.Shape.{dims_of, input_size}
use Rattle.bm_rack.specs.RackView.{RackView, IsWellFormed}
use Rattle.bm_rack.specs.Frames.{SameDisks, Keeps, HasCause, DirtiesOnly, CallsGrow, MovesFew, RisesMost}
use Rattle.bm_rack.specs.Image.{SameInput}
use Rattle.bm_rack.proofs.FrameLemmas.{Keeps-trans, HasCause-later}
use Rattle.bm_control.specs.Sound.{IsSound}
use Rattle.bm_job.specs.Runs.{SameContents}
use Rattle.bm_disks.specs.Input.{IsRead}
use Rattle.bm_top.specs.Causes.{HasDisks, GoesOn, Attaches}
use Rattle.bm_top.specs.Exits.{AttachedFrom, KeepsUnits, EachExit}
use Rattle.bm_top.specs.Status.{IsBeforeDisks}
use Rattle.bm_top.specs.Moment.{Devices, Tells, TellsRack}
use Rattle.bm_top.specs.declared.task.Task.{Task}
use Rattle.bm_top.specs.declared.words.Verb.{Verb}
use Rattle.bm_top.specs.declared.words.Verb.TheVariants as verbs
use Rattle.bm_top.specs.declared.status.Status.{Status}
use Rattle.bm_top.specs.declared.status.Status.TheVariants.{RackFault}
use Rattle.bm_rack.proofs.CallLemmas.{CallsGrow-same, CallsGrow-trans}
use Rattle.bm_top.proofs.SameDisksLemmas.{sound_kept}

-- the disks that were attached are those that the command needs
pub has_disks : (t : Tells) (verb : Verb) (task : Task) (d : Devices) (before mid : RackView) → Attaches verb → SameDisks before mid
    → IsWellFormed t.stands t.contents mid → mid.attached ≡ Some (dims_of task.shape) → HasDisks t verb task (record d { rack = before })
has_disks t verb task d before mid attaches same well attached told =
    goes verb attaches (sym same.stands ∙ well.attached told (dims_of task.shape) attached)
  where
    goes : (v : Verb) → Attaches v → before.stands ≡ Some (dims_of task.shape) → GoesOn v (dims_of task.shape) before.stands
    goes verbs.New attaches e = absurd attaches
    goes verbs.Carry attaches e = absurd attaches
    goes verbs.Plan attaches e = absurd attaches
    goes verbs.Drill attaches e = absurd attaches
    goes verbs.Load attaches e = e
    goes verbs.Run attaches e = e
    goes verbs.Status attaches e = e
    goes verbs.Dump attaches e = e
    goes verbs.Drop attaches e = e
    goes verbs.Detect attaches e = e

pub input_before : (dims : Dims) (before mid new : RackView) → SameDisks before mid → SameInput dims mid new → SameInput dims before new
input_before dims before mid new same x = record {
  contents = λ u p. x.contents u p ∙ ap (λ c. unit_at c u) same.contents;
  dirty = λ u p clean. x.dirty u p (ap (λ (f : RackUnit → Bool). f u) same.dirty ∙ clean);
}

-- units out of reach of a call
pub units_before : (P Q : RackUnit → Type 0) (before mid new : RackView) → SameDisks before mid → DirtiesOnly P mid new
    → ((u : RackUnit) → Q u → ¬ P u) → KeepsUnits Q before new
units_before P Q before mid new same x apart = record {
  contents = λ u q. x.contents u (apart u q) ∙ ap (λ c. unit_at c u) same.contents;
  dirty = λ u q clean. x.dirty u (apart u q) (ap (λ (f : RackUnit → Bool). f u) same.dirty ∙ clean);
}

pub moves_before : (rows : ℕ) (before mid new : RackView) → mid.moves ≡ before.moves → MovesFew rows mid new → MovesFew rows before new
moves_before rows before mid new same x = subst (λ (m : ℕ). RisesMost rows m new.moves) same x

pub contents_before : (before mid new : RackView) → AttachedFrom before mid → SameContents mid new → SameContents before new
contents_before before mid new from x = record {
  contents = x.contents ∙ from.disks.contents;
  moves = x.moves ∙ from.calls.moves;
}

-- each exit of a command on disks that were attached
pub each_attached : (t : Tells) (verb : Verb) (task : Task) (old new : Devices) (mid : RackView) (answer : Status)
    → AttachedFrom old.rack mid → new.rack.stands ≡ mid.stands → Keeps mid new.rack → CallsGrow mid new.rack
    → HasCause (answer ≡ RackFault) mid new.rack
    → (TellsRack t → IsSound mid → IsSound new.rack) → ¬ IsBeforeDisks answer
    → (IsTrue t.input → IsRead (input_size task.shape + 1) old.input.left new.input.left)
    → old.input.faults ≤ new.input.faults → old.out.faults ≤ new.out.faults
    → EachExit t verb task old answer new
each_attached t verb task old new mid answer from stands keeps grow fault sound late few input out = record {
  sound = λ told x. sound told (sound_kept old.rack mid from.disks x);
  stands = λ told. inl (stands ∙ from.disks.stands);
  keeps = Keeps-trans old.rack mid new.rack from.keeps keeps;
  fault = HasCause-later (answer ≡ RackFault) old.rack mid new.rack from.keeps fault;
  calls = λ of. absurd (late of);
  grow = CallsGrow-trans old.rack mid new.rack (CallsGrow-same old.rack mid from.calls) grow;
  unattached = λ e. absurd (late (subst IsBeforeDisks (sym e) tt));
  few = few;
  input_faults = input;
  out_faults = out;
}
