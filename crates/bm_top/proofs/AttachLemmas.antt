-- A command whose disks were not attached.
use Rattle.std.proofs.Common.{◌≡◌, ◌≢◌, inl, inr, Bool, IsTrue, IsFalse, Some, None, refl, sym, ◌∙◌, arith}
use Rattle.bm_base.specs.declared.dims.Dims.{Dims}
use Rattle.bm_base.specs.Count.{Rose}
use Rattle.bm_base.specs.Shape.{dims_of}
use Rattle.bm_rack.specs.RackView.{RackView, IsWellFormed}
use Rattle.bm_rack.specs.Frames.{SameDisks, Keeps, RaisesCounts, HasCause}
use Rattle.bm_top.specs.declared.disks.DisksError.{DisksError}
use Rattle.bm_top.specs.declared.disks.DisksError.TheVariants as disks
use Rattle.bm_top.specs.Causes.{CauseOf, Attaches}
use Rattle.bm_top.specs.Disks.{AttachRefusal, disks_status}
use Rattle.bm_top.specs.Exits.{AttachedFrom}
use Rattle.bm_top.specs.Moment.{Devices, Tells}
use Rattle.bm_top.specs.Status.{IsOfSlate}
use Rattle.bm_top.specs.TopCall.{TaskCall, NoFaults, IsDoneUnlessMemory, may_of, leaves_of, case_of}
use Rattle.bm_top.specs.commands.Run.{NoSession}
use Rattle.bm_top.specs.declared.task.Task.{Task}
use Rattle.bm_top.specs.declared.words.Verb.{Verb}
use Rattle.bm_top.specs.declared.words.Verb.TheVariants.{New, Load, Plan, Run, Status, Dump, Drop, Detect, Carry, Drill}
use Rattle.bm_top.specs.declared.status.Status.TheVariants.{RackFault}
use Rattle.bm_top.proofs.ExitLemmas.{KeepsUnits-same, SameInput-same, IsRead-none}
use Rattle.bm_rack.proofs.CallLemmas.{CallsGrow-same, MovesFew-same, CallsFew-same}
use Rattle.bm_top.proofs.SameDisksLemmas.{sound_kept, calls_kept}
use Rattle.bm_top.proofs.OpensLemmas.{opens_same}
use Rattle.bm_top.proofs.StepAnswerLemmas.{disks_no_input, disks_no_sink, disks_not_done}

-- what an attach leaves, whatever it answers
pub attached_from : (ts tc : Bool) (old new : RackView) → IsWellFormed ts tc old → SameDisks old new → RaisesCounts 0 0 0 old new
    → Keeps old new
    → AttachedFrom old new
attached_from ts tc old new well same counts keeps = record { disks = same; calls = calls_kept ts tc old new well counts; keeps = keeps }

may_attach : (told : Bool) (dims : Dims) (old : RackView) (verb : Verb) (e : DisksError) → Attaches verb → AttachRefusal told dims old e
    → may_of verb (disks_status e)
may_attach told dims old New e attaches why = absurd attaches
may_attach told dims old Load disks.RackFault attaches why = tt
may_attach told dims old Load disks.OutOfMemory attaches why = tt
may_attach told dims old Load disks.Exists attaches why = absurd why
may_attach told dims old Load disks.NoDisks attaches why = tt
may_attach told dims old Load disks.WrongDims attaches why = tt
may_attach told dims old Plan e attaches why = absurd attaches
may_attach told dims old Run disks.RackFault attaches why = tt
may_attach told dims old Run disks.OutOfMemory attaches why = tt
may_attach told dims old Run disks.Exists attaches why = absurd why
may_attach told dims old Run disks.NoDisks attaches why = tt
may_attach told dims old Run disks.WrongDims attaches why = tt
may_attach told dims old Status disks.RackFault attaches why = tt
may_attach told dims old Status disks.OutOfMemory attaches why = tt
may_attach told dims old Status disks.Exists attaches why = absurd why
may_attach told dims old Status disks.NoDisks attaches why = tt
may_attach told dims old Status disks.WrongDims attaches why = tt
may_attach told dims old Dump disks.RackFault attaches why = tt
may_attach told dims old Dump disks.OutOfMemory attaches why = tt
may_attach told dims old Dump disks.Exists attaches why = absurd why
may_attach told dims old Dump disks.NoDisks attaches why = tt
may_attach told dims old Dump disks.WrongDims attaches why = tt
may_attach told dims old Drop disks.RackFault attaches why = tt
may_attach told dims old Drop disks.OutOfMemory attaches why = tt
may_attach told dims old Drop disks.Exists attaches why = absurd why
may_attach told dims old Drop disks.NoDisks attaches why = tt
may_attach told dims old Drop disks.WrongDims attaches why = tt
may_attach told dims old Detect disks.RackFault attaches why = tt
may_attach told dims old Detect disks.OutOfMemory attaches why = tt
may_attach told dims old Detect disks.Exists attaches why = absurd why
may_attach told dims old Detect disks.NoDisks attaches why = tt
may_attach told dims old Detect disks.WrongDims attaches why = tt
may_attach told dims old Carry e attaches why = absurd attaches
may_attach told dims old Drill e attaches why = absurd attaches

no_slate : (e : DisksError) → ¬ IsOfSlate (disks_status e)
no_slate disks.RackFault = λ is. is
no_slate disks.OutOfMemory = λ is. is
no_slate disks.Exists = λ is. is
no_slate disks.NoDisks = λ is. is
no_slate disks.WrongDims = λ is. is

case_stands : (t : Tells) (verb : Verb) (task : Task) (old : Devices) → Attaches verb → case_of verb t task old
    → IsTrue t.stands × (old.rack.stands ≡ Some (dims_of task.shape))
case_stands t New task old attaches is = absurd attaches
case_stands t Load task old attaches is = (is.stands_told, is.stands)
case_stands t Plan task old attaches is = absurd attaches
case_stands t Run task old attaches is = (is.told.0, is.stands)
case_stands t Status task old attaches is = (is.told.0, is.stands)
case_stands t Dump task old attaches is = (is.told.0, is.stands)
case_stands t Drop task old attaches is = (is.stands_told, is.stands)
case_stands t Detect task old attaches is = (is.told.0, is.stands)
case_stands t Carry task old attaches is = absurd attaches
case_stands t Drill task old attaches is = absurd attaches

cause_attach : (t : Tells) (verb : Verb) (task : Task) (d : Devices) (old new : RackView) (e : DisksError) → Attaches verb
    → AttachRefusal t.stands (dims_of task.shape) old e → (e ≡ disks.RackFault → Rose old.faults new.faults)
    → CauseOf t verb task (record d { rack = old }) (disks_status e) (record d { rack = new })
cause_attach t verb task d old new disks.RackFault attaches why rose = rose refl
cause_attach t verb task d old new disks.OutOfMemory attaches why rose = tt
cause_attach t verb task d old new disks.Exists attaches why rose = absurd why
cause_attach t verb task d old new disks.NoDisks attaches why rose = λ told. (attaches, why told)
cause_attach t verb task d old new disks.WrongDims attaches why rose = λ told. (attaches, (why told).0, (why told).1)

complete_attach : (t : Tells) (verb : Verb) (task : Task) (d : Devices) (old new : RackView) (e : DisksError) → Attaches verb
    → AttachRefusal t.stands (dims_of task.shape) old e → (e ≡ disks.RackFault → Rose old.faults new.faults)
    → case_of verb t task (record d { rack = old }) → NoFaults (record d { rack = old }) (record d { rack = new })
    → IsDoneUnlessMemory (disks_status e)
complete_attach t verb task d old new disks.RackFault attaches why rose is calm = absurd (calm.rack (rose refl))
complete_attach t verb task d old new disks.OutOfMemory attaches why rose is calm = inr refl
complete_attach t verb task d old new disks.Exists attaches why rose is calm = absurd why
complete_attach t verb task d old new disks.NoDisks attaches why rose is calm =
    let stands = case_stands t verb task (record d { rack = old }) attaches is in
    let none : Some (dims_of task.shape) ≡ None = sym stands.1 ∙ why stands.0 in
    absurd (cc)
complete_attach t verb task d old new disks.WrongDims attaches why rose is calm =
    let stands = case_stands t verb task (record d { rack = old }) attaches is in
    absurd ((why stands.0).1 stands.1)

fault_attach : (old new : RackView) (e : DisksError) → (e ≡ disks.RackFault → Rose old.faults new.faults)
    → (IsTrue old.steady → IsFalse old.stopping → e ≢ disks.RackFault) → HasCause (disks_status e ≡ RackFault) old new
fault_attach old new disks.RackFault rose sure = record { rose = λ e. rose refl; sure = λ steady going e. sure steady going refl }
fault_attach old new disks.OutOfMemory rose sure = record { rose = λ e. absurd (cc); sure = λ steady going e. absurd (cc) }
fault_attach old new disks.Exists rose sure = record { rose = λ e. absurd (cc); sure = λ steady going e. absurd (cc) }
fault_attach old new disks.NoDisks rose sure = record { rose = λ e. absurd (cc); sure = λ steady going e. absurd (cc) }
fault_attach old new disks.WrongDims rose sure = record { rose = λ e. absurd (cc); sure = λ steady going e. absurd (cc) }

leaves_attach : (t : Tells) (verb : Verb) (task : Task) (d : Devices) (old new : RackView) (e : DisksError)
    → IsWellFormed t.stands t.contents old
    → Attaches verb → AttachedFrom old new → leaves_of verb t task (record d { rack = old }) (disks_status e) (record d { rack = new })
leaves_attach t New task d old new e well attaches from = absurd attaches
leaves_attach t Plan task d old new e well attaches from = absurd attaches
leaves_attach t Carry task d old new e well attaches from = absurd attaches
leaves_attach t Drill task d old new e well attaches from = absurd attaches
leaves_attach t Load task d old new e well attaches from = record {
  opened = λ told input sound. opens_same task.shape d.input.left old new from.disks sound;
  refused = λ told of. absurd (disks_no_input e of);
  unread = λ of. refl;
  same = λ of. from.disks;
  moves = MovesFew-same t.stands t.contents _ old new well from.calls.moves;
  out = refl;
}
leaves_attach t Run task d old new e well attaches from =
    let none : NoSession old new = record { disks = from.disks; calls = from.calls } in
    record {
      same = SameInput-same _ old new from.disks;
      load = KeepsUnits-same _ old new from.disks;
      most = MovesFew-same t.stands t.contents _ old new well from.calls.moves;
      calls = CallsFew-same t.stands t.contents _ _ old new well from.calls;
      session = inl none;
      before = λ of. none;
      refused = λ of. absurd (no_slate e of);
      cut = λ is. absurd (disks_no_sink e is);
      unwritten = inr (inr refl);
      input = refl;
    }
leaves_attach t Status task d old new e well attaches from = record {
  looks = record { contents = from.disks.contents; units = KeepsUnits-same _ old new from.disks };
  same = SameInput-same _ old new from.disks;
  moves = from.calls.moves;
  cut = λ is. absurd (disks_no_sink e is);
  unwritten = inr (inr refl);
  input = refl;
}
leaves_attach t Dump task d old new e well attaches from = record {
  looks = record { contents = from.disks.contents; units = KeepsUnits-same _ old new from.disks };
  same = SameInput-same _ old new from.disks;
  moves = MovesFew-same t.stands t.contents _ old new well from.calls.moves;
  written = inl refl;
  unwritten = λ of. refl;
  still = λ of. from.calls.moves;
  cut = λ is. absurd (disks_no_sink e is);
  input = refl;
}
leaves_attach t Drop task d old new e well attaches from = record {
  units = KeepsUnits-same _ old new from.disks;
  same = SameInput-same _ old new from.disks;
  before = λ of. from.disks;
  refused = λ of. absurd (no_slate e of);
  moves = from.calls.moves;
  input = refl;
  out = refl;
}
leaves_attach t Detect task d old new e well attaches from = record {
  looks = record { contents = from.disks.contents; units = KeepsUnits-same _ old new from.disks };
  same = SameInput-same _ old new from.disks;
  moves = MovesFew-same t.stands t.contents _ old new well from.calls.moves;
  still = λ of. from.calls.moves;
  cut = λ is. absurd (disks_no_sink e is);
  unwritten = inr (inr refl);
  input = refl;
}

-- the exit of any command that attaches, where it can't
pub not_attached : (t : Tells) (verb : Verb) (task : Task) (d : Devices) (old new : RackView) (e : DisksError)
    → IsWellFormed t.stands t.contents old
    → Attaches verb → AttachRefusal t.stands (dims_of task.shape) old e → AttachedFrom old new → new.attached ≡ None
    → (e ≡ disks.RackFault → Rose old.faults new.faults) → (IsTrue old.steady → IsFalse old.stopping → e ≢ disks.RackFault)
    → TaskCall t verb task (record d { rack = old }) (disks_status e) (record d { rack = new })
not_attached t verb task d old new e well attaches why from none rose sure = record {
  may = may_attach t.stands (dims_of task.shape) old verb e attaches why;
  cause = cause_attach t verb task d old new e attaches why rose;
  done = λ is. absurd (disks_not_done e is);
  leaves = leaves_attach t verb task d old new e well attaches from;
  each = record {
    sound = λ told sound. sound_kept old new from.disks sound;
    stands = λ told. inl from.disks.stands;
    keeps = from.keeps;
    fault = fault_attach old new e rose sure;
    calls = λ of. from.calls;
    grow = CallsGrow-same old new from.calls;
    unattached = λ is. inr none;
    few = λ told. IsRead-none _ d.input.left;
    input_faults = omega arith;
    out_faults = omega arith;
  };
  complete = complete_attach t verb task d old new e attaches why rose;
}
