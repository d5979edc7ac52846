-- A command that is refused memory before it has touched a device.
use Rattle.std.proofs.Common.{inl, inr, Bool, refl}
use Rattle.bm_rack.specs.RackView.{IsWellFormed}
use Rattle.bm_top.specs.Moment.{Devices, Tells}
use Rattle.bm_top.specs.commands.Run.{NoSession}
use Rattle.bm_top.specs.TopCall.{TaskCall, may_of, leaves_of}
use Rattle.bm_top.specs.declared.task.Task.{Task}
use Rattle.bm_top.specs.declared.words.Verb.{Verb}
use Rattle.bm_top.specs.declared.words.Verb.TheVariants.{New, Load, Plan, Run, Status, Dump, Drop, Detect, Carry, Drill}
use Rattle.bm_top.specs.declared.status.Status.TheVariants.{OutOfMemory}
use Rattle.bm_top.proofs.ExitLemmas.{SameDisks-refl, SameCalls-refl, KeepsUnits-same, SameInput-same}
use Rattle.bm_rack.proofs.CallLemmas.{MovesFew-same, CallsFew-same}
use Rattle.bm_top.proofs.ExitLemmas.{AppendsFront-none, each_untouched}
use Rattle.bm_top.proofs.CarryWholeLemmas.{none_stands}
use Rattle.bm_top.proofs.OpensLemmas.{opens_same}

may_memory : (verb : Verb) → may_of verb OutOfMemory
may_memory New = tt
may_memory Load = tt
may_memory Plan = tt
may_memory Run = tt
may_memory Status = tt
may_memory Dump = tt
may_memory Drop = tt
may_memory Detect = tt
may_memory Carry = tt
may_memory Drill = tt

leaves_memory : (t : Tells) (verb : Verb) (task : Task) (d : Devices) (ts tc : Bool) → IsWellFormed ts tc d.rack
    → leaves_of verb t task d OutOfMemory d
leaves_memory t New task d ts tc well = record {
  refused = λ e. SameDisks-refl d.rack;
  calls = SameCalls-refl d.rack;
  input = refl;
  out = refl;
}
leaves_memory t Load task d ts tc well = record {
  opened = λ told input sound. opens_same task.shape d.input.left d.rack d.rack (SameDisks-refl d.rack) sound;
  refused = λ told of. absurd of;
  unread = λ of. refl;
  same = λ of. SameDisks-refl d.rack;
  moves = MovesFew-same ts tc _ d.rack d.rack well refl;
  out = refl;
}
leaves_memory t Plan task d ts tc well = record {
  front = λ told. AppendsFront-none d.out.taken _;
  unwritten = λ e. refl;
  input = refl;
  rack = refl;
}
leaves_memory t Run task d ts tc well =
    let none : NoSession d.rack d.rack = record { disks = SameDisks-refl d.rack; calls = SameCalls-refl d.rack } in
    record {
      same = SameInput-same _ d.rack d.rack (SameDisks-refl d.rack);
      load = KeepsUnits-same _ d.rack d.rack (SameDisks-refl d.rack);
      most = MovesFew-same ts tc _ d.rack d.rack well refl;
      calls = CallsFew-same ts tc _ _ d.rack d.rack well (SameCalls-refl d.rack);
      session = inl none;
      before = λ of. none;
      refused = λ of. absurd of;
      cut = λ e. absurd (cc);
      unwritten = inr (inr refl);
      input = refl;
    }
leaves_memory t Status task d ts tc well = record {
  looks = record { contents = refl; units = KeepsUnits-same _ d.rack d.rack (SameDisks-refl d.rack) };
  same = SameInput-same _ d.rack d.rack (SameDisks-refl d.rack);
  moves = refl;
  cut = λ e. absurd (cc);
  unwritten = inr (inr refl);
  input = refl;
}
leaves_memory t Dump task d ts tc well = record {
  looks = record { contents = refl; units = KeepsUnits-same _ d.rack d.rack (SameDisks-refl d.rack) };
  same = SameInput-same _ d.rack d.rack (SameDisks-refl d.rack);
  moves = MovesFew-same ts tc _ d.rack d.rack well refl;
  written = inl refl;
  unwritten = λ of. refl;
  still = λ of. refl;
  cut = λ e. absurd (cc);
  input = refl;
}
leaves_memory t Drop task d ts tc well = record {
  units = KeepsUnits-same _ d.rack d.rack (SameDisks-refl d.rack);
  same = SameInput-same _ d.rack d.rack (SameDisks-refl d.rack);
  before = λ of. SameDisks-refl d.rack;
  refused = λ of. absurd of;
  moves = refl;
  input = refl;
  out = refl;
}
leaves_memory t Detect task d ts tc well = record {
  looks = record { contents = refl; units = KeepsUnits-same _ d.rack d.rack (SameDisks-refl d.rack) };
  same = SameInput-same _ d.rack d.rack (SameDisks-refl d.rack);
  moves = MovesFew-same ts tc _ d.rack d.rack well refl;
  still = λ of. refl;
  cut = λ e. absurd (cc);
  unwritten = inr (inr refl);
  input = refl;
}
leaves_memory t Carry task d ts tc well = record {
  front = λ told. AppendsFront-none d.out.taken _;
  unwritten = λ of. refl;
  unread = λ of. refl;
  written = λ told. inl refl;
  whole = λ told e. absurd (cc);
  refused = λ told of. absurd of;
  made = λ told of. absurd of;
  cut = λ told e. absurd (cc);
  opened = λ told input none. none_stands _ d.rack none;
  stood = inl (record { disks = SameDisks-refl d.rack; calls = SameCalls-refl d.rack });
  exists = λ e. absurd (cc);
  memory = λ e. inl (SameDisks-refl d.rack);
  moves = MovesFew-same ts tc _ d.rack d.rack well refl;
}
leaves_memory t Drill task d ts tc well = record {
  cut = λ e. absurd (cc);
  unwritten = inr (inr refl);
  input = refl;
  rack = refl;
}

-- want of memory before anything else
pub memory_refused : (t : Tells) (verb : Verb) (task : Task) (d : Devices) (ts tc : Bool) → IsWellFormed ts tc d.rack
    → TaskCall t verb task d OutOfMemory d
memory_refused t verb task d ts tc well = record {
  may = may_memory verb;
  cause = tt;
  done = λ e. absurd (cc);
  leaves = leaves_memory t verb task d ts tc well;
  each = each_untouched t verb task OutOfMemory d (λ e. (cc));
  complete = λ is calm. inr refl;
}
