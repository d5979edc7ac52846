-- A transform that ends before its run: for want of memory, or where its disks are not made or its input is not loaded.
use Rattle.std.proofs.Common.{◌≡◌, ◌≢◌, inl, ◌+◌, ◌*◌, Bool, IsTrue, IsFalse, None, Err, refl, sym, subst, ◌∙◌, arith}
use Rattle.bm_base.specs.Count.{Rose}
use Rattle.bm_base.specs.Shape.{dims_of, stripes}
use Rattle.bm_rack.specs.RackView.{RackView, IsWellFormed}
use Rattle.bm_rack.specs.Frames.{RaisesCounts, Keeps, MovesFew}
use Rattle.bm_rack.specs.Sink.{AppendsFront}
use Rattle.bm_disks.specs.declared.load_error.LoadError.{LoadError}
use Rattle.bm_disks.specs.declared.load_error.LoadError.TheVariants as load
use Rattle.bm_kindjob.specs.declared.kind_file.KindFile.{KindFile}
use Rattle.bm_top.specs.DiskStatus.{load_status}
use Rattle.bm_top.specs.declared.disks.DisksError.{DisksError}
use Rattle.bm_top.specs.declared.disks.DisksError.TheVariants as disks
use Rattle.bm_top.specs.Disks.{DisksRefusal, disks_status}
use Rattle.bm_top.specs.Moment.{SinkView, Devices, Tells}
use Rattle.bm_top.specs.TopCall.{TaskCall}
use Rattle.bm_top.specs.commands.Carry.{IsMadeFrom}
use Rattle.bm_top.specs.declared.words.Verb.TheVariants.{Carry}
use Rattle.bm_top.specs.declared.status.Status.{Status}
use Rattle.bm_top.specs.declared.status.Status.TheVariants.{Done, OutOfMemory, SinkFault}
use Rattle.bm_top.proofs.CarryDisksLemmas.{carry_not_made}
use Rattle.bm_top.proofs.CarryLoadLemmas.{LoadedBy, carry_not_loaded}
use Rattle.bm_top.proofs.ExitLemmas.{AppendsFront-none}
use Rattle.bm_rack.proofs.CallLemmas.{MovesFew-same, most_between}
use Rattle.bm_top.proofs.MemoryLemmas.{memory_refused}
use Rattle.bm_top.proofs.SameDisksLemmas.{calls_kept}
use Rattle.bm_top.proofs.StepAnswerLemmas.{disks_not_done, disks_no_sink, load_not_done, load_no_sink}
use Rattle.bm_kind_call.specs.Kinds.{walsh_passes, kinded}
use Rattle.bm_kind_call.specs.Exits.{shape_task, KindMay, KindCall}

-- so it ends where a carry of its shape would, with nothing written
kind_early : (t : Tells) (file : KindFile) (old : Devices) (answer : Status) (new : Devices) → KindMay answer → answer ≢ Done
    → answer ≢ SinkFault → new.out ≡ old.out → MovesFew (2 * stripes file.shape * (walsh_passes file.shape + 1)) old.rack new.rack
    → TaskCall t Carry (shape_task file.shape) old answer new → KindCall t file old answer new
kind_early t file old answer new may not_done not_cut out few call = record {
  may = may;
  cause = call.cause;
  done = λ is. absurd (not_done is);
  leaves = record {
    front = λ told. subst (λ (v : SinkView). AppendsFront old.out.taken v.taken (kinded file old.input.left)) (sym out)
        (AppendsFront-none old.out.taken (kinded file old.input.left));
    unwritten = λ of. out;
    unread = call.leaves.unread;
    written = λ told. inl out;
    whole = λ told is. absurd (not_cut is);
    refused = call.leaves.refused;
    made = call.leaves.made;
    cut = λ told is. absurd (not_cut is);
    opened = call.leaves.opened;
    stood = call.leaves.stood;
    exists = call.leaves.exists;
    memory = call.leaves.memory;
    moves = few;
  };
  each = call.each;
  complete = call.complete;
}

-- memory is refused before a device was touched
pub kind_no_memory : (t : Tells) (file : KindFile) (d : Devices) (ts tc : Bool) → IsWellFormed ts tc d.rack
    → KindCall t file d OutOfMemory d
kind_no_memory t file d ts tc well =
    kind_early t file d OutOfMemory d tt (λ e. (cc)) (λ e. (cc)) refl (MovesFew-same ts tc _ d.rack d.rack well refl)
    (memory_refused t Carry (shape_task file.shape) d ts tc well)

-- the disks are not made or attached
pub kind_not_made : (t : Tells) (file : KindFile) (d : Devices) (old new : RackView) (e : DisksError)
    → IsWellFormed t.stands t.contents old → DisksRefusal t.stands t.contents (dims_of file.shape) old new e → new.attached ≡ None
    → RaisesCounts 0 0 0 old new → Keeps old new → (e ≡ disks.RackFault → Rose old.faults new.faults)
    → (IsTrue old.steady → IsFalse old.stopping → e ≢ disks.RackFault)
    → KindCall t file (record d { rack = old }) (disks_status e) (record d { rack = new })
kind_not_made t file d old new e well why none counts keeps rose sure =
    kind_early t file (record d { rack = old }) (disks_status e) (record d { rack = new }) (may e) (disks_not_done e) (disks_no_sink e) refl
    (MovesFew-same t.stands t.contents _ old new well (calls_kept _ _ old new well counts).moves)
    (carry_not_made t (shape_task file.shape) d old new e well why none counts keeps rose sure)
  where
    may : (e : DisksError) → KindMay (disks_status e)
    may disks.RackFault = tt
    may disks.OutOfMemory = tt
    may disks.Exists = tt
    may disks.NoDisks = tt
    may disks.WrongDims = tt

-- the input is not loaded
pub kind_not_loaded : (t : Tells) (file : KindFile) (old mid new : Devices) (e : LoadError) → IsMadeFrom t (shape_task file.shape) old mid
    → LoadedBy t (shape_task file.shape) mid new (Err e) → KindCall t file old (load_status e) new
kind_not_loaded t file old mid new e made by =
    kind_early t file old (load_status e) new (may e) (load_not_done e) (load_no_sink e) (by.out ∙ made.out) few
    (carry_not_loaded t (shape_task file.shape) old mid new e made by)
  where
    may : (e : LoadError) → KindMay (load_status e)
    may load.Failed = tt
    may load.DataFault = tt
    may (load.DataShort got) = tt
    may load.DataLong = tt

    few : MovesFew (2 * stripes file.shape * (walsh_passes file.shape + 1)) old.rack new.rack
    few =
        let s = file.shape in
        let p = walsh_passes s in
        let sum : 2 * stripes s * (p + 1) ≡ 2 * stripes s * p + 2 * stripes s = omega arith in
        let same = made.calls.moves in
        rw sum (most_between _ _ _ (omega (arith, by.counts.moves.low, same)) (omega (arith, by.counts.moves.high, same)))
