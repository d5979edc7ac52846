-- A carry whose input is loaded, or not.
use Rattle.std.proofs.Common.{◌≡◌, ◌≢◌, inl, inr, ⊎_elim, ℕ, ◌+◌, ◌≤◌, IsTrue, List, length, Result, Ok, Err, IsOk, IfErr, IsErrOf, OnOk}
use Rattle.std.proofs.Common.{refl, sym, ap, subst, ◌∙◌, arith}
use Rattle.std.proofs.lemmas.Bool.{false≢true}
use Rattle.bm_base.specs.Gate.{open_gate}
use Rattle.bm_base.specs.Contents.{page_at}
use Rattle.bm_base.specs.Count.{raised, Rose}
use Rattle.bm_base.specs.Shape.{stripes, input_size}
use Rattle.bm_base.proofs.CountLemmas.{rose_earlier}
use Rattle.bm_rack.specs.RackView.{IsClean}
use Rattle.bm_rack.specs.Image.{InEveryImage}
use Rattle.bm_rack.specs.Frames.{RackCall, MakesCalls, CallsGrow}
use Rattle.bm_rack.specs.Sink.{AppendsFront}
use Rattle.bm_rack.proofs.FrameLemmas.{Keeps-trans}
use Rattle.bm_control.specs.Closing.{IsShut}
use Rattle.bm_control.specs.Pages.{job_gate}
use Rattle.bm_control.specs.Sound.{IsSound}
use Rattle.bm_control.proofs.ImageLemmas.{zeros_closed}
use Rattle.bm_disks.specs.declared.load_error.LoadError.{LoadError}
use Rattle.bm_disks.specs.declared.load_error.LoadError.TheVariants as load
use Rattle.bm_disks.specs.Input.{IsRead, EndsAfter, GoesOnAfter, InputAnswer, IsInputRefusal}
use Rattle.bm_disks.specs.Loading.{AreGatesClosed, HasLoad, HoldsInput, IsLoadingUnit, OpensWhole}
use Rattle.bm_top.specs.Causes.{CauseOf}
use Rattle.bm_top.specs.DiskStatus.{load_status}
use Rattle.bm_top.specs.Moment.{SinkView, Devices, Tells}
use Rattle.bm_top.specs.Status.{IsBeforeDisks, IsOfInput}
use Rattle.bm_top.specs.TopCall.{TaskCall}
use Rattle.bm_top.specs.commands.Carry.{CarryMay, carried, IsWhole, IsMadeFrom, IsLoadedFrom}
use Rattle.bm_top.specs.declared.task.Task.{Task}
use Rattle.bm_top.specs.declared.words.Verb.TheVariants.{Carry}
use Rattle.bm_top.specs.declared.status.Status.TheVariants.{OutOfMemory, RackFault, Exists}
use Rattle.bm_top.proofs.CarryWholeLemmas.{whole_in_load}
use Rattle.bm_top.proofs.ExitLemmas.{AppendsFront-none}
use Rattle.bm_rack.proofs.CallLemmas.{CallsGrow-same, CallsGrow-trans, CallsGrow-made, most_between}
use Rattle.bm_top.proofs.FaultLemmas.{cause_later}
use Rattle.bm_top.proofs.StepAnswerLemmas.{load_not_done, load_no_sink}

-- what the load of records says
pub record LoadedBy (t : Tells) (task : Task) (old new : Devices) (result : Result (Unit {0}) LoadError) : Type 0 where
  pub answer : InputAnswer t.input (input_size task.shape) old.input.left new.input.left result
  pub few : IsTrue t.input → IsRead (input_size task.shape + 1) old.input.left new.input.left
  pub data_fault : result ≡ Err load.DataFault → Rose old.input.faults new.input.faults
  pub data_faults : old.input.faults ≤ new.input.faults
  pub records : IsTrue t.input → IsTrue t.contents → OnOk result (HoldsInput task.shape old.input.left new.rack.contents)
  pub gates : IsTrue t.contents → OnOk result (HasLoad task.shape old.rack.contents new.rack.contents)
  pub clean : OnOk result (IsClean new.rack)
  pub closed : IsTrue t.contents → IfErr result (λ e. IsInputRefusal e → AreGatesClosed new.rack)
  pub sound : IsTrue t.stands → IsTrue t.contents → IsSound old.rack → IsSound new.rack
  pub mended : IsTrue t.stands → IsTrue t.contents → ¬ IsErrOf result load.Failed → IsSound new.rack
  pub opened : IsTrue t.input → IsTrue t.stands → IsTrue t.contents → IsSound old.rack
      → InEveryImage (OpensWhole task.shape old.input.left old.rack) new.rack
  pub call : RackCall (IsLoadingUnit task.shape) (IsErrOf result load.Failed) old.rack new.rack
  pub counts : MakesCalls (IsOk result) (stripes task.shape) 6 5 old.rack new.rack
  pub complete : IsTrue t.input → length old.input.left ≡ input_size task.shape → ¬ Rose old.rack.faults new.rack.faults
      → ¬ Rose old.input.faults new.input.faults → IsOk result
  pub out : new.out ≡ old.out

-- no count of calls fell
load_grow : (t : Tells) (task : Task) (old mid new : Devices) (r : Result (Unit {0}) LoadError) → IsMadeFrom t task old mid
    → LoadedBy t task mid new r → CallsGrow old.rack new.rack
load_grow t task old mid new r made by = CallsGrow-trans old.rack mid.rack new.rack (CallsGrow-same old.rack mid.rack made.calls)
    (CallsGrow-made _ _ _ _ mid.rack new.rack by.counts)

-- the records are loaded
pub loaded_from : (t : Tells) (task : Task) (old mid new : Devices) → IsMadeFrom t task old mid → LoadedBy t task mid new (Ok tt)
    → IsLoadedFrom t task old new
loaded_from t task old mid new made by =
    let s = task.shape in
    let same : mid.input.left ≡ old.input.left = ap (λ v. v.left) made.input in
    record {
      stood = made.stood;
      stands = λ told. by.call.frame.stands ∙ made.stands told;
      size = λ told. ap length (sym same) ∙ (by.answer told).0;
      ended = λ told. (by.answer told).1;
      records = λ told rack. subst (λ (bytes : List ℕ). HoldsInput s bytes new.rack.contents) same (by.records told rack);
      load_body = λ told. (by.gates told).body;
      load_gate = λ told. (by.gates told).opened;
      job_gate = λ told. shut (page_at mid.rack.contents job_gate) (page_at new.rack.contents job_gate) (by.gates told).no_job;
      clean = by.clean;
      sound = λ told. by.mended told.0 told.1 (λ e. (cc));
      moves = by.counts.moves.done refl ∙ ap (λ (m : ℕ). raised m (stripes s)) made.calls.moves;
      grow = load_grow t task old mid new (Ok tt) made by;
      keeps = Keeps-trans old.rack mid.rack new.rack made.keeps by.call.keeps;
      few = λ told. subst (λ (bytes : List ℕ). IsRead (input_size s + 1) bytes new.input.left) same (by.few told);
      input_faults = omega (arith, by.data_faults, ap (λ v. v.faults) made.input);
      out = by.out ∙ made.out;
    }
  where
    shut : (a b : List ℕ) → IsShut a b → ¬ (b ≡ open_gate)
    shut a b is = ⊎_elim (λ was. zeros_closed b was.1) (λ was gate. was.0 (sym was.1 ∙ gate)) is

-- they are not
pub carry_not_loaded : (t : Tells) (task : Task) (old mid new : Devices) (e : LoadError) → IsMadeFrom t task old mid
    → LoadedBy t task mid new (Err e) → TaskCall t Carry task old (load_status e) new
carry_not_loaded t task old mid new e made by = record {
  may = may e;
  cause = cause e by;
  done = λ is. absurd (load_not_done e is);
  leaves = record {
    front = λ told. subst (λ (v : SinkView). AppendsFront old.out.taken v.taken (carried task old.input.left)) (sym out)
        (AppendsFront-none old.out.taken _);
    unwritten = λ of. out;
    unread = λ of. absurd (late e of);
    written = λ told. inl out;
    whole = λ told is. absurd (load_no_sink e is);
    refused = λ told of. record {
      load_gate = λ dims image stands i. (by.closed told.1 (refusal e of) dims image stands i).0;
      job_gate = λ dims image stands i. (by.closed told.1 (refusal e of) dims image stands i).1;
      sound = by.mended told.0 told.1 (not_failed e of);
    };
    made = λ told of. by.call.frame.stands ∙ made.stands told;
    cut = λ told is. absurd (load_no_sink e is);
    opened = λ told input none. subst (λ (bytes : List ℕ). InEveryImage (IsWhole task.shape bytes) new.rack) left
        (whole_in_load task.shape mid.input.left mid.rack new.rack (by.opened input told.0 told.1 (made.sound told))
        (made.load_gate told.1));
    stood = inr made.stood;
    exists = λ is. absurd (no_exists e is);
    memory = λ is. absurd (no_memory e is);
    moves = most_between _ _ _ (omega (arith, by.counts.moves.low, made.calls.moves))
        (omega (arith, by.counts.moves.high, made.calls.moves));
  };
  each = record {
    sound = λ told sound. by.sound told.0 told.1 (made.sound told);
    stands = λ told. inr (record { makes = tt; stood = made.stood told; stands = by.call.frame.stands ∙ made.stands told });
    keeps = Keeps-trans old.rack mid.rack new.rack made.keeps by.call.keeps;
    fault = cause_later _ _ old.rack mid.rack new.rack (rack_fault e) made.keeps by.call.cause;
    calls = λ of. absurd (late e of);
    grow = load_grow t task old mid new (Err e) made by;
    unattached = λ is. absurd (no_memory e is);
    few = λ told. subst (λ (bytes : List ℕ). IsRead (input_size task.shape + 1) bytes new.input.left) left (by.few told);
    input_faults = omega (arith, by.data_faults, faults);
    out_faults = omega (arith, ap (λ (v : SinkView). v.faults) out);
  };
  complete = λ is calm.
      let ok : IsOk {T = Unit {0}} {E = LoadError} (Err e) = by.complete is.input_told (ap length left ∙ is.size)
      (λ rose. calm.rack (rose_earlier old.rack.faults mid.rack.faults new.rack.faults made.keeps.faults rose))
      (λ rose. calm.input (subst (λ (n : ℕ). Rose n new.input.faults) faults rose)) in
      absurd (false≢true ok);
}
  where
    out : new.out ≡ old.out
    out = by.out ∙ made.out

    left : mid.input.left ≡ old.input.left
    left = ap (λ v. v.left) made.input

    faults : mid.input.faults ≡ old.input.faults
    faults = ap (λ v. v.faults) made.input

    may : (e : LoadError) → CarryMay (load_status e)
    may load.Failed = tt
    may load.DataFault = tt
    may (load.DataShort got) = tt
    may load.DataLong = tt

    no_exists : (e : LoadError) → load_status e ≢ Exists
    no_exists load.Failed is = absurd (cc)
    no_exists load.DataFault is = absurd (cc)
    no_exists (load.DataShort got) is = absurd (cc)
    no_exists load.DataLong is = absurd (cc)

    no_memory : (e : LoadError) → load_status e ≢ OutOfMemory
    no_memory load.Failed is = absurd (cc)
    no_memory load.DataFault is = absurd (cc)
    no_memory (load.DataShort got) is = absurd (cc)
    no_memory load.DataLong is = absurd (cc)

    late : (e : LoadError) → ¬ IsBeforeDisks (load_status e)
    late load.Failed is = is
    late load.DataFault is = is
    late (load.DataShort got) is = is
    late load.DataLong is = is

    refusal : (e : LoadError) → IsOfInput (load_status e) → IsInputRefusal e
    refusal load.Failed is = is
    refusal load.DataFault is = is
    refusal (load.DataShort got) is = is
    refusal load.DataLong is = is

    not_failed : (e : LoadError) → IsOfInput (load_status e) → ¬ IsErrOf {T = Unit {0}} {E = LoadError} (Err e) load.Failed
    not_failed load.Failed of is = of
    not_failed load.DataFault of is = absurd (cc)
    not_failed (load.DataShort got) of is = absurd (cc)
    not_failed load.DataLong of is = absurd (cc)

    rack_fault : (e : LoadError) → load_status e ≡ RackFault → IsErrOf {T = Unit {0}} {E = LoadError} (Err e) load.Failed
    rack_fault load.Failed is = refl
    rack_fault load.DataFault is = absurd (cc)
    rack_fault (load.DataShort got) is = absurd (cc)
    rack_fault load.DataLong is = absurd (cc)

    cause : (e : LoadError) → LoadedBy t task mid new (Err e) → CauseOf t Carry task old (load_status e) new
    cause load.Failed by = rose_earlier old.rack.faults mid.rack.faults new.rack.faults made.keeps.faults (by.call.cause.rose refl)
    cause load.DataFault by = (made.stood, subst (λ (n : ℕ). Rose n new.input.faults) faults (by.data_fault refl))
    cause (load.DataShort got) by =
        (made.stood, subst (λ (bytes : List ℕ). EndsAfter t.input (input_size task.shape) bytes new.input.left got) left by.answer)
    cause load.DataLong by =
        (made.stood, subst (λ (bytes : List ℕ). GoesOnAfter t.input (input_size task.shape) bytes new.input.left) left by.answer)
