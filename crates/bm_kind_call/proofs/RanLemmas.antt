-- A transform whose input is loaded: its run fails, or what it made is written, or not.
use Rattle.std.proofs.Common.{◌≡◌, inl, inr, ⊎_elim, ℕ, ◌+◌, ◌*◌, ◌^◌, ◌≤◌, ◌++◌, Bool, IsTrue, List, None, Result, Ok, Err}
use Rattle.std.proofs.Common.{refl, sym, ap, subst, ◌∙◌, arith}
use Rattle.bm_base.specs.declared.area.Area.{Area}
use Rattle.bm_base.specs.declared.fault.Failed.{Failed}
use Rattle.bm_base.specs.Area.{area_after}
use Rattle.bm_base.specs.Contents.{Contents, RackUnit, page_unit, unit_at, page_at}
use Rattle.bm_base.specs.Count.{raised, Rose}
use Rattle.bm_base.specs.Gate.{IsOpenGate, IsClosedGate}
use Rattle.bm_base.specs.Records.{record_in}
use Rattle.bm_base.specs.Shape.{dims_of, stripes}
use Rattle.bm_base.proofs.RecordLemmas.{bytes_of-same}
use Rattle.bm_base.proofs.CountLemmas.{rose_earlier}
use Rattle.bm_rack.specs.RackView.{RackView}
use Rattle.bm_rack.specs.Image.{InEveryImage, SameInput}
use Rattle.bm_rack.specs.Frames.{ChangesOnly, HasCause, Keeps}
use Rattle.bm_rack.specs.Sink.{AppendsFront}
use Rattle.bm_rack.proofs.FrameLemmas.{Keeps-trans, HasCause-later}
use Rattle.bm_control.specs.Consistent.{input_of}
use Rattle.bm_control.specs.Pages.{load_body, load_gate, job_gate, HasClosedJob}
use Rattle.bm_control.proofs.ImageLemmas.{settled_in_image, settled_clean}
use Rattle.bm_control.proofs.SoundLemmas.{sound_same}
use Rattle.bm_disks.specs.Dumping.{area_bytes}
use Rattle.bm_disks.specs.declared.dumping.DumpError.{DumpError}
use Rattle.bm_disks.specs.declared.dumping.DumpError.TheVariants as dump
use Rattle.bm_kinds.specs.Kinds.{pairing}
use Rattle.bm_kinds.proofs.KindLemmas.{kernel_over-kind}
use Rattle.bm_kinds.proofs.OverLemmas.{kernel_over-same}
use Rattle.bm_kindjob.specs.declared.kind_file.KindFile.{KindFile}
use Rattle.bm_kindjob.specs.KindRun.{IsWorkBlock}
use Rattle.bm_kindjob.proofs.SoundLemmas.{work_no_page, input_no_work}
use Rattle.bm_top.specs.Causes.{CauseOf}
use Rattle.bm_top.specs.Moment.{SinkView, Devices, Tells, TellsRack}
use Rattle.bm_top.specs.Status.{IsBeforeDisks}
use Rattle.bm_top.specs.commands.Carry.{IsLoadedFrom}
use Rattle.bm_top.specs.declared.words.Verb.TheVariants.{Carry}
use Rattle.bm_top.specs.declared.status.Status.TheVariants.{RackFault}
use Rattle.bm_top.proofs.CarryWholeLemmas.{whole_loaded}
use Rattle.bm_top.proofs.DumpLemmas.{AreaDumped, dump_answer, dumped_ok, dumped_failed, dumped_complete, dump_no_input}
use Rattle.bm_top.proofs.ExitLemmas.{AppendsFront-none}
use Rattle.bm_rack.proofs.CallLemmas.{CallsGrow-trans, CallsGrow-rows, most_between}
use Rattle.bm_top.proofs.FaultLemmas.{cause_later}
use Rattle.bm_kind_call.specs.Exits.{shape_task, KindMay, KindCall}
use Rattle.bm_kind_call.specs.Kinds.{named_kind, walsh_passes, kinded, KindRan, KindStands}
use Rattle.bm_kind_call.specs.Texts.{FileFits}

-- ---- row calls

-- those of a load, so many passes and an output
all_rows : (a b c d rows p q : ℕ) → p ≡ q → b ≡ raised a rows → c ≡ raised b (2 * rows * p) → d ≡ raised c rows
    → d ≡ raised a (2 * rows * (q + 1))
all_rows a b c d rows p q same first second third =
    let sum : 2 * rows * (q + 1) ≡ rows + (2 * rows * q + rows) = omega arith in
    let passes : c ≡ raised b (2 * rows * q) = subst (λ (k : ℕ). c ≡ raised b (2 * rows * k)) same second in
    rw sum (omega (arith, first, passes, third))

-- or fewer, after a load and a run
run_rows : (a b c rows p q : ℕ) → p ≡ q → a ≤ b → b ≤ c → b ≡ raised a rows → c ≤ raised b (2 * rows * p)
    → (a ≤ c) × (c ≤ raised a (2 * rows * (q + 1)))
run_rows a b c rows p q same low high first second =
    let sum : 2 * rows * (q + 1) ≡ rows + (2 * rows * q + rows) = omega arith in
    let passes : c ≤ raised b (2 * rows * q) = subst (λ (k : ℕ). c ≤ raised b (2 * rows * k)) same second in
    (omega (arith, low, high), rw sum (omega (arith, first, passes)))

-- and after an output
few_rows : (a b c d rows p q : ℕ) → p ≡ q → a ≤ b → b ≤ c → c ≤ d → b ≡ raised a rows → c ≤ raised b (2 * rows * p) → d ≤ raised c rows
    → (a ≤ d) × (d ≤ raised a (2 * rows * (q + 1)))
few_rows a b c d rows p q same low middle high first second third =
    let sum : 2 * rows * (q + 1) ≡ rows + (2 * rows * q + rows) = omega arith in
    let passes : c ≤ raised b (2 * rows * q) = subst (λ (k : ℕ). c ≤ raised b (2 * rows * k)) same second in
    (omega (arith, low, middle, high), rw sum (omega (arith, first, passes, third)))

-- ---- disks that are loaded, and a run on them

-- no job is open, whatever a stop leaves
no_job : (t : Tells) (file : KindFile) (old mid : Devices) → IsLoadedFrom t (shape_task file.shape) old mid → IsTrue t.contents
    → InEveryImage HasClosedJob mid.rack
no_job t file old mid loaded told dims image stands i =
    settled_in_image IsClosedGate job_gate mid.rack dims image
    (settled_clean IsClosedGate job_gate mid.rack loaded.clean (loaded.job_gate told)) i

-- the input is as it was
input_kept : (file : KindFile) (old new : RackView) → ChangesOnly (IsWorkBlock file.shape) old new → SameInput (dims_of file.shape) old new
input_kept file old new only = record {
  contents = λ u input. only.contents u (input_no_work file.shape u input);
  dirty = λ u input clean. only.dirty u (input_no_work file.shape u input) ∙ clean;
}

-- the run fails
pub kind_not_run : (t : Tells) (file : KindFile) (d old : Devices) (mid new : RackView) (passes : ℕ) (e : Failed)
    → passes ≡ walsh_passes file.shape → IsLoadedFrom t (shape_task file.shape) old (record d { rack = mid })
    → KindRan t file passes mid (Err e) new → KindCall t file old RackFault (record d { rack = new })
kind_not_run t file d old mid new passes e same loaded ran = record {
  may = tt;
  cause = rose_earlier old.rack.faults mid.faults new.faults loaded.keeps.faults (ran.cause.rose refl);
  done = λ is. absurd (cc);
  leaves = record {
    front = λ told. subst (λ (v : SinkView). AppendsFront old.out.taken v.taken (kinded file old.input.left)) (sym loaded.out)
        (AppendsFront-none old.out.taken (kinded file old.input.left));
    unwritten = λ of. loaded.out;
    unread = λ of. absurd of;
    written = λ told. inl loaded.out;
    whole = λ told is. absurd (cc);
    refused = λ told of. absurd of;
    made = λ told of. absurd of;
    cut = λ told is. absurd (cc);
    opened = λ told input none. whole_loaded file.shape old.input.left mid new loaded.clean (input_kept file mid new ran.only)
        (loaded.size input) (loaded.records input told.1);
    stood = inr loaded.stood;
    exists = λ is. absurd (cc);
    memory = λ is. absurd (cc);
    moves = most_between _ _ _ rows.0 rows.1;
  };
  each = record {
    sound = λ told sound. ran.sound told (no_job t file old (record d { rack = mid }) loaded told.1) (loaded.sound told);
    stands = λ told. inr (record { makes = tt; stood = loaded.stood told; stands = ran.only.stands ∙ loaded.stands told });
    keeps = Keeps-trans old.rack mid new loaded.keeps ran.keeps;
    fault = cause_later _ _ old.rack mid new (λ is. refl) loaded.keeps ran.cause;
    calls = λ of. absurd of;
    grow = CallsGrow-trans old.rack mid new loaded.grow
        (CallsGrow-rows _ _ mid new ran.moved);
    unattached = λ is. absurd (cc);
    few = loaded.few;
    input_faults = loaded.input_faults;
    out_faults = omega (arith, ap (λ (v : SinkView). v.faults) loaded.out);
  };
  complete = λ is calm.
      absurd (calm.rack (rose_earlier old.rack.faults mid.faults new.faults loaded.keeps.faults (ran.cause.rose refl)));
}
  where
    rows : (old.rack.moves ≤ new.moves) × (new.moves ≤ raised old.rack.moves (2 * stripes file.shape * (walsh_passes file.shape + 1)))
    rows = run_rows old.rack.moves mid.moves new.moves (stripes file.shape) passes (walsh_passes file.shape) same loaded.grow.moves
        ran.moved.moves.low loaded.moves ran.moved.moves.high

-- ---- an output

-- the answers
dumped_may : (r : Result (Unit {0}) DumpError) → KindMay (dump_answer r)
dumped_may (Ok x) = tt
dumped_may (Err dump.Failed) = tt
dumped_may (Err dump.SinkFault) = tt

dumped_late : (r : Result (Unit {0}) DumpError) → ¬ IsBeforeDisks (dump_answer r)
dumped_late (Ok x) of = of
dumped_late (Err dump.Failed) of = of
dumped_late (Err dump.SinkFault) of = of

-- why one comes
dumped_cause : (t : Tells) (file : KindFile) (d e : Devices) (r : Result (Unit {0}) DumpError) → (IsTrue t.stands → d.rack.stands ≡ None)
    → (r ≡ Err dump.SinkFault → Rose d.out.faults e.out.faults) → HasCause (r ≡ Err dump.Failed) d.rack e.rack
    → CauseOf t Carry (shape_task file.shape) d (dump_answer r) e
dumped_cause t file d e (Ok x) stood sink rack = stood
dumped_cause t file d e (Err dump.Failed) stood sink rack = rack.rose refl
dumped_cause t file d e (Err dump.SinkFault) stood sink rack = (stood, sink refl)

-- the run is done, and what it made is written, or a front of it
pub kind_dumped : (t : Tells) (file : KindFile) (d old : Devices) (mid look new : RackView) (out out' : SinkView) (passes moves : ℕ)
    (area : Area) (r : Result (Unit {0}) DumpError) → FileFits file → passes ≡ walsh_passes file.shape → area ≡ area_after passes
    → IsLoadedFrom t (shape_task file.shape) old (record d { out = out; rack = mid }) → KindRan t file passes mid (Ok moves) look
    → AreaDumped t file.shape area out look r new out' → KindCall t file old (dump_answer r) (record d { out = out'; rack = new })
kind_dumped t file d old mid look new out out' passes moves area r fits same at loaded ran k = record {
  may = dumped_may r;
  cause = dumped_cause t file old (record d { out = out'; rack = new }) r loaded.stood sink why;
  done = λ is. record {
    size = loaded.size;
    ended = loaded.ended;
    records = λ told. k.done told.2 told.0.1 (dumped_ok r is)
        ∙ ap (λ (xs : List ℕ). out.taken ++ xs) (made told.0.1 told.1)
        ∙ ap (λ (xs : List ℕ). xs ++ kinded file old.input.left) taken;
    sums = λ x below. kernel_over-kind (named_kind file.kind) file.shape.n file.set (record_in file.shape old.input.left) fits.set x below;
    moves = all_rows old.rack.moves mid.moves look.moves new.moves (stripes file.shape) passes (walsh_passes file.shape) same loaded.moves
        (ran.moved.moves.done refl) (k.moved.moves.done (dumped_ok r is));
    after = after;
  };
  leaves = record {
    front = λ told. subst (λ (xs : List ℕ). AppendsFront xs out'.taken (kinded file old.input.left)) taken
        (subst (λ (xs : List ℕ). AppendsFront out.taken out'.taken xs) (made told.0.1 told.1) (k.front told.2 told.0.1));
    unwritten = λ of. ⊎_elim (λ before. absurd (dumped_late r before)) (λ input. absurd (dump_no_input r input)) of;
    unread = λ of. absurd (dumped_late r of);
    written = λ told. inr (loaded.size told, loaded.ended told);
    whole = λ told is. (loaded.size told, loaded.ended told);
    refused = λ told of. absurd (dump_no_input r of);
    made = λ told of. absurd (dump_no_input r of);
    cut = λ told is. after told;
    opened = λ told input none. whole_loaded file.shape old.input.left mid new loaded.clean (input_kept file mid new only)
        (loaded.size input) (loaded.records input told.1);
    stood = inr loaded.stood;
    exists = λ is. absurd (dumped_late r (subst IsBeforeDisks (sym is) tt));
    memory = λ is. absurd (dumped_late r (subst IsBeforeDisks (sym is) tt));
    moves = most_between _ _ _ rows.0 rows.1;
  };
  each = record {
    sound = λ told sound. sound_same look new k.state
        (ran.sound told (no_job t file old (record d { out = out; rack = mid }) loaded told.1) (loaded.sound told));
    stands = λ told. inr (record { makes = tt; stood = loaded.stood told; stands = only.stands ∙ loaded.stands told });
    keeps = Keeps-trans old.rack look new keeps k.keeps;
    fault = record {
      rose = λ is. why.rose (dumped_failed r is);
      sure = λ steady going is. why.sure steady going (dumped_failed r is);
    };
    calls = λ of. absurd (dumped_late r of);
    grow = CallsGrow-trans old.rack mid new loaded.grow
        (CallsGrow-trans mid look new (CallsGrow-rows _ _ mid look ran.moved) (CallsGrow-rows _ _ look new k.moved));
    unattached = λ is. absurd (dumped_late r (subst IsBeforeDisks (sym is) tt));
    few = loaded.few;
    input_faults = loaded.input_faults;
    out_faults = omega (arith, k.sink_faults, faults);
  };
  complete = λ is calm. dumped_complete old (record d { out = out'; rack = new }) r sink why calm;
}
  where
    taken : out.taken ≡ old.out.taken
    taken = ap (λ (v : SinkView). v.taken) loaded.out

    faults : out.faults ≡ old.out.faults
    faults = ap (λ (v : SinkView). v.faults) loaded.out

    sink : r ≡ Err dump.SinkFault → Rose old.out.faults out'.faults
    sink is = subst (λ (n : ℕ). Rose n out'.faults) faults (k.sink_fault is)

    keeps : Keeps old.rack look
    keeps = Keeps-trans old.rack mid look loaded.keeps ran.keeps

    why : HasCause (r ≡ Err dump.Failed) old.rack new
    why = HasCause-later _ old.rack look new keeps k.cause

    made : IsTrue t.contents → IsTrue t.input → area_bytes look.contents file.shape area ≡ kinded file old.input.left
    made told input =
        let s = file.shape in
        let f = pairing (named_kind file.kind) in
        ap (λ (a : Area). area_bytes look.contents s a) at
        ∙ bytes_of-same (2 ^ s.n) _ _ (λ x below. ran.records told x below
        ∙ kernel_over-same f s.n s.n file.set (input_of mid.contents s) (record_in s old.input.left) (omega arith)
        (loaded.records input told) x below)

    -- the output changes nothing
    only : ChangesOnly (IsWorkBlock file.shape) mid new
    only = record {
      stands = k.state.stands ∙ ran.only.stands;
      attached = k.state.attached ∙ ran.only.attached;
      contents = λ u apart. ap (λ (v : Contents). unit_at v u) k.state.contents ∙ ran.only.contents u apart;
      dirty = λ u apart. ap (λ (f : RackUnit → Bool). f u) k.state.dirty ∙ ran.only.dirty u apart;
    }

    page : (p : ℕ) → page_at new.contents p ≡ page_at mid.contents p
    page p = only.contents (page_unit p) (work_no_page file.shape p)

    after : TellsRack t → KindStands file.shape new
    after told = record {
      stands = only.stands ∙ loaded.stands told.0;
      load_gate = subst IsOpenGate (sym (page load_gate)) (loaded.load_gate told.1);
      load_body = page load_body ∙ loaded.load_body told.1;
      job_gate = subst IsClosedGate (sym (page job_gate)) (loaded.job_gate told.1);
      clean = λ u apart. only.dirty u apart ∙ loaded.clean u;
    }

    rows : (old.rack.moves ≤ new.moves) × (new.moves ≤ raised old.rack.moves (2 * stripes file.shape * (walsh_passes file.shape + 1)))
    rows = few_rows old.rack.moves mid.moves look.moves new.moves (stripes file.shape) passes (walsh_passes file.shape) same
        loaded.grow.moves ran.moved.moves.low k.moved.moves.low loaded.moves ran.moved.moves.high k.moved.moves.high
