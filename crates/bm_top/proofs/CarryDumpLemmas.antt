-- A carry whose job is done, and whose records are dumped, or not.
use Rattle.std.proofs.Common.{◌≡◌, inr, ⊎_elim, ℕ, ◌+◌, ◌-◌, ◌*◌, ◌^◌, ◌<◌, ◌++◌, IsTrue, List, Some, Ok, sym, ap, subst, ◌∙◌, arith}
use Rattle.bm_base.specs.declared.report.RunReport.{RunReport}
use Rattle.bm_base.specs.declared.shape.Shape.{Shape}
use Rattle.bm_base.specs.Area.{area_after}
use Rattle.bm_base.specs.Count.{raised, Rose}
use Rattle.bm_base.specs.Records.{record_in}
use Rattle.bm_base.specs.Shape.{dims_of, stripes, load_stripes, loads_of}
use Rattle.bm_base.proofs.RecordLemmas.{bytes_of-same}
use Rattle.bm_base.proofs.ShapeLemmas.{loads_rows}
use Rattle.bm_base.proofs.CountLemmas.{rose_earlier}
use Rattle.bm_forms.proofs.JobLemmas.{meaning-same}
use Rattle.bm_rack.specs.RackView.{RackView}
use Rattle.bm_rack.specs.Image.{SameInput}
use Rattle.bm_rack.specs.Frames.{Keeps}
use Rattle.bm_rack.specs.Sink.{AppendsFront}
use Rattle.bm_rack.proofs.FrameLemmas.{Keeps-trans, HasCause-later}
use Rattle.bm_control.specs.Consistent.{input_of}
use Rattle.bm_job.specs.Runs.{RunDone, IsReportOf, load_rows, loads_before}
use Rattle.bm_job.proofs.KeptJobLemmas.{has_bits}
use Rattle.bm_disks.specs.Dumping.{area_bytes}
use Rattle.bm_top.specs.Causes.{CauseOf, HasJob}
use Rattle.bm_top.specs.Exits.{MadeDisks}
use Rattle.bm_top.specs.Moment.{SinkView, Devices, Tells, TellsRack}
use Rattle.bm_top.specs.Status.{IsBeforeDisks, IsOfInput}
use Rattle.bm_top.specs.Task.{TaskFits}
use Rattle.bm_top.specs.TopCall.{TaskCall}
use Rattle.bm_top.specs.commands.Run.{plan_of}
use Rattle.bm_top.specs.commands.Dump.{DumpMay, DumpBegun, output_of}
use Rattle.bm_top.specs.commands.Carry.{CarryMay, CarryStands, TellsAll, carried, IsLoadedFrom}
use Rattle.bm_top.specs.declared.task.Task.{Task}
use Rattle.bm_top.specs.declared.words.Verb.TheVariants.{Dump, Carry}
use Rattle.bm_top.specs.declared.status.Status.{Status}
use Rattle.bm_top.specs.declared.status.Status.TheVariants.{Done, OutOfMemory, Usage, JobFault, JobText, JobField, JobShape, JobMap}
use Rattle.bm_top.specs.declared.status.Status.TheVariants.{DataFault, DataShort, DataLong, RackFault, NoDisks, WrongDims, Exists}
use Rattle.bm_top.specs.declared.status.Status.TheVariants.{NotLoaded, OtherShape, OtherJob, NotDone, NoJob, BadPage, SinkFault, OutOfRange}
use Rattle.bm_top.specs.declared.status.Status.TheVariants.{NotAffine, NotPermutation, BatchShape}
use Rattle.bm_top.proofs.CarryWholeLemmas.{whole_loaded}
use Rattle.bm_top.proofs.ExitLemmas.{AppendsFront-none}
use Rattle.bm_rack.proofs.CallLemmas.{CallsGrow-trans, most_between}
use Rattle.bm_top.proofs.CarryRanLemmas.{other_shape, other_job, job_passes, not_done, carry_stands}
use Rattle.bm_top.proofs.RanLemmas.{Ran, ran_grow}

may_dump : (answer : Status) → DumpMay answer → CarryMay answer
may_dump Done is = tt
may_dump OutOfMemory is = tt
may_dump Usage is = absurd is
may_dump JobFault is = absurd is
may_dump JobText is = absurd is
may_dump (JobField which) is = absurd is
may_dump (JobShape rule) is = absurd is
may_dump (JobMap fault) is = absurd is
may_dump DataFault is = absurd is
may_dump (DataShort got) is = absurd is
may_dump DataLong is = absurd is
may_dump RackFault is = tt
may_dump NoDisks is = tt
may_dump WrongDims is = tt
may_dump Exists is = absurd is
may_dump NotLoaded is = tt
may_dump OtherShape is = tt
may_dump OtherJob is = tt
may_dump (NotDone done all) is = tt
may_dump NoJob is = tt
may_dump (BadPage page) is = tt
may_dump SinkFault is = tt
may_dump (OutOfRange x y) is = absurd is
may_dump (NotAffine x y want) is = absurd is
may_dump (NotPermutation x) is = absurd is
may_dump (BatchShape bay) is = absurd is

no_input_dump : (answer : Status) → DumpMay answer → ¬ IsOfInput answer
no_input_dump Done is of = of
no_input_dump OutOfMemory is of = of
no_input_dump Usage is of = of
no_input_dump JobFault is of = of
no_input_dump JobText is of = of
no_input_dump (JobField which) is of = of
no_input_dump (JobShape rule) is of = of
no_input_dump (JobMap fault) is of = of
no_input_dump DataFault is of = absurd is
no_input_dump (DataShort got) is of = absurd is
no_input_dump DataLong is of = absurd is
no_input_dump RackFault is of = of
no_input_dump NoDisks is of = of
no_input_dump WrongDims is of = of
no_input_dump Exists is of = of
no_input_dump NotLoaded is of = of
no_input_dump OtherShape is of = of
no_input_dump OtherJob is of = of
no_input_dump (NotDone done all) is of = of
no_input_dump NoJob is of = of
no_input_dump (BadPage page) is of = of
no_input_dump SinkFault is of = of
no_input_dump (OutOfRange x y) is of = of
no_input_dump (NotAffine x y want) is of = of
no_input_dump (NotPermutation x) is of = of
no_input_dump (BatchShape bay) is of = of

-- what is dumped is what the job makes of the input
dumped : (t : Tells) (task : Task) (d old : Devices) (mid mid' : RackView) (r : RunReport) (passes : ℕ) → TaskFits task
    → IsLoadedFrom t task old (record d { rack = mid }) → Ran t task (plan_of task) mid mid' (Ok r)
    → TellsAll t → HasJob task.shape task.job passes passes mid'.contents
    → output_of task mid' passes ≡ carried task old.input.left
dumped t task d old mid mid' r passes fits loaded ran told job =
    let s = task.shape in
    let done = ran.done told.0.0 told.0.1 (loaded.sound told.0) in
    let same : r.passes ≡ passes = job_passes s task.job (plan_of task) passes passes r task.every mid mid' done job in
    ap (λ (k : ℕ). area_bytes mid'.contents s (area_after k)) (sym same)
    ∙ bytes_of-same (2 ^ s.n) _ _ (λ x below. done.records x below
    ∙ meaning-same s.n task.job (input_of mid.contents s) (record_in s old.input.left) (has_bits s task.job fits.job)
    (loaded.records told.1 told.0.1) x below)

-- the parallel transfers of the whole
all_moves : (t : Tells) (task : Task) (old d : Devices) (mid mid' new : RackView) (r : RunReport)
    → IsLoadedFrom t task old (record d { rack = mid }) → Ran t task (plan_of task) mid mid' (Ok r)
    → TellsRack t → new.moves ≡ raised mid'.moves (stripes task.shape)
    → new.moves ≡ raised old.rack.moves (2 * stripes task.shape * (plan_of task + 1))
all_moves t task old d mid mid' new r loaded ran told last =
    let s = task.shape in
    let fresh : (r.passes ≡ plan_of task) × (loads_before s r ≡ 0) = began (ran.answer told.1) in
    let rows : r.moves ≡ 2 * stripes s * plan_of task = ran.report.moves
    ∙ ap (λ (k : ℕ). load_rows s (k * loads_of s - loads_before s r)) fresh.0
    ∙ ap (λ (k : ℕ). load_rows s (plan_of task * loads_of s - k)) fresh.1
    ∙ whole_rows s (plan_of task) in
    let first : mid.moves ≡ raised old.rack.moves (stripes s) = loaded.moves in
    let second : mid'.moves ≡ raised mid.moves (2 * stripes s * plan_of task) = ran.moves ∙ ap (raised mid.moves) rows in
    let sum : 2 * stripes s * (plan_of task + 1) ≡ stripes s + (2 * stripes s * plan_of task + stripes s) = omega arith in
    rw sum (omega (arith, first, second, last))
  where
    whole_rows : (s : Shape) (plan : ℕ) → load_rows s (plan * loads_of s - 0) ≡ 2 * stripes s * plan
    whole_rows s plan =
        let all : loads_of s * load_stripes s ≡ stripes s = loads_rows s in
        let e : 2 * load_stripes s * (plan * loads_of s) ≡ 2 * (loads_of s * load_stripes s) * plan = omega arith in
        let rest : plan * loads_of s - 0 ≡ plan * loads_of s = omega arith in
        ap (load_rows s) rest ∙ e ∙ ap (λ (k : ℕ). 2 * k * plan) all

    began : IsReportOf task.shape task.job (plan_of task) mid.contents r → (r.passes ≡ plan_of task) × (loads_before task.shape r ≡ 0)
    began is =
        ⊎_elim (λ fresh. (fresh.1, rw (fresh.2, fresh.3) (omega arith)))
        (λ open_job. absurd (loaded.job_gate told.1 open_job.2.0.job_gate)) is

-- row calls of a load, a run and a dump
three_moves : (a b c d rows more : ℕ) → b ≡ raised a rows → c ≡ raised b more → d ≡ raised c rows → d ≡ raised a (2 * rows + more)
three_moves a b c d rows more first second third = omega (arith, first, second, third)

pub carry_dumped : (t : Tells) (task : Task) (d old : Devices) (mid mid' new : RackView) (out out' : SinkView) (r : RunReport)
    (answer : Status)
    → TaskFits task → IsLoadedFrom t task old (record d { out = out; rack = mid }) → Ran t task (plan_of task) mid mid' (Ok r)
    → TaskCall t Dump task (record d { out = out; rack = mid' }) answer (record d { out = out'; rack = new }) → ¬ IsBeforeDisks answer
    → TaskCall t Carry task old answer (record d { out = out'; rack = new })
carry_dumped t task d old mid mid' new out out' r answer fits loaded ran dump late = record {
  may = may_dump answer dump.may;
  cause = cause answer dump.cause dump.may late;
  done = λ e. record {
    size = loaded.size;
    ended = loaded.ended;
    records = λ told. (dump.done e).records told.2 told.0.1
        ∙ ap (λ (xs : List ℕ). xs ++ output_of task mid' (dump.done e).passes) taken
        ∙ ap (λ (xs : List ℕ). old.out.taken ++ xs)
        (dumped t task (record d { out = out }) old mid mid' r (dump.done e).passes fits loaded ran told ((dump.done e).job told.0.1));
    moved = record {
      report = r;
      fits = ran.report;
      moves = three_moves old.rack.moves mid.moves mid'.moves new.moves (stripes task.shape) r.moves loaded.moves ran.moves
          (dump.done e).moves;
    };
    moves = λ told. all_moves t task old (record d { out = out }) mid mid' new r loaded ran told (dump.done e).moves;
    after = after;
  };
  leaves = record {
    front = λ told.
        ⊎_elim
        (λ (same : out' ≡ out). subst (λ (v : SinkView). AppendsFront old.out.taken v.taken (carried task old.input.left)) (sym (same
        ∙ loaded.out))
        (AppendsFront-none old.out.taken (carried task old.input.left)))
        (λ (begun : DumpBegun t task (record d { out = out; rack = mid' }) (record d { out = out'; rack = new })).
        subst (λ (xs : List ℕ). AppendsFront xs out'.taken (carried task old.input.left)) taken
        (subst (λ (xs : List ℕ). AppendsFront out.taken out'.taken xs)
        (dumped t task (record d { out = out }) old mid mid' r begun.passes fits loaded ran told (begun.job told.0.1))
        (begun.records told.2 told.0.1)))
        dump.leaves.written;
    unwritten = λ of. ⊎_elim (λ before. absurd (late before)) (λ input. absurd (no_input_dump answer dump.may input)) of;
    unread = λ of. absurd (late of);
    written = λ told. inr (loaded.size told, loaded.ended told);
    whole = λ told e. (loaded.size told, loaded.ended told);
    refused = λ told of. absurd (no_input_dump answer dump.may of);
    made = λ told of. absurd (no_input_dump answer dump.may of);
    cut = λ told e. after told;
    opened = λ told input none. whole_loaded task.shape old.input.left mid new loaded.clean same_input (loaded.size input)
        (loaded.records input told.1);
    stood = inr loaded.stood;
    exists = λ e. absurd (late (subst IsBeforeDisks (sym e) tt));
    memory = λ e. absurd (late (subst IsBeforeDisks (sym e) tt));
    moves = most_between _ _ _ (omega (arith, ran.most.low, loaded.grow.moves, dump.leaves.moves.low))
        (omega (arith, ran.most.high, loaded.moves, dump.leaves.moves.high));
  };
  each = record {
    sound = λ told sound. dump.each.sound told (ran.sound told.0 told.1 (loaded.sound told));
    stands = λ told. inr (record { makes = tt; stood = loaded.stood told; stands = stands told });
    keeps = Keeps-trans old.rack mid' new keeps dump.each.keeps;
    fault = HasCause-later (answer ≡ RackFault) old.rack mid' new keeps dump.each.fault;
    calls = λ of. absurd (late of);
    grow = CallsGrow-trans old.rack mid new loaded.grow
        (CallsGrow-trans mid mid' new (ran_grow t task (plan_of task) mid mid' (Ok r) ran) dump.each.grow);
    unattached = λ e. absurd (late (subst IsBeforeDisks (sym e) tt));
    few = loaded.few;
    input_faults = loaded.input_faults;
    out_faults = omega (arith, dump.each.out_faults, faults);
  };
  complete = λ is calm.
      let done = ran.done is.told.0 is.told.1 (loaded.sound is.told) in
      dump.complete
      (record {
        told = is.told;
        stands = ran.call.frame.stands ∙ loaded.stands is.told.0;
        sound = ran.sound is.told.0 is.told.1 (loaded.sound is.told);
        job = record {
          gates = record { load_gate = done.load_gate; load_body = done.load_body; job_gate = done.job_gate };
          passes = r.passes;
          every = done.loads;
          body = done.body;
        };
        gates = done.gates;
      })
      (record {
        input = λ rose. ⊎_elim (λ (h : d.input.faults < d.input.faults). absurd (omega arith)) (λ h. calm.input (inr h)) rose;
        out = λ rose. calm.out (subst (λ (n : ℕ). Rose n out'.faults) faults rose);
        rack = λ rose. calm.rack (rose_earlier old.rack.faults mid'.faults new.faults keeps.faults rose);
      });
}
  where
    taken : out.taken ≡ old.out.taken
    taken = ap (λ (v : SinkView). v.taken) loaded.out

    faults : out.faults ≡ old.out.faults
    faults = ap (λ (v : SinkView). v.faults) loaded.out

    keeps : Keeps old.rack mid'
    keeps = Keeps-trans old.rack mid mid' loaded.keeps ran.call.keeps

    stands : IsTrue t.stands → new.stands ≡ Some (dims_of task.shape)
    stands told =
        ⊎_elim (λ (same : new.stands ≡ mid'.stands). same ∙ ran.call.frame.stands ∙ loaded.stands told)
        (λ (made : MadeDisks Dump task mid' new). absurd made.makes) (dump.each.stands told)

    ran_done : TellsRack t → RunDone task.shape task.job (plan_of task) task.every r mid mid'
    ran_done told = ran.done told.0 told.1 (loaded.sound told)

    same_input : SameInput (dims_of task.shape) mid new
    same_input = record {
      contents = λ u input. dump.leaves.same.contents u input ∙ ran.input.contents u input;
      dirty = λ u input clean. dump.leaves.same.dirty u input (ran.input.dirty u input clean);
    }

    after : TellsRack t → CarryStands task new
    after told = carry_stands task mid mid' new r (ran_done told) (loaded.job_gate told.1) dump.leaves.looks (stands told.0)

    cause : (answer : Status) → CauseOf t Dump task (record d { out = out; rack = mid' }) answer (record d { out = out'; rack = new })
        → DumpMay answer → ¬ IsBeforeDisks answer → CauseOf t Carry task old answer (record d { out = out'; rack = new })
    cause Done is may late = loaded.stood
    cause OutOfMemory is may late = tt
    cause RackFault is may late = rose_earlier old.rack.faults mid'.faults new.faults keeps.faults is
    cause NoDisks is may late = absurd (late tt)
    cause WrongDims is may late = absurd (late tt)
    cause Exists is may late = absurd (late tt)
    cause NotLoaded is may late = (loaded.stood, λ told. is.1 told.1 (ran_done told).load_gate)
    cause OtherShape is may late = (loaded.stood, λ told. other_shape _ _ _ r _ mid mid' (ran_done told) (is.1 told.1))
    cause OtherJob is may late = (loaded.stood, λ told. other_job _ _ _ r _ mid mid' (ran_done told) (is.1 told.1))
    cause (NotDone done all) is may late = (loaded.stood, λ told. not_done _ _ _ all done r _ mid mid' (ran_done told) (is.1 told.1))
    cause NoJob is may late = (loaded.stood, λ told. (is.1 told.1).2 (ran_done told).job_gate)
    cause (BadPage page) is may late = (loaded.stood, λ told. (is.1 told.1).unsound told (ran.sound told.0 told.1 (loaded.sound told)))
    cause SinkFault is may late = (loaded.stood, subst (λ (n : ℕ). Rose n out'.faults) faults is.1)
    cause DataFault is may late = absurd may
    cause (DataShort got) is may late = absurd may
    cause DataLong is may late = absurd may
    cause Usage is may late = absurd may
    cause JobFault is may late = absurd may
    cause JobText is may late = absurd may
    cause (JobField which) is may late = absurd may
    cause (JobShape rule) is may late = absurd may
    cause (JobMap fault) is may late = absurd may
    cause (OutOfRange x y) is may late = absurd may
    cause (NotAffine x y want) is may late = absurd may
    cause (NotPermutation x) is may late = absurd may
    cause (BatchShape bay) is may late = absurd may
