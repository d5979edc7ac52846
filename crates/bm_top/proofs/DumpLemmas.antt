-- The command `dump`.
use Rattle.std.proofs.Common.{Ok, Err, ◌≡◌, ◌≢◌, ◌⊎◌, inl, inr, ℕ, ◌^◌, ◌<◌, ◌≤◌, ◌++◌, Bool, IsTrue, List, Some, Result, IsOk, refl, ap}
use Rattle.std.proofs.Common.{subst, ◌∙◌, arith}
use Rattle.bm_base.specs.declared.area.Area.{Area}
use Rattle.bm_base.specs.Area.{area_after}
use Rattle.bm_base.specs.Contents.{Contents, RackUnit, unit_at, page_at}
use Rattle.bm_base.specs.Count.{raised, Rose}
use Rattle.bm_base.specs.Shape.{dims_of, stripes}
use Rattle.bm_base.proofs.RecordLemmas.{bytes_of-same}
use Rattle.bm_base.specs.Gate.{IsOpenGate}
use Rattle.bm_base.specs.declared.shape.Shape.{Shape}
use Rattle.bm_forms.specs.declared.job.Job.{Job}
use Rattle.bm_rack.specs.RackView.{RackView, IsWellFormed}
use Rattle.bm_rack.specs.Frames.{SameState, Keeps, HasCause, MovesRows, MovesFew}
use Rattle.bm_rack.specs.Sink.{AppendsFront}
use Rattle.bm_rack.proofs.FrameLemmas.{Keeps-trans, HasCause-later}
use Rattle.bm_control.specs.Sound.{IsSound}
use Rattle.bm_control.proofs.SoundLemmas.{sound_same}
use Rattle.bm_control.proofs.UniqueLemmas.{passes_unique}
use Rattle.bm_control.specs.Pages.{job_body, pass_gate}
use Rattle.bm_disks.specs.Dumping.{area_bytes}
use Rattle.bm_disks.specs.JobOpening.{IsOpenCase, LastAreaMeans}
use Rattle.bm_disks.specs.declared.dumping.DumpError.{DumpError}
use Rattle.bm_disks.specs.declared.dumping.DumpError.TheVariants as dump
use Rattle.bm_disks.specs.declared.job_opening.OpenJob.{OpenJob}
use Rattle.bm_disks.specs.declared.job_opening.OpenError.{OpenError}
use Rattle.bm_disks.specs.declared.job_opening.OpenError.TheVariants as opening
use Rattle.bm_top.specs.Causes.{CauseOf, HasDisks, HasJob}
use Rattle.bm_top.specs.DiskStatus.{dump_status, open_status}
use Rattle.bm_top.specs.Exits.{AttachedFrom, KeepsUnits}
use Rattle.bm_top.specs.Moment.{Devices, SinkView, Tells, TellsRack}
use Rattle.bm_top.specs.Status.{IsBeforeDisks, IsOfInput, IsOfState}
use Rattle.bm_top.specs.TopCall.{TaskCall, NoFaults, IsDoneUnlessMemory}
use Rattle.bm_top.specs.commands.Dump.{DumpMay, DumpBegun, output_of, made_of}
use Rattle.bm_top.specs.commands.Status.{OnlyLooks}
use Rattle.bm_top.specs.declared.task.Task.{Task}
use Rattle.bm_top.specs.declared.words.Verb.TheVariants as verbs
use Rattle.bm_top.specs.declared.status.Status.{Status}
use Rattle.bm_top.specs.declared.status.Status.TheVariants.{Done, OutOfMemory, NotDone, RackFault}
use Rattle.bm_top.proofs.AttachedLemmas.{disks_stand}
use Rattle.bm_top.proofs.ExitLemmas.{IsRead-none}
use Rattle.bm_rack.proofs.CallLemmas.{CallsGrow-trans, CallsGrow-rows, MovesFew-same, most_of}
use Rattle.bm_top.proofs.BeforeLemmas.{moves_before}
use Rattle.bm_top.proofs.LookLemmas.{JobLooked, looks, looks_same, job_told, look_cause, look_not_done, look_not_sink, look_each}
use Rattle.bm_top.proofs.LookLemmas.{look_grow, look_refused, look_complete}
use Rattle.bm_top.proofs.SameDisksLemmas.{sound_kept}
use Rattle.bm_top.proofs.StatusLemmas.{no_fault}

-- no row call was made
pub few_none : (ts tc : Bool) (rows : ℕ) (before mid new : RackView) → IsWellFormed ts tc mid → AttachedFrom before mid
    → new.moves ≡ mid.moves
    → MovesFew rows before new
few_none ts tc rows before mid new well from same = moves_before rows before mid new from.calls.moves
    (MovesFew-same ts tc rows mid new well same)

refusal_may : (error : OpenError) → DumpMay (open_status error)
refusal_may opening.Failed = tt
refusal_may (opening.BadPage page) = tt
refusal_may opening.NotLoaded = tt
refusal_may opening.OtherShape = tt
refusal_may opening.NoJob = tt
refusal_may opening.OtherJob = tt

-- the job is not open
pub dump_refused : (t : Tells) (task : Task) (d : Devices) (before mid new : RackView) (error : OpenError)
    → IsWellFormed t.stands t.contents mid → mid.attached ≡ Some (dims_of task.shape) → AttachedFrom before mid
    → JobLooked t task mid (Err error) new
    → TaskCall t verbs.Dump task (record d { rack = before }) (open_status error) (record d { rack = new })
dump_refused t task d before mid new error well attached from j = record {
  may = refusal_may error;
  cause = look_cause t verbs.Dump task (record d { rack = before }) (record d { rack = new }) mid error tt from
      (disks_stand t task before mid well attached from) j (HasCause-later _ before mid new from.keeps j.call.cause);
  done = λ is. absurd (look_not_done error is);
  leaves = record {
    looks = looks t task before mid new (Err error) from j;
    same = looks_same t task before mid new (Err error) from j;
    moves = few_none t.stands t.contents _ before mid new well from j.counts.moves;
    written = inl refl;
    unwritten = λ of. refl;
    still = λ of. j.counts.moves ∙ from.calls.moves;
    cut = λ is. absurd (look_not_sink error is);
    input = refl;
  };
  each = look_refused t verbs.Dump task d before mid new error from j;
  complete = λ is calm. look_complete t task before mid new error from j is.told is.sound is.job calm.rack;
}

-- a gate is closed where not all passes are done
gate_closed : (s : Shape) (job : Job) (passes done : ℕ) (v : Contents) (opened : IsOpenCase s job v) → HasJob s job passes done v
    → done < passes
    → ¬ ((k : ℕ) → k < opened.passes → IsOpenGate (page_at v (pass_gate k)))
gate_closed s job passes done v opened told less gates =
    let same : opened.passes ≡ passes =
    passes_unique s (page_at v job_body) job job opened.passes passes opened.every told.every opened.body told.working.1.body in
    told.working.1.stand.gates.closed done (omega arith) less (gates done (omega (arith, less, same)))

-- some passes are not done
pub dump_early : (t : Tells) (task : Task) (d : Devices) (before mid new : RackView) (o : OpenJob)
    → IsWellFormed t.stands t.contents mid → mid.attached ≡ Some (dims_of task.shape) → AttachedFrom before mid → o.done < o.passes
    → JobLooked t task mid (Ok o) new
    → TaskCall t verbs.Dump task (record d { rack = before }) (NotDone o.done o.passes) (record d { rack = new })
dump_early t task d before mid new o well attached from less j = record {
  may = tt;
  cause = (disks_stand t task before mid well attached from, λ told. (less, job_told t task before mid new o from j told));
  done = λ is. absurd (cc);
  leaves = record {
    looks = looks t task before mid new (Ok o) from j;
    same = looks_same t task before mid new (Ok o) from j;
    moves = few_none t.stands t.contents _ before mid new well from j.counts.moves;
    written = inl refl;
    unwritten = λ of. refl;
    still = λ of. j.counts.moves ∙ from.calls.moves;
    cut = λ is. absurd (cc);
    input = refl;
  };
  each = look_each t verbs.Dump task (NotDone o.done o.passes) d before mid new d.out (Ok o) from j
      (no_fault (NotDone o.done o.passes) before new (λ is. (cc))) (λ of. of) (omega arith);
  complete = λ is calm.
      absurd (gate_closed task.shape task.job o.passes o.done before.contents is.job
      (job_told t task before mid new o from j is.told.1) less is.gates);
}

-- what a dump did to disks that were looked at, and to its sink
pub record AreaDumped (t : Tells) (s : Shape) (area : Area) (old : SinkView) (look : RackView) (r : Result (Unit {0}) DumpError)
    (new : RackView)
    (out : SinkView) : Type 0 where
  pub done : IsTrue t.out → IsTrue t.contents → IsOk r → out.taken ≡ old.taken ++ area_bytes look.contents s area
  pub front : IsTrue t.out → IsTrue t.contents → AppendsFront old.taken out.taken (area_bytes look.contents s area)
  pub sink_fault : r ≡ Err dump.SinkFault → Rose old.faults out.faults
  pub sink_faults : old.faults ≤ out.faults
  pub state : SameState look new
  pub moved : MovesRows (stripes s) (IsOk r) look new
  pub keeps : Keeps look new
  pub cause : HasCause (r ≡ Err dump.Failed) look new

-- the answer of the command
abbrev pub dump_answer : Result (Unit {0}) DumpError → Status
dump_answer (Ok x) = Done
dump_answer (Err e) = dump_status e

-- which is none of the input
pub dump_no_input : (x : Result (Unit {0}) DumpError) → ¬ IsOfInput (dump_answer x)
dump_no_input (Ok x) of = of
dump_no_input (Err dump.Failed) of = of
dump_no_input (Err dump.SinkFault) of = of

dumped_may : (r : Result (Unit {0}) DumpError) → DumpMay (dump_answer r)
dumped_may (Ok x) = tt
dumped_may (Err dump.Failed) = tt
dumped_may (Err dump.SinkFault) = tt

dumped_no_memory : (r : Result (Unit {0}) DumpError) → dump_answer r ≢ OutOfMemory
dumped_no_memory (Ok x) is = (cc)
dumped_no_memory (Err dump.Failed) is = (cc)
dumped_no_memory (Err dump.SinkFault) is = (cc)

dumped_late : (r : Result (Unit {0}) DumpError) → ¬ (IsBeforeDisks (dump_answer r) ⊎ IsOfState (dump_answer r))
dumped_late (Ok x) (inl of) = of
dumped_late (Ok x) (inr of) = of
dumped_late (Err dump.Failed) (inl of) = of
dumped_late (Err dump.Failed) (inr of) = of
dumped_late (Err dump.SinkFault) (inl of) = of
dumped_late (Err dump.SinkFault) (inr of) = of

pub dumped_ok : (r : Result (Unit {0}) DumpError) → dump_answer r ≡ Done → IsOk r
dumped_ok (Ok x) is = refl
dumped_ok (Err dump.Failed) is = absurd (cc)
dumped_ok (Err dump.SinkFault) is = absurd (cc)

pub dumped_failed : (r : Result (Unit {0}) DumpError) → dump_answer r ≡ RackFault → r ≡ Err dump.Failed
dumped_failed (Ok x) is = absurd (cc)
dumped_failed (Err dump.Failed) is = refl
dumped_failed (Err dump.SinkFault) is = absurd (cc)

dumped_cause : (t : Tells) (task : Task) (d e : Devices) (r : Result (Unit {0}) DumpError) → HasDisks t verbs.Dump task d
    → (r ≡ Err dump.SinkFault → Rose d.out.faults e.out.faults) → HasCause (r ≡ Err dump.Failed) d.rack e.rack
    → CauseOf t verbs.Dump task d (dump_answer r) e
dumped_cause t task d e (Ok x) stand sink rack = stand
dumped_cause t task d e (Err dump.Failed) stand sink rack = rack.rose refl
dumped_cause t task d e (Err dump.SinkFault) stand sink rack = (stand, sink refl)

pub dumped_complete : (d e : Devices) (r : Result (Unit {0}) DumpError) → (r ≡ Err dump.SinkFault → Rose d.out.faults e.out.faults)
    → HasCause (r ≡ Err dump.Failed) d.rack e.rack → NoFaults d e → IsDoneUnlessMemory (dump_answer r)
dumped_complete d e (Ok x) sink rack calm = inl refl
dumped_complete d e (Err dump.Failed) sink rack calm = absurd (calm.rack (rack.rose refl))
dumped_complete d e (Err dump.SinkFault) sink rack calm = absurd (calm.out (sink refl))

-- All passes are done, and the records of the last one's area are written.
pub dump_written : (t : Tells) (task : Task) (d : Devices) (out : SinkView) (before mid look new : RackView) (o : OpenJob) (area : Area)
    (r : Result (Unit {0}) DumpError) → IsWellFormed t.stands t.contents mid → mid.attached ≡ Some (dims_of task.shape)
    → AttachedFrom before mid → o.done ≡ o.passes → area ≡ area_after o.passes → JobLooked t task mid (Ok o) look
    → AreaDumped t task.shape area d.out look r new out
    → TaskCall t verbs.Dump task (record d { rack = before }) (dump_answer r) (record d { out = out; rack = new })
dump_written t task d out before mid look new o area r well attached from all is_last j k = record {
  may = dumped_may r;
  cause = dumped_cause t task (record d { rack = before }) (record d { out = out; rack = new }) r
      (disks_stand t task before mid well attached from) k.sink_fault why;
  done = λ is. record {
    passes = o.passes;
    job = job;
    records = λ sink told. k.done sink told (dumped_ok r is) ∙ ap (λ (z : List ℕ). d.out.taken ++ z) bytes;
    means = λ sink told sound. k.done sink told.1 (dumped_ok r is)
        ∙ ap (λ (z : List ℕ). d.out.taken ++ z) (bytes ∙ made told sound);
    moves = k.moved.moves.done (dumped_ok r is) ∙ ap (λ (n : ℕ). raised n (stripes task.shape)) (j.counts.moves ∙ from.calls.moves);
  };
  leaves = record {
    looks = record { contents = k.state.contents ∙ seen.contents; units = units };
    same = record {
      contents = λ u p. units.contents u tt;
      dirty = λ u p. units.dirty u tt;
    };
    moves = moves_before _ before look new (j.counts.moves ∙ from.calls.moves) (most_of _ _ _ _ _ (omega arith) k.moved.moves);
    written = inr begun;
    unwritten = λ of. absurd (dumped_late r of);
    still = λ of. absurd (dumped_late r (inr of));
    cut = λ is. begun;
    input = refl;
  };
  each = record {
    sound = λ told sound. sound_same look new k.state (j.sound (sound_kept before mid from.disks sound));
    stands = λ told. inl (k.state.stands ∙ j.call.frame.stands ∙ from.disks.stands);
    keeps = Keeps-trans before look new (Keeps-trans before mid look from.keeps j.call.keeps) k.keeps;
    fault = record {
      rose = λ is. why.rose (dumped_failed r is);
      sure = λ steady going is. why.sure steady going (dumped_failed r is);
    };
    calls = λ of. absurd (dumped_late r (inl of));
    grow = CallsGrow-trans before look new (look_grow t task before mid look (Ok o) from j)
        (CallsGrow-rows _ _ look new k.moved);
    unattached = λ is. absurd (dumped_no_memory r is);
    few = λ told. IsRead-none _ d.input.left;
    input_faults = omega arith;
    out_faults = k.sink_faults;
  };
  complete = λ is calm. dumped_complete (record d { rack = before }) (record d { out = out; rack = new }) r k.sink_fault why calm;
}
  where
    why : HasCause (r ≡ Err dump.Failed) before new
    why = HasCause-later _ before look new (Keeps-trans before mid look from.keeps j.call.keeps) k.cause

    seen : OnlyLooks before look
    seen = looks t task before mid look (Ok o) from j

    units : KeepsUnits (λ u. Unit {0}) before new
    units = record {
      contents = λ u p. ap (λ (v : Contents). unit_at v u) k.state.contents ∙ seen.units.contents u p;
      dirty = λ u p clean. ap (λ (f : RackUnit → Bool). f u) k.state.dirty ∙ seen.units.dirty u p clean;
    }

    job : IsTrue t.contents → HasJob task.shape task.job o.passes o.passes before.contents
    job told = subst (λ (n : ℕ). HasJob task.shape task.job o.passes n before.contents) all (job_told t task before mid look o from j told)

    bytes : area_bytes look.contents task.shape area ≡ output_of task before o.passes
    bytes =
        ap (λ (v : Contents). area_bytes v task.shape area) (j.contents ∙ from.disks.contents)
        ∙ ap (λ (a : Area). area_bytes before.contents task.shape a) is_last

    -- on a sound rack they are what the job makes of the input
    made : TellsRack t → IsSound before → output_of task before o.passes ≡ made_of task before
    made told sound =
        bytes_of-same (2 ^ task.shape.n) _ _
        (subst (λ (v : Contents). LastAreaMeans task.shape task.job v o) from.disks.contents
        (j.means told (sound_kept before mid from.disks sound)) all)

    begun : DumpBegun t task (record d { rack = before }) (record d { out = out; rack = new })
    begun = record {
      passes = o.passes;
      job = job;
      records = λ sink told. subst (λ (z : List ℕ). AppendsFront d.out.taken out.taken z) bytes (k.front sink told);
      means = λ sink told sound. subst (λ (z : List ℕ). AppendsFront d.out.taken out.taken z) (bytes ∙ made told sound)
          (k.front sink told.1);
    }
