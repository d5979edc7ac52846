-- Commands that look at the open job.
use Rattle.std.proofs.Common.{Ok, Err, ◌≡◌, ◌≢◌, inl, ℕ, ◌≤◌, IsTrue, Result, IsOk, IfOk, refl, sym, ap, subst, ◌∙◌, arith}
use Rattle.bm_base.specs.Contents.{Contents}
use Rattle.bm_base.specs.Count.{Rose}
use Rattle.bm_base.specs.Shape.{dims_of}
use Rattle.bm_base.proofs.CountLemmas.{rose_earlier}
use Rattle.bm_rack.specs.RackView.{RackView}
use Rattle.bm_rack.specs.Frames.{Keeps, RackCall, HasCause, MakesPageCalls, CallsGrow}
use Rattle.bm_rack.specs.Image.{SameInput}
use Rattle.bm_rack.proofs.FrameLemmas.{Keeps-trans, HasCause-later}
use Rattle.bm_control.specs.declared.state.SlateState.TheVariants.{Working}
use Rattle.bm_control.specs.Sound.{IsSound}
use Rattle.bm_control.specs.State.{StateAnswer}
use Rattle.bm_disks.specs.declared.job_opening.OpenJob.{OpenJob}
use Rattle.bm_disks.specs.declared.job_opening.OpenError.{OpenError}
use Rattle.bm_disks.specs.declared.job_opening.OpenError.TheVariants as opening
use Rattle.bm_disks.specs.JobOpening.{OpenAnswer, IsOpenCase, LastAreaMeans}
use Rattle.bm_top.specs.Causes.{CauseOf, HasDisks, HasJob, HasOtherShape, HasOtherJob, HasBadPage}
use Rattle.bm_top.specs.DiskStatus.{open_status}
use Rattle.bm_top.specs.Exits.{AttachedFrom, EachExit}
use Rattle.bm_top.specs.Moment.{Devices, SinkView, Tells, TellsRack}
use Rattle.bm_top.specs.TopCall.{IsDoneUnlessMemory}
use Rattle.bm_top.specs.Status.{IsBeforeDisks}
use Rattle.bm_top.specs.commands.Status.{StatusMay, OnlyLooks}
use Rattle.bm_top.specs.declared.task.Task.{Task}
use Rattle.bm_top.specs.declared.words.Verb.{Verb}
use Rattle.bm_top.specs.declared.words.Verb.TheVariants as verbs
use Rattle.bm_top.specs.declared.status.Status.{Status}
use Rattle.bm_top.specs.declared.status.Status.TheVariants.{Done, RackFault, SinkFault}
use Rattle.bm_top.proofs.AttachedLemmas.{units_after, input_after}
use Rattle.bm_top.proofs.ExitLemmas.{IsRead-none}
use Rattle.bm_rack.proofs.CallLemmas.{CallsGrow-same, CallsGrow-trans, CallsGrow-pages}
use Rattle.bm_top.proofs.SameDisksLemmas.{sound_kept}

-- what a look at the job said of attached disks
pub record JobLooked (t : Tells) (task : Task) (mid : RackView) (r : Result OpenJob OpenError) (new : RackView) : Type 0 where
  pub answer : IsTrue t.contents → OpenAnswer task.shape task.job mid.contents r
  pub good : TellsRack t → IsSound mid → (page : ℕ) → ¬ (r ≡ Err (opening.BadPage page))
  pub complete : TellsRack t → IsSound mid → IsOpenCase task.shape task.job mid.contents → ¬ Rose mid.faults new.faults → IsOk r
  pub contents : new.contents ≡ mid.contents
  pub sound : IsSound mid → IsSound new
  pub call : RackCall (λ u. ⊥) (r ≡ Err opening.Failed) mid new
  pub means : TellsRack t → IsSound mid → IfOk r (λ o. LastAreaMeans task.shape task.job mid.contents o)
  pub counts : MakesPageCalls ⊥ 516 1 mid new

-- it looks at the disks, and leaves them
pub looks : (t : Tells) (task : Task) (before mid new : RackView) (r : Result OpenJob OpenError) → AttachedFrom before mid
    → JobLooked t task mid r new → OnlyLooks before new
looks t task before mid new r from j = record {
  contents = j.contents ∙ from.disks.contents;
  units = units_after (λ u. Unit {0}) before mid new from (λ u p. j.call.frame.contents u (λ e. e)) (λ u p. j.call.frame.dirty u (λ e. e));
}

pub looks_same : (t : Tells) (task : Task) (before mid new : RackView) (r : Result OpenJob OpenError) → AttachedFrom before mid
    → JobLooked t task mid r new → SameInput (dims_of task.shape) before new
looks_same t task before mid new r from j =
    input_after (dims_of task.shape) before mid new from (record {
      contents = λ u p. j.call.frame.contents u (λ e. e);
      dirty = λ u p. j.call.frame.dirty u (λ e. e);
    })

-- the job that is open, as it was told
pub job_told : (t : Tells) (task : Task) (before mid new : RackView) (o : OpenJob) → AttachedFrom before mid → JobLooked t task mid
    (Ok o) new
    → IsTrue t.contents → HasJob task.shape task.job o.passes o.done before.contents
job_told t task before mid new o from j told =
    let answer = j.answer told in
    record {
      every = o.every;
      part = o.part;
      slot = answer.0;
      working = subst
          (λ (v : Contents). StateAnswer v (Ok (Working task.shape task.job o.passes o.done o.every o.part answer.0)))
          from.disks.contents answer.1;
    }

-- what the control file says of a refusal, at the moment before
told_before : (task : Task) (before mid : RackView) (e : OpenError) → AttachedFrom before mid
    → OpenAnswer task.shape task.job mid.contents (Err e) → OpenAnswer task.shape task.job before.contents (Err e)
told_before task before mid e from answer =
    subst (λ (v : Contents). OpenAnswer task.shape task.job v (Err e)) from.disks.contents answer

other_shape : (task : Task) (v : Contents) → OpenAnswer task.shape task.job v (Err opening.OtherShape) → HasOtherShape task.shape v
other_shape task v answer = record {
  state = answer.0;
  told = answer.1;
  other = answer.2.0;
  loaded = answer.2.1;
  differs = answer.2.2;
}

other_job : (task : Task) (v : Contents) → OpenAnswer task.shape task.job v (Err opening.OtherJob) → HasOtherJob task.shape task.job v
other_job task v answer = record {
  state = answer.0;
  told = answer.1;
  loaded = answer.2;
  other = answer.3.0;
  opened = answer.3.1;
  differs = answer.3.2;
}

bad_page : (t : Tells) (task : Task) (before mid new : RackView) (page : ℕ) → AttachedFrom before mid
    → JobLooked t task mid (Err (opening.BadPage page)) new → IsTrue t.contents → HasBadPage t before new page
bad_page t task before mid new page from j told = record {
  unsound = λ tells sound. j.good tells (sound_kept before mid from.disks sound) page refl;
  wrong = told_before task before mid (opening.BadPage page) from (j.answer told);
  same = record { contents = j.contents ∙ from.disks.contents; moves = j.counts.moves ∙ from.calls.moves };
}

-- the commands that look at what is loaded and open
abbrev pub Looks : Verb → Type 0
Looks verbs.Status = Unit {0}
Looks verbs.Dump = Unit {0}
Looks verbs.Detect = Unit {0}
Looks _ = ⊥

-- why such a command is refused
pub look_cause : (t : Tells) (verb : Verb) (task : Task) (d e : Devices) (mid : RackView) (error : OpenError) → Looks verb
    → AttachedFrom d.rack mid → HasDisks t verb task d → JobLooked t task mid (Err error) e.rack
    → HasCause (◌≡◌ {A = Result OpenJob OpenError} (Err error) (Err opening.Failed)) d.rack e.rack → CauseOf t verb task d
    (open_status error) e
look_cause t verbs.New task d e mid error is from stand j why = absurd is
look_cause t verbs.Load task d e mid error is from stand j why = absurd is
look_cause t verbs.Plan task d e mid error is from stand j why = absurd is
look_cause t verbs.Run task d e mid error is from stand j why = absurd is
look_cause t verbs.Drop task d e mid error is from stand j why = absurd is
look_cause t verbs.Carry task d e mid error is from stand j why = absurd is
look_cause t verbs.Drill task d e mid error is from stand j why = absurd is
look_cause t verbs.Status task d e mid opening.Failed is from stand j why = why.rose refl
look_cause t verbs.Status task d e mid (opening.BadPage page) is from stand j why = (stand, bad_page t task d.rack mid e.rack page from j)
look_cause t verbs.Status task d e mid opening.NotLoaded is from stand j why =
    (stand, λ told. told_before task d.rack mid opening.NotLoaded from (j.answer told))
look_cause t verbs.Status task d e mid opening.OtherShape is from stand j why =
    (stand, λ told. other_shape task d.rack.contents (told_before task d.rack mid opening.OtherShape from (j.answer told)))
look_cause t verbs.Status task d e mid opening.NoJob is from stand j why =
    (stand, λ told. told_before task d.rack mid opening.NoJob from (j.answer told))
look_cause t verbs.Status task d e mid opening.OtherJob is from stand j why =
    (stand, λ told. other_job task d.rack.contents (told_before task d.rack mid opening.OtherJob from (j.answer told)))
look_cause t verbs.Dump task d e mid opening.Failed is from stand j why = why.rose refl
look_cause t verbs.Dump task d e mid (opening.BadPage page) is from stand j why = (stand, bad_page t task d.rack mid e.rack page from j)
look_cause t verbs.Dump task d e mid opening.NotLoaded is from stand j why =
    (stand, λ told. told_before task d.rack mid opening.NotLoaded from (j.answer told))
look_cause t verbs.Dump task d e mid opening.OtherShape is from stand j why =
    (stand, λ told. other_shape task d.rack.contents (told_before task d.rack mid opening.OtherShape from (j.answer told)))
look_cause t verbs.Dump task d e mid opening.NoJob is from stand j why =
    (stand, λ told. told_before task d.rack mid opening.NoJob from (j.answer told))
look_cause t verbs.Dump task d e mid opening.OtherJob is from stand j why =
    (stand, λ told. other_job task d.rack.contents (told_before task d.rack mid opening.OtherJob from (j.answer told)))
look_cause t verbs.Detect task d e mid opening.Failed is from stand j why = why.rose refl
look_cause t verbs.Detect task d e mid (opening.BadPage page) is from stand j why = (stand, bad_page t task d.rack mid e.rack page from j)
look_cause t verbs.Detect task d e mid opening.NotLoaded is from stand j why =
    (stand, λ told. told_before task d.rack mid opening.NotLoaded from (j.answer told))
look_cause t verbs.Detect task d e mid opening.OtherShape is from stand j why =
    (stand, λ told. other_shape task d.rack.contents (told_before task d.rack mid opening.OtherShape from (j.answer told)))
look_cause t verbs.Detect task d e mid opening.NoJob is from stand j why =
    (stand, λ told. told_before task d.rack mid opening.NoJob from (j.answer told))
look_cause t verbs.Detect task d e mid opening.OtherJob is from stand j why =
    (stand, λ told. other_job task d.rack.contents (told_before task d.rack mid opening.OtherJob from (j.answer told)))

-- such a refusal is no other answer
pub look_may : (error : OpenError) → StatusMay (open_status error)
look_may opening.Failed = tt
look_may (opening.BadPage page) = tt
look_may opening.NotLoaded = tt
look_may opening.OtherShape = tt
look_may opening.NoJob = tt
look_may opening.OtherJob = tt

pub look_not_done : (error : OpenError) → open_status error ≢ Done
look_not_done opening.Failed is = (cc)
look_not_done (opening.BadPage page) is = (cc)
look_not_done opening.NotLoaded is = (cc)
look_not_done opening.OtherShape is = (cc)
look_not_done opening.NoJob is = (cc)
look_not_done opening.OtherJob is = (cc)

pub look_not_sink : (error : OpenError) → open_status error ≢ SinkFault
look_not_sink opening.Failed is = (cc)
look_not_sink (opening.BadPage page) is = (cc)
look_not_sink opening.NotLoaded is = (cc)
look_not_sink opening.OtherShape is = (cc)
look_not_sink opening.NoJob is = (cc)
look_not_sink opening.OtherJob is = (cc)

look_late : (error : OpenError) → ¬ IsBeforeDisks (open_status error)
look_late opening.Failed of = of
look_late (opening.BadPage page) of = of
look_late opening.NotLoaded of = of
look_late opening.OtherShape of = of
look_late opening.NoJob of = of
look_late opening.OtherJob of = of

failed_by : (error : OpenError) → open_status error ≡ RackFault → error ≡ opening.Failed
failed_by opening.Failed is = refl
failed_by (opening.BadPage page) is = absurd (cc)
failed_by opening.NotLoaded is = absurd (cc)
failed_by opening.OtherShape is = absurd (cc)
failed_by opening.NoJob is = absurd (cc)
failed_by opening.OtherJob is = absurd (cc)

-- no count of calls fell in a look
pub look_grow : (t : Tells) (task : Task) (before mid new : RackView) (r : Result OpenJob OpenError) → AttachedFrom before mid
    → JobLooked t task mid r new → CallsGrow before new
look_grow t task before mid new r from j = CallsGrow-trans before mid new (CallsGrow-same before mid from.calls)
    (CallsGrow-pages _ _ _ mid new j.counts)

-- each exit of a command that looked, whatever it answers then
pub look_each : (t : Tells) (verb : Verb) (task : Task) (answer : Status) (d : Devices) (before mid new : RackView) (out : SinkView)
    (r : Result OpenJob OpenError) → AttachedFrom before mid → JobLooked t task mid r new → HasCause (answer ≡ RackFault) before new
    → ¬ IsBeforeDisks answer → d.out.faults ≤ out.faults
    → EachExit t verb task (record d { rack = before }) answer (record d { out = out; rack = new })
look_each t verb task answer d before mid new out r from j why late more = record {
  sound = λ told sound. j.sound (sound_kept before mid from.disks sound);
  stands = λ told. inl (j.call.frame.stands ∙ from.disks.stands);
  keeps = Keeps-trans before mid new from.keeps j.call.keeps;
  fault = why;
  calls = λ of. absurd (late of);
  grow = look_grow t task before mid new r from j;
  unattached = λ is. absurd (late (subst IsBeforeDisks (sym is) tt));
  few = λ told. IsRead-none _ d.input.left;
  input_faults = omega arith;
  out_faults = more;
}

-- a refusal's cause
pub look_fault : (before mid new : RackView) (error : OpenError) → Keeps before mid
    → HasCause (◌≡◌ {A = Result OpenJob OpenError} (Err error) (Err opening.Failed)) mid new → HasCause
    (open_status error ≡ RackFault) before new
look_fault before mid new error keeps cause =
    let why = HasCause-later _ before mid new keeps cause in
    record {
      rose = λ is. why.rose (ap Err (failed_by error is));
      sure = λ steady going is. why.sure steady going (ap Err (failed_by error is));
    }

pub look_refused : (t : Tells) (verb : Verb) (task : Task) (d : Devices) (before mid new : RackView) (error : OpenError)
    → AttachedFrom before mid → JobLooked t task mid (Err error) new
    → EachExit t verb task (record d { rack = before }) (open_status error) (record d { rack = new })
look_refused t verb task d before mid new error from j =
    look_each t verb task (open_status error) d before mid new d.out (Err error) from j
    (look_fault before mid new error from.keeps j.call.cause)
    (look_late error) (omega arith)

-- a job that is open is not refused, where the rack did not fail
pub look_complete : (t : Tells) (task : Task) (before mid new : RackView) (error : OpenError) → AttachedFrom before mid
    → JobLooked t task mid (Err error) new → TellsRack t → IsSound before → IsOpenCase task.shape task.job before.contents
    → ¬ Rose before.faults new.faults → IsDoneUnlessMemory (open_status error)
look_complete t task before mid new error from j told sound opened calm =
    absurd (no_ok (j.complete told (sound_kept before mid from.disks sound)
    (subst (λ (v : Contents). IsOpenCase task.shape task.job v) (sym from.disks.contents) opened)
    (λ rose. calm (rose_earlier before.faults mid.faults new.faults from.keeps.faults rose))))
  where
    no_ok : ¬ IsOk {T = OpenJob} {E = OpenError} (Err error)
    no_ok is = (cc)
