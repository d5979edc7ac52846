-- What the command `detect` sees of the records that are loaded.
use Rattle.std.proofs.Common.{Ok, Err, ◌≡◌, inr, Some, Result, refl, sym, ap, subst, ◌∙◌}
use Rattle.bm_base.specs.Contents.{Contents}
use Rattle.bm_base.specs.Count.{Rose}
use Rattle.bm_base.specs.Shape.{dims_of}
use Rattle.bm_base.proofs.CountLemmas.{rose_earlier}
use Rattle.bm_rack.specs.RackView.{RackView, IsWellFormed}
use Rattle.bm_rack.proofs.FrameLemmas.{Keeps-trans, HasCause-later}
use Rattle.bm_control.specs.declared.state.SlateState.TheVariants.{Loaded, Working}
use Rattle.bm_control.specs.Pages.{HasOpenLoad, HasLoadBody}
use Rattle.bm_control.specs.Sound.{IsSound}
use Rattle.bm_disks.specs.declared.job_opening.OpenJob.{OpenJob}
use Rattle.bm_disks.specs.declared.job_opening.OpenError.{OpenError}
use Rattle.bm_disks.specs.declared.job_opening.OpenError.TheVariants as opening
use Rattle.bm_disks.specs.JobOpening.{OpenAnswer}
use Rattle.bm_job.proofs.EndLemmas.{loaded_shape}
use Rattle.bm_top.specs.Causes.{HasLoadedShape}
use Rattle.bm_top.specs.DiskStatus.{open_status}
use Rattle.bm_top.specs.Exits.{AttachedFrom}
use Rattle.bm_top.specs.Moment.{Devices, Tells, TellsRack}
use Rattle.bm_top.specs.TopCall.{TaskCall, IsDoneUnlessMemory}
use Rattle.bm_top.specs.commands.Detect.{DetectMay, IsSeenFrom, loaded_of}
use Rattle.bm_top.specs.declared.task.Task.{Task}
use Rattle.bm_top.specs.declared.words.Verb.TheVariants as verbs
use Rattle.bm_top.proofs.AttachedLemmas.{disks_stand}
use Rattle.bm_top.proofs.DumpLemmas.{few_none}
use Rattle.bm_top.proofs.LookLemmas.{JobLooked, looks, looks_same, look_cause, look_not_done, look_not_sink, look_grow, look_refused}
use Rattle.bm_top.proofs.SameDisksLemmas.{sound_kept}

-- what was refused, and that it is none of the refusals that a job alone has
pub record IsNotLoaded (r : Result OpenJob OpenError) (error : OpenError) : Type 0 where
  pub is : r ≡ Err error
  pub may : DetectMay (open_status error)

not_loaded : (r : Result OpenJob OpenError) (error : OpenError) → loaded_of r ≡ Err error → IsNotLoaded r error
not_loaded (Ok job) error is = absurd (cc)
not_loaded (Err opening.NoJob) error is = absurd (cc)
not_loaded (Err opening.OtherJob) error is = absurd (cc)
not_loaded (Err opening.Failed) error is =
    let same : opening.Failed ≡ error = cc in record {
      is = ap Err same;
      may = subst (λ (e : OpenError). DetectMay (open_status e)) same tt;
    }
not_loaded (Err (opening.BadPage page)) error is =
    let same : opening.BadPage page ≡ error = cc in
    record { is = ap Err same; may = subst (λ (e : OpenError). DetectMay (open_status e)) same tt }
not_loaded (Err opening.NotLoaded) error is =
    let same : opening.NotLoaded ≡ error = cc in record {
      is = ap Err same;
      may = subst (λ (e : OpenError). DetectMay (open_status e)) same
          tt;
    }
not_loaded (Err opening.OtherShape) error is =
    let same : opening.OtherShape ≡ error = cc in record {
      is = ap Err same;
      may = subst (λ (e : OpenError). DetectMay (open_status e)) same
          tt;
    }

-- records that are loaded are found, where the rack did not fail
found : (t : Tells) (task : Task) (before mid new : RackView) (error : OpenError) → AttachedFrom before mid
    → JobLooked t task mid (Err error) new → DetectMay (open_status error) → TellsRack t → IsSound before
    → HasOpenLoad before.contents → HasLoadBody task.shape before.contents → ¬ Rose before.faults new.faults
    → IsDoneUnlessMemory (open_status error)
found t task before mid new opening.Failed from j may told sound gate body calm =
    absurd (calm (rose_earlier before.faults mid.faults new.faults from.keeps.faults (j.call.cause.rose refl)))
found t task before mid new (opening.BadPage page) from j may told sound gate body calm =
    absurd (j.good told (sound_kept before mid from.disks sound) page refl)
found t task before mid new opening.NotLoaded from j may told sound gate body calm =
    absurd (j.answer told.1 (subst HasOpenLoad (sym from.disks.contents) gate))
found t task before mid new opening.OtherShape from j may told sound gate body calm =
    let answer = j.answer told.1 in
    absurd (answer.2.2 (loaded_shape task.shape answer.2.0 mid.contents answer.0 answer.1 answer.2.1
    (subst (HasLoadBody task.shape) (sym from.disks.contents) body)))
found t task before mid new opening.NoJob from j may told sound gate body calm = absurd may
found t task before mid new opening.OtherJob from j may told sound gate body calm = absurd may

detect_unloaded : (t : Tells) (task : Task) (d : Devices) (before mid new : RackView) (error : OpenError)
    → IsWellFormed t.stands t.contents mid → mid.attached ≡ Some (dims_of task.shape) → AttachedFrom before mid
    → DetectMay (open_status error) → JobLooked t task mid (Err error) new
    → TaskCall t verbs.Detect task (record d { rack = before }) (open_status error) (record d { rack = new })
detect_unloaded t task d before mid new error well attached from may j = record {
  may = may;
  cause = look_cause t verbs.Detect task (record d { rack = before }) (record d { rack = new }) mid error tt from
      (disks_stand t task before mid well attached from) j (HasCause-later _ before mid new from.keeps j.call.cause);
  done = λ is. absurd (look_not_done error is);
  leaves = record {
    looks = looks t task before mid new (Err error) from j;
    same = looks_same t task before mid new (Err error) from j;
    moves = few_none t.stands t.contents _ before mid new well from j.counts.moves;
    still = λ of. j.counts.moves ∙ from.calls.moves;
    cut = λ is. absurd (look_not_sink error is);
    unwritten = inr (inr refl);
    input = refl;
  };
  each = look_refused t verbs.Detect task d before mid new error from j;
  complete = λ is calm. found t task before mid new error from j may is.told is.sound is.load_gate is.load_body calm.rack;
}

-- no records of the shape are loaded
pub detect_refused : (t : Tells) (task : Task) (d : Devices) (before mid new : RackView) (r : Result OpenJob OpenError) (error : OpenError)
    → IsWellFormed t.stands t.contents mid → mid.attached ≡ Some (dims_of task.shape) → AttachedFrom before mid
    → loaded_of r ≡ Err error → JobLooked t task mid r new
    → TaskCall t verbs.Detect task (record d { rack = before }) (open_status error) (record d { rack = new })
detect_refused t task d before mid new r error well attached from is j =
    let not = not_loaded r error is in
    detect_unloaded t task d before mid new error well attached from not.may
    (subst (λ (x : Result OpenJob OpenError). JobLooked t task mid x new) not.is j)

-- ---- records that are loaded

loaded_told : (task : Task) (v : Contents) (r : Result OpenJob OpenError) → loaded_of r ≡ Ok tt → OpenAnswer task.shape task.job v r
    → HasLoadedShape task.shape v
loaded_told task v (Ok o) is answer = record {
  state = Working task.shape task.job o.passes o.done o.every o.part answer.0;
  told = answer.1;
  loaded = refl;
}
loaded_told task v (Err opening.NoJob) is answer = record { state = Loaded task.shape; told = answer; loaded = refl }
loaded_told task v (Err opening.OtherJob) is answer = record { state = answer.0; told = answer.1; loaded = answer.2 }
loaded_told task v (Err opening.Failed) is answer = absurd (cc)
loaded_told task v (Err (opening.BadPage page)) is answer = absurd (cc)
loaded_told task v (Err opening.NotLoaded) is answer = absurd (cc)
loaded_told task v (Err opening.OtherShape) is answer = absurd (cc)

-- records of the shape were seen
pub seen_from : (t : Tells) (task : Task) (before mid new : RackView) (r : Result OpenJob OpenError)
    → IsWellFormed t.stands t.contents mid → mid.attached ≡ Some (dims_of task.shape) → AttachedFrom before mid
    → loaded_of r ≡ Ok tt → JobLooked t task mid r new → IsSeenFrom t task before new
seen_from t task before mid new r well attached from is j = record {
  stood = disks_stand t task before mid well attached from;
  loaded = λ told. subst (HasLoadedShape task.shape) from.disks.contents (loaded_told task mid.contents r is (j.answer told));
  stands = j.call.frame.stands ∙ from.disks.stands;
  looks = looks t task before mid new r from j;
  sound = λ sound. j.sound (sound_kept before mid from.disks sound);
  moves = j.counts.moves ∙ from.calls.moves;
  grow = look_grow t task before mid new r from j;
  keeps = Keeps-trans before mid new from.keeps j.call.keeps;
}
