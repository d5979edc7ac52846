-- Runs of sessions: what they keep, what a refusal says, and what stands where the job was done.
use Rattle.bm_base.specs.Shape.{loads_of}
use Rattle.std.specs.Prelude.{Err, ◌≡◌, ℕ, ◌+◌, ◌-◌, ◌*◌, ◌^◌, ◌<◌, ◌≤◌, false, IsTrue, Some}
use Rattle.bm_base.specs.declared.dims.Dims.{Dims}
use Rattle.bm_base.specs.declared.report.SessionsReport.{SessionsReport}
use Rattle.bm_base.specs.declared.shape.Shape.{Shape}
use Rattle.bm_base.specs.Area.{area_after}
use Rattle.bm_base.specs.Contents.{Contents, RackUnit, unit_at, page_at}
use Rattle.bm_base.specs.Count.{Rose}
use Rattle.bm_base.specs.Gate.{IsOpenGate}
use Rattle.bm_base.specs.Records.{record_at, SameRecords}
use Rattle.bm_forms.specs.declared.job.Job.{Job}
use Rattle.bm_forms.specs.Job.{meaning}
use Rattle.bm_rack.specs.RackView.{RackView, IsClean}
use Rattle.bm_rack.specs.Image.{IsImage, InEveryImage}
use Rattle.bm_control.specs.Consistent.{input_of}
use Rattle.bm_control.specs.Pages.{pass_gate, HasOpenLoad, HasOpenJob, HasClosedJob, HasLoadBody, HasJobBody}
use Rattle.bm_control.specs.Progress.{IsGone, AreGone}
use Rattle.bm_job.specs.declared.answers.RunError.{RunError}
use Rattle.bm_job.specs.Begins.{BeginAnswer}
use Rattle.bm_job.specs.Runs.{IsRunUnit, load_rows}

-- what every session keeps: the rack's sizes and steadiness, and no count falls
pub record SessionsKeep (old new : RackView) : Type 0 where
  pub stands : new.stands ≡ old.stands
  pub attached : new.attached ≡ old.attached
  pub steady : IsTrue old.steady → IsTrue new.steady
  pub faults : old.faults ≤ new.faults
  pub moves : old.moves ≤ new.moves
  pub pages : old.pages ≤ new.pages
  pub syncs : old.syncs ≤ new.syncs

-- what no run writes: where it was clean, it is clean and as it was
abbrev pub KeepsRest : Shape → RackView → RackView → Type 0
KeepsRest s old new = (u : RackUnit) → ¬ IsRunUnit s u → old.dirty u ≡ false → (new.dirty u ≡ false) ×
    (unit_at new.contents u ≡ unit_at old.contents u)

-- there were so many restarts: no more than stops, and some only where calls failed
pub record RestartsFew (stops restarts : ℕ) (old new : RackView) : Type 0 where
  pub few : restarts ≤ stops
  pub cause : 0 < restarts → Rose old.faults new.faults

-- some image of the rack is answered by this refusal where a job is begun on it
pub record IsRefusedOnSome (s : Shape) (job : Job) (passes every : ℕ) (v : RackView) (error : RunError) : Type 0 where
  pub dims : Dims
  pub stands : v.stands ≡ Some dims
  pub image : Contents
  pub is_image : IsImage dims v image
  pub answer : BeginAnswer s job passes every image (Err error)

-- The job is done: the records of the last pass's area are its meaning on the input at entry, the input is as it was, the control file
-- tells it, and nothing is dirty. `loads` is the stored number of loads after which progress is made durable.
pub record SessionsDone (s : Shape) (job : Job) (passes every : ℕ) (r : SessionsReport) (old new : RackView) : Type 0 where
  pub records : SameRecords (2 ^ s.n) (record_at new.contents s (area_after r.passes)) (meaning s.n job (input_of old.contents s))
  pub input : SameRecords (2 ^ s.n) (input_of new.contents s) (input_of old.contents s)
  pub load_body : HasLoadBody s new.contents
  pub load_gate : HasOpenLoad new.contents
  pub job_gate : HasOpenJob new.contents
  pub loads : ℕ
  pub body : HasJobBody s new.contents job r.passes loads
  pub gates : (k : ℕ) → k < r.passes → IsOpenGate (page_at new.contents (pass_gate k))
  pub clean : IsClean new
  -- 2M/BD for each load of all passes, but for those that were gone in every image at entry, and for `loads` loads with each restart
  pub moves : (least : ℕ) → AreGone least old → r.moves ≤ load_rows s (r.passes * loads_of s - least + loads * r.restarts)
  -- with no restart 2M/BD for each load that was left, unless the count stands still at its last value
  pub exact : r.restarts ≡ 0 → new.moves < 2 ^ 64 - 1 → (gone : ℕ) → IsGone old.contents gone
      → r.moves ≡ load_rows s (r.passes * loads_of s - gone)
  -- where no job was open these are the call's
  pub fresh : InEveryImage HasClosedJob old → (r.passes ≡ passes) × (loads ≡ every)
