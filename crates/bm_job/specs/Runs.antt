-- What a run answers and does.
use Rattle.std.specs.Prelude.{Ok, Err, ◌≡◌, ◌≢◌, ◌⊎◌, ℕ, ◌+◌, ◌-◌, ◌*◌, ◌%◌, ◌^◌, ◌<◌, ◌≤◌, false, List, Result, Some}
use Rattle.std.specs.Int.{div_ceil}
use Rattle.bm_base.specs.declared.dims.Dims.{Dims}
use Rattle.bm_base.specs.declared.shape.Shape.{Shape}
use Rattle.bm_base.specs.declared.area.Area.TheVariants.{One, Two}
use Rattle.bm_base.specs.declared.report.RunReport.{RunReport}
use Rattle.bm_base.specs.Area.{area_after}
use Rattle.bm_base.specs.Contents.{Contents, RackUnit, block_unit, page_unit, page_at}
use Rattle.bm_base.specs.Count.{raised}
use Rattle.bm_base.specs.Gate.{IsOpenGate}
use Rattle.bm_base.specs.Records.{record_at, SameRecords}
use Rattle.bm_base.specs.Shape.{stripes, load_stripes, loads_of}
use Rattle.bm_forms.specs.declared.job.Job.{Job}
use Rattle.bm_forms.specs.Job.{meaning}
use Rattle.bm_forms.specs.PassLimit.{limit_of}
use Rattle.bm_rack.specs.RackView.{RackView, IsClean}
use Rattle.bm_rack.specs.Frames.{CallsFew}
use Rattle.bm_rack.specs.Image.{IsImage, InEveryImage}
use Rattle.bm_stripe.specs.Units.{IsAreaUnit}
use Rattle.bm_control.specs.declared.state.SlateState.TheVariants.{Loaded, Working}
use Rattle.bm_control.specs.Consistent.{input_of}
use Rattle.bm_control.specs.Progress.{IsGone, AreGone}
use Rattle.bm_control.specs.State.{StateAnswer}
use Rattle.bm_job.specs.declared.machine.Machine.{Machine}
use Rattle.bm_job.specs.declared.answers.RunError.{RunError}
use Rattle.bm_job.specs.declared.answers.RunError.TheVariants.{Failed, NotLoaded, OtherShape, OtherJob, BadPage}
use Rattle.bm_job.specs.Follows.{loads_moved, loads_counted}
use Rattle.bm_job.specs.Begins.{BeginAnswer}
use Rattle.bm_job.specs.Turns.{SameJob}
use Rattle.bm_control.specs.Pages.{job_body, job_gate, pass_gate, slot_body, HasOpenLoad, HasOpenJob, HasClosedJob, HasLoadBody, HasJobBody}

-- ---- what is written

-- a page that shows progress: a pass's gate, or a page of the slots
abbrev pub IsProgressPage : RackUnit → Type 0
IsProgressPage (block_unit disk place) = ⊥
IsProgressPage (page_unit page) = (pass_gate 0 ≤ page) × ((page % 2 ≡ 1) ⊎ (slot_body 0 ≤ page))

-- what the turns of a job write: areas One and Two, and pages that show progress
abbrev pub IsWorkUnit : Shape → RackUnit → Type 0
IsWorkUnit s u = IsAreaUnit s One u ⊎ (IsAreaUnit s Two u ⊎ IsProgressPage u)

-- a page of jobs: each but the load body and its gate
abbrev pub IsJobsPage : RackUnit → Type 0
IsJobsPage (block_unit disk place) = ⊥
IsJobsPage (page_unit page) = job_body ≤ page

-- what a run writes: areas One and Two, and pages of jobs
abbrev pub IsRunUnit : Shape → RackUnit → Type 0
IsRunUnit s u = IsAreaUnit s One u ⊎ (IsAreaUnit s Two u ⊎ IsJobsPage u)

-- ---- how many calls

-- how often progress is made durable within a pass: N/M over the number of loads, rounded up, less 1
abbrev pub marks_of : Shape → ℕ → ℕ
marks_of s every = div_ceil (loads_of s) every - 1

-- the page calls and the syncs of the turns of so many passes, at most
abbrev pub turn_pages : Shape → ℕ → ℕ → ℕ
turn_pages s passes every = passes * (2 + 4 * marks_of s every) + 1

abbrev pub turn_syncs : Shape → ℕ → ℕ → ℕ
turn_syncs s passes every = passes * (2 + 3 * marks_of s every)

-- those of a run with so many passes, at most
abbrev pub run_pages : Shape → ℕ → ℕ → ℕ
run_pages s passes every = 5 * passes + 4 * passes * marks_of s every + 11

abbrev pub run_syncs : Shape → ℕ → ℕ → ℕ
run_syncs s passes every = 2 * passes + 3 * passes * marks_of s every + 4

-- those of a run on any rack, told or not, at most: of the greatest number of passes, with progress made durable after each load
abbrev pub most_pages : Shape → Job → ℕ
most_pages s job = 517 + limit_of s job * (2 + 4 * (loads_of s - 1))

abbrev pub most_syncs : Shape → Job → ℕ
most_syncs s job = 3 + limit_of s job * (2 + 3 * (loads_of s - 1))

-- The page calls and syncs at most, whatever is answered: by the plan's passes and the call's number of loads where no job is open or its
-- body is none, else by the open job's.
pub record RunCalls (s : Shape) (v : Contents) (passes every : ℕ) (old new : RackView) : Type 0 where
  pub none : HasClosedJob v → CallsFew (run_pages s passes every) (run_syncs s passes every) old new
  pub bare : ((t : Shape) (job : Job) (p q : ℕ) → HasLoadBody t v → ¬ HasJobBody t v job p q)
      → CallsFew (run_pages s passes every) (run_syncs s passes every) old new
  pub opened : HasOpenJob v → (t : Shape) (job : Job) (p q : ℕ) → HasLoadBody t v
      → HasJobBody t v job p q → CallsFew (run_pages t p q) (run_syncs t p q) old new

-- the loads that are left to a machine
abbrev pub loads_left : Machine → ℕ
loads_left m = m.passes * loads_of m.shape - loads_moved m

-- the row calls of so many loads
abbrev pub load_rows : Shape → ℕ → ℕ
load_rows s loads = 2 * load_stripes s * loads

-- the row calls that a run never exceeds: 2N/BD for each pass of the pass limit
abbrev pub run_most : Shape → Job → ℕ
run_most s job = 2 * stripes s * limit_of s job

-- ---- reports and answers

-- the loads that were done before a session
abbrev pub loads_before : Shape → RunReport → ℕ
loads_before s r = r.done_before * loads_of s + r.part_before

-- The numbers of a report keep their ranges, on every rack, told or not. Its moves are those of the loads that were left, whole and exact.
pub record ReportFits (s : Shape) (job : Job) (r : RunReport) : Type 0 where
  pub passes_some : 1 ≤ r.passes
  pub passes_few : r.passes ≤ limit_of s job
  pub done_few : r.done_before ≤ r.passes
  pub part_few : r.part_before < loads_of s
  pub within : loads_before s r ≤ r.passes * loads_of s
  pub moves : r.moves ≡ load_rows s (r.passes * loads_of s - loads_before s r)

-- What a report says of the contents at entry, on which a job is run with such a plan and number of loads: it was loaded and no job was
-- open, or this job was open with this progress.
abbrev pub IsReportOf : Shape → Job → ℕ → Contents → RunReport → Type 0
IsReportOf s job passes v r =
    (StateAnswer v (Ok (Loaded s)) × (r.passes ≡ passes) × (r.done_before ≡ 0) × (r.part_before ≡ 0))
    ⊎ ((every slot : ℕ) × StateAnswer v (Ok (Working s job r.passes r.done_before every r.part_before slot)))

-- neither the contents nor the count of row calls changed
pub record SameContents (old new : RackView) : Type 0 where
  pub contents : new.contents ≡ old.contents
  pub moves : new.moves ≡ old.moves

-- What is answered of a run: the report, or the refusal, in the order of the tests. A refusal by what the control file tells leaves the
-- contents, and makes no row call.
abbrev pub RunAnswer : Shape → Job → ℕ → ℕ → RackView → RackView → Result RunReport RunError → Type 0
RunAnswer s job passes every old new (Ok r) = IsReportOf s job passes old.contents r
RunAnswer s job passes every old new (Err Failed) = Unit {0}
RunAnswer s job passes every old new (Err NotLoaded) = BeginAnswer s job passes every old.contents (Err NotLoaded) × SameContents old new
RunAnswer s job passes every old new (Err OtherShape) = BeginAnswer s job passes every old.contents (Err OtherShape) × SameContents old new
RunAnswer s job passes every old new (Err OtherJob) = BeginAnswer s job passes every old.contents (Err OtherJob) × SameContents old new
RunAnswer s job passes every old new (Err (BadPage page)) =
    BeginAnswer s job passes every old.contents (Err (BadPage page)) × SameContents old new

-- The refusals by what the control file tells leave contents and row calls also on a rack that tells nothing.
abbrev pub RefusalKeeps : RackView → RackView → RunError → Type 0
RefusalKeeps old new Failed = Unit {0}
RefusalKeeps old new NotLoaded = SameContents old new
RefusalKeeps old new OtherShape = SameContents old new
RefusalKeeps old new OtherJob = SameContents old new
RefusalKeeps old new (BadPage page) = Unit {0}

-- a shape is loaded, and no job or this one is open
pub record IsRunnable (s : Shape) (job : Job) (v : Contents) : Type 0 where
  pub load_gate : HasOpenLoad v
  pub load_body : HasLoadBody s v
  pub job_gate : HasClosedJob v ⊎ ((passes every : ℕ) × HasJobBody s v job passes every)

-- ---- what stands after a run

-- After a run that succeeded: the records are the job's meaning on the input, the input is as before, and the control file tells it.
-- Nothing is dirty. Where no job was open the plan's passes were run, with the number of loads of the call; else the stored ones.
pub record RunDone (s : Shape) (job : Job) (passes every : ℕ) (r : RunReport) (old new : RackView) : Type 0 where
  pub records : SameRecords (2 ^ s.n) (record_at new.contents s (area_after r.passes)) (meaning s.n job (input_of old.contents s))
  pub input : SameRecords (2 ^ s.n) (input_of new.contents s) (input_of old.contents s)
  pub load_body : HasLoadBody s new.contents
  pub load_gate : HasOpenLoad new.contents
  pub job_gate : HasOpenJob new.contents
  pub loads : ℕ
  pub body : HasJobBody s new.contents job r.passes loads
  pub gates : (k : ℕ) → k < r.passes → IsOpenGate (page_at new.contents (pass_gate k))
  pub clean : IsClean new
  pub fresh : HasClosedJob old.contents → (r.passes ≡ passes) × (loads ≡ every)
  pub stored : HasOpenJob old.contents → page_at new.contents job_body ≡ page_at old.contents job_body

-- How far a run came that the rack's failure ended. Its row calls are paid for by progress that no stop loses, but for fewer loads than
-- those between two moments at which progress is made durable, and one that failed. Where another shape is loaded, and where a stop may
-- leave no open job, it made none.
pub record RunFailed (s : Shape) (old new : RackView) : Type 0 where
  -- what was gone in every image before is gone in every image
  pub grows : (least : ℕ) → AreGone least old → AreGone least new
  -- and each image pays for the row calls
  pub rows : InEveryImage HasOpenJob new → (job : Job) (passes every : ℕ) → HasJobBody s new.contents job passes every
      → (least : ℕ) → AreGone least old
      → InEveryImage (λ image. (gone : ℕ) → IsGone image gone → new.moves ≤ raised old.moves (load_rows s (gone - least + every))) new
  pub other_shape : (t : Shape) → HasLoadBody t new.contents → t ≢ s → new.moves ≡ old.moves
  pub none : (dims : Dims) (image : Contents) → new.stands ≡ Some dims → IsImage dims new image → HasClosedJob image
      → new.moves ≡ old.moves

-- an image in which a job is open has this page as its job body
pub record HasOpenBody (dims : Dims) (v : RackView) (page : List ℕ) : Type 0 where
  pub image : Contents
  pub is_image : IsImage dims v image
  pub opened : HasOpenJob image
  pub body : page_at image job_body ≡ page

-- The jobs that images at the end have open: each has a job body from before, or that of the call. An image whose job body decodes to
-- another job, of whatever shape, is one from before.
pub record KeepsJobs (s : Shape) (job : Job) (passes every : ℕ) (old new : RackView) : Type 0 where
  pub bodies : (dims : Dims) (image : Contents) → new.stands ≡ Some dims → IsImage dims new image → HasOpenJob image
      → HasOpenBody dims old (page_at image job_body) ⊎ HasJobBody s image job passes every
  pub others : (dims : Dims) (image : Contents) → new.stands ≡ Some dims → IsImage dims new image → HasOpenJob image
      → (t : Shape) (other : Job) (p q : ℕ) → HasJobBody t image other p q → other ≢ job → IsImage dims old image

-- An open job stays open with its body, and no stop changes that.
pub record KeepsOpenJob (old new : RackView) : Type 0 where
  pub body : page_at new.contents job_body ≡ page_at old.contents job_body
  pub gate : page_at new.contents job_gate ≡ page_at old.contents job_gate
  pub body_clean : new.dirty (page_unit job_body) ≡ false
  pub gate_clean : new.dirty (page_unit job_gate) ≡ false

-- What an image after turns that failed says: it has gone as far as the first machine had counted, and the row calls are those of the loads
-- to there, of fewer than `every` more, and of one that failed.
pub record IsReached (m : Machine) (gone : ℕ) (old new : RackView) : Type 0 where
  pub counted : loads_counted m ≤ gone
  pub rows : new.moves ≤ raised old.moves (load_rows m.shape (gone + m.every - loads_moved m))

-- both machines are of one job, and the second has done all passes
pub record IsEnd (start end : Machine) : Type 0 where
  pub same : SameJob start end
  pub done : end.done ≡ end.passes
