-- The command `run`: it does the job to the records that are loaded, or goes on with it.
use Rattle.std.specs.Prelude.{◌≡◌, ◌⊎◌, ℕ, ◌^◌, ◌<◌, ◌++◌, IsTrue, Some}
use Rattle.bm_base.specs.declared.area.Area.TheVariants.{Input}
use Rattle.bm_base.specs.declared.report.RunReport.{RunReport}
use Rattle.bm_base.specs.Area.{area_after}
use Rattle.bm_base.specs.Contents.{RackUnit}
use Rattle.bm_base.specs.Count.{raised}
use Rattle.bm_base.specs.Records.{record_at}
use Rattle.bm_base.specs.Shape.{dims_of}
use Rattle.bm_gf2.specs.Affine.{affine_image}
use Rattle.bm_gf2.specs.declared.affine.Affine.{Affine}
use Rattle.bm_forms.specs.declared.job.Job.TheVariants.{Permute}
use Rattle.bm_forms.specs.PassCount.{passes_of}
use Rattle.bm_rack.specs.RackView.{RackView}
use Rattle.bm_rack.specs.Image.{SameInput, InEveryImage}
use Rattle.bm_rack.specs.Sink.{AppendsFront}
use Rattle.bm_rack.specs.Frames.{SameCalls, SameDisks, MovesFew, CallsFew}
use Rattle.bm_control.specs.Pages.{HasOpenJob}
use Rattle.bm_control.specs.Sound.{IsSound}
use Rattle.bm_job.specs.Runs.{most_pages, most_syncs, ReportFits, IsReportOf, RunDone, RunFailed, RunCalls, KeepsJobs}
use Rattle.bm_job.specs.Runs.{KeepsOpenJob, SameContents, IsRunnable, IsRunUnit, run_most}
use Rattle.bm_text.specs.ReportText.{report_text}
use Rattle.bm_top.specs.Exits.{KeepsUnits}
use Rattle.bm_top.specs.Moment.{Devices, Tells, TellsRack}
use Rattle.bm_top.specs.Status.{IsBeforeDisks, IsOfSlate}
use Rattle.bm_top.specs.declared.task.Task.{Task}
use Rattle.bm_top.specs.declared.status.Status.{Status}
use Rattle.bm_top.specs.declared.status.Status.TheVariants.{Done, OutOfMemory, RackFault, NoDisks, WrongDims, NotLoaded, OtherShape}
use Rattle.bm_top.specs.declared.status.Status.TheVariants.{OtherJob, BadPage, SinkFault}

-- what it may answer
abbrev pub RunMay : Status → Type 0
RunMay Done = Unit {0}
RunMay OutOfMemory = Unit {0}
RunMay RackFault = Unit {0}
RunMay NoDisks = Unit {0}
RunMay WrongDims = Unit {0}
RunMay NotLoaded = Unit {0}
RunMay OtherShape = Unit {0}
RunMay OtherJob = Unit {0}
RunMay (BadPage page) = Unit {0}
RunMay SinkFault = Unit {0}
RunMay _ = ⊥

-- the passes of the job's plan, which are those of a job that no run has opened yet
abbrev pub plan_of : Task → ℕ
plan_of task = passes_of task.shape task.job

-- the parallel transfers that a job never exceeds: 2N/BD for each pass of the pass limit
abbrev pub bound_of : Task → ℕ
bound_of task = run_most task.shape task.job

-- The headline. The run began on a sound rack with the shape loaded, and no job or this one open, whatever stops came before; that is what
-- `RunDone` presumes of a run that ends well. Then each record x of the input stands at Ax + c of the area of the last pass, or has there
-- its value under the transform, and the input is as it was. The control file tells it, and nothing is dirty. The parallel transfers are
-- 2M/BD for each load that was left, so at most 2N/BD for each pass, of which there are at most ceil (rank g / lg (M/B)) + 2, with g the
-- rows b and above of columns 0..b-1.
pub record HasRun (t : Tells) (task : Task) (old new : RackView) : Type 0 where
  pub report : RunReport
  -- on a sound rack that tells all
  pub done : TellsRack t → IsSound old → RunDone task.shape task.job (plan_of task) task.every report old new
  pub images : TellsRack t → IsSound old → (f : Affine) → task.job ≡ Permute f → (x : ℕ) → x < 2 ^ task.shape.n
      → record_at new.contents task.shape (area_after report.passes) (affine_image f x) ≡ record_at old.contents task.shape Input x
  pub began : IsTrue t.contents → IsReportOf task.shape task.job (plan_of task) old.contents report
  -- on every rack
  pub fits : ReportFits task.shape task.job report
  pub moves : new.moves ≡ raised old.moves report.moves

-- Where it answers Done: the job is done, and its report was appended.
pub record RunDoneWith (t : Tells) (task : Task) (old new : Devices) : Type 0 where
  pub run : HasRun t task old.rack new.rack
  pub text : IsTrue t.out → new.out.taken ≡ old.out.taken ++ report_text run.report (bound_of task)

-- Where the output failed: the job is done, and a front of its report was appended.
pub record RunCut (t : Tells) (task : Task) (old new : Devices) : Type 0 where
  pub run : HasRun t task old.rack new.rack
  pub text : IsTrue t.out → AppendsFront old.out.taken new.out.taken (report_text run.report (bound_of task))

-- every unit that a run does not write: the first two pages and the area of the input are among them
abbrev pub IsNoRunUnit : Task → RackUnit → Type 0
IsNoRunUnit task u = ¬ IsRunUnit task.shape u

-- Of one session, from a sound rack: what jobs images have open at its end, and, where the rack fails, that its row calls are paid for by
-- progress that no stop loses, but for those of `every` loads.
pub record RunSession (t : Tells) (task : Task) (old : RackView) (answer : Status) (new : RackView) : Type 0 where
  pub jobs : TellsRack t → IsSound old → KeepsJobs task.shape task.job (plan_of task) task.every old new
  pub settled : TellsRack t → IsSound old → InEveryImage HasOpenJob old → KeepsOpenJob old new
  pub failed : TellsRack t → IsSound old → answer ≡ RackFault → RunFailed task.shape old new
  pub calls : IsTrue t.contents → RunCalls task.shape old.contents (plan_of task) task.every old new

-- nothing was done to the disks
pub record NoSession (old new : RackView) : Type 0 where
  pub disks : SameDisks old new
  pub calls : SameCalls old new

-- At each exit, so that a run may be made again and goes on: the input is as it was, and so are the load's pages. No more row calls, page
-- calls and syncs are made than their bounds, on every rack.
pub record RunLeaves (t : Tells) (task : Task) (old : Devices) (answer : Status) (new : Devices) : Type 0 where
  pub same : SameInput (dims_of task.shape) old.rack new.rack
  pub load : KeepsUnits (IsNoRunUnit task) old.rack new.rack
  pub most : MovesFew (bound_of task) old.rack new.rack
  pub calls : CallsFew (most_pages task.shape task.job) (most_syncs task.shape task.job) old.rack new.rack
  pub session : NoSession old.rack new.rack
      ⊎ RunSession t task old.rack answer new.rack
  pub before : IsBeforeDisks answer → NoSession old.rack new.rack
  pub refused : IsOfSlate answer → SameContents old.rack new.rack
  pub cut : answer ≡ SinkFault → RunCut t task old new
  pub unwritten : (answer ≡ Done) ⊎ ((answer ≡ SinkFault) ⊎ (new.out ≡ old.out))
  pub input : new.input ≡ old.input

-- Where it is Done, if no device fails: the rack is sound, the shape is loaded, and no job or this one is open.
pub record RunCase (t : Tells) (task : Task) (old : Devices) : Type 0 where
  pub told : TellsRack t
  pub stands : old.rack.stands ≡ Some (dims_of task.shape)
  pub sound : IsSound old.rack
  pub runnable : IsRunnable task.shape task.job old.rack.contents
