-- One session: a run with a stop ahead and the restart where it was reached, or the last run. And several of them in a row.
use Rattle.std.specs.Prelude.{Ok, Err, ◌≡◌, ◌≢◌, ℕ, ◌+◌, ◌-◌, ◌*◌, ◌<◌, ◌≤◌, false, Bool, IsTrue, Result}
use Rattle.bm_base.specs.declared.report.RunReport.{RunReport}
use Rattle.bm_base.specs.declared.shape.Shape.{Shape}
use Rattle.bm_base.specs.Contents.{Contents, page_at}
use Rattle.bm_base.specs.Count.{raised, Rose}
use Rattle.bm_forms.specs.declared.job.Job.{Job}
use Rattle.bm_rack.specs.RackView.{RackView, IsClean, IsWellFormed}
use Rattle.bm_rack.specs.Image.{InEveryImage}
use Rattle.bm_control.specs.Pages.{job_body, job_gate, HasOpenJob, HasClosedJob, HasJobBody}
use Rattle.bm_control.specs.Progress.{IsGone, AreGone}
use Rattle.bm_control.specs.Sound.{IsSound}
use Rattle.bm_job.specs.declared.answers.RunError.{RunError}
use Rattle.bm_job.specs.declared.answers.RunError.TheVariants.{Failed, NotLoaded, OtherShape, OtherJob, BadPage}
use Rattle.bm_job.specs.Begins.{BeginAnswer}
use Rattle.bm_job.specs.Runs.{load_rows, run_most, ReportFits, IsReportOf, IsRunnable, RunDone, KeepsJobs}
use Rattle.bm_drill.specs.Sessions.{SessionsKeep, KeepsRest}

-- the pages of an open job are as before
pub record SameJobPages (old new : Contents) : Type 0 where
  pub body : page_at new job_body ≡ page_at old job_body
  pub gate : page_at new job_gate ≡ page_at old job_gate

-- what a session keeps at each exit
pub record SessionKeeps (told_stands told_contents : Bool) (s : Shape) (job : Job) (passes every : ℕ) (old new : RackView) : Type 0 where
  pub kept : SessionsKeep old new
  pub rest : IsTrue told_contents → KeepsRest s old new
  pub sound : IsTrue told_stands → IsTrue told_contents → IsSound old → IsSound new
  pub jobs : IsTrue told_stands → IsTrue told_contents → IsSound old → KeepsJobs s job passes every old new

-- Row calls that are paid for by what the contents at the end say, after so many sessions that a stop ended: at least so many loads are
-- gone as before, and the row calls are those of the loads since, and of `q` more for each session. Where no job is open there were none.
pub record IsPaid (s : Shape) (sessions : ℕ) (old new : RackView) : Type 0 where
  pub grows : (least : ℕ) → AreGone least old → (gone : ℕ) → IsGone new.contents gone → least ≤ gone
  pub rows : HasOpenJob new.contents → (job : Job) (passes q : ℕ) → HasJobBody s new.contents job passes q
      → (least : ℕ) → AreGone least old → (gone : ℕ) → IsGone new.contents gone
      → new.moves ≤ raised old.moves (load_rows s (gone - least + q * sessions))
  pub none : HasClosedJob new.contents → new.moves ≡ old.moves

-- a session that did the job
pub record SessionWent (told_stands told_contents : Bool) (s : Shape) (job : Job) (passes every : ℕ) (r : RunReport)
    (old new : RackView) : Type 0 where
  pub fits : ReportFits s job r
  pub moves : new.moves ≡ raised old.moves r.moves
  pub most : new.moves ≤ raised old.moves (run_most s job)
  pub report : IsTrue told_contents → IsReportOf s job passes old.contents r
  pub done : IsTrue told_stands → IsTrue told_contents → IsSound old → RunDone s job passes every r old new

-- a session that a stop ended
pub record SessionStopped (told_stands told_contents : Bool) (s : Shape) (job : Job) (old new : RackView) : Type 0 where
  pub cause : Rose old.faults new.faults
  pub clean : IsClean new
  pub most : new.moves ≤ raised old.moves (run_most s job)
  pub paid : IsTrue told_stands → IsTrue told_contents → IsSound old → IsPaid s 1 old new
  pub settled : IsTrue told_stands → IsTrue told_contents → IsSound old → InEveryImage HasOpenJob old
      → SameJobPages old.contents new.contents

-- a session that was refused
pub record SessionRefused (told_stands told_contents : Bool) (s : Shape) (job : Job) (passes every : ℕ) (e : RunError)
    (old new : RackView) : Type 0 where
  pub answer : IsTrue told_contents → BeginAnswer s job passes every old.contents (Err e)
  pub shown : IsTrue told_contents → BeginAnswer s job passes every new.contents (Err e)
  pub good : IsTrue told_stands → IsTrue told_contents → IsSound old → (page : ℕ) → e ≢ BadPage page
  pub complete : IsTrue told_stands → IsTrue told_contents → IsSound old → ¬ IsRunnable s job old.contents

-- what a session answers: the report, or that a stop ended it, or the refusal
abbrev pub SessionAnswer : Bool → Bool → Shape → Job → ℕ → ℕ → RackView → RackView → Result RunReport RunError → Type 0
SessionAnswer ts tc s job passes every old new (Ok r) = SessionWent ts tc s job passes every r old new
SessionAnswer ts tc s job passes every old new (Err Failed) = SessionStopped ts tc s job old new
SessionAnswer ts tc s job passes every old new (Err NotLoaded) = SessionRefused ts tc s job passes every NotLoaded old new
SessionAnswer ts tc s job passes every old new (Err OtherShape) = SessionRefused ts tc s job passes every OtherShape old new
SessionAnswer ts tc s job passes every old new (Err OtherJob) = SessionRefused ts tc s job passes every OtherJob old new
SessionAnswer ts tc s job passes every old new (Err (BadPage page)) = SessionRefused ts tc s job passes every (BadPage page) old new

-- what stands after a stop: nothing is dirty, calls failed, and the row calls are paid for
pub record IsStopped (told_stands told_contents : Bool) (s : Shape) (job : Job) (sessions : ℕ) (old new : RackView) : Type 0 where
  pub cause : Rose old.faults new.faults
  pub clean : IsClean new
  pub most : new.moves ≤ raised old.moves (run_most s job * sessions)
  pub paid : IsTrue told_stands → IsTrue told_contents → IsSound old → IsPaid s sessions old new

-- Between two sessions, after so many that a stop ended each: the rack as at entry where there was none.
pub record IsBetween (told_stands told_contents : Bool) (s : Shape) (job : Job) (passes every sessions : ℕ)
    (old now : RackView) : Type 0 where
  pub well : IsWellFormed told_stands told_contents now
  pub keeps : SessionKeeps told_stands told_contents s job passes every old now
  pub first : sessions ≡ 0 → now ≡ old
  pub later : 0 < sessions → IsStopped told_stands told_contents s job sessions old now

-- Sessions to the last one: so many that a stop ended each, and then one that answered otherwise.
pub record AreSessions (told_stands told_contents : Bool) (s : Shape) (job : Job) (passes every restarts : ℕ)
    (answer : Result RunReport RunError) (old new : RackView) : Type 0 where
  pub mid : RackView
  pub before : IsBetween told_stands told_contents s job passes every restarts old mid
  pub keeps : SessionKeeps told_stands told_contents s job passes every mid new
  pub answer_is : SessionAnswer told_stands told_contents s job passes every mid new answer
  pub ended : answer ≢ Err Failed
  pub stopping : new.stopping ≡ false
