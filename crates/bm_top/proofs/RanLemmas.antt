-- What the run of a job says, from the moment of the attach to the moment before it.
use Rattle.std.proofs.Common.{◌≡◌, inl, inr, ⊎_elim, ℕ, ◌+◌, ◌-◌, ◌^◌, ◌≤◌, IsTrue, Result, IfOk, IfErr, IsErrOf, IsOkUnless, sym, ap}
use Rattle.std.proofs.Common.{subst, ◌∙◌, arith}
use Rattle.bm_base.specs.declared.report.RunReport.{RunReport}
use Rattle.bm_base.specs.declared.shape.Shape.{Shape}
use Rattle.bm_base.specs.Area.{area_after}
use Rattle.bm_base.specs.Contents.{Contents, page_at}
use Rattle.bm_base.specs.Count.{raised}
use Rattle.bm_base.specs.Records.{record_at, SameRecords}
use Rattle.bm_base.specs.Shape.{dims_of}
use Rattle.bm_forms.specs.declared.job.Job.{Job}
use Rattle.bm_forms.specs.Job.{meaning}
use Rattle.bm_rack.specs.RackView.{RackView}
use Rattle.bm_rack.specs.Frames.{SameDisks, RackCall, CallsGrow, MovesFew, CallsFew, SameCalls, RisesMost}
use Rattle.bm_rack.specs.Image.{InEveryImage, SameInput}
use Rattle.bm_control.specs.Consistent.{input_of}
use Rattle.bm_control.specs.Pages.{job_body, job_gate, HasOpenJob, HasClosedJob}
use Rattle.bm_control.specs.Sound.{IsSound}
use Rattle.bm_job.specs.declared.answers.RunError.{RunError}
use Rattle.bm_job.specs.declared.answers.RunError.TheVariants as run
use Rattle.bm_job.specs.Runs.{most_pages, most_syncs, RunAnswer, ReportFits, RefusalKeeps, RunDone, RunFailed, RunCalls}
use Rattle.bm_job.specs.Runs.{KeepsJobs, KeepsOpenJob, HasOpenBody, load_rows, run_most, IsRunUnit, IsRunnable}
use Rattle.bm_top.specs.Exits.{AttachedFrom}
use Rattle.bm_top.specs.Moment.{Tells}
use Rattle.bm_top.specs.declared.task.Task.{Task}
use Rattle.bm_top.proofs.SameDisksLemmas.{image_kept}

pub record Ran (t : Tells) (task : Task) (plan : ℕ) (old new : RackView) (result : Result RunReport RunError) : Type 0 where
  pub answer : IsTrue t.contents → RunAnswer task.shape task.job plan task.every old new result
  pub report : IfOk result (λ r. ReportFits task.shape task.job r)
  pub moves : IfOk result (λ r. new.moves ≡ raised old.moves r.moves)
  pub most : MovesFew (run_most task.shape task.job) old new
  pub few : CallsFew (most_pages task.shape task.job) (most_syncs task.shape task.job) old new
  pub kept : IfErr result (λ e. RefusalKeeps old new e)
  pub done : IsTrue t.stands → IsTrue t.contents → IsSound old → IfOk result (λ r. RunDone task.shape task.job plan task.every r old new)
  pub failed : IsTrue t.stands → IsTrue t.contents → IsSound old → IsErrOf result run.Failed → RunFailed task.shape old new
  pub sound : IsTrue t.stands → IsTrue t.contents → IsSound old → IsSound new
  pub input : SameInput (dims_of task.shape) old new
  pub images : IsTrue t.stands → IsTrue t.contents → IsSound old → KeepsJobs task.shape task.job plan task.every old new
  pub settled : IsTrue t.stands → IsTrue t.contents → IsSound old → InEveryImage HasOpenJob old → KeepsOpenJob old new
  pub call : RackCall (IsRunUnit task.shape) (IsErrOf result run.Failed) old new
  pub calls : IsTrue t.contents → RunCalls task.shape old.contents plan task.every old new
  pub good : IsTrue t.stands → IsTrue t.contents → IsSound old → (page : ℕ) → ¬ IsErrOf result (run.BadPage page)
  pub complete : IsTrue t.stands → IsTrue t.contents → IsSound old → IsRunnable task.shape task.job old.contents
      → IsOkUnless result run.Failed

-- no count of calls fell
pub ran_grow : (t : Tells) (task : Task) (plan : ℕ) (old new : RackView) (result : Result RunReport RunError)
    → Ran t task plan old new result → CallsGrow old new
ran_grow t task plan old new result ran = record { moves = ran.few.moves; pages = ran.few.pages.low; syncs = ran.few.syncs.low }

-- the plan's number of passes by another name
pub ran_as : {t : Tells} {task : Task} {p q : ℕ} {old new : RackView} {result : Result RunReport RunError} → p ≡ q
    → Ran t task p old new result → Ran t task q old new result
ran_as {t} {task} {p} {q} {old} {new} {result} same ran = subst (λ (x : ℕ). Ran t task x old new result) same ran

-- ---- from the moment of the attach to the moment before it

pub jobs_before : (s : Shape) (job : Job) (p q : ℕ) (before mid new : RackView) → SameDisks before mid → KeepsJobs s job p q mid new
    → KeepsJobs s job p q before new
jobs_before s job p q before mid new same x = record {
  bodies = λ dims image is i gate.
      ⊎_elim
      (λ (old : HasOpenBody dims mid (page_at image job_body)). inl (record {
        image = old.image;
        is_image = image_kept before mid dims old.image same old.is_image;
        opened = old.opened;
        body = old.body;
      }))
      (λ own. inr own)
      (x.bodies dims image is i gate);
  others = λ dims image is i gate t other a b body differs. image_kept before mid dims image same
      (x.others dims image is i gate t other a b body differs);
}

pub open_before : (before mid new : RackView) → SameDisks before mid → KeepsOpenJob mid new → KeepsOpenJob before new
open_before before mid new same x = record {
  body = x.body ∙ ap (λ (c : Contents). page_at c job_body) same.contents;
  gate = x.gate ∙ ap (λ (c : Contents). page_at c job_gate) same.contents;
  body_clean = x.body_clean;
  gate_clean = x.gate_clean;
}

-- a fact of every image, of the same disks before
pub every_image : (P : Contents → Type 0) (before mid : RackView) → SameDisks before mid → InEveryImage P before → InEveryImage P mid
every_image P before mid same all dims image is i = all dims image (sym same.stands ∙ is) (image_kept before mid dims image same i)

pub failed_before : (s : Shape) (before mid new : RackView) → SameDisks before mid → mid.moves ≡ before.moves → RunFailed s mid new
    → RunFailed s before new
failed_before s before mid new same moves x = record {
  grows = λ least gone. x.grows least (every_image _ before mid same gone);
  rows = λ all job passes every body least gone dims image is i far reached.
      subst (λ (m : ℕ). new.moves ≤ raised m (load_rows s (far - least + every))) moves
      (x.rows all job passes every body least (every_image _ before mid same gone) dims image is i far reached);
  other_shape = λ t body differs. x.other_shape t body differs ∙ moves;
  none = λ dims image is i closed. x.none dims image is i closed ∙ moves;
}

pub few_before : (pages syncs : ℕ) (before mid new : RackView) → SameCalls before mid → CallsFew pages syncs mid new
    → CallsFew pages syncs before new
few_before pages syncs before mid new same x = record {
  moves = omega (arith, x.moves, same.moves);
  pages = subst (λ (m : ℕ). RisesMost pages m new.pages) same.pages x.pages;
  syncs = subst (λ (m : ℕ). RisesMost syncs m new.syncs) same.syncs x.syncs;
}

pub calls_before : (s : Shape) (p q : ℕ) (before mid new : RackView) → AttachedFrom before mid → RunCalls s mid.contents p q mid new
    → RunCalls s before.contents p q before new
calls_before s p q before mid new from x =
    let few = λ (a b : ℕ). few_before a b before mid new from.calls in
    let y : RunCalls s before.contents p q mid new = subst (λ (c : Contents). RunCalls s c p q mid new) from.disks.contents x in
    record {
      none = λ closed. few _ _ (y.none closed);
      bare = λ none. few _ _ (y.bare none);
      opened = λ gate t job a b load body. few _ _ (y.opened gate t job a b load body);
    }

pub done_before : (s : Shape) (job : Job) (p q : ℕ) (r : RunReport) (before mid new : RackView) → SameDisks before mid
    → RunDone s job p q r mid new
    → RunDone s job p q r before new
done_before s job p q r before mid new same x = record {
  records = subst (λ (c : Contents). SameRecords (2 ^ s.n) (record_at new.contents s (area_after r.passes)) (meaning s.n job
      (input_of c s)))
      same.contents x.records;
  input = subst (λ (c : Contents). SameRecords (2 ^ s.n) (input_of new.contents s) (input_of c s)) same.contents x.input;
  load_body = x.load_body;
  load_gate = x.load_gate;
  job_gate = x.job_gate;
  loads = x.loads;
  body = x.body;
  gates = x.gates;
  clean = x.clean;
  fresh = λ closed. x.fresh (subst HasClosedJob (sym same.contents) closed);
  stored = λ opened. x.stored (subst HasOpenJob (sym same.contents) opened) ∙ ap (λ (c : Contents). page_at c job_body) same.contents;
}
