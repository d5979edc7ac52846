-- What a finished run of a carry leaves: its job alone is open, and stands.
use Rattle.std.proofs.Common.{◌≡◌, ℕ, ◌<◌, Some, Ok, sym, subst, ◌∙◌, arith}
use Rattle.bm_base.specs.declared.report.RunReport.{RunReport}
use Rattle.bm_base.specs.declared.shape.Shape.{Shape}
use Rattle.bm_base.specs.Contents.{Contents, page_at}
use Rattle.bm_base.specs.Gate.{IsOpenGate}
use Rattle.bm_base.specs.Shape.{dims_of}
use Rattle.bm_forms.specs.declared.job.Job.{Job}
use Rattle.bm_rack.specs.RackView.{RackView}
use Rattle.bm_control.specs.Pages.{load_body, job_body, pass_gate, HasOpenLoad, HasOpenJob, HasClosedJob, HasLoadBody, HasJobBody}
use Rattle.bm_control.specs.State.{StateAnswer}
use Rattle.bm_control.specs.declared.state.SlateState.TheVariants.{Closed, Loaded, Working}
use Rattle.bm_control.specs.declared.state.SlateState.{SlateState}
use Rattle.bm_control.proofs.MomentLemmas.{load_unique}
use Rattle.bm_control.proofs.UniqueLemmas.{job_unique, passes_unique}
use Rattle.bm_job.specs.Begins.{IsLoadedState, IsOpenState}
use Rattle.bm_job.specs.Runs.{RunDone}
use Rattle.bm_top.specs.Causes.{HasJob, HasOtherShape, HasOtherJob}
use Rattle.bm_top.specs.commands.Run.{plan_of}
use Rattle.bm_top.specs.commands.Status.{OnlyLooks}
use Rattle.bm_top.specs.commands.Carry.{CarryStands}
use Rattle.bm_top.specs.declared.task.Task.{Task}

-- the job that a finished run leaves is the only one that is open, and has so many passes
same_job : (s : Shape) (job other : Job) (p q : ℕ) (r : RunReport) (every : ℕ) (old new : RackView) → RunDone s job p every r old new
    → (more : ℕ) → HasJobBody s new.contents other q more → (job ≡ other) × (r.passes ≡ q)
same_job s job other p q r every old new done more body = (
  job_unique s s (page_at new.contents job_body) job other r.passes q done.loads more done.body body,
  passes_unique s (page_at new.contents job_body) job other r.passes q done.loads more done.body body,
)

-- no refusal by the control file comes after a finished run
pub other_shape : (s : Shape) (job : Job) (p : ℕ) (r : RunReport) (every : ℕ) (old new : RackView) → RunDone s job p every r old new
    → ¬ HasOtherShape s new.contents
other_shape s job p r every old new done x = by_state x.state x.told x.loaded
  where
    by_state : (state : SlateState) → StateAnswer new.contents (Ok state) → IsLoadedState x.other state → ⊥
    by_state Closed told loaded = loaded
    by_state (Loaded u) told loaded = x.differs (sym loaded ∙ load_unique u s (page_at new.contents load_body) told.1 done.load_body)
    by_state (Working u j passes d e part slot) told loaded =
        x.differs (sym loaded ∙ load_unique u s (page_at new.contents load_body) told.0.load_body done.load_body)

pub other_job : (s : Shape) (job : Job) (p : ℕ) (r : RunReport) (every : ℕ) (old new : RackView) → RunDone s job p every r old new
    → ¬ HasOtherJob s job new.contents
other_job s job p r every old new done x = by_state x.state x.told x.loaded x.opened
  where
    by_state : (state : SlateState) → StateAnswer new.contents (Ok state) → IsLoadedState s state → IsOpenState x.other state → ⊥
    by_state Closed told loaded opened = loaded
    by_state (Loaded u) told loaded opened = opened
    by_state (Working u j passes d e part slot) told loaded opened =
        let body : HasJobBody s new.contents j passes e = subst (λ (z : Shape). HasJobBody z new.contents j passes e) loaded told.1.body in
        x.differs (sym opened ∙ sym (same_job s job j p passes r every old new done e body).0)

-- the passes of an open job after a finished run
pub job_passes : (s : Shape) (job : Job) (p q d : ℕ) (r : RunReport) (every : ℕ) (old new : RackView) → RunDone s job p every r old new
    → HasJob s job q d new.contents → r.passes ≡ q
job_passes s job p q d r every old new done x = (same_job s job job p q r every old new done x.every x.working.1.body).1

pub not_done : (s : Shape) (job : Job) (p q d : ℕ) (r : RunReport) (every : ℕ) (old new : RackView) → RunDone s job p every r old new
    → ¬ ((d < q) × HasJob s job q d new.contents)
not_done s job p q d r every old new done x =
    let same = job_passes s job p q d r every old new done x.1 in
    x.1.working.1.stand.gates.closed d (omega arith) x.0 (done.gates d (omega (arith, same, x.0)))

-- what a run of a fresh job leaves stands after a look at it
pub carry_stands : (task : Task) (old mid new : RackView) (r : RunReport) → RunDone task.shape task.job (plan_of task) task.every r old mid
    → HasClosedJob old.contents → OnlyLooks mid new → new.stands ≡ Some (dims_of task.shape) → CarryStands task new
carry_stands task old mid new r done closed looks stands =
    let s = task.shape in
    let fresh : (r.passes ≡ plan_of task) × (done.loads ≡ task.every) = done.fresh closed in
    let same : mid.contents ≡ new.contents = sym looks.contents in
    record {
      stands = stands;
      load_gate = subst HasOpenLoad same done.load_gate;
      load_body = subst (HasLoadBody s) same done.load_body;
      job_gate = subst HasOpenJob same done.job_gate;
      body = subst (λ (v : Contents). HasJobBody s v task.job (plan_of task) task.every) same
          (subst (λ (k : ℕ). HasJobBody s mid.contents task.job k task.every) fresh.0
          (subst (λ (k : ℕ). HasJobBody s mid.contents task.job r.passes k) fresh.1 done.body));
      gates = λ k below. subst (λ (v : Contents). IsOpenGate (page_at v (pass_gate k))) same
          (done.gates k (subst (λ (n : ℕ). k < n) (sym fresh.0) below));
      clean = λ u. looks.units.dirty u tt (done.clean u);
    }
