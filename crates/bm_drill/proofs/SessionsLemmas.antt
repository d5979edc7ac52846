-- What stands after the last session, and what it answers.
use Rattle.std.proofs.Common.{◌≡◌, inl, inr, ℕ, ◌+◌, ◌-◌, ◌*◌, ◌^◌, ◌<◌, ◌≤◌, Bool, IsTrue, List, Some, refl, sym, ◌∙◌, ap, subst}
use Rattle.std.proofs.Common.{subst₂, arith}
use Rattle.std.proofs.lemmas.Bool.{cases_lt}
use Rattle.bm_base.specs.declared.report.RunReport.{RunReport}
use Rattle.bm_base.specs.declared.report.SessionsReport.{SessionsReport}
use Rattle.bm_base.specs.declared.shape.Shape.{Shape}
use Rattle.bm_base.specs.Area.{area_after}
use Rattle.bm_base.specs.Contents.{Contents, page_at, HasSizes}
use Rattle.bm_base.specs.Count.{raised}
use Rattle.bm_base.specs.Records.{record_at}
use Rattle.bm_base.specs.Shape.{dims_of, loads_of}
use Rattle.bm_base.proofs.CountLemmas.{rose_later}
use Rattle.bm_forms.specs.declared.job.Job.{Job}
use Rattle.bm_forms.specs.Job.{meaning, JobFits}
use Rattle.bm_forms.proofs.JobLemmas.{meaning-same}
use Rattle.bm_rack.specs.RackView.{RackView}
use Rattle.bm_rack.specs.Image.{InEveryImage}
use Rattle.bm_control.specs.Bodies.{IsJobBody}
use Rattle.bm_control.specs.Consistent.{input_of}
use Rattle.bm_control.specs.Progress.{IsGone, AreGone}
use Rattle.bm_control.specs.Sound.{IsSound}
use Rattle.bm_control.proofs.ImageLemmas.{image_self}
use Rattle.bm_control.proofs.MomentLemmas.{gate_cases}
use Rattle.bm_job.proofs.KeptJobLemmas.{has_bits}
use Rattle.bm_job.specs.Runs.{load_rows, run_most, loads_before, IsReportOf, RunDone}
use Rattle.bm_job.proofs.EndLemmas.{same_input_records}
use Rattle.bm_control.proofs.UniqueLemmas.{passes_unique, every_unique}
use Rattle.bm_control.specs.Pages.{job_body, job_gate, HasOpenLoad, HasOpenJob, HasClosedJob, HasJobBody}
use Rattle.bm_drill.specs.Sessions.{RestartsFew, SessionsDone}
use Rattle.bm_drill.specs.Session.{SessionWent, IsBetween}
use Rattle.bm_drill.proofs.GoneLemmas.{gone_least}
use Rattle.bm_drill.proofs.PaidLemmas.{rows_paid, rows_first}
use Rattle.bm_drill.proofs.FrontLemmas.{input_kept}

-- ---- a report

-- what a report says was done before is what is gone
pub report_gone : (s : Shape) (job : Job) (passes : ℕ) (v : Contents) (r : RunReport) → IsReportOf s job passes v r
    → IsGone v (loads_before s r)
report_gone s job passes v r (inl (loaded, count, done, part)) =
    let zero : 0 * loads_of s + 0 ≡ 0 = omega arith in
    let none : r.done_before * loads_of s + r.part_before ≡ 0 = ap (λ (d : ℕ). d * loads_of s + r.part_before) done ∙ ap (λ
    (p : ℕ). 0 * loads_of s + p) part ∙ zero in
    inl (loaded.2, none)
report_gone s job passes v r (inr (every, slot, told)) = inr (record {
  shape = s;
  job = job;
  passes = r.passes;
  every = every;
  done = r.done_before;
  part = r.part_before;
  slot = slot;
  opened = told.0.job_gate;
  load = told.0.load_body;
  body = told.1.body;
  gates = told.1.stand.gates;
  counted = told.1.counted;
  sum = refl;
})

-- and records are loaded
pub report_loaded : (s : Shape) (job : Job) (passes : ℕ) (v : Contents) (r : RunReport) → IsReportOf s job passes v r → HasOpenLoad v
report_loaded s job passes v r (inl (loaded, count, done, part)) = loaded.0
report_loaded s job passes v r (inr (every, slot, told)) = told.0.load_gate

-- ---- row calls

-- what is gone at the last session was gone in every image at entry, and more
grown : (ts tc : Bool) (s : Shape) (job : Job) (passes every restarts least gone : ℕ) (old mid : RackView) → IsTrue ts → IsTrue tc
    → IsSound old
    → old.stands ≡ Some (dims_of s) → HasSizes (dims_of s) old.contents → IsBetween ts tc s job passes every restarts old mid
    → AreGone least old → IsGone mid.contents gone → least ≤ gone
grown ts tc s job passes every restarts least gone old mid told_stands told_contents sound stands sizes x before is = elim
    (cases_lt 0 restarts) [
      | inl more ↦ ((x.later more).paid told_stands told_contents sound).grows least before gone is
      | inr none ↦
          let same : mid ≡ old = x.first (omega (arith, none)) in
          before (dims_of s) old.contents stands (image_self old (dims_of s) sizes) gone (subst (λ
          (v : RackView). IsGone v.contents gone) same is)
    ]

-- the row calls of all sessions
all_rows : (ts tc : Bool) (s : Shape) (job : Job) (passes every restarts least q : ℕ) (r : RunReport) (old mid new : RackView)
    → IsTrue ts → IsTrue tc → IsSound old
    → IsBetween ts tc s job passes every restarts old mid → AreGone least old → IsGone mid.contents (loads_before s r)
    → least ≤ loads_before s r
    → loads_before s r ≤ r.passes * loads_of s → new.moves ≤ raised mid.moves (load_rows s (r.passes * loads_of s - loads_before s r))
    → (HasOpenJob mid.contents → HasJobBody s mid.contents job r.passes q)
    → new.moves ≤ raised old.moves (load_rows s (r.passes * loads_of s - least + q * restarts))
all_rows ts tc s job passes every restarts least q r old mid new told_stands told_contents sound x before is grows within rows body =
    let g = loads_before s r in
    let all = r.passes * loads_of s in
    elim (cases_lt 0 restarts) [
      | inl more ↦
          let paid = (x.later more).paid told_stands told_contents sound in
          elim (gate_cases (page_at mid.contents job_gate)) [
            | inr closed ↦ rows_first s old.moves mid.moves new.moves (all - g) (all - least + q * restarts) (paid.none closed) rows
                (omega (arith, grows, within))
            | inl opened ↦
                let one = paid.rows opened job r.passes q (body opened) least before g is in
                rows_paid s old.moves mid.moves new.moves (g - least + q * restarts) (all - g) (all - least + q * restarts) one rows
                (omega (arith, grows, within))
          ]
      | inr none ↦
          let same : mid.moves ≡ old.moves = ap (λ (v : RackView). v.moves) (x.first (omega (arith, none))) in
          rows_first s old.moves mid.moves new.moves (all - g) (all - least + q * restarts) same rows (omega (arith, grows, within))
    ]

-- what rose by so much rose by no more
risen_most : (old new by most : ℕ) → new ≡ old + by → new ≤ raised old most → by ≤ most
risen_most old new by most rose few = omega (arith, rose, few)

-- a count that is not at its end rose by all calls
risen_all : (old new by calls : ℕ) → new ≡ old + by → new ≡ raised old calls → new < 2 ^ 64 - 1 → by ≡ calls
risen_all old new by calls rose all less = omega (arith, rose, all, less)

-- ---- what is done

-- the job's passes and loads are the call's where no job was open
fresh_job : (ts tc : Bool) (s : Shape) (job : Job) (passes every restarts : ℕ) (r : RunReport) (old mid new : RackView) → IsTrue ts
    → IsTrue tc → IsSound old
    → mid.stands ≡ Some (dims_of s) → HasSizes (dims_of s) mid.contents → IsBetween ts tc s job passes every restarts old mid
    → IsGone mid.contents (loads_before s r) → (d : RunDone s job passes every r mid new) → InEveryImage HasClosedJob old
    → (r.passes ≡ passes) × (d.loads ≡ every)
fresh_job ts tc s job passes every restarts r old mid new told_stands told_contents sound stands sizes x is d closed =
    elim (gate_cases (page_at mid.contents job_gate)) [
      | inr shut ↦ d.fresh shut
      | inl opened ↦
          let keeps = x.keeps.jobs told_stands told_contents sound in
          let there : old.stands ≡ Some (dims_of s) = sym x.keeps.kept.stands ∙ stands in
          elim (keeps.bodies (dims_of s) mid.contents stands (image_self mid (dims_of s) sizes) opened) [
            | inl was ↦ absurd (closed (dims_of s) was.image there was.is_image was.opened)
            | inr body ↦
                let here : IsJobBody s (page_at new.contents job_body) job passes every = subst (λ
                (p : List ℕ). IsJobBody s p job passes every) (sym (d.stored opened)) body in (
                  passes_unique s (page_at new.contents job_body) job job r.passes passes d.loads every d.body here,
                  every_unique s (page_at new.contents job_body) job job r.passes passes d.loads every d.body here,
                )
          ]
    ]

-- all that sessions leave which did the job
pub sessions_done : (ts tc : Bool) (s : Shape) (job : Job) (passes every restarts : ℕ) (r : RunReport) (total : SessionsReport)
    (old mid new : RackView)
    → IsTrue ts → IsTrue tc → IsSound old → JobFits s job → old.stands ≡ Some (dims_of s) → HasSizes (dims_of s) old.contents
    → HasSizes (dims_of s) mid.contents
    → IsBetween ts tc s job passes every restarts old mid → SessionWent ts tc s job passes every r mid new
    → total.passes ≡ r.passes → total.restarts ≡ restarts → new.moves ≡ old.moves + total.moves
    → SessionsDone s job passes every total old new
sessions_done ts tc s job passes every restarts r total old mid new told_stands told_contents sound fits stands sizes sizes_mid x w count
    times rose =
    let d = w.done told_stands told_contents (x.keeps.sound told_stands told_contents sound) in
    let told = w.report told_contents in
    let is = report_gone s job passes mid.contents r told in
    let input = input_kept s old mid stands sizes sizes_mid (x.keeps.rest told_contents) sound
    (report_loaded s job passes mid.contents r told) in
    let same = same_input_records s old mid input in
    let within = w.fits.within in
    let rows : new.moves ≤ raised mid.moves (load_rows s (r.passes * loads_of s - loads_before s r)) =
    (let m = w.moves in let e = w.fits.moves in omega (arith, m, e)) in
    record {
      records = λ y below. subst (λ (p : ℕ). record_at new.contents s (area_after p) y ≡ meaning s.n job (input_of mid.contents s) y)
          (sym count) (d.records y below)
          ∙ meaning-same s.n job (input_of mid.contents s) (input_of old.contents s) (has_bits s job fits) same y below;
      input = λ y below. d.input y below ∙ same y below;
      load_body = d.load_body;
      load_gate = d.load_gate;
      job_gate = d.job_gate;
      loads = d.loads;
      body = subst (λ (p : ℕ). HasJobBody s new.contents job p d.loads) (sym count) d.body;
      gates = λ k below. d.gates k (subst (λ (p : ℕ). k < p) count below);
      clean = d.clean;
      moves = λ least before.
          let grows = grown ts tc s job passes every restarts least
          (loads_before s r) old mid told_stands told_contents sound stands sizes x before is in
          let all = all_rows ts tc s job passes every restarts least d.loads r old mid new told_stands told_contents sound x before is
          grows within rows
          (λ opened. subst (λ (p : List ℕ). IsJobBody s p job r.passes d.loads) (d.stored opened) d.body) in
          subst₂ (λ (p k : ℕ). total.moves ≤ load_rows s (p * loads_of s - least + d.loads * k)) (sym count) (sym times)
          (risen_most old.moves new.moves total.moves _ rose all);
      exact = λ none less gone before.
          let first : mid ≡ old = x.first (sym times ∙ none) in
          let here : IsGone old.contents (loads_before s r) = subst (λ (v : RackView). IsGone v.contents (loads_before s r)) first is in
          let one = gone_least old.contents old.contents gone (loads_before s r) (λ _. refl) before here in
          let two = gone_least old.contents old.contents (loads_before s r) gone (λ _. refl) here before in
          let same_gone : loads_before s r ≡ gone = omega (arith, one, two) in
          let calls : new.moves ≡ raised old.moves r.moves = subst (λ (v : RackView). new.moves ≡ raised v.moves r.moves) first w.moves in
          risen_all old.moves new.moves total.moves r.moves rose calls less ∙ w.fits.moves
          ∙ subst₂ (λ (p g : ℕ). load_rows s (r.passes * loads_of s - loads_before s r) ≡ load_rows s (p * loads_of s - g))
          (sym count) same_gone refl;
      fresh = λ closed.
          let f = fresh_job ts tc s job passes every restarts r old mid new told_stands told_contents sound (x.keeps.kept.stands
          ∙ stands) sizes_mid x is d closed in
          (count ∙ f.0, f.1);
    }

-- ---- on every rack

-- there were no more row calls than those of all passes in each session
pub sessions_most : (ts tc : Bool) (s : Shape) (job : Job) (passes every restarts by : ℕ) (old mid new : RackView)
    → IsBetween ts tc s job passes every restarts old mid
    → new.moves ≤ raised mid.moves (run_most s job) → new.moves ≡ old.moves + by → by ≤ run_most s job * (restarts + 1)
sessions_most ts tc s job passes every restarts by old mid new x few rose =
    let sum : run_most s job * (restarts + 1) ≡ run_most s job * restarts + run_most s job = omega arith in
    elim (cases_lt 0 restarts) [
      | inl more ↦ (let m = (x.later more).most in omega (arith, m, few, rose, sum))
      | inr none ↦ (let same : mid.moves ≡ old.moves = ap (λ (v : RackView). v.moves) (x.first (omega (arith, none))) in omega
          (arith, same, few, rose, sum))
    ]

-- each restart had its stop, and its cause
pub restarts_few : (ts tc : Bool) (s : Shape) (job : Job) (passes every restarts stops : ℕ) (old mid new : RackView)
    → IsBetween ts tc s job passes every restarts old mid
    → mid.faults ≤ new.faults → new.faults < 2 ^ 64 → restarts ≤ stops → RestartsFew stops restarts old new
restarts_few ts tc s job passes every restarts stops old mid new x low most few = record {
  few = few;
  cause = λ more. rose_later old.faults mid.faults new.faults low most (x.later more).cause;
}
