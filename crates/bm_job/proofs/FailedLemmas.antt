-- How far a run came that the rack's failure ended.
use Rattle.std.proofs.Common.{◌≡◌, inl, inr, ℕ, ◌+◌, ◌-◌, ◌*◌, ◌^◌, ◌<◌, ◌≤◌, List, Some, refl, sym, ◌∙◌, subst, arith}
use Rattle.std.proofs.Math.Nat.{mul-le-mul_left}
use Rattle.bm_base.specs.declared.dims.Dims.{Dims}
use Rattle.bm_base.specs.declared.shape.Shape.{Shape}
use Rattle.bm_base.specs.Contents.{page_unit, page_at, HasSizes}
use Rattle.bm_base.specs.Count.{raised}
use Rattle.bm_base.specs.Shape.{load_stripes}
use Rattle.bm_forms.specs.declared.job.Job.{Job}
use Rattle.bm_rack.specs.RackView.{RackView}
use Rattle.bm_rack.specs.Frames.{DirtiesOnly}
use Rattle.bm_rack.specs.Image.{InEveryImage}
use Rattle.bm_control.specs.Bodies.{load_page, IsJobBody}
use Rattle.bm_control.specs.Pages.{load_body, job_body, job_gate, HasOpenJob, HasJobBody}
use Rattle.bm_control.specs.Progress.{IsGone, AreGone, IsSure}
use Rattle.bm_control.proofs.ImageLemmas.{image_self}
use Rattle.bm_control.proofs.MomentLemmas.{gate_cases, load_unique}
use Rattle.bm_job.specs.declared.machine.Machine.{Machine}
use Rattle.bm_job.specs.Begins.{IsFresh}
use Rattle.bm_job.specs.Follows.{Follows, loads_moved}
use Rattle.bm_job.specs.Runs.{IsWorkUnit, load_rows, RunFailed, IsReached}
use Rattle.bm_control.proofs.UniqueLemmas.{every_unique}
use Rattle.bm_job.proofs.WorkUnitLemmas.{front_kept}
use Rattle.bm_job.proofs.EndLemmas.{image_before, front_image}
use Rattle.bm_job.proofs.RunCallLemmas.{raised_rows}

-- a begin that failed
pub begin_failed : (s : Shape) (old new : RackView) → (HasOpenJob old.contents → DirtiesOnly (λ u. ⊥) old new) → new.stands ≡ old.stands
    → new.moves ≡ old.moves → old.moves < 2 ^ 64 → ((dims : Dims) → old.stands ≡ Some dims → HasSizes dims old.contents)
    → RunFailed s old new
begin_failed s old new unchanged same moves well sizes = record {
  grows = λ least before dims image stands i gone is. elim (gate_cases (page_at old.contents job_gate)) [
    | inl opened ↦ before dims image (sym same ∙ stands) (image_before old new dims image (unchanged opened) i) gone is
    | inr closed ↦
        let here = sym same ∙ stands in
        let none : least ≤ 0 = before dims old.contents here (image_self old dims (sizes dims here)) 0 (inl (closed, refl)) in
        omega (arith, none)
  ];
  rows = λ opened job passes every body least before dims image stands i gone is. omega (arith, moves, well);
  other_shape = λ t body differs. moves;
  none = λ dims image stands i closed. moves;
}

-- more loads have more rows
pub load_rows_more : (s : Shape) (a b : ℕ) → a ≤ b → load_rows s a ≤ load_rows s b
load_rows_more s a b h = mul-le-mul_left (2 * load_stripes s) h

-- turns that failed
pub end_failed : (m : Machine) (s : Shape) (job : Job) (old mid new : RackView) → IsFresh s job m → IsGone old.contents (loads_moved m)
    → Follows m mid
    → DirtiesOnly (IsWorkUnit m.shape) mid new → mid.stands ≡ old.stands → mid.moves ≡ old.moves
    → InEveryImage (λ v. (gone : ℕ) → IsGone v gone → IsReached m gone mid new) new
    → ((dims : Dims) → old.stands ≡ Some dims → HasSizes dims old.contents) → RunFailed s old new
end_failed m s job old mid new fresh start follows w same moves reached sizes = record {
  grows = λ least before dims image stands i gone is.
      let a = at_first least before dims stands in
      let r = (reached dims image stands i gone is).counted in
      let first = fresh.load in
      omega (arith, a, r, first);
  rows = λ opened other passes every body least before dims image stands i gone is.
      let a = at_first least before dims stands in
      let r = reached dims image stands i gone is in
      let counted = r.counted in
      let first = fresh.load in
      let page : page_at new.contents job_body ≡ page_at mid.contents job_body = w.contents (page_unit job_body)
      (front_kept m.shape job_body (omega arith)) in
      let here : HasJobBody s mid.contents other passes every = subst (λ (p : List ℕ). IsJobBody s p other passes every) page body in
      let mine : HasJobBody s mid.contents m.job m.passes m.every = subst (λ (t : Shape). HasJobBody t mid.contents m.job m.passes m.every)
      fresh.shape follows.held.body in
      let loads : every ≡ m.every = every_unique s (page_at mid.contents job_body) other m.job passes m.passes every m.every here mine in
      let rows : new.moves ≤ raised mid.moves (load_rows s (gone + m.every - loads_moved m)) =
      subst (λ (t : Shape). new.moves ≤ raised mid.moves (load_rows t (gone + m.every - loads_moved m))) fresh.shape r.rows in
      raised_rows old.moves mid.moves new.moves (load_rows s (gone + m.every - loads_moved m)) (load_rows s (gone - least + every)) moves
      rows
      (load_rows_more s (gone + m.every - loads_moved m) (gone - least + every) (omega (arith, a, counted, first, loads)));
  other_shape = λ t body differs.
      let page : page_at mid.contents load_body ≡ load_page t = sym
      (w.contents (page_unit load_body) (front_kept m.shape load_body (omega arith))) ∙ body in
      absurd (differs (load_unique t m.shape (page_at mid.contents load_body) page follows.held.load_body ∙ fresh.shape));
  none = λ dims image stands i closed.
      absurd (closed (front_image m m.shape mid new dims image job_gate follows w i (omega arith) ∙ follows.held.job_gate));
}
  where
    at_first : (least : ℕ) → AreGone least old → (dims : Dims) → new.stands ≡ Some dims → least ≤ loads_moved m
    at_first least before dims stands =
        let here = sym same ∙ sym w.stands ∙ stands in
        before dims old.contents here (image_self old dims (sizes dims here)) (loads_moved m) start

-- how far a failed run came, by the sure progress before and after it
pub failed_sure : (s : Shape) (old new : RackView) (before after : ℕ) → RunFailed s old new → IsSure old before → IsSure new after
    → before ≤ after
failed_sure s old new before after failed one two = failed.grows before one.least two.dims two.image two.stands two.is_image after
    two.reached

-- and the row calls that it made
pub failed_rows : (s : Shape) (job : Job) (passes every : ℕ) (old new : RackView) (before after : ℕ) → RunFailed s old new
    → InEveryImage HasOpenJob new
    → HasJobBody s new.contents job passes every → IsSure old before → IsSure new after
    → new.moves ≤ raised old.moves (load_rows s (after - before + every))
failed_rows s job passes every old new before after failed opened body one two =
    failed.rows opened job passes every body before one.least two.dims two.image two.stands two.is_image after two.reached
