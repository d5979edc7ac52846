-- Progress that was counted stays.
use Rattle.std.proofs.Common.{◌≡◌, ◌≢◌, inl, inr, ℕ, ◌+◌, ◌*◌, ◌<◌, ◌≤◌, List, sym, ◌∙◌, ap, subst, arith}
use Rattle.std.proofs.Math.Path.{subst₂}
use Rattle.std.proofs.Math.Nat.{mul-le-mul_right}
use Rattle.std.proofs.lemmas.Bool.{cases_lt, cases_eq}
use Rattle.bm_base.specs.declared.shape.Shape.{Shape}
use Rattle.bm_base.specs.Contents.{Contents, page_at}
use Rattle.bm_base.specs.Shape.{loads_of}
use Rattle.bm_forms.specs.declared.job.Job.{Job}
use Rattle.bm_rack.specs.RackView.{RackView}
use Rattle.bm_control.specs.Bodies.{IsJobBody}
use Rattle.bm_control.specs.Consistent.{GatesAre}
use Rattle.bm_control.specs.Pages.{job_gate, load_body, job_body, pass_gate, slot_body, slot_gate, HasJobBody}
use Rattle.bm_control.specs.Progress.{Counts, IsCounted, IsGone}
use Rattle.bm_control.proofs.MomentLemmas.{load_unique}
use Rattle.bm_job.specs.Follows.{IsHeld}
use Rattle.bm_control.proofs.UniqueLemmas.{passes_unique, every_unique}
use Rattle.bm_job.proofs.StepLemmas.{counts_same}

-- contents in which no page is changed but those that a turn writes
pub record KeepsPages (P : ℕ → Type 0) (passes done slot : ℕ) (a b : Contents) : Type 0 where
  pub pages : (k : ℕ) → ¬ P k → page_at b k ≡ page_at a k
  pub front : (k : ℕ) → k < 4 → ¬ P k
  pub gates : (k : ℕ) → k < passes → k ≢ done → ¬ P (pass_gate k)
  pub slot_body_kept : slot < 2 → ¬ P (slot_body slot)
  pub slot_gate_kept : slot < 2 → ¬ P (slot_gate slot)

-- they tell no less than what was counted
pub counted_stays : (P : ℕ → Type 0) (s : Shape) (job : Job) (passes done every part slot : ℕ) (v : RackView) (image : Contents) (gone : ℕ)
    → IsHeld s job passes done every part slot v → part < loads_of s → KeepsPages P passes done slot v.contents image → IsGone image gone
    → done * loads_of s + part ≤ gone
counted_stays P s job passes done every part slot v image gone held few k (inl is) = absurd
    (is.0 (k.pages job_gate (k.front job_gate (omega arith)) ∙ held.job_gate))
counted_stays P s job passes done every part slot v image gone held few k (inr g) =
    let same : s ≡ g.shape = load_unique s g.shape (page_at v.contents load_body) held.load_body
    (sym (k.pages load_body (k.front load_body (omega arith))) ∙ g.load) in
    let body : HasJobBody s v.contents g.job g.passes g.every =
    subst₂ (λ (t : Shape) (p : List ℕ). IsJobBody t p g.job g.passes g.every) (sym same) (k.pages job_body (k.front job_body (omega arith)))
    g.body in
    let passes_are = passes_unique s (page_at v.contents job_body) g.job job g.passes passes g.every every body held.body in
    let every_is = every_unique s (page_at v.contents job_body) g.job job g.passes passes g.every every body held.body in
    let gates = subst (λ (p : ℕ). GatesAre image p g.done) passes_are g.gates in
    let counted = subst₂ (λ (t : Shape) (e : ℕ). IsCounted t image e g.done g.part g.slot) (sym same) every_is g.counted in
    let all : gone ≡ g.done * loads_of s + g.part = subst (λ (t : Shape). gone ≡ g.done * loads_of t + g.part) (sym same) g.sum in
    let most = at_least g.done g.part g.slot gates counted in
    omega (arith, all, most)
  where
    parts : slot < 2 → every < loads_of s
    parts h = elim (cases_lt every (loads_of s)) [
      | inl less ↦ less
      | inr more ↦ (let most = held.body.fits.every_few in let two = held.counted.none (omega (arith, more, most)) in absurd
          (omega (arith, two, h)))
    ]

    no_less : (d p t : ℕ) → IsCounted s image every d p t → d ≡ done → part ≤ p
    no_less d p t counted is = elim (cases_lt slot 2) [
      | inl h ↦
          let c = held.counted.counts h in
          let c' = counts_same s done slot part image v.contents (sym (k.pages (slot_gate slot) (k.slot_gate_kept h)))
          (sym (k.pages (slot_body slot) (k.slot_body_kept h))) c in
          (counted.most (parts h) slot part h (subst (λ (x : ℕ). Counts s image x slot part) (sym is) c')).1
      | inr two ↦ (let range = held.counted.range in let zero = held.counted.nothing (omega (arith, two, range)) in omega (arith, zero))
    ]

    at_least : (d p t : ℕ) → GatesAre image passes d → IsCounted s image every d p t → done * loads_of s + part ≤ d * loads_of s + p
    at_least d p t gates counted = elim (cases_eq d done) [
      | inl is ↦
          let more = no_less d p t counted is in
          let times : d * loads_of s ≡ done * loads_of s = ap (λ (x : ℕ). x * loads_of s) is in
          omega (arith, more, times)
      | inr not ↦ elim (cases_lt d done) [
        | inl less ↦
            let bound = held.gates.few in
            absurd (gates.closed d (omega arith) (omega (arith, less, bound))
            (k.pages (pass_gate d) (k.gates d (omega (arith, less, bound)) not) ∙ held.gates.opened d less))
        | inr more ↦
            let times : (done + 1) * loads_of s ≤ d * loads_of s = mul-le-mul_right (loads_of s) (omega (arith, more, not)) in
            let one : (done + 1) * loads_of s ≡ done * loads_of s + loads_of s = omega arith in
            omega (arith, times, one, few)
      ]
    ]
