-- Contents with the same pages have one progress.
use Rattle.bm_base.specs.Shape.{loads_of}
use Rattle.std.proofs.Common.{◌≡◌, inl, inr, ℕ, ◌+◌, ◌*◌, ◌≤◌, List, refl, sym, ◌∙◌, subst, subst₂, arith}
use Rattle.std.proofs.lemmas.Bool.{cases_lt}
use Rattle.bm_base.specs.declared.shape.Shape.{Shape}
use Rattle.bm_base.specs.Contents.{Contents, page_at}
use Rattle.bm_control.specs.Bodies.{IsJobBody}
use Rattle.bm_control.specs.Consistent.{GatesAre}
use Rattle.bm_control.specs.Pages.{load_body, job_body, job_gate, pass_gate}
use Rattle.bm_control.specs.Progress.{IsCounted, IsGone}
use Rattle.bm_control.proofs.GoneLemmas.{counts_kept}
use Rattle.bm_control.proofs.MomentLemmas.{load_unique}
use Rattle.bm_control.proofs.UniqueLemmas.{passes_unique, every_unique, done_unique}

-- no more loads are counted here than there
part_least : (s : Shape) (every done p i q j : ℕ) (a b : Contents) → every ≤ loads_of s → ((k : ℕ) → page_at b k ≡ page_at a k)
    → IsCounted s a every done p i → IsCounted s b every done q j → p ≤ q
part_least s every done p i q j a b few same one two = elim (cases_lt i 2) [
  | inl less ↦ elim (cases_lt every (loads_of s)) [
    | inl parts ↦ (two.most parts i p less (counts_kept s done i p a b same (one.counts less))).1
    | inr whole ↦ absurd (let is = one.none (omega (arith, whole, few)) in omega (arith, is, less))
  ]
  | inr more ↦ (let none = one.nothing (let r = one.range in omega (arith, r, more)) in omega (arith, none))
]

-- no more is gone in contents than in others with the same pages
pub gone_least : (a b : Contents) (g h : ℕ) → ((k : ℕ) → page_at b k ≡ page_at a k) → IsGone a g → IsGone b h → g ≤ h
gone_least a b g h same (inl x) y = omega (arith, x.1)
gone_least a b g h same (inr x) (inl y) = absurd (y.0 (same job_gate ∙ x.opened))
gone_least a b g h same (inr x) (inr y) =
    let s = x.shape in
    let shape : y.shape ≡ s = load_unique y.shape s (page_at a load_body) (sym (same load_body) ∙ y.load) x.load in
    let body : IsJobBody s (page_at a job_body) y.job y.passes y.every =
    subst₂ (λ (t : Shape) (p : List ℕ). IsJobBody t p y.job y.passes y.every) shape (same job_body) y.body in
    let passes = passes_unique s (page_at a job_body) y.job x.job y.passes x.passes y.every x.every body x.body in
    let every = every_unique s (page_at a job_body) y.job x.job y.passes x.passes y.every x.every body x.body in
    let gates : GatesAre a x.passes y.done = record {
      few = (let f = y.gates.few in omega (arith, f, passes));
      opened = λ k less. sym (same (pass_gate k)) ∙ y.gates.opened k less;
      closed = λ k from less opened. y.gates.closed k from (omega (arith, less, passes)) (same (pass_gate k) ∙ opened);
    } in
    let done : y.done ≡ x.done = done_unique a x.passes y.done x.done gates x.gates in
    let counted : IsCounted s b x.every x.done y.part y.slot =
    subst (λ (d : ℕ). IsCounted s b x.every d y.part y.slot) done (subst₂ (λ (t : Shape)
    (e : ℕ). IsCounted t b e y.done y.part y.slot) shape every y.counted) in
    let part = part_least s x.every x.done x.part x.slot y.part y.slot a b x.body.fits.every_few same x.counted counted in
    let sum : h ≡ x.done * loads_of s + y.part = y.sum ∙ (subst₂ (λ (t : Shape)
    (d : ℕ). y.done * loads_of y.shape + y.part ≡ d * loads_of t + y.part) shape done refl) in
    let own = x.sum in
    omega (arith, part, sum, own)
