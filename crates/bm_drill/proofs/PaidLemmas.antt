-- Sessions in a row: what they keep, and that their row calls are paid for.
use Rattle.std.proofs.Common.{◌≡◌, ◌⊎◌, inl, inr, ℕ, ◌+◌, ◌-◌, ◌*◌, ◌≤◌, Bool, IsTrue, List, Some, refl, sym, ◌∙◌, subst, arith}
use Rattle.std.proofs.lemmas.Bool.{cases_lt}
use Rattle.bm_base.specs.declared.dims.Dims.{Dims}
use Rattle.bm_base.specs.declared.shape.Shape.{Shape}
use Rattle.bm_base.specs.Contents.{page_unit, HasSizes}
use Rattle.bm_base.specs.Count.{raised}
use Rattle.bm_base.proofs.CountLemmas.{rose_earlier}
use Rattle.bm_forms.specs.declared.job.Job.{Job}
use Rattle.bm_rack.specs.RackView.{RackView, IsClean, IsWellFormed}
use Rattle.bm_rack.specs.Image.{InEveryImage}
use Rattle.bm_control.specs.Bodies.{IsJobBody}
use Rattle.bm_control.specs.Progress.{IsGone, AreGone}
use Rattle.bm_control.proofs.GoneLemmas.{consistent_gone}
use Rattle.bm_control.proofs.ImageLemmas.{image_self, image_clean}
use Rattle.bm_job.specs.Runs.{load_rows, run_most, KeepsJobs}
use Rattle.bm_job.proofs.RunCallLemmas.{raised_rows}
use Rattle.bm_job.proofs.FailedLemmas.{load_rows_more}
use Rattle.bm_control.specs.Pages.{job_gate, HasOpenJob, HasClosedJob}
use Rattle.bm_drill.specs.Sessions.{SessionsKeep, KeepsRest}
use Rattle.bm_drill.specs.Session.{SameJobPages, SessionKeeps, IsPaid, SessionStopped, IsStopped, IsBetween}
use Rattle.bm_drill.proofs.GoneLemmas.{gone_least}

-- ---- what sessions keep

-- no session yet
pub keeps_none : (v : RackView) → SessionsKeep v v
keeps_none v = record {
  stands = refl;
  attached = refl;
  steady = λ h. h;
  faults = omega arith;
  moves = omega arith;
  pages = omega arith;
  syncs = omega arith;
}

-- one after another
pub keeps_then : (a b c : RackView) → SessionsKeep a b → SessionsKeep b c → SessionsKeep a c
keeps_then a b c x y = record {
  stands = y.stands ∙ x.stands;
  attached = y.attached ∙ x.attached;
  steady = λ h. y.steady (x.steady h);
  faults = omega (arith, x.faults, y.faults);
  moves = omega (arith, x.moves, y.moves);
  pages = omega (arith, x.pages, y.pages);
  syncs = omega (arith, x.syncs, y.syncs);
}

pub rest_then : (s : Shape) (a b c : RackView) → KeepsRest s a b → KeepsRest s b c → KeepsRest s a c
rest_then s a b c x y u apart clean =
    let one = x u apart clean in
    let two = y u apart one.0 in
    (two.0, two.1 ∙ one.1)

pub jobs_then : (s : Shape) (job : Job) (passes every : ℕ) (a b c : RackView) → c.stands ≡ b.stands → KeepsJobs s job passes every a b
    → KeepsJobs s job passes every b c
    → KeepsJobs s job passes every a c
jobs_then s job passes every a b c stands_are x y = record {
  bodies = λ dims image stands i opened. elim (y.bodies dims image stands i opened) [
    | inl was ↦ elim (x.bodies dims was.image (sym stands_are ∙ stands) was.is_image was.opened) [
      | inl before ↦ inl (record {
        image = before.image;
        is_image = before.is_image;
        opened = before.opened;
        body = before.body
            ∙ was.body;
      })
      | inr body ↦ inr (subst (λ (p : List ℕ). IsJobBody s p job passes every) was.body body)
    ]
    | inr body ↦ inr body
  ];
  others = λ dims image stands i opened t other p q body apart.
      x.others dims image (sym stands_are ∙ stands)
      (y.others dims image stands i opened t other p q body apart) opened t other p q body apart;
}

pub session_keeps_none : (ts tc : Bool) (s : Shape) (job : Job) (passes every : ℕ) (v : RackView)
    → SessionKeeps ts tc s job passes every v v
session_keeps_none ts tc s job passes every v = record {
  kept = keeps_none v;
  rest = λ _ u apart clean. (clean, refl);
  sound = λ _ _ sound. sound;
  jobs = λ _ _ _. record {
    bodies = λ dims image stands i opened. inl (record { image = image; is_image = i; opened = opened; body = refl });
    others = λ dims image stands i opened t other p q body apart. i;
  };
}

pub session_keeps_then : (ts tc : Bool) (s : Shape) (job : Job) (passes every : ℕ) (a b c : RackView)
    → SessionKeeps ts tc s job passes every a b
    → SessionKeeps ts tc s job passes every b c → SessionKeeps ts tc s job passes every a c
session_keeps_then ts tc s job passes every a b c x y = record {
  kept = keeps_then a b c x.kept y.kept;
  rest = λ told. rest_then s a b c (x.rest told) (y.rest told);
  sound = λ told_stands told_contents sound. y.sound told_stands told_contents (x.sound told_stands told_contents sound);
  jobs = λ told_stands told_contents sound.
      jobs_then s job passes every a b c y.kept.stands (x.jobs told_stands told_contents sound) (y.jobs told_stands told_contents
      (x.sound told_stands told_contents sound));
}

-- ---- row calls

-- the rows of two numbers of loads
rows_both : (s : Shape) (k l : ℕ) → load_rows s k + load_rows s l ≡ load_rows s (k + l)
rows_both s k l = omega arith

-- a count after calls of two numbers of loads
pub rows_paid : (s : Shape) (a b c k l total : ℕ) → b ≤ raised a (load_rows s k) → c ≤ raised b (load_rows s l) → k + l ≤ total
    → c ≤ raised a (load_rows s total)
rows_paid s a b c k l total first second within =
    let sum = rows_both s k l in
    let more = load_rows_more s (k + l) total within in
    omega (arith, first, second, sum, more)

-- and where there were none before
pub rows_first : (s : Shape) (a b c k total : ℕ) → b ≡ a → c ≤ raised b (load_rows s k) → k ≤ total → c ≤ raised a (load_rows s total)
rows_first s a b c k total same few within =
    raised_rows a b c (load_rows s k) (load_rows s total) same few (load_rows_more s k total within)

-- in every image of clean contents as much is gone as in them
pub gone_clean : (v : RackView) (gone : ℕ) → IsClean v → IsGone v.contents gone → AreGone gone v
gone_clean v gone clean is dims image stands i other there =
    gone_least v.contents image gone other (λ k. image_clean v dims image clean i (page_unit k)) is there

-- one more session
pub paid_then : (s : Shape) (sessions : ℕ) (old mid new : RackView) (gone : ℕ) → IsClean mid → IsGone mid.contents gone
    → IsPaid s sessions old mid
    → IsPaid s 1 mid new → (InEveryImage HasOpenJob mid → SameJobPages mid.contents new.contents) → IsPaid s (sessions + 1) old new
paid_then s sessions old mid new gone clean is x y settled = record {
  grows = λ least before after at.
      let a = x.grows least before gone is in
      let b = y.grows gone (gone_clean mid gone clean is) after at in
      omega (arith, a, b);
  rows = λ opened job passes q body least before after at.
      let a = x.grows least before gone is in
      let b = y.grows gone (gone_clean mid gone clean is) after at in
      let two = y.rows opened job passes q body gone (gone_clean mid gone clean is) after at in
      let more : q * (sessions + 1) ≡ q * sessions + q * 1 = omega arith in
      elim job_cases [
        | inl shut ↦ rows_first s old.moves mid.moves new.moves (after - gone + q * 1) (after - least + q * (sessions + 1))
            (x.none shut) two (omega (arith, a, b, more))
        | inr here ↦
            let one = x.rows here job passes q (subst (λ (p : List ℕ). IsJobBody s p job passes q) ((settled
            (stays here)).body) body) least before gone is in
            rows_paid s old.moves mid.moves new.moves (gone - least + q * sessions) (after - gone + q * 1) (after - least + q *
            (sessions + 1)) one two (omega (arith, a, b, more))
      ];
  none = λ closed. elim job_cases [
    | inl shut ↦ y.none closed ∙ x.none shut
    | inr opened ↦ absurd (closed ((settled (stays opened)).gate ∙ opened))
  ];
}
  where
    job_cases : HasClosedJob mid.contents ⊎ HasOpenJob mid.contents
    job_cases = elim is [
      | inl none ↦ inl none.0
      | inr job ↦ inr job.opened
    ]

    stays : HasOpenJob mid.contents → InEveryImage HasOpenJob mid
    stays opened dims image stands i = image_clean mid dims image clean i (page_unit job_gate) ∙ opened

-- ---- between two sessions

-- none yet
pub between_none : (ts tc : Bool) (s : Shape) (job : Job) (passes every : ℕ) (v : RackView) → IsWellFormed ts tc v
    → IsBetween ts tc s job passes every 0 v v
between_none ts tc s job passes every v well = record {
  well = well;
  keeps = session_keeps_none ts tc s job passes every v;
  first = λ _. refl;
  later = λ more. absurd (omega (arith, more));
}

-- what is attached stands, with its sizes
pub stands_here : (ts tc : Bool) (dims : Dims) (v : RackView) → IsWellFormed ts tc v → v.attached ≡ Some dims → IsTrue ts → IsTrue tc
    → (v.stands ≡ Some dims) × HasSizes dims v.contents
stands_here ts tc dims v well attached told_stands told_contents =
    let stands = well.attached told_stands dims attached in
    (stands, well.sizes told_stands told_contents dims stands)

-- the first session that a stop ended
stopped_first : (ts tc : Bool) (s : Shape) (job : Job) (old new : RackView) → SessionStopped ts tc s job old new
    → IsStopped ts tc s job 1 old new
stopped_first ts tc s job old new x = record {
  cause = x.cause;
  clean = x.clean;
  most = (let m = x.most in let one : run_most s job * 1 ≡ run_most s job = omega arith in omega (arith, m, one));
  paid = x.paid;
}

-- a later one
stopped_later : (ts tc : Bool) (s : Shape) (job : Job) (passes every sessions : ℕ) (dims : Dims) (old mid new : RackView)
    → (IsTrue ts → IsTrue tc → (mid.stands ≡ Some dims) × HasSizes dims mid.contents)
    → SessionKeeps ts tc s job passes every old mid → IsStopped ts tc s job sessions old mid → SessionStopped ts tc s job mid new
    → IsStopped ts tc s job (sessions + 1) old new
stopped_later ts tc s job passes every sessions dims old mid new here keeps x y = record {
  cause = rose_earlier old.faults mid.faults new.faults keeps.kept.faults y.cause;
  clean = y.clean;
  most = (let m = x.most in let n = y.most in let sum : run_most s job *
      (sessions + 1) ≡ run_most s job * sessions + run_most s job = omega arith in omega (arith, m, n, sum));
  paid = λ told_stands told_contents sound.
      let at = here told_stands told_contents in
      let now = keeps.sound told_stands told_contents sound in
      let gone = consistent_gone dims mid.contents (now.consistent dims at.0 dims mid.contents at.0 (image_self mid dims at.1)) in
      paid_then s sessions old mid new gone.0 x.clean gone.1 (x.paid told_stands told_contents sound) (y.paid told_stands told_contents now)
      (y.settled told_stands told_contents now);
}

-- one more session that a stop ended
pub between_next : (ts tc : Bool) (s : Shape) (job : Job) (passes every sessions : ℕ) (dims : Dims) (old mid new : RackView)
    → old.attached ≡ Some dims
    → IsBetween ts tc s job passes every sessions old mid → SessionKeeps ts tc s job passes every mid new
    → SessionStopped ts tc s job mid new
    → IsWellFormed ts tc new → IsBetween ts tc s job passes every (sessions + 1) old new
between_next ts tc s job passes every sessions dims old mid new attached x keeps y well = record {
  well = well;
  keeps = session_keeps_then ts tc s job passes every old mid new x.keeps keeps;
  first = λ none. absurd (omega (arith, none));
  later = λ _. elim (cases_lt 0 sessions) [
    | inl more ↦
        stopped_later ts tc s job passes every sessions dims old mid new (stands_here ts tc dims mid x.well (x.keeps.kept.attached
        ∙ attached)) x.keeps (x.later more) y
    | inr none ↦
        let zero : sessions ≡ 0 = omega (arith, none) in
        subst (λ (k : ℕ). IsStopped ts tc s job (k + 1) old new) (sym zero)
        (subst (λ (v : RackView). IsStopped ts tc s job 1 v new) (x.first zero) (stopped_first ts tc s job mid new y))
  ];
}
