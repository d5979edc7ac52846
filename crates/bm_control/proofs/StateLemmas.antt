-- What the control file tells, page by page.
use Rattle.std.proofs.Common.{Ok, Err, ◌≡◌, ◌⊎◌, inl, inr, ⊎_elim, ℕ, ◌+◌, ◌<◌, ◌≤◌, List, Option, Some, None, IfSome, Result, refl, sym}
use Rattle.std.proofs.Common.{◌∙◌, ap}
use Rattle.std.proofs.Common.{subst, arith}
use Rattle.std.proofs.lemmas.Bool.{cases_lt, cases_eq}
use Rattle.bm_base.specs.declared.shape.Shape.{Shape}
use Rattle.bm_base.specs.Contents.{Contents, page_at}
use Rattle.bm_base.specs.Gate.{IsOpenGate, IsClosedGate}
use Rattle.bm_forms.specs.declared.job.Job.{Job}
use Rattle.bm_control.specs.declared.state.SlateState.{SlateState}
use Rattle.bm_control.specs.declared.state.SlateState.TheVariants.{Closed, Loaded, Working}
use Rattle.bm_control.specs.declared.state.ControlError.{ControlError}
use Rattle.bm_control.specs.declared.state.ControlError.TheVariants.{Failed, BadPage}
use Rattle.bm_base.specs.Shape.{loads_of}
use Rattle.bm_control.specs.Bodies.{IsPartBody}
use Rattle.bm_control.specs.Pages.{pass_gate, slot_body, slot_gate, HasJobBody}
use Rattle.bm_control.specs.Consistent.{GatesAre}
use Rattle.bm_control.specs.Progress.{Counts}
use Rattle.bm_control.specs.State.{HasPassBody, PassesStand, PassRead, PassAnswer, PassesAnswer, SlotRead, SlotAnswer, SlotsAnswer}
use Rattle.bm_control.specs.State.{SlotsRead}
use Rattle.bm_control.specs.State.{IsGoodSlot, CountedOf, CountFits, PartFits, IsWorking, IsJobOpen, JobAnswer, ProgressAnswer, StateAnswer}
use Rattle.std.proofs.Math.Path.{subst₂}
use Rattle.bm_control.proofs.BodyLemmas.{part_numbers}
use Rattle.bm_control.proofs.EqualLemmas.{some_injective, none_some}

-- no pages of passes yet
pub passes_none : (s : Shape) (v : Contents) → PassesStand s v 0 0
passes_none s v = record {
  bodies = λ i h. absurd (omega (arith, h));
  gates = record { few = omega arith; opened = λ k h. absurd (omega (arith, h)); closed = λ k h g. absurd (omega (arith, g)) };
}

-- one more
pub passes_more : (s : Shape) (v : Contents) (k done next : ℕ) → PassesStand s v k done → PassRead s v k done next
    → PassesStand s v (k + 1) next
passes_more s v k done next before read = record {
  bodies = λ i h. elim (cases_eq i k) [
    | inl same ↦ subst (HasPassBody s v) (sym same) read.body
    | inr other ↦ before.bodies i (omega (arith, h, other))
  ];
  gates = ⊎_elim
      (λ (o : IsOpenGate (page_at v (pass_gate k)) × (done ≡ k) × (next ≡ k + 1)). all_open o.0 o.1 o.2)
      (λ (o : IsClosedGate (page_at v (pass_gate k)) × (next ≡ done)). one_closed o.0 o.1)
      read.gate;
}
  where
    all_open : IsOpenGate (page_at v (pass_gate k)) → done ≡ k → next ≡ k + 1 → GatesAre v (k + 1) next
    all_open gate all is = record {
      few = omega (arith, is);
      opened = λ i h. elim (cases_eq i k) [
        | inl same ↦ subst (λ (x : ℕ). IsOpenGate (page_at v (pass_gate x))) (sym same) gate
        | inr other ↦ before.gates.opened i (omega (arith, h, other, all, is))
      ];
      closed = λ i from h. absurd (omega (arith, from, h, is));
    }

    one_closed : IsClosedGate (page_at v (pass_gate k)) → next ≡ done → GatesAre v (k + 1) next
    one_closed gate is = record {
      few = (let few = before.gates.few in omega (arith, is, few));
      opened = λ i h. before.gates.opened i (omega (arith, h, is));
      closed = λ i from h. elim (cases_eq i k) [
        | inl same ↦ subst (λ (x : ℕ). IsClosedGate (page_at v (pass_gate x))) (sym same) gate
        | inr other ↦ before.gates.closed i (omega (arith, from, is)) (omega (arith, h, other))
      ];
    }

-- a pass page that is wrong is the first of them
pub passes_bad : (s : Shape) (v : Contents) (passes k done : ℕ) (e : ControlError) → k < passes → PassesStand s v k done
    → PassAnswer s v k done (Err e) → PassesAnswer s v passes (Err e)
passes_bad s v passes k done Failed below before answer = tt
passes_bad s v passes k done (BadPage page) below before answer = record
    { k = k; done = done; below = below; before = before; bad = answer }

-- the first slot is wrong
pub slots_first_bad : (s : Shape) (v : Contents) (passes done every : ℕ) (e : ControlError) → every < loads_of s
    → SlotAnswer s v passes done 0 (Err e) → SlotsAnswer s v passes done every (Err e)
slots_first_bad s v passes done every Failed less answer = tt
slots_first_bad s v passes done every (BadPage page) less answer = (less, inl (answer.1, answer.0))

-- the second one is
pub slots_second_bad : (s : Shape) (v : Contents) (passes done every : ℕ) (e : ControlError) → every < loads_of s
    → IsGoodSlot s v passes done 0
    → SlotAnswer s v passes done 1 (Err e) → SlotsAnswer s v passes done every (Err e)
slots_second_bad s v passes done every Failed less first answer = tt
slots_second_bad s v passes done every (BadPage page) less first answer = (less, inr (first, answer.0, answer.1))

-- one of two numbers below 2
two_cases : (n : ℕ) → n < 2 → (n ≡ 0) ⊎ (n ≡ 1)
two_cases n h = ⊎_elim (λ (p : n < 1). inl (omega arith)) (λ (p : 1 ≤ n). inr (omega arith)) (cases_lt n 1)

-- a job without slots counts none
pub counted_none : (s : Shape) (v : Contents) (passes done every : ℕ) → every ≡ loads_of s → SlotsRead s v passes done every 0 2
counted_none s v passes done every same = record {
  good = λ less. absurd (omega (arith, less, same));
  counted = record {
    none = λ _. refl;
    range = omega arith;
    nothing = λ _. refl;
    counts = λ less. absurd (omega (arith, less));
    most = λ less. absurd (omega (arith, less, same));
    first = λ is. absurd (omega (arith, is));
  };
}

-- both slots together
pub counted_both : (s : Shape) (v : Contents) (passes done every part slot : ℕ) (one two : Option ℕ) → every < loads_of s
    → SlotRead s v passes done 0 one → SlotRead s v passes done 1 two
    → CountedOf one two part slot → SlotsRead s v passes done every part slot
counted_both s v passes done every part slot one two less first second of = record {
  good = λ _ other h. elim (two_cases other h) [
    | inl zero ↦ subst (IsGoodSlot s v passes done) (sym zero) first.good
    | inr one ↦ subst (IsGoodSlot s v passes done) (sym one) second.good
  ];
  counted = record {
    none = λ same. absurd (omega (arith, less, same));
    range = of.range;
    nothing = λ is. (of.none is).2;
    counts = λ h. elim (two_cases slot h) [
      | inl zero ↦ subst (λ (x : ℕ). Counts s v done x part) (sym zero) (first.counts part (of.zero zero).0)
      | inr one ↦ subst (λ (x : ℕ). Counts s v done x part) (sym one) (second.counts part (of.one one).0)
    ];
    most = λ _ other loads h c. elim (two_cases other h) [
      | inl zero ↦ most_first loads (first.only loads (subst (λ (x : ℕ). Counts s v done x loads) zero c))
      | inr one ↦ most_second loads (second.only loads (subst (λ (x : ℕ). Counts s v done x loads) one c))
    ];
    first = λ is c. (let less = (of.one is).1 part (first.only part c) in omega (arith, less));
  };
}
  where
    slot_cases : (slot ≡ 2) ⊎ ((slot ≡ 0) ⊎ (slot ≡ 1))
    slot_cases = ⊎_elim (λ (p : slot < 2). inr (two_cases slot p)) (λ (p : 2 ≤ slot). inl (let r = of.range in omega (arith, r)))
        (cases_lt slot 2)

    most_first : (loads : ℕ) → one ≡ Some loads → (slot < 2) × (loads ≤ part)
    most_first loads is = elim slot_cases [
      | inl none ↦ absurd (none_some loads (sym (of.none none).0 ∙ is))
      | inr (inl zero) ↦ (omega (arith, zero), (let e = some_injective part loads (sym (of.zero zero).0 ∙ is) in omega (arith, e)))
      | inr (inr one) ↦ (omega (arith, one), (let e = (of.one one).1 loads is in omega (arith, e)))
    ]

    most_second : (loads : ℕ) → two ≡ Some loads → (slot < 2) × (loads ≤ part)
    most_second loads is = elim slot_cases [
      | inl none ↦ absurd (none_some loads (sym (of.none none).1 ∙ is))
      | inr (inl zero) ↦ (omega (arith, zero), (of.zero zero).1 loads is)
      | inr (inr one) ↦ (omega (arith, one), (let e = some_injective part loads (sym (of.one one).0 ∙ is) in omega (arith, e)))
    ]

-- the ranges of what is counted
pub counted_fits : (s : Shape) (passes done every part slot : ℕ) (one two : Option ℕ) → every < loads_of s
    → IfSome one (λ loads. CountFits s passes done loads)
    → IfSome two (λ loads. CountFits s passes done loads) → CountedOf one two part slot → PartFits s passes done every part slot
counted_fits s passes done every part slot one two less first second of = record {
  range = of.range;
  nothing = λ is. (of.none is).2;
  counts = λ h. count h;
  parts = λ _. less;
  whole = λ same. absurd (omega (arith, less, same));
  few = ⊎_elim (λ (h : slot < 2). (count h).loads_few)
      (λ (h : 2 ≤ slot). (let r = of.range in let z = (of.none (omega (arith, h, r))).2 in omega (arith, less, z)))
      (cases_lt slot 2);
}
  where
    count : slot < 2 → CountFits s passes done part
    count h = elim (two_cases slot h) [
      | inl zero ↦ subst (λ (found : Option ℕ). IfSome found (λ loads. CountFits s passes done loads)) (of.zero zero).0 first
      | inr one ↦ subst (λ (found : Option ℕ). IfSome found (λ loads. CountFits s passes done loads)) (of.one one).0 second
    ]

-- a page is one part body at most
pub part_unique : (s : Shape) (page : List ℕ) (p l p' l' : ℕ) → IsPartBody s page p l → IsPartBody s page p' l' → (p ≡ p') × (l ≡ l')
part_unique s page p l p' l' one two =
    let x = part_numbers s page p l one in
    let y = part_numbers s page p' l' two in
    (sym x.pass_is ∙ y.pass_is, sym x.loads_are ∙ y.loads_are)

-- an open slot whose body names a pass that may be under way
slot_good : (s : Shape) (v : Contents) (passes done slot pass loads : ℕ) → IsPartBody s (page_at v (slot_body slot)) pass loads
    → pass ≤ passes
    → pass ≤ done + 1
    → IsGoodSlot s v passes done slot
slot_good s v passes done slot pass loads body known soon = λ _. record
    { pass = pass; loads = loads; body = body; known = known; soon = soon }

pub slot_old : (s : Shape) (v : Contents) (passes done slot pass loads : ℕ) → IsPartBody s (page_at v (slot_body slot)) pass loads
    → pass ≤ passes
    → pass ≤ done
    → SlotRead s v passes done slot None
slot_old s v passes done slot pass loads body known old = record {
  good = slot_good s v passes done slot pass loads body known (omega arith);
  counts = λ l is. absurd (none_some l is);
  only = λ l c. (let e = (part_unique s (page_at v (slot_body slot)) pass loads (done + 1) l body c.body).0 in absurd
      (omega (arith, e, old)));
}

pub slot_now : (s : Shape) (v : Contents) (passes done slot pass loads : ℕ) → IsOpenGate (page_at v (slot_gate slot))
    → IsPartBody s (page_at v (slot_body slot)) pass loads
    → pass ≤ passes → pass ≡ done + 1 → SlotRead s v passes done slot (Some loads)
slot_now s v passes done slot pass loads gate body known now = record {
  good = slot_good s v passes done slot pass loads body known (omega (arith, now));
  counts = λ l is. record {
    opened = gate;
    body = subst₂ (λ (p n : ℕ). IsPartBody s (page_at v (slot_body slot)) p n) now (some_injective loads l is) body;
  };
  only = λ l c. ap Some (part_unique s (page_at v (slot_body slot)) pass loads (done + 1) l body c.body).1;
}

-- a page is wrong behind the job body
pub progress_passes_bad : (s : Shape) (v : Contents) (passes every : ℕ) (e : ControlError) → PassesAnswer s v passes (Err e)
    → ProgressAnswer s v passes every (Err e)
progress_passes_bad s v passes every Failed answer = tt
progress_passes_bad s v passes every (BadPage page) answer = inl answer

pub progress_slots_bad : (s : Shape) (v : Contents) (passes every done : ℕ) (e : ControlError) → PassesStand s v passes done
    → SlotsAnswer s v passes done every (Err e) → ProgressAnswer s v passes every (Err e)
progress_slots_bad s v passes every done Failed stand answer = tt
progress_slots_bad s v passes every done (BadPage page) stand answer = inr (answer.0, (done, stand, answer.1))

pub job_progress_bad : (s : Shape) (v : Contents) (job : Job) (passes every : ℕ) (e : ControlError) → HasJobBody s v job passes every
    → ProgressAnswer s v passes every (Err e) → JobAnswer s v (Err e)
job_progress_bad s v job passes every Failed body answer = tt
job_progress_bad s v job passes every (BadPage page) body answer = inr
    (record { job = job; passes = passes; every = every; body = body; bad = answer })

-- the state, from the pages of an open job
pub state_of_job : (s : Shape) (v : Contents) (r : Result SlateState ControlError) → IsJobOpen s v → JobAnswer s v r → StateAnswer v r
state_of_job s v (Ok Closed) opened answer = absurd answer
state_of_job s v (Ok (Loaded shape)) opened answer = absurd answer
state_of_job s v (Ok (Working shape job passes done every part slot)) opened answer =
    subst (λ (t : Shape). IsJobOpen t v × IsWorking t v job passes done every part slot) (sym answer.0) (opened, answer.1)
state_of_job s v (Err Failed) opened answer = tt
state_of_job s v (Err (BadPage page)) opened answer = inr (s, opened, answer)
