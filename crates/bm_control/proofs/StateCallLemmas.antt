-- How many pages are read of the control file, step by step.
use Rattle.std.proofs.Common.{Ok, Err, ◌≡◌, ◌↔◌, ℕ, ◌+◌, ◌*◌, ◌<◌, ◌≤◌, List, Option, Some, Result, IfOk, Bool, refl, sym, ◌∙◌, ap, subst}
use Rattle.std.proofs.Common.{arith}
use Rattle.bm_base.specs.declared.shape.Shape.{Shape}
use Rattle.bm_base.specs.Contents.{Contents, page_at}
use Rattle.bm_rack.specs.RackView.{RackView, IsWellFormed}
use Rattle.bm_rack.specs.Frames.{RaisesCounts}
use Rattle.bm_rack.proofs.FrameLemmas.{RaisesCounts-trans, raised-zero}
use Rattle.bm_forms.specs.declared.job.Job.{Job}
use Rattle.bm_control.specs.declared.state.SlateState.{SlateState}
use Rattle.bm_control.specs.declared.state.SlateState.TheVariants.{Closed, Loaded, Working}
use Rattle.bm_control.specs.declared.state.ControlError.{ControlError}
use Rattle.bm_base.specs.Shape.{loads_of}
use Rattle.bm_control.specs.Bodies.{IsJobBody}
use Rattle.bm_control.specs.Pages.{job_body, HasOpenLoad, HasLoadBody, HasJobBody}
use Rattle.bm_control.specs.PageCalls.{ReadsPages}
use Rattle.bm_control.specs.State.{IsJobOpen}
use Rattle.bm_control.specs.StateCalls.{SlotReads, SlotCalls, JobPages, StatePages}
use Rattle.bm_control.proofs.EqualLemmas.{some_injective}
use Rattle.bm_control.proofs.PageCallLemmas.{reads_more}

-- fewer pages than the bound
pub reads_fewer : (most more : ℕ) (old new : RackView) → most ≤ more → ReadsPages 0 most old new → ReadsPages 0 more old new
reads_fewer most more old new less x = record {
  moves = x.moves;
  pages = record { low = x.pages.low; high = omega (arith, x.pages.high, less) };
  syncs = x.syncs;
}

-- a number of pages within the bound
pub reads_within : {tells_stands tells_contents : Bool} (n most : ℕ) (old new : RackView) → IsWellFormed tells_stands tells_contents old
    → n ≤ most
    → RaisesCounts 0 n 0 old new
    → ReadsPages 0 most old new
reads_within n most old new well less x = record {
  moves = x.moves ∙ raised-zero old.moves well.moves;
  pages = record { low = omega (arith, x.pages, well.pages); high = omega (arith, x.pages, less) };
  syncs = x.syncs ∙ raised-zero old.syncs well.syncs;
}

-- pages of which fewer may be, and more
pub reads_wider : {tells_stands tells_contents : Bool} (least most more : ℕ) (old new : RackView)
    → IsWellFormed tells_stands tells_contents old → most ≤ more → ReadsPages least most old new → ReadsPages 0 more old new
reads_wider least most more old new well less x = record {
  moves = x.moves;
  pages = record { low = omega (arith, x.pages.low, well.pages); high = omega (arith, x.pages.high, less) };
  syncs = x.syncs;
}

-- the pages of a job whose body was found
pub job_pages : (s : Shape) (v : Contents) (page : List ℕ) (found : Job × ℕ × ℕ) (old new : RackView) → page ≡ page_at v job_body
    → ((job : Job) (passes every : ℕ) → ◌≡◌ {A = Option (Job × ℕ × ℕ)} (Some found) (Some (job, passes, every)) ↔ IsJobBody s page job
    passes every)
    → ReadsPages 0 (5 + 2 * found.1) old new → (found.2 ≡ loads_of s → ReadsPages 0 (1 + 2 * found.1) old new)
    → (found.2 < loads_of s → (one two : ℕ) → SlotReads v 0 one → SlotReads v 1 two → ReadsPages 0 (1 + 2 * found.1 + (one + two)) old new)
    → JobPages s v old new
job_pages s v page found old new at exact most whole parts = record {
  bare = λ none. absurd (none found.0 found.1 found.2 (subst (λ (p : List ℕ). IsJobBody s p found.0 found.1 found.2) at
      ((exact found.0 found.1 found.2).0 refl)));
  most = λ job passes every body. subst (λ (p : ℕ). ReadsPages 0 (5 + 2 * p) old new)
      (ap (λ (f : Job × ℕ × ℕ). f.1) (same job passes every body)) most;
  whole = λ job passes every body all. subst (λ (p : ℕ). ReadsPages 0 (1 + 2 * p) old new)
      (ap (λ (f : Job × ℕ × ℕ). f.1) (same job passes every body))
      (whole (ap (λ (f : Job × ℕ × ℕ). f.2) (same job passes every body) ∙ all));
  parts = λ job passes every one two body less first second. subst (λ (p : ℕ). ReadsPages 0 (1 + 2 * p + (one + two)) old new)
      (ap (λ (f : Job × ℕ × ℕ). f.1) (same job passes every body))
      (parts (let e = ap (λ (f : Job × ℕ × ℕ). f.2) (same job passes every body) in omega (arith, e, less)) one two first second);
}
  where
    same : (job : Job) (passes every : ℕ) → HasJobBody s v job passes every → ◌≡◌ {A = Job × ℕ × ℕ} found (job, passes, every)
    same job passes every body = some_injective {X = Job × ℕ × ℕ} found (job, passes, every)
        ((exact job passes every).1 (subst (λ (p : List ℕ). IsJobBody s p job passes every) (sym at) body))

-- of the whole file: the pages up to the job gate, where the load gate is open
pub first_pages : (v : Contents) (old new : RackView) → HasOpenLoad v → ReadsPages 0 3 old new → StatePages v old new
first_pages v old new opened x = record {
  unloaded = λ shut. absurd (shut opened);
  idle = λ _. x;
  bare = λ _. reads_fewer 3 4 old new (omega arith) x;
  most = λ s job passes every _ _. reads_fewer 3 (8 + 2 * passes) old new (omega arith) x;
  whole = λ s job passes every _ _ _. reads_fewer 3 (4 + 2 * passes) old new (omega arith) x;
  parts = λ s job passes every one two _ _ _ _ _. reads_fewer 3 (4 + 2 * passes + (one + two)) old new (omega arith) x;
}

-- and those of an open job after them
pub job_state_pages : {tells_stands tells_contents : Bool} (s : Shape) (v : Contents) (a b c : RackView)
    → IsWellFormed tells_stands tells_contents a
    → IsJobOpen s v → ((t : Shape) → HasLoadBody t v → s ≡ t) → RaisesCounts 0 3 0 a b → JobPages s v b c → StatePages v a c
job_state_pages s v a b c well opened only three pages = record {
  unloaded = λ shut. absurd (shut opened.load_gate);
  idle = λ shut. absurd (shut opened.job_gate);
  bare = λ none. reads_more 3 0 1 4 a b c well (omega arith) three
      (pages.bare (λ job passes every. none s job passes every opened.load_body))
      (omega arith);
  most = λ t job passes every load body. reads_more 3 0 (5 + 2 * passes) (8 + 2 * passes) a b c well (omega arith) three
      (pages.most job passes every (subst (λ (r : Shape). HasJobBody r v job passes every) (sym (only t load)) body)) (omega arith);
  whole = λ t job passes every load body all. reads_more 3 0 (1 + 2 * passes) (4 + 2 * passes) a b c well (omega arith) three
      (pages.whole job passes every (subst (λ (r : Shape). HasJobBody r v job passes every) (sym (only t load)) body)
      (subst (λ (r : Shape). every ≡ loads_of r) (sym (only t load)) all)) (omega arith);
  parts = λ t job passes every one two load body less first second. reads_more 3 0 (1 + 2 * passes + (one + two))
      (4 + 2 * passes + (one + two))
      a b c well (omega arith) three
      (pages.parts job passes every one two (subst (λ (r : Shape). HasJobBody r v job passes every) (sym (only t load)) body)
      (subst (λ (r : Shape). every < loads_of r) (sym (only t load)) less) first second) (omega arith);
}

-- three pages more before those of an open job
pub slots_later : (v : Contents) (r : Result SlateState ControlError) (a b c : RackView) → RaisesCounts 0 3 0 a b
    → IfOk r (λ state. SlotCalls v 1 state b c)
    → IfOk r (λ state. SlotCalls v 4 state a c)
slots_later v (Ok Closed) a b c three answer = tt
slots_later v (Ok (Loaded s)) a b c three answer = tt
slots_later v (Ok (Working s job passes done every part slot)) a b c three answer = λ less one two first second.
    subst (λ (n : ℕ). RaisesCounts 0 n 0 a c) (let e : 3 + (1 + 2 * passes + (one + two)) ≡ 4 + 2 * passes + (one + two) = omega arith in e)
    (RaisesCounts-trans 0 3 0 0 (1 + 2 * passes + (one + two)) 0 a b c three (answer less one two first second))
slots_later v (Err e) a b c three answer = tt
