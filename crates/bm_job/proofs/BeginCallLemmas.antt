-- How many calls a begin makes.
use Rattle.std.proofs.Common.{Ok, Err, ◌≡◌, ℕ, ◌+◌, ◌*◌, ◌≤◌, Result, IfOk, ◌∙◌, subst, arith}
use Rattle.bm_base.specs.declared.shape.Shape.{Shape}
use Rattle.bm_base.specs.Contents.{Contents}
use Rattle.bm_rack.specs.RackView.{RackView}
use Rattle.bm_rack.proofs.CallLemmas.{most_of, most_then}
use Rattle.bm_control.specs.declared.state.SlateState.{SlateState}
use Rattle.bm_control.specs.declared.state.SlateState.TheVariants.{Loaded}
use Rattle.bm_control.specs.Pages.{HasClosedJob}
use Rattle.bm_rack.specs.Frames.{MakesPageCalls}
use Rattle.bm_job.specs.declared.answers.RunError.{RunError}
use Rattle.bm_job.specs.declared.machine.Machine.{Machine}
use Rattle.bm_job.specs.Begins.{SettledCounts, SettledPages, BeginCalls, IsStart}
use Rattle.std.proofs.Common.{Bool}
use Rattle.bm_rack.specs.RackView.{IsWellFormed}
use Rattle.bm_rack.specs.Frames.{RaisesCounts}
use Rattle.bm_rack.proofs.CallLemmas.{rises_by}
use Rattle.bm_rack.proofs.FrameLemmas.{raised-zero}
use Rattle.bm_control.specs.declared.state.SlateState.TheVariants.{Closed, Working}
use Rattle.bm_control.specs.declared.state.ControlError.{ControlError}
use Rattle.bm_control.specs.PageCalls.{ReadsPages}
use Rattle.bm_control.specs.State.{StateFits}
use Rattle.bm_control.specs.StateCalls.{StateCalls, StatePages}
use Rattle.bm_control.proofs.StateCallLemmas.{reads_within, reads_wider}
use Rattle.bm_control.proofs.JobBodyLemmas.{limit-most}

-- more calls may be made
pub calls_wider : (p s p' s' : ℕ) (a b : RackView) → p ≤ p' → s ≤ s' → MakesPageCalls ⊥ p s a b → MakesPageCalls ⊥ p' s' a b
calls_wider p s p' s' a b pages syncs x = record {
  moves = x.moves;
  pages = most_of p p' ⊥ _ _ pages x.pages;
  syncs = most_of s s' ⊥ _ _ syncs x.syncs;
}

-- calls after others
pub calls_then : (p s p' s' p'' s'' : ℕ) (a b c : RackView) → p + p' ≤ p'' → s + s' ≤ s'' → MakesPageCalls ⊥ p s a b
    → MakesPageCalls ⊥ p' s' b c → MakesPageCalls ⊥ p'' s'' a c
calls_then p s p' s' p'' s'' a b c pages syncs x y = record {
  moves = y.moves ∙ x.moves;
  pages = most_then p p' p'' _ _ _ pages x.pages y.pages;
  syncs = most_then s s' s'' _ _ _ syncs x.syncs y.syncs;
}

-- the most calls of a begin that starts nothing
pub most_read : (a b : RackView) → MakesPageCalls ⊥ 516 1 a b → MakesPageCalls ⊥ 516 3 a b
most_read a b x = calls_wider 516 1 516 3 a b (omega arith) (omega arith) x

-- and of one that starts a job
pub most_started : (passes : ℕ) (a b c : RackView) → passes ≤ 254 → MakesPageCalls ⊥ 3 1 a b → MakesPageCalls ⊥ (4 + 2 * passes) 2 b c
    → MakesPageCalls ⊥ 516 3 a c
most_started passes a b c few x y = calls_then 3 1 (4 + 2 * passes) 2 516 3 a b c (omega (arith, few)) (omega arith) x y

-- the calls of a begin that starts nothing
pub begin_read : (v : Contents) (passes : ℕ) (a b : RackView) → SettledPages v a b → BeginCalls v passes a b
begin_read v passes a b x = record {
  none = λ closed. calls_wider 3 1 (7 + 2 * passes) 3 a b (omega arith) (omega arith) (x.idle closed);
  bare = λ none. calls_wider 4 1 (7 + 2 * passes) 3 a b (omega arith) (omega arith) (x.bare none);
  opened = λ gate s job p every load body. x.most s job p every load body;
}

-- and of one that starts a job
pub begin_started : (v : Contents) (passes : ℕ) (a b c : RackView) → HasClosedJob v → SettledPages v a b
    → MakesPageCalls ⊥ (4 + 2 * passes) 2 b c
    → BeginCalls v passes a c
begin_started v passes a b c closed x y = record {
  none = λ _. all;
  bare = λ _. all;
  opened = λ gate. absurd (closed gate);
}
  where
    all : MakesPageCalls ⊥ (7 + 2 * passes) 3 a c
    all = calls_then 3 1 (4 + 2 * passes) 2 (7 + 2 * passes) 3 a b c (omega arith) (omega arith) (x.idle closed) y

-- the calls of a begin that opened a job, by the machine
pub counts_started : (passes every : ℕ) (a b c : RackView) (r : Result Machine RunError) → MakesPageCalls ⊥ 3 1 a b
    → MakesPageCalls ⊥ (4 + 2 * passes) 2 b c
    → IfOk r (λ m. IsStart passes every m) → IfOk r (λ m. MakesPageCalls ⊥ (8 + 2 * m.passes) 3 a c)
counts_started passes every a b c (Ok m) x y start =
    let same = start.passes_are in
    calls_then 3 1 (4 + 2 * passes) 2 (8 + 2 * m.passes) 3 a b c (omega (arith, same)) (omega arith) x y
counts_started passes every a b c (Err e) x y start = tt

pub counts_loaded : (s : Shape) (state : SlateState) (a b : RackView) → state ≡ Loaded s → SettledCounts state a b
    → MakesPageCalls ⊥ 3 1 a b
counts_loaded s state a b is x = subst (λ (t : SlateState). SettledCounts t a b) is x

-- a sync and pages read after it
pub sync_read : {tells_stands tells_contents : Bool} (most pages : ℕ) (a b c : RackView) → IsWellFormed tells_stands tells_contents a
    → RaisesCounts 0 0 1 a b
    → ReadsPages 0 most b c → most ≤ pages → MakesPageCalls ⊥ pages 1 a c
sync_read most pages a b c well x y few = record {
  moves = y.moves ∙ x.moves ∙ raised-zero a.moves well.moves;
  pages = record {
    done = λ e. absurd e;
    low = omega (arith, x.pages, y.pages.low, well.pages);
    high = omega (arith, x.pages, y.pages.high, few);
  };
  syncs = rises_by ⊥ 1 _ _ well.syncs (y.syncs ∙ x.syncs);
}

pub settled_pages : {tells_stands tells_contents : Bool} (v w : Contents) (a b c : RackView) → w ≡ v
    → IsWellFormed tells_stands tells_contents a
    → RaisesCounts 0 0 1 a b → StatePages w b c → SettledPages v a c
settled_pages v w a b c same well x z =
    let y = subst (λ (d : Contents). StatePages d b c) same z in record {
      idle = λ closed. sync_read 3 3 a b c well x (y.idle closed) (omega arith);
      bare = λ none. sync_read 4 4 a b c well x (y.bare none) (omega arith);
      most = λ s job p every load body. sync_read (8 + 2 * p) (8 + 2 * p) a b c well x (y.most s job p every load body) (omega arith);
    }

-- the most pages that are read, whatever is told
state_most : {tells_stands tells_contents : Bool} (r : Result SlateState ControlError) (old new : RackView)
    → IsWellFormed tells_stands tells_contents old
    → IfOk r StateFits → StateCalls r old new → ReadsPages 0 516 old new
state_most (Ok Closed) old new well fits x = reads_within 1 516 old new well (omega arith) x
state_most (Ok (Loaded s)) old new well fits x = reads_within 3 516 old new well (omega arith) x
state_most (Ok (Working s job passes done every part slot)) old new well fits (x, whole) =
    let few = limit-most s job in
    let less = fits.body.passes_few in
    reads_wider (4 + 2 * passes) (8 + 2 * passes) 516 old new well (omega (arith, few, less)) x
state_most (Err e) old new well fits x = x

pub settled_most : {tells_stands tells_contents : Bool} (r : Result SlateState ControlError) (a b c : RackView)
    → IsWellFormed tells_stands tells_contents a
    → IsWellFormed tells_stands tells_contents b → RaisesCounts 0 0 1 a b → IfOk r StateFits → StateCalls r b c → MakesPageCalls ⊥ 516 1 a c
settled_most r a b c well then x fits y = sync_read 516 516 a b c well x (state_most r b c then fits y) (omega arith)
