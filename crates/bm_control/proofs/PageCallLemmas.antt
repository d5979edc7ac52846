-- Page calls and syncs of one call after another.
use Rattle.std.proofs.Common.{ℕ, ◌+◌, ◌≤◌, Bool, ◌∙◌, arith}
use Rattle.bm_rack.specs.RackView.{RackView, IsWellFormed}
use Rattle.bm_rack.specs.Frames.{RaisesCounts, MakesPageCalls}
use Rattle.bm_rack.proofs.CallLemmas.{rises_by, rises_then, rises_wider}
use Rattle.bm_rack.proofs.FrameLemmas.{raised-zero}
use Rattle.bm_control.specs.PageCalls.{ReadsPages}

-- a call that is counted exactly
pub exact : {tells_stands tells_contents : Bool} (succeeds : Type 0) (p s : ℕ) (old new : RackView)
    → IsWellFormed tells_stands tells_contents old
    → RaisesCounts 0 p s old new → MakesPageCalls succeeds p s old new
exact succeeds p s old new well c = record {
  moves = c.moves ∙ raised-zero old.moves well.moves;
  pages = rises_by succeeds p _ _ well.pages c.pages;
  syncs = rises_by succeeds s _ _ well.syncs c.syncs;
}

-- a call after one that succeeded
pub later : {tells_stands tells_contents : Bool} (succeeds : Type 0) (p s p' s' : ℕ) (a b c : RackView)
    → IsWellFormed tells_stands tells_contents a
    → RaisesCounts 0 p s a b → MakesPageCalls succeeds p' s' b c → MakesPageCalls succeeds (p + p') (s + s') a c
later succeeds p s p' s' a b c well x y =
    let before = exact (Unit {0}) p s a b well x in
    record {
      moves = y.moves ∙ before.moves;
      pages = rises_then p p' (Unit {0}) succeeds _ _ _ (λ _. tt) before.pages y.pages;
      syncs = rises_then s s' (Unit {0}) succeeds _ _ _ (λ _. tt) before.syncs y.syncs;
    }

-- a call that fails before its end
pub early : (first succeeds : Type 0) (p s p' s' : ℕ) (a b : RackView) → ¬ succeeds → p ≤ p' → s ≤ s' → MakesPageCalls first p s a b
    → MakesPageCalls succeeds p' s' a b
early first succeeds p s p' s' a b fails fewer_pages fewer_syncs x = record {
  moves = x.moves;
  pages = rises_wider p p' first succeeds _ _ fewer_pages (λ ok. absurd (fails ok)) x.pages;
  syncs = rises_wider s s' first succeeds _ _ fewer_syncs (λ ok. absurd (fails ok)) x.syncs;
}

-- a page that was read, and pages after it
pub reads_pages : {tells_stands tells_contents : Bool} (succeeds : Type 0) (p most : ℕ) (a b c : RackView)
    → IsWellFormed tells_stands tells_contents a → 1 + p ≤ most
    → RaisesCounts 0 1 0 a b → MakesPageCalls succeeds p 0 b c → ReadsPages 0 most a c
reads_pages succeeds p most a b c well fewer x y = record {
  moves = y.moves ∙ x.moves ∙ raised-zero a.moves well.moves;
  pages = record { low = omega (arith, x.pages, y.pages.low, well.pages); high = omega (arith, x.pages, y.pages.high, fewer) };
  syncs = omega (arith, x.syncs, y.syncs.low, y.syncs.high, well.syncs);
}

-- pages that were read exactly, and pages after them
pub reads_more : {tells_stands tells_contents : Bool} (p least more most : ℕ) (a b c : RackView)
    → IsWellFormed tells_stands tells_contents a
    → p + more ≤ most
    → RaisesCounts 0 p 0 a b → ReadsPages 0 more b c → least ≤ p → ReadsPages least most a c
reads_more p least more most a b c well fewer x y few = record {
  moves = y.moves ∙ x.moves ∙ raised-zero a.moves well.moves;
  pages = record { low = omega (arith, x.pages, y.pages.low, well.pages, few); high = omega (arith, x.pages, y.pages.high, fewer) };
  syncs = y.syncs ∙ x.syncs ∙ raised-zero a.syncs well.syncs;
}
