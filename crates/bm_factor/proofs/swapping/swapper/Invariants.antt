use Rattle.std.proofs.Common.{◌≡◌, ◌≤◌}
use Rattle.bm_factor.proofs.SwapperLemmas.{IsSwapping}
use Rattle.bm_factor.proofs.swapping.swapper.Given as goal

abbrev pub invariant-loop-i : goal.invariant-loop-i
invariant-loop-i l = (IsSwapping l.a l.s l.m l.next l.i) × (l.s.n ≡ l.a.n) × (l.next ≤ l.m) × (l.shape.b ≤ l.i)
