use Rattle.std.proofs.Common.{◌≡◌}
use Rattle.bm_factor.proofs.EraserLemmas.{IsErasing}
use Rattle.bm_factor.proofs.erasing.eraser.Given as goal

abbrev pub invariant-loop-j : goal.invariant-loop-j
invariant-loop-j l = (IsErasing l.a l.e l.shape.b l.m l.j) × (l.e.n ≡ l.a.n)
