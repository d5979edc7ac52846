use Rattle.std.proofs.Common.{◌≤◌}
use Rattle.bm_gf2.specs.Matrix.{IsNonsingular}
use Rattle.bm_factor.specs.Reducer.{IsReducer}
use Rattle.bm_factor.proofs.reducing.zeros_first.Given as goal

abbrev pub invariant-loop-j : goal.invariant-loop-j
invariant-loop-j l = (IsReducer l.a l.sorted l.m) × (IsNonsingular l.sorted) × (l.zeros ≤ l.j)
