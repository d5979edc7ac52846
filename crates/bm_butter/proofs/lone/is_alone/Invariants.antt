use Rattle.std.proofs.Common.{◌≡◌, ◌≢◌, ℕ, ◌<◌}
use Rattle.std.specs.Int.{bit_at}
use Rattle.bm_gf2.specs.Matrix.{column}
use Rattle.bm_butter.proofs.lone.is_alone.Given as goal

abbrev pub invariant-loop-j : goal.invariant-loop-j
invariant-loop-j l = (j : ℕ) → j < l.j → j ≢ l.i → bit_at (column l.a j) l.h ≡ 0
