use Rattle.std.proofs.Common.{◌≡◌, ◌<◌, ◌/◌, ◌^◌, ℕ, true}
use Rattle.bm_gf2.specs.Matrix.{column}
use Rattle.bm_rank.specs.Span.{in_span}
use Rattle.bm_factor.proofs.trailing.free_column.Given as goal

abbrev pub invariant-loop-i : goal.invariant-loop-i
invariant-loop-i l = (k : ℕ) → k < l.i → in_span l.found.kept (column l.a k / 2 ^ l.m) ≡ true
