use Rattle.std.proofs.Common.{◌≡◌, ℕ, ◌<◌}
use Rattle.std.specs.Int.{bit_at}
use Rattle.bm_kinds.proofs.low_run.low_run.Given as goal

abbrev pub invariant-loop-low : goal.invariant-loop-low
invariant-loop-low l = record {
  held : (k : ℕ) → k < l.low → bit_at l.set k ≡ 1;
}
