use Rattle.std.proofs.Common.{◌≡◌, ℕ, ◌+◌, ◌<◌, slice_index}
use Rattle.bm_speed.specs.Pattern.{pattern_byte}
use Rattle.bm_speed.proofs.pattern.fill.Given as goal

abbrev pub invariant-loop-i : goal.invariant-loop-i
invariant-loop-i l = (k : ℕ) → k < l.i → slice_index l.bytes k ≡ pattern_byte (l.first + k)
