use Rattle.std.proofs.Common.{◌≡◌, slice_index}
use Rattle.bm_butter.specs.OnBits.{set_of}
use Rattle.bm_kinds.proofs.few_bits.set_of_bits.Given as goal

abbrev pub invariant-loop-j : goal.invariant-loop-j
invariant-loop-j g l = l.set ≡ set_of (slice_index l.bits) l.j
