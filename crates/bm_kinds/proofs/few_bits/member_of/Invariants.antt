use Rattle.std.proofs.Common.{◌≡◌, slice_index}
use Rattle.bm_kinds.specs.Groups.{member}
use Rattle.bm_kinds.proofs.few_bits.member_of.Given as goal

abbrev pub invariant-loop-j : goal.invariant-loop-j
invariant-loop-j g l = l.number ≡ member (slice_index l.bits) l.j l.t
