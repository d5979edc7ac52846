use Rattle.std.proofs.Common.{◌≡◌, length, slice_index}
use Rattle.bm_kinds.specs.Lowest.{TakesBits}
use Rattle.bm_kinds.proofs.lowest.lowest.Given as goal

abbrev pub invariant-loop-j : goal.invariant-loop-j
invariant-loop-j g l = record {
  long : length l.bits ≡ g.row.T;
  takes : TakesBits l.set l.j (slice_index l.bits) l.rest;
}
