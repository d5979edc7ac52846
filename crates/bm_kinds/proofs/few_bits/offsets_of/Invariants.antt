use Rattle.std.proofs.Common.{◌^◌, ◌≡◌, ℕ, ◌<◌, length, slice_index}
use Rattle.bm_gf2.specs.Matrix.{image}
use Rattle.bm_kinds.specs.Groups.{member}
use Rattle.bm_kinds.proofs.few_bits.offsets_of.Given as goal

abbrev pub invariant-loop-t : goal.invariant-loop-t
invariant-loop-t g l = record {
  long : length l.offsets ≡ 8;
  images : (s : ℕ) → s < l.t → slice_index l.offsets s ≡ image l.a (member (slice_index l.bits) g.row.T s);
  end : l.t-end ≡ 2 ^ g.row.T;
}
