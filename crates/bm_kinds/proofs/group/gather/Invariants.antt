use Rattle.std.proofs.Common.{◌^◌, ◌≡◌, ℕ, ◌<◌, length, slice_index}
use Rattle.bm_butter.specs.OnBits.{word}
use Rattle.bm_butter.specs.Records.{record_in_order}
use Rattle.bm_kinds.specs.Groups.{corner}
use Rattle.bm_kinds.proofs.group.gather.Given as goal

abbrev pub invariant-loop-t : goal.invariant-loop-t
invariant-loop-t g l = record {
  long : length l.numbers ≡ 8;
  numbers : (s : ℕ) → s < l.t → slice_index l.numbers s ≡ word (record_in_order l.buf (corner l.here (slice_index l.offsets) s));
  end : l.t-end ≡ 2 ^ g.row.T;
}
