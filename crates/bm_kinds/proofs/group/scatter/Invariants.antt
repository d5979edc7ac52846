use Rattle.std.proofs.Common.{◌^◌, ◌≡◌, ◌≢◌, ℕ, ◌<◌, length, slice_index}
use Rattle.bm_base.specs.Butterfly.{record_of}
use Rattle.bm_butter.specs.Records.{record_in_order}
use Rattle.bm_kinds.specs.Groups.{corner}
use Rattle.bm_kinds.proofs.group.scatter.Given as goal

abbrev pub invariant-loop-t : goal.invariant-loop-t
invariant-loop-t g l = record {
  size : length l.buf ≡ length l.fn.buf;
  written : (s : ℕ) → s < l.t → record_in_order l.buf (corner l.here (slice_index l.offsets) s) ≡ record_of (slice_index l.numbers s);
  others : (x : ℕ) → ((s : ℕ) → s < l.t → x ≢ corner l.here (slice_index l.offsets) s)
      → record_in_order l.buf x ≡ record_in_order l.fn.buf x;
  end : l.t-end ≡ 2 ^ g.row.T;
}
