use Rattle.std.proofs.Common.{◌^◌, ◌≡◌, ℕ, ◌<◌, length, slice_index}
use Rattle.bm_base.specs.Butterfly.{record_of}
use Rattle.bm_butter.specs.OnBits.{kernel_on}
use Rattle.bm_kinds.proofs.group.on_digit.Given as goal

abbrev pub invariant-loop-t : goal.invariant-loop-t
invariant-loop-t g l = record {
  long : length l.numbers ≡ 8;
  done : (s : ℕ) → s < l.t
      → record_of (slice_index l.numbers s) ≡ kernel_on (g.K.Kernel.meaning l.kernel) l.j (λ k. record_of (slice_index l.from k)) s;
  end : l.t-end ≡ 2 ^ g.row.T;
}
