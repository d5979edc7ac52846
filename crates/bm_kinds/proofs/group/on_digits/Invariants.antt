use Rattle.std.proofs.Common.{◌≡◌, ℕ, ◌^◌, ◌<◌, slice_index}
use Rattle.bm_base.specs.Butterfly.{record_of}
use Rattle.bm_butter.specs.OnBits.{kernel_digits}
use Rattle.bm_kinds.proofs.group.on_digits.Given as goal

abbrev pub invariant-loop-j : goal.invariant-loop-j
invariant-loop-j g l = record {
  done : (t : ℕ) → t < 2 ^ g.row.T
      → record_of (slice_index l.numbers t) ≡ kernel_digits (g.K.Kernel.meaning l.kernel) l.j (λ k. record_of (slice_index l.from k)) t;
}
