use Rattle.std.proofs.Common.{◌≡◌, ℕ, ◌+◌, ◌*◌, ◌/◌, List, length}
use Rattle.bm_base.specs.Records.{SameRecords}
use Rattle.bm_butter.specs.OnBits.{kernel_digits}
use Rattle.bm_butter.specs.Records.{record_in_order}
use Rattle.bm_butter.proofs.in_place.sweep_in_order.Given as goal

abbrev pub invariant-loop-two : goal.invariant-loop-two
invariant-loop-two g l = record {
  size : length l.buf ≡ length l.fn.buf;
  records : (xs : ℕ → List ℕ) → SameRecords (length l.fn.buf / 8) (record_in_order l.fn.buf)
      (kernel_digits (g.K.Kernel.meaning l.kernel) l.from xs)
      → SameRecords (length l.fn.buf / 8) (record_in_order l.buf) (kernel_digits (g.K.Kernel.meaning l.kernel) (l.from + 2 * l.two) xs);
}
