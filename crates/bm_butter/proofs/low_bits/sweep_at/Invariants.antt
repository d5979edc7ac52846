use Rattle.std.proofs.Common.{◌≡◌, ℕ, ◌+◌, ◌*◌, ◌^◌, List, length}
use Rattle.bm_base.specs.Records.{SameRecords}
use Rattle.bm_butter.specs.OnBits.{kernel_digits}
use Rattle.bm_butter.specs.Records.{record_at_place}
use Rattle.bm_butter.proofs.low_bits.sweep_at.Given as goal

abbrev pub invariant-loop-two : goal.invariant-loop-two
invariant-loop-two g l = record {
  size : length l.buf ≡ length l.fn.buf;
  records : (xs : ℕ → List ℕ) → SameRecords (2 ^ l.a.n) (record_at_place l.a l.plus l.fn.buf)
      (kernel_digits (g.K.Kernel.meaning l.kernel) l.from xs)
      → SameRecords (2 ^ l.a.n) (record_at_place l.a l.plus l.buf) (kernel_digits (g.K.Kernel.meaning l.kernel) (l.from + 2 * l.two) xs);
}
