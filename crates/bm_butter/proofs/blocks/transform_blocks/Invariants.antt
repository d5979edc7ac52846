use Rattle.std.proofs.Common.{◌≡◌, ℕ, ◌*◌, ◌^◌, ◌<◌, ◌≤◌, length}
use Rattle.bm_butter.specs.OnBits.{kernel_digits}
use Rattle.bm_butter.specs.Records.{record_in_order}
use Rattle.bm_butter.proofs.blocks.transform_blocks.Given as goal

abbrev pub invariant-loop-block : goal.invariant-loop-block
invariant-loop-block g l = record {
  size : length l.buf ≡ length l.fn.buf;
  done : (x : ℕ) → x < l.block * 2 ^ l.bits → record_in_order l.buf x ≡ kernel_digits (g.K.Kernel.meaning l.kernel) l.bits
      (record_in_order l.fn.buf) x;
  left : (x : ℕ) → l.block * 2 ^ l.bits ≤ x → record_in_order l.buf x ≡ record_in_order l.fn.buf x;
}
