use Rattle.std.proofs.Common.{◌≡◌}
use Rattle.bm_memrack.specs.BlockCopy.{BlocksWritten}
use Rattle.bm_memrack.proofs.block_copy.write_blocks.Given as goal

abbrev pub invariant-loop-disk : goal.invariant-loop-disk
invariant-loop-disk l = record {
  written : BlocksWritten l.dims l.disk l.places l.bytes l.len l.fn.flat l.fn.dirty_blocks l.flat l.dirty_blocks;
  block : l.block ≡ l.dims.block;
}
