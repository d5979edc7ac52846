use Rattle.std.proofs.Common.{◌≡◌}
use Rattle.bm_memrack.specs.BlockCopy.{zero_block, BlocksRead}
use Rattle.bm_memrack.proofs.block_copy.clear_blocks.Given as goal

abbrev pub invariant-loop-disk : goal.invariant-loop-disk
invariant-loop-disk l = record {
  cleared : BlocksRead l.dims l.disk (zero_block l.dims) l.places l.fn.bytes l.bytes;
  block : l.block ≡ l.dims.block;
}
