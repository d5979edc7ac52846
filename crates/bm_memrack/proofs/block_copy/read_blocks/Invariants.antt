use Rattle.std.proofs.Common.{◌≡◌}
use Rattle.bm_memrack.specs.BlockCopy.{flat_at, BlocksRead}
use Rattle.bm_memrack.proofs.block_copy.read_blocks.Given as goal

abbrev pub invariant-loop-disk : goal.invariant-loop-disk
invariant-loop-disk l = record {
  read : BlocksRead l.dims l.disk (flat_at l.dims l.flat) l.places l.fn.bytes l.bytes;
  block : l.block ≡ l.dims.block;
}
