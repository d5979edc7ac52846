use Rattle.std.proofs.Common.{◌≡◌, ◌^◌, length}
use Rattle.bm_butter.proofs.PairedLemmas.{BlocksPaired}
use Rattle.bm_butter.proofs.on_bit.mix_bit.Given as goal

abbrev pub invariant-loop-block : goal.invariant-loop-block
invariant-loop-block g l = record {
  size : length l.buf ≡ length l.fn.buf;
  half : l.half ≡ 2 ^ l.halves.bit;
  blocks : BlocksPaired (g.K.Kernel.meaning l.kernel) l.halves.bit l.halves.at_u l.halves.at_v l.from l.block l.fn.buf l.buf;
}
