use Rattle.std.proofs.Common.{◌≡◌, ◌-◌, ◌*◌, ◌^◌, length}
use Rattle.bm_butter.specs.Groups.{GroupsDone, corner_place}
use Rattle.bm_butter.proofs.on_two_bits.mix_two.Given as goal

abbrev pub invariant-loop-run : goal.invariant-loop-run
invariant-loop-run g l = record {
  size : length l.buf ≡ length l.fn.buf;
  end : l.run-end ≡ l.blocks * 2 ^ (l.corners.high - l.corners.low - 1);
  done : GroupsDone (g.K.Kernel.meaning l.kernel)
      (corner_place l.corners.low l.corners.high l.corners.first l.corners.second l.corners.third l.corners.fourth)
      0 (l.run * 2 ^ l.corners.low) l.fn.buf l.buf;
}
