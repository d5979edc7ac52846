use Rattle.std.proofs.Common.{◌≡◌, length}
use Rattle.bm_butter.specs.Groups.{GroupsDone, run_place}
use Rattle.bm_butter.proofs.on_two_bits.make_quads.Given as goal

abbrev pub invariant-loop-k : goal.invariant-loop-k
invariant-loop-k g l = record {
  size : length l.buf ≡ length l.fn.buf;
  done : GroupsDone (g.K.Kernel.meaning l.kernel) (run_place l.p l.q l.r l.s) 0 l.k l.fn.buf l.buf;
}
