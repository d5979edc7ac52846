use Rattle.std.proofs.Common.{◌≡◌, length, count_ones}
use Rattle.bm_butter.specs.Records.{record_at_place}
use Rattle.bm_kinds.specs.Parts.{IsPart, IsDone}
use Rattle.bm_kinds.proofs.at_places.kernel_at.Given as goal

abbrev pub invariant-loop-left : goal.invariant-loop-left
invariant-loop-left g l = record {
  size : length l.buf ≡ length l.fn.buf;
  part : IsPart l.left l.set;
  done : IsDone (g.K.Kernel.meaning l.kernel) l.a.n l.set l.left (record_at_place l.a l.plus l.fn.buf) (record_at_place l.a l.plus l.buf);
}

abbrev pub decreases-loop-left : goal.decreases-loop-left
decreases-loop-left g l = count_ones l.left
