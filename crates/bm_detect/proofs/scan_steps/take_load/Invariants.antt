use Rattle.std.proofs.Common.{◌≡◌, ℕ, ◌+◌, ◌<◌}
use Rattle.std.specs.Fork.{slice_chunk}
use Rattle.bm_base.specs.Butterfly.{number_in}
use Rattle.bm_detect.specs.Scan.{IsScan, Knows}
use Rattle.bm_detect.proofs.scan_steps.take_load.Given as goal

abbrev pub invariant-loop-i : goal.invariant-loop-i
invariant-loop-i l = record {
  scan : IsScan l.n l.scan;
  knows : (ys : ℕ → ℕ) → ((i : ℕ) → i < l.count → number_in (slice_chunk l.bytes 8 i) ≡ ys (l.from + i))
      → Knows l.n ys l.from l.fn.scan → Knows l.n ys (l.from + l.i) l.scan;
}
