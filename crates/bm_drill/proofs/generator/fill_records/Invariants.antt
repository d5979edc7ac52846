use Rattle.std.proofs.Common.{◌≡◌, ℕ, ◌+◌, ◌<◌}
use Rattle.std.specs.Fork.{slice_chunk}
use Rattle.bm_drill.specs.Generated.{generated}
use Rattle.bm_drill.proofs.generator.fill_records.Given as goal

abbrev pub invariant-loop-i : goal.invariant-loop-i
invariant-loop-i l = (j : ℕ) → j < l.i → slice_chunk l.bytes l.width j ≡ generated l.width l.start (l.first + j)
