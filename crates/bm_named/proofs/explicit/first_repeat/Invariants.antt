use Rattle.std.proofs.Common.{◌≢◌, ℕ, ◌<◌, slice_index}
use Rattle.bm_named.proofs.explicit.first_repeat.Given as goal

abbrev pub invariant-loop-j : goal.invariant-loop-j
invariant-loop-j l =
    (k r : ℕ) → k < r → r < l.j → slice_index l.list k ≢ slice_index l.list r
