use Rattle.std.proofs.Common.{◌≡◌, ℕ, ◌^◌, ◌<◌, length, slice_index}
use Rattle.bm_named.proofs.explicit.by_sources.Given as goal

abbrev pub invariant-loop-i : goal.invariant-loop-i
invariant-loop-i l =
    (length l.rows ≡ 52) × ((k : ℕ) → k < l.i → slice_index l.rows k ≡ 2 ^ slice_index l.list k)
