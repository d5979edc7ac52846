use Rattle.std.proofs.Common.{◌≡◌, ℕ, ◌<◌, slice_index_or, false}
use Rattle.bm_memrack.proofs.store.clear_flags.Given as goal

abbrev pub invariant-loop-flag : goal.invariant-loop-flag
invariant-loop-flag l = (k : ℕ) → k < l.flag-index → slice_index_or l.flags k false ≡ false
