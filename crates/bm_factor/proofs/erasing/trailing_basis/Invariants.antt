use Rattle.std.proofs.Common.{ℕ, ◌≡◌, ◌+◌, ◌-◌, ◌/◌, ◌^◌, ◌<◌, length, slice_index}
use Rattle.bm_gf2.specs.Matrix.{column}
use Rattle.bm_factor.proofs.erasing.trailing_basis.Given as goal

abbrev pub invariant-loop-j : goal.invariant-loop-j
invariant-loop-j l =
    (l.found.n ≡ l.a.n - l.m)
    × (length l.found.kept ≡ l.j - l.m)
    × ((k : ℕ) → k < l.j - l.m → slice_index l.found.kept k ≡ column l.a (l.m + k) / 2 ^ l.m)
