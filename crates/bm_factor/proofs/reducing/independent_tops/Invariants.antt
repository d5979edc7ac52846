use Rattle.std.proofs.Common.{◌≡◌, ◌-◌, length, slice_index}
use Rattle.bm_factor.proofs.ReducerLemmas.{IsReducing}
use Rattle.bm_factor.proofs.reducing.independent_tops.Given as goal

abbrev pub invariant-loop-j : goal.invariant-loop-j
invariant-loop-j l =
    (IsReducing l.a l.r l.m l.j l.found.kept (slice_index l.pivots))
    × (l.found.n ≡ l.a.n - l.m)
    × (length l.found.kept ≡ l.count)
    × (length l.pivots ≡ 52)
    × (l.r.n ≡ l.a.n)
