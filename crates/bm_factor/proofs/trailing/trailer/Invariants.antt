use Rattle.std.proofs.Common.{◌≡◌, ◌-◌}
use Rattle.bm_factor.proofs.TrailerLemmas.{IsTrailing}
use Rattle.bm_factor.proofs.trailing.trailer.Given as goal

abbrev pub invariant-loop-j : goal.invariant-loop-j
invariant-loop-j l = (IsTrailing l.a l.t l.m l.j l.found.kept) × (l.found.n ≡ l.a.n - l.m)
