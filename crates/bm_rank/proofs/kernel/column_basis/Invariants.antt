use Rattle.std.proofs.Common.{◌≡◌, take, slice_index}
use Rattle.bm_rank.proofs.KernelLemmas.{IsIndependent}
use Rattle.bm_rank.proofs.kernel.column_basis.Given as goal

abbrev pub invariant-loop-j : goal.invariant-loop-j
invariant-loop-j l = (l.found.n ≡ l.a.n) × (l.found.kept ≡ take l.j l.a.cols) × IsIndependent (slice_index l.a.cols) l.j
