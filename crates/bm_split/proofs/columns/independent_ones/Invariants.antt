use Rattle.std.proofs.Common.{◌≡◌, ℕ, ◌^◌, ◌<◌, slice_index}
use Rattle.bm_split.proofs.BasisLemmas.{IsFound}
use Rattle.bm_split.proofs.columns.independent_ones.Given as goal

abbrev pub invariant-loop-i : goal.invariant-loop-i
invariant-loop-i l = record {
  size : l.found.n ≡ l.bits;
  below : (k : ℕ) → slice_index l.ones k < 2 ^ l.bits;
  found : IsFound l.vectors l.i l.next l.found.kept l.ones;
}
