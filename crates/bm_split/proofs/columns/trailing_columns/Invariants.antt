use Rattle.std.proofs.Common.{◌≡◌, ℕ, ◌+◌, ◌/◌, ◌^◌, ◌<◌, length, slice_index}
use Rattle.bm_gf2.specs.Matrix.{column}
use Rattle.bm_split.proofs.columns.trailing_columns.Given as goal

abbrev pub invariant-loop-i : goal.invariant-loop-i
invariant-loop-i l = record {
  long : length l.tops ≡ 52;
  columns : (k : ℕ) → k < l.i → slice_index l.tops k ≡ column l.a (l.low + k) / 2 ^ l.low;
}
