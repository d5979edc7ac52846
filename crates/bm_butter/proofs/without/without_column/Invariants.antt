use Rattle.std.proofs.Common.{◌≡◌, ℕ, ◌+◌, ◌<◌, ◌≤◌, length, slice_index}
use Rattle.bm_gf2.specs.Matrix.{column}
use Rattle.bm_butter.proofs.without.without_column.Given as goal

abbrev pub invariant-loop-j : goal.invariant-loop-j
invariant-loop-j l = record {
  long : length l.cols ≡ 52;
  low : (j : ℕ) → j < l.i → slice_index l.cols j ≡ column l.a j;
  moved : (j : ℕ) → l.i ≤ j → j < l.j → slice_index l.cols j ≡ column l.a (j + 1);
  rest : (j : ℕ) → l.j ≤ j → slice_index l.cols j ≡ column l.a j;
}
