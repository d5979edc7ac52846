use Rattle.std.proofs.Common.{◌≡◌, ℕ, ◌+◌, ◌/◌, ◌^◌, ◌<◌, ◌≤◌, length, slice_index}
use Rattle.bm_gf2.specs.Matrix.{column}
use Rattle.bm_bufs.proofs.runs.run_matrix.Given as goal

abbrev pub invariant-loop-j : goal.invariant-loop-j
invariant-loop-j l = record {
  long : length l.cols ≡ 52;
  columns : (j : ℕ) → j < l.j → slice_index l.cols j ≡ column l.a (l.low + j) / 2 ^ l.low;
  rest : (j : ℕ) → l.j ≤ j → slice_index l.cols j ≡ 0;
}
