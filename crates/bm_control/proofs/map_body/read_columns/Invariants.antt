use Rattle.std.proofs.Common.{◌≡◌, ℕ, ◌+◌, ◌*◌, ◌^◌, ◌<◌, ◌≤◌, length, drop, slice_index}
use Rattle.bm_control.specs.Bodies.{u64_in}
use Rattle.bm_control.proofs.map_body.read_columns.Given as goal

abbrev pub invariant-loop-j : goal.invariant-loop-j
invariant-loop-j l = record {
  long : length l.cols ≡ 52;
  columns : (j : ℕ) → j < l.j → slice_index l.cols j ≡ u64_in (drop (24 + 8 * j) l.page);
  below : (j : ℕ) → j < l.j → slice_index l.cols j < 2 ^ l.n;
  rest : (j : ℕ) → l.j ≤ j → slice_index l.cols j ≡ 0;
}
