use Rattle.std.proofs.Common.{◌≡◌, ◌+◌, ◌*◌, ◌++◌, length}
use Rattle.bm_control.specs.Bodies.{column_bytes}
use Rattle.bm_control.proofs.map_body.put_columns.Given as goal

abbrev pub invariant-loop-j : goal.invariant-loop-j
invariant-loop-j l = record {
  bytes : l.page ≡ l.fn.page ++ column_bytes l.fn.cols l.j;
  size : length l.page ≡ length l.fn.page + 8 * l.j;
}
