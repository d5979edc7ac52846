use Rattle.std.proofs.Common.{◌≡◌, ◌+◌, ◌*◌, ◌≤◌, ◌++◌, length}
use Rattle.bm_text.specs.JobText.{row_list, first_rows}
use Rattle.bm_text.proofs.job_text.push_rows.Given as goal

abbrev pub invariant-loop-i : goal.invariant-loop-i
invariant-loop-i l = record {
  bytes : l.text.bytes ≡ l.fn.text.bytes ++ row_list (first_rows l.a l.i);
  short : length l.text.bytes ≤ length l.fn.text.bytes + 22 * l.i;
}
