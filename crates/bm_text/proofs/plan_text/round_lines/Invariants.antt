use Rattle.std.proofs.Common.{◌≡◌, ◌*◌, ◌≤◌, length}
use Rattle.bm_text.specs.PlanText.{round_lines}
use Rattle.bm_text.proofs.plan_text.round_lines.Given as goal

abbrev pub invariant-loop-done : goal.invariant-loop-done
invariant-loop-done l = record {
  bytes : l.text.bytes ≡ round_lines l.shape l.done;
  short : length l.text.bytes ≤ 67 * l.done;
}
