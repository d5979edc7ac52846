use Rattle.std.proofs.Common.{◌≡◌, ◌≤◌, length, vec_len}
use Rattle.std.specs.Vec.{vec_capacity}
use Rattle.bm_program.proofs.batch.first_bays.Given as goal

abbrev pub invariant-loop-number : goal.invariant-loop-number
invariant-loop-number g l = record {
  many : length l.bays.items ≡ l.number;
  room : l.count ≤ vec_capacity l.bays;
  len : vec_len l.bays ≡ l.number;
}
