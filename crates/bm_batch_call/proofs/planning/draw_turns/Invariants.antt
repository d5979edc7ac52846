use Rattle.std.proofs.Common.{◌≡◌, ◌<◌, ◌≤◌, vec_len}
use Rattle.std.specs.Vec.{vec_capacity}
use Rattle.std.specs.List.{All}
use Rattle.bm_batch_call.proofs.planning.draw_turns.Given as goal

abbrev pub invariant-loop-turn : goal.invariant-loop-turn
invariant-loop-turn l = record {
  turns : All (λ bay. bay < l.count) l.turns.items;
  room : 256 ≤ vec_capacity l.turns;
  len : vec_len l.turns ≡ l.turn;
}
