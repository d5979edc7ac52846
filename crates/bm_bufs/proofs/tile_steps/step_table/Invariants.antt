use Rattle.std.proofs.Common.{◌≡◌, ℕ, ◌+◌, ◌-◌, ◌*◌, ◌^◌, ◌<◌, length, slice_index}
use Rattle.bm_gf2.specs.Matrix.{column}
use Rattle.bm_gf2.specs.Vector.{xor_sum}
use Rattle.bm_bufs.proofs.tile_steps.step_table.Given as goal

abbrev pub invariant-loop-t : goal.invariant-loop-t
invariant-loop-t l = record {
  long : length l.table ≡ 53;
  sum : l.sum ≡ xor_sum (column l.a) l.count ((2 ^ l.t - 1) * 2 ^ l.first);
  each : (k : ℕ) → k < l.t → slice_index l.table k ≡ xor_sum (column l.a) l.count ((2 ^ (k + 1) - 1) * 2 ^ l.first);
}
