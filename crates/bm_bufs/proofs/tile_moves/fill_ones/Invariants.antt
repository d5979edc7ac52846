use Rattle.std.proofs.Common.{◌≡◌, ◌⊎◌, ℕ, ◌+◌, ◌^◌, ◌<◌, ◌≤◌, length, bit_xor}
use Rattle.std.specs.Fork.{slice_chunk}
use Rattle.bm_gf2.specs.Matrix.{column}
use Rattle.bm_gf2.specs.Vector.{xor_sum}
use Rattle.bm_bufs.proofs.tile_moves.fill_ones.Given as goal

abbrev pub invariant-loop-j : goal.invariant-loop-j
invariant-loop-j l = record {
  width : l.width ≡ l.steps.map.placing.width;
  from : l.from ≡ bit_xor l.first (xor_sum (column l.steps.map.back) l.steps.map.low l.j);
  moved : (i : ℕ) → i < l.j → slice_chunk l.load l.width (l.at + i) ≡ slice_chunk l.row l.width (bit_xor l.first
      (xor_sum (column l.steps.map.back) l.steps.map.low i));
  others : (k : ℕ) → (k < l.at) ⊎ (l.at + 2 ^ l.steps.map.low ≤ k) → slice_chunk l.load l.width k ≡ slice_chunk l.fn.load l.width k;
  size : length l.load ≡ length l.fn.load;
}
