use Rattle.std.proofs.Common.{◌≡◌, ◌⊎◌, ℕ, ◌+◌, ◌*◌, ◌^◌, ◌<◌, ◌≤◌, length, bit_xor}
use Rattle.std.specs.Fork.{slice_chunk}
use Rattle.bm_gf2.specs.Matrix.{column}
use Rattle.bm_gf2.specs.Vector.{xor_sum}
use Rattle.bm_bufs.proofs.tile_moves.fill_fours.Given as goal

abbrev pub invariant-loop-j : goal.invariant-loop-j
invariant-loop-j g l = record {
  one : l.one ≡ column l.steps.map.back 0;
  two : l.two ≡ column l.steps.map.back 1;
  from : l.from ≡ bit_xor l.first (xor_sum (column l.steps.map.back) l.steps.map.low (l.j * 2 ^ 2));
  moved : (i : ℕ) → i < l.j * 4 → slice_chunk l.load g.row.W (l.at + i) ≡ slice_chunk l.row g.row.W (bit_xor l.first
      (xor_sum (column l.steps.map.back) l.steps.map.low i));
  others : (k : ℕ) → (k < l.at) ⊎ (l.at + 2 ^ l.steps.map.low ≤ k) → slice_chunk l.load g.row.W k ≡ slice_chunk l.fn.load g.row.W k;
  size : length l.load ≡ length l.fn.load;
}
