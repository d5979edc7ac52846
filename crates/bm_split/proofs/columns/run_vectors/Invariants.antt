use Rattle.std.proofs.Common.{◌≡◌, ℕ, ◌-◌, ◌/◌, ◌^◌, ◌<◌, ◌≤◌, length, slice_index}
use Rattle.bm_gf2.specs.Matrix.{column}
use Rattle.bm_split.proofs.columns.run_vectors.Given as goal

abbrev pub invariant-loop-i : goal.invariant-loop-i
invariant-loop-i l = record {
  long : length l.vectors ≡ 52;
  cut : (k : ℕ) → k < l.i → k < l.low → slice_index l.vectors k ≡ column l.a k / 2 ^ l.low;
  units : (k : ℕ) → k < l.i → l.low ≤ k → slice_index l.vectors k ≡ 2 ^ (k - l.low);
}
