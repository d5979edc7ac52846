use Rattle.std.proofs.Common.{◌≡◌, ℕ, ◌+◌, ◌<◌, ◌≤◌, ◌⊎◌, length}
use Rattle.bm_butter.specs.Records.{record_in_order}
use Rattle.bm_butter.specs.Pairs.{IsPaired}
use Rattle.bm_butter.proofs.on_bit.make_pairs.Given as goal

abbrev pub invariant-loop-k : goal.invariant-loop-k
invariant-loop-k g l = record {
  size : length l.buf ≡ length l.fn.buf;
  paired : (k : ℕ) → k < l.k → IsPaired (g.K.Kernel.meaning l.kernel) l.fn.buf l.buf (l.first + k) (l.second + k);
  others : (k : ℕ) → (k < l.first) ⊎ (l.first + l.k ≤ k) → (k < l.second) ⊎ (l.second + l.k ≤ k)
      → record_in_order l.buf k ≡ record_in_order l.fn.buf k;
}
