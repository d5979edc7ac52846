-- Texts that differ.
use Rattle.std.proofs.Common.{◌≡◌, ℕ, List, false}
use Rattle.std.specs.Str.{bytes_eq}
use Rattle.std.proofs.lemmas.Slice.Eq.{bytes_eq-Decides}
use Rattle.bm_rank.proofs.SpanLemmas.{false_from}

-- the test of two texts that differ
pub texts_differ : (text other : List ℕ) → ¬ (text ≡ other) → bytes_eq text other ≡ false
texts_differ text other differ = false_from (bytes_eq text other) (λ same. differ ((bytes_eq-Decides text other).0 same))
