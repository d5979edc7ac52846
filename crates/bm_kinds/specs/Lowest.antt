-- Bits that are taken out of a set.
use Rattle.std.specs.Prelude.{ℕ, ◌≡◌, ◌≢◌, ◌+◌, ◌<◌, count_ones}
use Rattle.std.specs.Int.{bit_at}
use Rattle.bm_butter.specs.OnBits.{set_of}

-- the first `count` bits of a list are different bits of the set, and the rest has those that are not in the list
pub record TakesBits (set count : ℕ) (bits : ℕ → ℕ) (rest : ℕ) : Type 0 where
  pub apart : (i j : ℕ) → i < j → j < count → bits i ≢ bits j
  pub held : (j : ℕ) → j < count → bit_at set (bits j) ≡ 1
  pub parts : (k : ℕ) → bit_at set k ≡ bit_at (set_of bits count) k + bit_at rest k
  pub ones : count_ones rest + count ≡ count_ones set
