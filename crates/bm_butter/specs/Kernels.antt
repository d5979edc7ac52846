-- What the kernels make of a pair of numbers. All is modulo 2 ^ 64.
use Rattle.std.specs.Prelude.{ℕ, ◌+◌, ◌%◌, ◌^◌, bit_xor}
use Rattle.bm_base.specs.Butterfly.{negative}

-- the four kernels, each by the kind of transform that it does
pub data Kind : Type 0 where
  WalshBits : Kind
  Sums : Kind
  Differences : Kind
  Xors : Kind

-- what a kind makes of a pair of numbers
unfoldable pub pairing : Kind → ℕ → ℕ → ℕ × ℕ
pairing WalshBits u v = ((u + v) % 2 ^ 64, (u + negative v) % 2 ^ 64)
pairing Sums u v = (u, (u + v) % 2 ^ 64)
pairing Differences u v = (u, (v + negative u) % 2 ^ 64)
pairing Xors u v = (u, bit_xor u v)
