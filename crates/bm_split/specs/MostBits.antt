-- How many records some bytes hold.
use Rattle.std.specs.Prelude.{ℕ, ◌≡◌, ◌⊎◌, ◌*◌, ◌^◌, ◌≤◌}

-- the most bits, up to `most`, for which 2 ^ bits records take no more than so many bytes, or 0
pub record IsMostBits (bytes width most bits : ℕ) : Type 0 where
  pub within : bits ≤ most
  pub fits : (bits ≡ 0) ⊎ (2 ^ bits * width ≤ bytes)
  pub greatest : (k : ℕ) → k ≤ most → 2 ^ k * width ≤ bytes → k ≤ bits
