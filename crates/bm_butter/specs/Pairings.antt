-- Functions that make two numbers of two, and their law.
use Rattle.std.specs.Prelude.{ℕ, ◌≡◌, ◌^◌, ◌<◌}

-- numbers below 2 ^ 64 become numbers below 2 ^ 64
abbrev pub KeepsWords : (ℕ → ℕ → ℕ × ℕ) → Type 0
KeepsWords f = (u v : ℕ) → u < 2 ^ 64 → v < 2 ^ 64 → ((f u v).0 < 2 ^ 64) × ((f u v).1 < 2 ^ 64)

-- four numbers become the same, whether the pairs (a, b) and (c, d) come before (a, c) and (b, d) or after them
pub record IsSame (f : ℕ → ℕ → ℕ × ℕ) (a b c d : ℕ) : Type 0 where
  pub first : (f (f a b).0 (f c d).0).0 ≡ (f (f a c).0 (f b d).0).0
  pub second : (f (f a b).1 (f c d).1).0 ≡ (f (f a c).0 (f b d).0).1
  pub third : (f (f a b).0 (f c d).0).1 ≡ (f (f a c).1 (f b d).1).0
  pub fourth : (f (f a b).1 (f c d).1).1 ≡ (f (f a c).1 (f b d).1).1

-- so it is for all numbers below 2 ^ 64
abbrev pub Commutes : (ℕ → ℕ → ℕ × ℕ) → Type 0
Commutes f = (a b c d : ℕ) → a < 2 ^ 64 → b < 2 ^ 64 → c < 2 ^ 64 → d < 2 ^ 64 → IsSame f a b c d
