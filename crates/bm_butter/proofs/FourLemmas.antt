-- Claims on each of four.
use Rattle.std.proofs.Common.{ℕ, zero, suc, ◌<◌, arith}

-- a claim on each of four
pub by_four : (P : ℕ → Type 0) → P 0 → P 1 → P 2 → P 3 → (t : ℕ) → t < 4 → P t
by_four P a b c d zero below = a
by_four P a b c d (suc zero) below = b
by_four P a b c d (suc (suc zero)) below = c
by_four P a b c d (suc (suc (suc zero))) below = d
by_four P a b c d (suc (suc (suc (suc t)))) below = absurd (omega arith)
