-- Counts of faults over several calls.
use Rattle.std.proofs.Common.{◌≡◌, inl, inr, ⊎_elim, ℕ, ◌-◌, ◌^◌, ◌<◌, ◌≤◌, arith}
use Rattle.bm_base.specs.Count.{Rose}

-- a count that rose later rose in the whole
pub rose_earlier : (a b c : ℕ) → a ≤ b → Rose b c → Rose a c
rose_earlier a b c low rose = ⊎_elim (λ (h : b < c). inl (omega arith)) (λ (h : c ≡ 2 ^ 64 - 1). inr h) rose

-- and so did one that rose before
pub rose_later : (a b c : ℕ) → b ≤ c → c < 2 ^ 64 → Rose a b → Rose a c
rose_later a b c high fits rose = ⊎_elim (λ (h : a < b). inl (omega arith)) (λ (h : b ≡ 2 ^ 64 - 1). inr (omega arith)) rose
