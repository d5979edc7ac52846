-- Counts that stand still at the last value of their type.
use Rattle.std.specs.Prelude.{◌≡◌, ◌⊎◌, ℕ, ◌+◌, ◌-◌, ◌^◌, ◌<◌, min}

-- a count after it rose by this much
abbrev pub raised : ℕ → ℕ → ℕ
raised count by = min (count + by) (2 ^ 64 - 1)

-- a count of faults rose, or stands at its last value
abbrev pub Rose : ℕ → ℕ → Type 0
Rose old new = (old < new) ⊎ (new ≡ 2 ^ 64 - 1)
