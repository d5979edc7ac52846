-- Sums of the first columns.
use Rattle.std.specs.Prelude.{ℕ, List, ◌≡◌, ◌+◌, ◌-◌, ◌^◌, ◌<◌, slice_index}
use Rattle.bm_gf2.specs.Vector.{xor_sum}

-- entry t is the XOR of columns 0 to t
abbrev pub IsPrefixTable : List ℕ → List ℕ → Type 0
IsPrefixTable cols sums = (t : ℕ) → t < 53 → slice_index sums t ≡ xor_sum (slice_index cols) (t + 1) (2 ^ (t + 1) - 1)
