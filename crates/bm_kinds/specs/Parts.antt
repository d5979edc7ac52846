-- Parts of a set of bits, and how far a kernel has come with a set.
use Rattle.std.specs.Prelude.{ℕ, ◌^◌, ◌≤◌, List, bit_xor}
use Rattle.std.specs.Int.{bit_at}
use Rattle.bm_base.specs.Records.{SameRecords}
use Rattle.bm_butter.specs.OnBits.{kernel_over}

-- each bit of the part is in the set
abbrev pub IsPart : ℕ → ℕ → Type 0
IsPart part set = (k : ℕ) → bit_at part k ≤ bit_at set k

-- the records are what the bits of the set that are not left make of those of xs
abbrev pub IsDone : (ℕ → ℕ → ℕ × ℕ) → ℕ → ℕ → ℕ → (ℕ → List ℕ) → (ℕ → List ℕ) → Type 0
IsDone f n set left xs now = SameRecords (2 ^ n) now (kernel_over f n (bit_xor set left) xs)
