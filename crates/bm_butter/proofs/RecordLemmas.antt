-- Numbers that are written into records.
use Rattle.std.proofs.Common.{◌≡◌, ℕ, ◌≤◌, List, ◌++◌, length, drop, refl, ap, ◌∙◌}
use Rattle.std.proofs.lemmas.List.{append-nil, drop_all}
use Rattle.byteorder.specs.Endian.{little_bytes}
use Rattle.bm_base.specs.Butterfly.{record_of}

-- what a write of 8 bytes over as many leaves
pub record_written : (number : ℕ) (before : List ℕ) → length before ≤ 8 → little_bytes 8 number ++ drop 8 before ≡ record_of number
unfolding record_of
record_written number before short = ap (λ (rest : List ℕ). little_bytes 8 number ++ rest) (drop_all 8 before short)
    ∙ append-nil (little_bytes 8 number)

-- a record has 8 bytes
pub length-record_of : (number : ℕ) → length (record_of number) ≡ 8
unfolding record_of
length-record_of number = refl
