-- The pairs of a bit in a list of bytes.
use Rattle.std.specs.Prelude.{ℕ, ◌≡◌, ◌+◌, ◌^◌, List, min}
use Rattle.bm_base.specs.Butterfly.{record_of}
use Rattle.bm_butter.specs.Records.{record_in_order}
use Rattle.bm_butter.specs.OnBits.{word}

-- u in record p and v in record q became the two numbers of the pairing
pub record IsPaired (f : ℕ → ℕ → ℕ × ℕ) (old new : List ℕ) (p q : ℕ) : Type 0 where
  pub first : record_in_order new p ≡ record_of (f (word (record_in_order old p)) (word (record_in_order old q))).0
  pub second : record_in_order new q ≡ record_of (f (word (record_in_order old p)) (word (record_in_order old q))).1

-- one is the distance of the two records of a pair, the other is 0
abbrev pub AreHalves : ℕ → ℕ → ℕ → Type 0
AreHalves bit at_u at_v = (at_u + at_v ≡ 2 ^ bit) × (min at_u at_v ≡ 0)
