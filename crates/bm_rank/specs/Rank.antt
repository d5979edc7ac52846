-- Ranks of lists of vectors over GF(2).
use Rattle.std.specs.Prelude.{ℕ, ◌≡◌, ◌+◌, ◌/◌, ◌^◌, ◌<◌, List, length, [], ◌∷◌, if◌then◌else◌, map, take}
use Rattle.bm_rank.specs.Span.{in_span, sum_of}

-- how many of the vectors are no sums of later ones
unfoldable pub rank : List ℕ → ℕ
rank [] = 0
rank (w ∷ ws) = rank ws + (if in_span ws w then 0 else 1)

-- columns 0 to k - 1, each without its rows below r
abbrev pub cut_columns : List ℕ → ℕ → ℕ → List ℕ
cut_columns cols r k = map (λ w. w / 2 ^ r) (take k cols)

-- the rank of these
abbrev pub rank_of_rows : List ℕ → ℕ → ℕ → ℕ
rank_of_rows cols r k = rank (cut_columns cols r k)

-- independent vectors, so that no set but the empty one has the sum 0, with the span of the list
pub record IsBasis (basis ws : List ℕ) : Type 0 where
  pub independent : (x : ℕ) → x < 2 ^ length basis → sum_of basis x ≡ 0 → x ≡ 0
  pub spans : (v : ℕ) → in_span basis v ≡ in_span ws v
