-- Spans of lists of vectors over GF(2).
use Rattle.std.specs.Prelude.{ℕ, Bool, List, [], ◌∷◌, ◌==◌, ◌||◌, length, slice_index, bit_xor}
use Rattle.bm_gf2.specs.Vector.{xor_sum}

-- whether v is the sum of some of the vectors
unfoldable pub in_span : List ℕ → ℕ → Bool
in_span [] v = v == 0
in_span (w ∷ ws) v = in_span ws v || in_span ws (bit_xor v w)

-- the sum of the vectors that x picks: vector j where bit j of x is set
abbrev pub sum_of : List ℕ → ℕ → ℕ
sum_of ws x = xor_sum (slice_index ws) (length ws) x
