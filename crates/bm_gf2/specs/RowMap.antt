-- What a row map does to a vector.
use Rattle.std.specs.Prelude.{ℕ, slice_index}
use Rattle.bm_gf2.specs.Vector.{xor_sum}
use Rattle.bm_gf2.specs.declared.row_map.RowMap.{RowMap}

-- the XOR of the columns that x picks
abbrev pub row_image : RowMap → ℕ → ℕ
row_image k x = xor_sum (slice_index k.cols) k.count x
