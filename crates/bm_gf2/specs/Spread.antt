-- What a spread does to a vector.
use Rattle.std.specs.Prelude.{ℕ, bit_xor}
use Rattle.bm_gf2.specs.declared.spread.Spread.{Spread}
use Rattle.bm_gf2.specs.RowMap.{row_image}

-- the constant, XORed with the columns that t picks
abbrev pub spread_value : Spread → ℕ → ℕ
spread_value s t = bit_xor s.plus (row_image s.map t)
