-- Records that move within tiles.
use Rattle.std.specs.Prelude.{ℕ, ◌≡◌, ◌/◌, ◌%◌, ◌^◌, ◌<◌, bit_xor}
use Rattle.bm_gf2.specs.declared.matrix.Matrix.{Matrix}
use Rattle.bm_gf2.specs.Matrix.{image, column}
use Rattle.bm_bufs.specs.Places.{places_by}

-- the number from which the record of number z comes
abbrev pub origin : Matrix → ℕ → ℕ → ℕ
origin back plus z = bit_xor plus (image back z)

-- numbers that differ in their low bits alone are neighbours: the low columns are units, and no other column has a low bit
pub record HasRunBasis (basis : Matrix) (low : ℕ) : Type 0 where
  pub units : (j : ℕ) → j < low → column basis j ≡ 2 ^ j
  pub lows : (j : ℕ) → j < basis.n → column basis j % 2 ^ low ≡ 2 ^ j % 2 ^ low

-- the number from which a record comes is of the same tile
pub record KeepsTiles (back : Matrix) (plus tile : ℕ) : Type 0 where
  pub start : plus < 2 ^ tile
  pub highs : (j : ℕ) → j < back.n → column back j / 2 ^ tile ≡ 2 ^ j / 2 ^ tile

-- the record of place y comes from the number of y, and goes to the number of its image
pub record HasOrigin (a : Matrix) (plus : ℕ) (basis back : Matrix) (back_plus y : ℕ) : Type 0 where
  pub number : ℕ
  pub below : number < 2 ^ basis.n
  pub goes : image basis number ≡ places_by a plus y
  pub comes : image basis (origin back back_plus number) ≡ y
