-- What moves a record within its tile.
use Rattle.std.specs.Prelude.{ℕ, ◌≡◌, ◌*◌, ◌/◌, ◌^◌, ◌<◌, bit_xor}
use Rattle.bm_gf2.specs.declared.matrix.Matrix.{Matrix}
use Rattle.bm_gf2.specs.Matrix.{image}

-- the place has a number below 2 ^ tile: XORed to a place it leads to one of the same tile
pub record IsInTile (basis : Matrix) (tile v : ℕ) : Type 0 where
  pub number : ℕ
  pub below : number < 2 ^ tile
  pub place : image basis number ≡ v

-- some low bits, and the image of a place of the first run without its low bits
pub record IsNearRun (a : Matrix) (low v : ℕ) : Type 0 where
  pub place : ℕ
  pub place_in : place < 2 ^ low
  pub lows : ℕ
  pub lows_in : lows < 2 ^ low
  pub is : v ≡ bit_xor (image a place / 2 ^ low * 2 ^ low) lows
