-- What a placing within tiles does with a load.
use Rattle.std.specs.Prelude.{ℕ, ◌≡◌, ◌⊎◌, ◌+◌, ◌-◌, ◌*◌, ◌/◌, ◌%◌, ◌^◌, ◌<◌, ◌≤◌, List, length, slice_index, bit_xor}
use Rattle.std.specs.Fork.{slice_chunk}
use Rattle.bm_gf2.specs.Vector.{xor_sum}
use Rattle.bm_gf2.specs.Matrix.{image, column}
use Rattle.bm_bufs.specs.declared.placing.Placing.{Placing}
use Rattle.bm_bufs.specs.declared.tile_map.TileMap.{TileMap}
use Rattle.bm_bufs.specs.Bufs.{Lists}
use Rattle.bm_bufs.specs.Places.{places_by}
use Rattle.bm_bufs.specs.Tiles.{origin}

-- the load list holds the load, and the row list has room for a tile
pub record HasRoom (m : TileMap) (lists : Lists) : Type 0 where
  pub load : length lists.load ≡ 2 ^ m.placing.a.n * m.placing.width
  pub row : 2 ^ m.tile * m.placing.width ≤ length lists.row

-- the record of each number y goes to its place
pub record MovesRecords (place : ℕ → ℕ) (n width : ℕ) (old new : List ℕ) : Type 0 where
  pub moved : (y : ℕ) → y < 2 ^ n → slice_chunk new width (place y) ≡ slice_chunk old width y
  pub size : length new ≡ length old

-- each record of the load goes to its place, and the row list keeps its length
pub record MovesLoad (p : Placing) (old new : Lists) : Type 0 where
  pub load : MovesRecords (places_by p.a p.plus) p.a.n p.width old.load new.load
  pub row : length new.row ≡ length old.row

-- entry t is the XOR of the columns below k that t + 1 ones from bit `first` on pick
abbrev pub IsStepTable : (ℕ → ℕ) → ℕ → ℕ → List ℕ → Type 0
IsStepTable w first k table = (t : ℕ) → t < 53 → slice_index table t ≡ xor_sum w k ((2 ^ (t + 1) - 1) * 2 ^ first)

-- the run of places from `at` on has the records of the row that the low columns of back lead to from number `first`; all else is as before
pub record FillsRun (m : TileMap) (w at first : ℕ) (row old new : List ℕ) : Type 0 where
  pub moved : (j : ℕ) → j < 2 ^ m.low → slice_chunk new w (at + j) ≡ slice_chunk row w (bit_xor first (xor_sum (column m.back) m.low j))
  pub others : (k : ℕ) → (k < at) ⊎ (at + 2 ^ m.low ≤ k) → slice_chunk new w k ≡ slice_chunk old w k
  pub size : length new ≡ length old

-- the row has the records of tile o of the load, by number within the tile
pub record GathersTile (m : TileMap) (o : ℕ) (load old new : List ℕ) : Type 0 where
  pub moved : (z : ℕ) → z / 2 ^ m.tile ≡ o → slice_chunk new m.placing.width (z % 2 ^ m.tile) ≡ slice_chunk load m.placing.width
      (image m.basis z)
  pub size : length new ≡ length old

-- the places of tile o have the records of the row, each from its origin; every other place is as before
pub record FillsTile (m : TileMap) (o : ℕ) (row old new : List ℕ) : Type 0 where
  pub moved : (z : ℕ) → z < 2 ^ m.basis.n → z / 2 ^ m.tile ≡ o
      → slice_chunk new m.placing.width (image m.basis z) ≡ slice_chunk row m.placing.width (origin m.back m.back_plus z % 2 ^ m.tile)
  pub others : (z : ℕ) → z < 2 ^ m.basis.n → (z / 2 ^ m.tile < o) ⊎ (o < z / 2 ^ m.tile)
      → slice_chunk new m.placing.width (image m.basis z) ≡ slice_chunk old m.placing.width (image m.basis z)
  pub size : length new ≡ length old
