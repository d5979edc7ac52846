-- Rows b..m-1 and rows m and above of the images of vectors below 2 ^ m.
use Rattle.std.specs.Prelude.{ℕ, List, ◌≡◌, ◌≢◌, ◌-◌, ◌/◌, ◌%◌, ◌^◌, ◌<◌, ◌≤◌, slice_index}
use Rattle.bm_gf2.specs.Vector.{xor_sum}
use Rattle.bm_gf2.specs.declared.matrix.Matrix.{Matrix}
use Rattle.bm_gf2.specs.declared.row_map.RowMap.{RowMap}
use Rattle.bm_gf2.specs.Matrix.{image, column}
use Rattle.bm_gf2.specs.RowMap.{row_image}

-- rows b..m-1 of the image of x
abbrev pub middle_rows : Matrix → ℕ → ℕ → ℕ → ℕ
middle_rows a b m x = image a x / 2 ^ b % 2 ^ (m - b)

-- rows m and above of the image of x
abbrev pub top_rows : Matrix → ℕ → ℕ → ℕ
top_rows a m x = image a x / 2 ^ m

-- where the middle rows are 0, the top rows are
abbrev pub IsCovered : Matrix → ℕ → ℕ → Type 0
IsCovered a b m = (x : ℕ) → x < 2 ^ m → middle_rows a b m x ≡ 0 → top_rows a m x ≡ 0

-- the map gives the top rows from the middle rows: H = K L, where L are the middle rows of columns 0..m-1 and H the top rows
pub record IsSolution (a : Matrix) (b m : ℕ) (k : RowMap) : Type 0 where
  pub count : k.count ≡ m - b
  pub solves : (x : ℕ) → x < 2 ^ m → row_image k (middle_rows a b m x) ≡ top_rows a m x
  pub below : (j : ℕ) → j < k.count → slice_index k.cols j < 2 ^ (a.n - m)

-- the least vector whose middle rows are 0 and whose top rows are not: no map gives these from those
pub record IsLeastOutside (a : Matrix) (b m x : ℕ) : Type 0 where
  pub below : x < 2 ^ m
  pub middle : middle_rows a b m x ≡ 0
  pub top : top_rows a m x ≢ 0
  pub least : (y : ℕ) → y < 2 ^ m → middle_rows a b m y ≡ 0 → top_rows a m y ≢ 0 → x ≤ y

-- the least vector that the first columns send to 0 and the second do not
pub record IsLeastSplit (lows highs : List ℕ) (m x : ℕ) : Type 0 where
  pub below : x < 2 ^ m
  pub low : xor_sum (slice_index lows) m x ≡ 0
  pub high : xor_sum (slice_index highs) m x ≢ 0
  pub least : (y : ℕ) → y < 2 ^ m → xor_sum (slice_index lows) m y ≡ 0 → xor_sum (slice_index highs) m y ≢ 0 → x ≤ y

-- the first m columns of the list are rows from to from + width - 1 of those of the matrix
pub record IsCut (a : Matrix) (m from width : ℕ) (cols : List ℕ) : Type 0 where
  pub each : (j : ℕ) → j < m → slice_index cols j ≡ column a j / 2 ^ from % 2 ^ width
