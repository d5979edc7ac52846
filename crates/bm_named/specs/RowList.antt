-- Lists of the rows of a matrix, and what can be wrong with one.
use Rattle.std.specs.Prelude.{ℕ, ◌≡◌, ◌≢◌, ◌^◌, ◌<◌, ◌≤◌, List, length, slice_index}
use Rattle.std.specs.Int.{bit_at}
use Rattle.bm_gf2.specs.Vector.{xor_sum}
use Rattle.bm_named.specs.declared.map_fault.MapFault.{MapFault}
use Rattle.bm_named.specs.declared.map_fault.MapFault.TheVariants.{Width, Side, Length, Range, Twice, Wide, Singular, Complement}
use Rattle.bm_named.specs.BitOrder.{LengthIs}

-- n rows of n bits
pub record AreRows (n : ℕ) (rows : List ℕ) : Type 0 where
  pub long : length rows ≡ n
  pub below : (i : ℕ) → i < n → slice_index rows i < 2 ^ n

-- row i is the first with a bit past the columns
pub record IsFirstWide (n : ℕ) (rows : List ℕ) (i : ℕ) : Type 0 where
  pub inside : i < n
  pub wide : 2 ^ n ≤ slice_index rows i
  pub before : (k : ℕ) → k < i → slice_index rows k < 2 ^ n

-- every row picks bits of x whose XOR is 0: the matrix of the rows sends x to 0
abbrev pub SendToZero : ℕ → List ℕ → ℕ → Type 0
SendToZero n rows x = (i : ℕ) → i < n → xor_sum (bit_at (slice_index rows i)) n x ≡ 0

-- the least vector but 0 that the matrix of the rows sends to 0
pub record IsLeastKernelOfRows (n : ℕ) (rows : List ℕ) (x : ℕ) : Type 0 where
  pub some : x ≢ 0
  pub below : x < 2 ^ n
  pub sent : SendToZero n rows x
  pub least : (y : ℕ) → y < 2 ^ n → y ≢ 0 → SendToZero n rows y → x ≤ y

-- the first fault of a list of rows: its length, then a row that is too wide, then that the matrix is singular
abbrev pub RowsFaultIs : ℕ → List ℕ → MapFault → Type 0
RowsFaultIs n rows (Length got) = LengthIs n rows got
RowsFaultIs n rows (Wide i) = (length rows ≡ n) × IsFirstWide n rows i
RowsFaultIs n rows (Singular x) = AreRows n rows × IsLeastKernelOfRows n rows x
RowsFaultIs n rows Width = ⊥
RowsFaultIs n rows (Side p) = ⊥
RowsFaultIs n rows (Range i) = ⊥
RowsFaultIs n rows (Twice i j) = ⊥
RowsFaultIs n rows (Complement c) = ⊥
