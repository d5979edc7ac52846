-- The numbers of the input, and the one map that they may be. A list of N numbers is a function of the address, of which the values below N
-- count.
use Rattle.std.specs.Prelude.{ℕ, ◌≡◌, ◌<◌, ◌^◌, bit_xor}
use Rattle.bm_base.specs.declared.shape.Shape.{Shape}
use Rattle.bm_base.specs.declared.area.Area.TheVariants.{Input}
use Rattle.bm_base.specs.Contents.{Contents}
use Rattle.bm_base.specs.Records.{record_at}
use Rattle.bm_base.specs.Butterfly.{number_in}
use Rattle.bm_gf2.specs.Vector.{xor_sum}
use Rattle.bm_gf2.specs.declared.affine.Affine.{Affine}
use Rattle.bm_gf2.specs.Affine.{affine_image}

-- the number in record x of the input
abbrev pub input_number : Contents → Shape → ℕ → ℕ
input_number contents s x = number_in (record_at contents s Input x)

-- The list is affine by the map: number x is the map's value at x, for each address x of n bits. Columns and constant of a map of n bits
-- have n bits.
pub record IsAffineBy (n : ℕ) (ys : ℕ → ℕ) (f : Affine) : Type 0 where
  pub size : f.a.n ≡ n
  pub values : (x : ℕ) → x < 2 ^ n → ys x ≡ affine_image f x

-- column i of the candidate: what address 2 ^ i changes in the number of address 0
abbrev pub candidate_column : (ℕ → ℕ) → ℕ → ℕ
candidate_column ys i = bit_xor (ys (2 ^ i)) (ys 0)

-- the candidate's matrix, applied to x
abbrev pub candidate_image : ℕ → (ℕ → ℕ) → ℕ → ℕ
candidate_image n ys x = xor_sum (candidate_column ys) n x

-- the candidate's value at x
abbrev pub candidate : ℕ → (ℕ → ℕ) → ℕ → ℕ
candidate n ys x = bit_xor (ys 0) (candidate_image n ys x)
