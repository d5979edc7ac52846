-- The classes of matrices that one pass can do: MLD and MRC (after Cormen, Sundquist and Wisniewski; the wording of MLD is our own).
use Rattle.std.specs.Prelude.{ℕ, ◌≡◌, ◌/◌, ◌^◌, ◌<◌}
use Rattle.bm_gf2.specs.declared.matrix.Matrix.{Matrix}
use Rattle.bm_gf2.specs.Matrix.{column, IsNonsingular}
use Rattle.bm_gf2.specs.Kernel.{IsLeastKernel}
use Rattle.bm_rank.specs.RowSolution.{IsCovered, IsLeastOutside}
use Rattle.bm_forms.specs.declared.mld_form.FormError.{FormError}
use Rattle.bm_forms.specs.declared.mld_form.FormError.TheVariants.{Singular, NotMld}

-- MLD: nonsingular, and each vector below 2 ^ m whose image is 0 in rows b..m-1 has an image that is 0 in rows m and above.
-- So the records of one load whose images agree in rows b..m-1 go to one load.
abbrev pub IsMld : Matrix → ℕ → ℕ → Type 0
IsMld a b m = IsNonsingular a × IsCovered a b m

-- rows m and above of the first m columns are 0
abbrev pub HasNoTop : Matrix → ℕ → Type 0
HasNoTop a m = (j : ℕ) → j < m → column a j / 2 ^ m ≡ 0

-- MRC: nonsingular, and rows m and above of the first m columns are 0. So each load goes to one load.
abbrev pub IsMrc : Matrix → ℕ → Type 0
IsMrc a m = IsNonsingular a × HasNoTop a m

-- why a matrix is not MLD, shown by the least vector: one that it sends to 0, or, in a nonsingular one, one outside the class
abbrev pub FormErrorIs : Matrix → ℕ → ℕ → FormError → Type 0
FormErrorIs a b m (Singular x) = IsLeastKernel a x
FormErrorIs a b m (NotMld x) = IsNonsingular a × IsLeastOutside a b m x
