-- Permuted lists: record x goes to the image of x.
use Rattle.std.specs.Prelude.{ℕ, zero, suc, ◌^◌, ◌==◌, if◌then◌else◌, List}
use Rattle.bm_gf2.specs.declared.affine.Affine.{Affine}
use Rattle.bm_gf2.specs.Affine.{affine_image}

-- the greatest address below k that the map takes to y, or 0 where there is none
unfoldable pub source_below : Affine → ℕ → ℕ → ℕ
source_below f zero y = 0
source_below f (suc x) y = if affine_image f x == y then x else source_below f x y

-- the address that the map takes to y; there is one where the matrix is nonsingular
abbrev pub source : Affine → ℕ → ℕ
source f y = source_below f (2 ^ f.a.n) y

-- the permuted list: its record at y is the one at the address that the map takes to y
abbrev pub permuted : Affine → (ℕ → List ℕ) → ℕ → List ℕ
permuted f xs y = xs (source f y)
