-- Plans of permutations: how many passes they have, and why there is none.
use Rattle.std.specs.Prelude.{ℕ, ◌≡◌, ◌-◌, ◌^◌, ◌<◌, List, [], ◌∷◌, ◌++◌, length, take}
use Rattle.std.specs.List.{All}
use Rattle.bm_gf2.specs.declared.matrix.Matrix.{Matrix}
use Rattle.bm_gf2.specs.Matrix.{image, IsNonsingular}
use Rattle.bm_gf2.specs.Kernel.{IsLeastKernel}
use Rattle.bm_forms.specs.declared.pass_form.PassForm.{PassForm}
use Rattle.bm_forms.specs.PassForm.{IsOfShape}
use Rattle.bm_base.specs.declared.shape.Shape.{Shape}
use Rattle.bm_gf2.specs.declared.affine.Affine.{Affine}
use Rattle.bm_factor.specs.declared.error.FactorError.{FactorError}
use Rattle.bm_factor.specs.declared.error.FactorError.TheVariants.{Singular, OutOfMemory}

-- no pass has butterflies
abbrev pub AreWithoutButterflies : List PassForm → Type 0
AreWithoutButterflies forms = All (λ p. p.low ≡ 0) forms

-- the maps of all passes but the last are linear
abbrev pub AreLinearButLast : List PassForm → Type 0
AreLinearButLast forms = All (λ p. p.map.map.c ≡ 0) (take (length forms - 1) forms)

-- a singular matrix is shown by the least vector that it sends to 0; memory is asked for a nonsingular one alone
abbrev pub FactorErrorIs : Matrix → FactorError → Type 0
FactorErrorIs a (Singular x) = IsLeastKernel a x
FactorErrorIs a OutOfMemory = IsNonsingular a

-- a pass without butterflies, of the shape, is put at the end; it has this map
pub record AppendsPass (s : Shape) (old new : List PassForm) (f : Affine) : Type 0 where
  pub pass : PassForm
  pub is : new ≡ old ++ pass ∷ []
  pub map : pass.map.map ≡ f
  pub low : pass.low ≡ 0
  pub of_shape : IsOfShape s pass

-- a is `done` and then `rest`, and both are nonsingular
pub record IsFactored (a rest done : Matrix) : Type 0 where
  pub size_rest : rest.n ≡ a.n
  pub size_done : done.n ≡ a.n
  pub rest_nonsingular : IsNonsingular rest
  pub done_nonsingular : IsNonsingular done
  pub undone : (x : ℕ) → x < 2 ^ a.n → image rest (image done x) ≡ image a x
