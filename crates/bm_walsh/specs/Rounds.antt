-- The rounds of the transform.
use Rattle.std.specs.Prelude.{ℕ, zero, suc, ◌≡◌, ◌+◌, ◌-◌, ◌%◌, ◌^◌, ◌<◌, ◌≤◌, List, [], ◌∷◌, ◌++◌, length}
use Rattle.bm_base.specs.declared.shape.Shape.{Shape}
use Rattle.bm_gf2.specs.declared.affine.Affine.{Affine}
use Rattle.bm_gf2.specs.Matrix.{column, IsNonsingular}
use Rattle.bm_forms.specs.declared.pass_form.PassForm.{PassForm}
use Rattle.bm_forms.specs.declared.job.Job.TheVariants.{Permute}
use Rattle.bm_forms.specs.Plan.{DoJob}
use Rattle.bm_forms.specs.PassCount.{rotation_passes}
use Rattle.bm_forms.specs.PassLimit.{rotation_limit}
use Rattle.bm_forms.specs.Rounds.{rounds_of, last_bits}
use Rattle.bm_factor.specs.Factoring.{AreWithoutButterflies}

-- the rotation of n address bits by `by`, without a constant
pub record IsRotationBy (n by : ℕ) (f : Affine) : Type 0 where
  pub size : f.a.n ≡ n
  pub columns : (j : ℕ) → j < n → column f.a j ≡ 2 ^ ((j + n - by) % n)
  pub constant : f.c ≡ 0
  pub nonsingular : IsNonsingular f.a

-- the passes with butterflies on the bits below `low` in the first
unfoldable pub first_with : ℕ → List PassForm → List PassForm
first_with low [] = []
first_with low (p ∷ ps) = record p { low = low } ∷ ps

-- a round is put at the end: plain passes that do the rotation by `by`, as many as it takes, with butterflies on the bits below
-- `by` in the first
pub record AppendsRound (s : Shape) (by : ℕ) (old new : List PassForm) : Type 0 where
  pub round : List PassForm
  pub turn : Affine
  pub is : new ≡ old ++ first_with by round
  pub rotates : IsRotationBy s.n by turn
  pub does : DoJob round s.n (Permute turn)
  pub plain : AreWithoutButterflies round
  pub count : length round ≡ rotation_passes s by
  pub few : length round ≤ rotation_limit s by

-- k rounds of m bits each
unfoldable pub AreWholeRounds : Shape → ℕ → List PassForm → Type 0
AreWholeRounds s zero forms = forms ≡ []
AreWholeRounds s (suc k) forms = (old : List PassForm) × AreWholeRounds s k old × AppendsRound s s.m old forms

-- all rounds: those of m bits, and the last one with the bits that are left
pub record AreRounds (s : Shape) (forms : List PassForm) : Type 0 where
  pub before : List PassForm
  pub whole : AreWholeRounds s (rounds_of s - 1) before
  pub last : AppendsRound s (last_bits s) before forms
