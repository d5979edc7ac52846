-- Plans: passes in order, and the job that they do.
use Rattle.std.specs.Prelude.{ℕ, ◌≡◌, ◌^◌, ◌≤◌, List, [], ◌∷◌, length}
use Rattle.std.specs.List.{All}
use Rattle.bm_base.specs.declared.shape.Shape.{Shape}
use Rattle.bm_base.specs.Records.{SameRecords}
use Rattle.bm_forms.specs.declared.job.Job.{Job}
use Rattle.bm_forms.specs.declared.pass_form.PassForm.{PassForm}
use Rattle.bm_forms.specs.Job.{meaning}
use Rattle.bm_forms.specs.PassForm.{IsOfShape, passed}

-- a shape and pass forms in order
pub record PlanValue : Type 0 where
  pub shape : Shape
  pub forms : List PassForm

-- at most 256 passes, each of the shape: what a plan holds
pub record ArePassesOf (s : Shape) (forms : List PassForm) : Type 0 where
  pub few : length forms ≤ 256
  pub of_shape : All (IsOfShape s) forms

-- what the passes in order make of a list of records
unfoldable pub all_passed : List PassForm → (ℕ → List ℕ) → ℕ → List ℕ
all_passed [] xs = xs
all_passed (p ∷ ps) xs = all_passed ps (passed p xs)

-- the passes in order have the job's meaning on every list of 2 ^ n records
abbrev pub DoJob : List PassForm → ℕ → Job → Type 0
DoJob forms n job = (xs : ℕ → List ℕ) → SameRecords (2 ^ n) (all_passed forms xs) (meaning n job xs)

-- the plan stands for the job at the shape
pub record StandsFor (plan : PlanValue) (s : Shape) (job : Job) : Type 0 where
  pub shape : plan.shape ≡ s
  pub does : DoJob plan.forms s.n job
