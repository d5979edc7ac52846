-- What a job means.
use Rattle.std.specs.Prelude.{ℕ, ◌≡◌, List}
use Rattle.bm_base.specs.declared.shape.Shape.{Shape}
use Rattle.bm_gf2.specs.Matrix.{IsNonsingular}
use Rattle.bm_forms.specs.declared.job.Job.{Job}
use Rattle.bm_forms.specs.declared.job.Job.TheVariants.{Permute, Walsh}
use Rattle.bm_forms.specs.Permutation.{permuted}
use Rattle.bm_forms.specs.Transform.{transformed}

-- what the job makes of 2 ^ n records
abbrev pub meaning : ℕ → Job → (ℕ → List ℕ) → ℕ → List ℕ
meaning n (Permute f) xs = permuted f xs
meaning n Walsh xs = transformed n xs

-- a job for addresses of n bits
abbrev pub HasBits : ℕ → Job → Type 0
HasBits n (Permute f) = f.a.n ≡ n
HasBits n Walsh = Unit {0}

-- a job that may stand beside a shape where a plan is concerned
abbrev pub JobFits : Shape → Job → Type 0
JobFits s (Permute f) = (f.a.n ≡ s.n) × IsNonsingular f.a
JobFits s Walsh = s.width ≡ 8
