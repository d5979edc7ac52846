-- What a job makes of a list of records.
use Rattle.std.proofs.Common.{ℕ, ◌^◌, List, refl, sym, ap, subst}
use Rattle.bm_base.specs.Records.{SameRecords}
use Rattle.bm_base.specs.Butterfly.{number_in, record_of}
use Rattle.bm_forms.specs.declared.job.Job.{Job}
use Rattle.bm_forms.specs.declared.job.Job.TheVariants.{Permute, Walsh}
use Rattle.bm_forms.specs.Transform.{signed}
use Rattle.bm_forms.proofs.TransformLemmas.{sum_below-same, signed-same}
use Rattle.bm_forms.specs.Job.{meaning}
use Rattle.bm_forms.proofs.PermutationLemmas.{permuted-same}
use Rattle.bm_forms.specs.Job.{HasBits}

-- a job's meaning rests on the records in the range
pub meaning-same : (n : ℕ) (job : Job) (xs ys : ℕ → List ℕ) → HasBits n job → SameRecords (2 ^ n) xs ys
    → SameRecords (2 ^ n) (meaning n job xs) (meaning n job ys)
meaning-same n (Permute f) xs ys b h y hy = permuted-same f xs ys (subst (λ (k : ℕ). SameRecords (2 ^ k) xs ys) (sym b) h) y
meaning-same n Walsh xs ys b h y hy =
    ap record_of (sum_below-same (2 ^ n) (signed (λ x. number_in (xs x)) y) (signed (λ x. number_in (ys x)) y)
    (λ t l. signed-same (λ x. number_in (xs x)) (λ x. number_in (ys x)) y y t t refl (ap number_in (h t l))))
