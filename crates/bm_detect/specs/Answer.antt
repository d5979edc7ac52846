-- What detection answers of a list of 2 ^ n numbers. No two cases hold of one list, so each answer comes exactly where its case holds.
use Rattle.std.specs.Prelude.{ℕ, ◌≡◌, ◌≢◌, ◌<◌, ◌≤◌, ◌^◌, Result, Ok, Err}
use Rattle.bm_gf2.specs.declared.affine.Affine.{Affine}
use Rattle.bm_gf2.specs.Matrix.{IsNonsingular}
use Rattle.bm_detect.specs.declared.detect_error.DetectError.{DetectError}
use Rattle.bm_detect.specs.declared.detect_error.DetectError.TheVariants as refusal
use Rattle.bm_detect.specs.Candidate.{IsAffineBy, candidate_image, candidate}

-- the first `count` numbers are addresses
abbrev pub AreAddresses : ℕ → (ℕ → ℕ) → ℕ → Type 0
AreAddresses n ys count = (x : ℕ) → x < count → ys x < 2 ^ n

-- the first `count` numbers are the candidate's values
abbrev pub AreCandidates : ℕ → (ℕ → ℕ) → ℕ → Type 0
AreCandidates n ys count = (x : ℕ) → x < count → ys x ≡ candidate n ys x

-- x is the least address whose number is none, and y its number
pub record IsFirstNoAddress (n : ℕ) (ys : ℕ → ℕ) (x y : ℕ) : Type 0 where
  pub inside : x < 2 ^ n
  pub number : y ≡ ys x
  pub large : 2 ^ n ≤ y
  pub before : AreAddresses n ys x

-- x is the least address whose number is not the candidate's value, y its number, and `want` that value
pub record IsFirstDifference (n : ℕ) (ys : ℕ → ℕ) (x y want : ℕ) : Type 0 where
  pub number : y ≡ ys x
  pub value : want ≡ candidate n ys x
  pub apart : y ≢ want
  pub before : AreCandidates n ys x

-- x is the least vector but 0 that the candidate's matrix sends to 0
pub record IsLeastKernelOfCandidate (n : ℕ) (ys : ℕ → ℕ) (x : ℕ) : Type 0 where
  pub some : x ≢ 0
  pub inside : x < 2 ^ n
  pub sent : candidate_image n ys x ≡ 0
  pub least : (z : ℕ) → z < 2 ^ n → z ≢ 0 → candidate_image n ys z ≡ 0 → x ≤ z

-- The answer by cases, in the order of the refusals.
abbrev pub DetectAnswer : ℕ → (ℕ → ℕ) → Result Affine DetectError → Type 0
DetectAnswer n ys (Ok f) = IsAffineBy n ys f × IsNonsingular f.a
DetectAnswer n ys (Err refusal.Failed) = Unit {0}
DetectAnswer n ys (Err (refusal.OutOfRange x y)) = IsFirstNoAddress n ys x y
DetectAnswer n ys (Err (refusal.NotAffine x y want)) = AreAddresses n ys (2 ^ n) × (x < 2 ^ n) × IsFirstDifference n ys x y want
DetectAnswer n ys (Err (refusal.Singular x)) = AreAddresses n ys (2 ^ n) × AreCandidates n ys (2 ^ n) × IsLeastKernelOfCandidate n ys x
