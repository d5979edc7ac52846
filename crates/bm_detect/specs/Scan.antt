-- What a scan of the first numbers of a list of 2 ^ n knows.
use Rattle.std.specs.Prelude.{ℕ, ◌≡◌, ◌<◌, ◌≤◌, ◌^◌, Option, Some, None, Result, Ok, Err}
use Rattle.bm_gf2.specs.Matrix.{column}
use Rattle.bm_detect.specs.declared.scan_state.Difference.{Difference}
use Rattle.bm_detect.specs.declared.scan_state.Scan.{Scan}
use Rattle.bm_detect.specs.declared.detect_error.DetectError.{DetectError}
use Rattle.bm_detect.specs.declared.detect_error.DetectError.TheVariants as refusal
use Rattle.bm_detect.specs.Candidate.{candidate_column}
use Rattle.bm_detect.specs.Answer.{AreAddresses, AreCandidates, IsFirstNoAddress, IsFirstDifference}

-- the first of the first `seen` numbers that is not the candidate's value, or nothing where there is none
abbrev pub IsFirst : ℕ → (ℕ → ℕ) → ℕ → Option Difference → Type 0
IsFirst n ys seen None = AreCandidates n ys seen
IsFirst n ys seen (Some d) = (d.x < seen) × IsFirstDifference n ys d.x d.y d.want

-- a scan of a list of 2 ^ n numbers
pub record IsScan (n : ℕ) (scan : Scan) : Type 0 where
  pub size : scan.map.a.n ≡ n
  pub few : scan.bits ≤ n

-- what it knows after so many numbers
pub record Knows (n : ℕ) (ys : ℕ → ℕ) (seen : ℕ) (scan : Scan) : Type 0 where
  pub addresses : AreAddresses n ys seen
  pub constant : 0 < seen → scan.map.c ≡ ys 0
  -- each unit address that was met gave its column
  pub met : seen ≤ 2 ^ scan.bits
  pub columns : (i : ℕ) → i < scan.bits → column scan.map.a i ≡ candidate_column ys i
  pub first : IsFirst n ys seen scan.first

-- how it goes on: all so far are addresses, or one is none
abbrev pub Scanned : ℕ → (ℕ → ℕ) → ℕ → Result Scan DetectError → Type 0
Scanned n ys seen (Ok scan) = Knows n ys seen scan
Scanned n ys seen (Err refusal.Failed) = Unit {0}
Scanned n ys seen (Err (refusal.OutOfRange x y)) = IsFirstNoAddress n ys x y
Scanned n ys seen (Err (refusal.NotAffine x y want)) = ⊥
Scanned n ys seen (Err (refusal.Singular x)) = ⊥
