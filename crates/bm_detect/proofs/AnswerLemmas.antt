-- From a scan of all numbers to the answer, and from a map to Ok.
use Rattle.std.proofs.Common.{◌≡◌, ◌≢◌, ℕ, ◌^◌, ◌<◌, ◌≤◌, Result, Ok, Err, IsOk, bit_xor, inl, inr, sym, ap, subst, ◌∙◌}
use Rattle.std.proofs.Common.{arith, refl}
use Rattle.std.specs.Int.Bits.{xor_zero_r}
use Rattle.std.proofs.lemmas.Nat.{pow_pos, xor_comm, xor_lt}
use Rattle.std.proofs.lemmas.Bool.{cases_lt}
use Rattle.std.proofs.Math.Pow.{pow-lt}
use Rattle.bm_gf2.specs.declared.affine.Affine.{Affine}
use Rattle.bm_gf2.specs.Vector.{xor_sum}
use Rattle.bm_gf2.specs.Matrix.{column, image, IsNonsingular}
use Rattle.bm_gf2.specs.Kernel.{IsLeastKernel}
use Rattle.bm_gf2.specs.Affine.{affine_image}
use Rattle.bm_gf2.proofs.VectorLemmas.{xor_same, xor_cancel, xor_sum-zero, xor_sum-pow, xor_sum-ext}
use Rattle.bm_gf2.proofs.ShiftLemmas.{image_below}
use Rattle.bm_detect.specs.declared.detect_error.DetectError.{DetectError}
use Rattle.bm_detect.specs.declared.detect_error.DetectError.TheVariants as refusal
use Rattle.bm_detect.specs.declared.scan_state.Scan.{Scan}
use Rattle.bm_detect.specs.Candidate.{IsAffineBy, candidate, candidate_image, candidate_column}
use Rattle.bm_detect.specs.Answer.{AreCandidates, DetectAnswer}
use Rattle.bm_detect.specs.Scan.{IsScan, Knows, Scanned}

-- after all numbers each column is known
all_known : (n k : ℕ) → 2 ^ n ≤ 2 ^ k → n ≤ k
all_known n k met = elim (cases_lt k n) [
  | inl below ↦ let less : 2 ^ k < 2 ^ n = pow-lt below in absurd (omega arith)
  | inr from ↦ from
]

-- so the matrix is the candidate's
pub image_known : (n : ℕ) (ys : ℕ → ℕ) (scan : Scan) → IsScan n scan → Knows n ys (2 ^ n) scan → (x : ℕ)
    → image scan.map.a x ≡ candidate_image n ys x
image_known n ys scan is knows x =
    let all : n ≤ scan.bits = all_known n scan.bits knows.met in
    ap (λ (m : ℕ). xor_sum (column scan.map.a) m x) is.size
    ∙ xor_sum-ext (column scan.map.a) (candidate_column ys) n x (λ j l. knows.columns j (omega arith))

-- no difference, and nonsingular: the map is the answer
pub judged_map : (n : ℕ) (ys : ℕ → ℕ) (scan : Scan) → IsScan n scan → Knows n ys (2 ^ n) scan → AreCandidates n ys (2 ^ n)
    → IsNonsingular scan.map.a → DetectAnswer n ys (Ok scan.map)
judged_map n ys scan is knows same nonsingular = (
  record {
    size = is.size;
    values = λ x l. same x l ∙ sym (xor_same (knows.constant (pow_pos n)) (image_known n ys scan is knows x));
  },
  nonsingular,
)

-- no difference, and singular
pub judged_singular : (n x : ℕ) (ys : ℕ → ℕ) (scan : Scan) → IsScan n scan → Knows n ys (2 ^ n) scan → AreCandidates n ys (2 ^ n)
    → IsLeastKernel scan.map.a x → DetectAnswer n ys (Err (refusal.Singular x))
judged_singular n x ys scan is knows same kernel = (
  knows.addresses,
  same,
  record {
    some = kernel.some;
    inside = subst (λ (m : ℕ). x < 2 ^ m) is.size kernel.below;
    sent = sym (image_known n ys scan is knows x) ∙ kernel.sent;
    least = λ z l some sent. kernel.least z (subst (λ (m : ℕ). z < 2 ^ m) (sym is.size) l) some (image_known n ys scan is knows z ∙ sent);
  },
)

-- ---- a map that the list is affine by is the candidate

constant_of : (n : ℕ) (ys : ℕ → ℕ) (f : Affine) → IsAffineBy n ys f → ys 0 ≡ f.c
constant_of n ys f is = is.values 0 (pow_pos n) ∙ ap (bit_xor f.c) (xor_sum-zero (column f.a) f.a.n) ∙ xor_zero_r f.c

column_of : (n i : ℕ) (ys : ℕ → ℕ) (f : Affine) → IsAffineBy n ys f → i < n → candidate_column ys i ≡ column f.a i
column_of n i ys f is inside =
    let unit : ys (2 ^ i) ≡ bit_xor f.c (column f.a i) = is.values (2 ^ i) (pow-lt inside)
    ∙ ap (bit_xor f.c) (xor_sum-pow (column f.a) f.a.n i (subst (λ (m : ℕ). i < m) (sym is.size) inside)) in
    xor_same unit (constant_of n ys f is) ∙ xor_comm (bit_xor f.c (column f.a i)) f.c ∙ xor_cancel f.c (column f.a i)

pub image_of : (n : ℕ) (ys : ℕ → ℕ) (f : Affine) → IsAffineBy n ys f → (x : ℕ) → candidate_image n ys x ≡ image f.a x
image_of n ys f is x =
    xor_sum-ext (candidate_column ys) (column f.a) n x (λ j l. column_of n j ys f is l)
    ∙ ap (λ (m : ℕ). xor_sum (column f.a) m x) (sym is.size)

value_of : (n x : ℕ) (ys : ℕ → ℕ) (f : Affine) → IsAffineBy n ys f → x < 2 ^ n → ys x ≡ candidate n ys x
value_of n x ys f is inside = is.values x inside ∙ sym (xor_same (constant_of n ys f is) (image_of n ys f is x))

number_below : (n x : ℕ) (ys : ℕ → ℕ) (f : Affine) → IsAffineBy n ys f → x < 2 ^ n → ys x < 2 ^ n
number_below n x ys f is inside =
    let low : affine_image f x < 2 ^ f.a.n = xor_lt f.a.n f.c (image f.a x) f.below (image_below f.a x) in
    subst (λ (v : ℕ). v < 2 ^ n) (sym (is.values x inside)) (subst (λ (m : ℕ). affine_image f x < 2 ^ m) is.size low)

-- where the list is affine by a nonsingular map, the answer is Ok or Failed
pub found : (n : ℕ) (ys : ℕ → ℕ) (f : Affine) (r : Result Affine DetectError) → IsAffineBy n ys f → IsNonsingular f.a
    → DetectAnswer n ys r → r ≢ Err refusal.Failed → IsOk r
found n ys f (Ok g) is nonsingular answer read = refl
found n ys f (Err refusal.Failed) is nonsingular answer read = absurd (read refl)
found n ys f (Err (refusal.OutOfRange x y)) is nonsingular answer read =
    let low : ys x < 2 ^ n = number_below n x ys f is answer.inside in
    absurd (omega (arith, answer.number, answer.large))
found n ys f (Err (refusal.NotAffine x y want)) is nonsingular answer read =
    absurd (answer.2.apart (answer.2.number ∙ value_of n x ys f is answer.1 ∙ sym answer.2.value))
found n ys f (Err (refusal.Singular x)) is nonsingular answer read =
    let sent = answer.2 in
    absurd (sent.some (nonsingular x (subst (λ (m : ℕ). x < 2 ^ m) (sym is.size) sent.inside) (sym (image_of n ys f is x) ∙ sent.sent)))

-- a refusal of the scan is one of detection
pub refused : (n seen : ℕ) (ys : ℕ → ℕ) (e : DetectError) → Scanned n ys seen (Err e) → DetectAnswer n ys (Err e)
refused n seen ys refusal.Failed scanned = tt
refused n seen ys (refusal.OutOfRange x y) scanned = scanned
refused n seen ys (refusal.NotAffine x y want) scanned = absurd scanned
refused n seen ys (refusal.Singular x) scanned = absurd scanned

-- a failed scan is a failed detection
pub read_failed : (e : DetectError) → ◌≡◌ {A = Result Affine DetectError} (Err e) (Err refusal.Failed)
    → ◌≡◌ {A = Result Scan DetectError} (Err e) (Err refusal.Failed)
read_failed refusal.Failed same = refl
read_failed (refusal.OutOfRange x y) same = cc
read_failed (refusal.NotAffine x y want) same = cc
read_failed (refusal.Singular x) same = cc
