-- Columns of matrices that are their own inverses.
use Rattle.std.proofs.Common.{◌≡◌, ℕ, zero, suc, ◌*◌, ◌^◌, ◌<◌, ◌≤◌, bit_xor, refl, sym, ap, ◌∙◌, arith, ⊎_elim, zero-mul}
use Rattle.std.specs.Int.{bit_at}
use Rattle.std.proofs.Math.Nat.{mod-eq_of_lt}
use Rattle.std.proofs.lemmas.Nat.Bits.{bit_at-lt}
use Rattle.bm_gf2.specs.Vector.{xor_sum}
use Rattle.bm_gf2.specs.declared.matrix.Matrix.{Matrix}
use Rattle.bm_gf2.specs.Matrix.{image, column}
use Rattle.bm_gf2.proofs.VectorLemmas.{xor_sum-xor, xor_sum-pow, xor_sum-xor_sum, xor_sum-ext, xor_sum-units, xor_sum-above, bit_cases}
use Rattle.bm_gf2.proofs.VectorLemmas.{xor_same, xor_cancel}
use Rattle.bm_factor.specs.Columns.{IsOwnInverse}

-- the columns that are picked decide
pub xor_sum-picked : (v w : ℕ → ℕ) (k x : ℕ) → ((j : ℕ) → j < k → bit_at x j ≡ 1 → v j ≡ w j) → xor_sum v k x ≡ xor_sum w k x
unfolding xor_sum
xor_sum-picked v w zero x h = refl
xor_sum-picked v w (suc k) x h =
    xor_same (xor_sum-picked v w k x (λ j l. h j (omega arith)))
    (⊎_elim
    (λ (p : (bit_at x k ≡ 0) × (bit_at x k * v k ≡ 0)). p.1 ∙ sym (ap (λ (c : ℕ). c * w k) p.0 ∙ zero-mul (w k)))
    (λ (p : (bit_at x k ≡ 1) × (bit_at x k * v k ≡ v k)). ap (λ (c : ℕ). bit_at x k * c) (h k (omega arith) p.0))
    (bit_cases (bit_at x k) (v k) (bit_at-lt x k)))

-- what gives the unit vectors back from its columns is its own inverse
pub own_inverse : (t : Matrix) → ((j : ℕ) → j < t.n → image t (column t j) ≡ 2 ^ j) → IsOwnInverse t
own_inverse t back = λ x h.
    xor_sum-xor_sum (column t) (column t) t.n t.n x
    ∙ xor_sum-ext (λ j. image t (column t j)) (λ j. 2 ^ j) t.n x back ∙ xor_sum-units t.n x ∙ mod-eq_of_lt h

-- a unit column
pub unit_back : (t : Matrix) (j : ℕ) → j < t.n → column t j ≡ 2 ^ j → image t (column t j) ≡ 2 ^ j
unit_back t j l e = ap (image t) e ∙ xor_sum-pow (column t) t.n j l ∙ e

-- a column with an unchanged vector added
pub added_back : (t : Matrix) (j c : ℕ) → j < t.n → column t j ≡ bit_xor c (2 ^ j) → image t c ≡ c → image t (column t j) ≡ 2 ^ j
added_back t j c l e same =
    ap (image t) e ∙ xor_sum-xor (column t) t.n c (2 ^ j) ∙ xor_same same (xor_sum-pow (column t) t.n j l ∙ e) ∙ xor_cancel c (2 ^ j)

-- where columns 0..m-1 are unit vectors, vectors below 2 ^ m are unchanged
pub unchanged_low : (t : Matrix) (m c : ℕ) → m ≤ t.n → ((j : ℕ) → j < m → column t j ≡ 2 ^ j) → c < 2 ^ m → image t c ≡ c
unchanged_low t m c l units h =
    xor_sum-above (column t) m t.n c l h ∙ xor_sum-ext (column t) (λ j. 2 ^ j) m c units ∙ xor_sum-units m c ∙ mod-eq_of_lt h
