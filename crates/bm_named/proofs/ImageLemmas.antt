-- Bits of images, and what makes a matrix nonsingular.
use Rattle.std.proofs.Common.{ℕ, zero, suc, ◌≡◌, ◌^◌, ◌<◌, refl, sym, ap, ◌∙◌}
use Rattle.std.specs.Int.{bit_at}
use Rattle.std.proofs.lemmas.Nat.{pow_pos}
use Rattle.std.proofs.Math.Nat.{mul_comm}
use Rattle.std.proofs.lemmas.Nat.Bits.{bit_at-zero, same_from_bits_below}
use Rattle.bm_gf2.specs.Vector.{xor_sum}
use Rattle.bm_gf2.specs.declared.matrix.Matrix.{Matrix}
use Rattle.bm_gf2.specs.Matrix.{column, image, IsNonsingular}
use Rattle.bm_gf2.proofs.VectorLemmas.{xor_same, xor_sum-zero, xor_sum-bit, xor_sum-ext, xor_sum-pow}

-- a matrix that something undoes is nonsingular
pub nonsingular_of_undo : (a : Matrix) (undo : ℕ → ℕ) → ((x : ℕ) → x < 2 ^ a.n → undo (image a x) ≡ x) → IsNonsingular a
nonsingular_of_undo a undo undone = λ x below sent.
    sym (undone x below) ∙ ap undo (sent ∙ sym (xor_sum-zero (column a) a.n)) ∙ undone 0 (pow_pos a.n)

-- so is one whose images show each bit
pub nonsingular_of_bits : (a : Matrix) → ((s : ℕ) → s < a.n → (i : ℕ) × ((x : ℕ) → x < 2 ^ a.n → bit_at (image a x) i ≡ bit_at x s))
    → IsNonsingular a
nonsingular_of_bits a shown = λ x below sent.
    same_from_bits_below a.n x 0 below (pow_pos a.n)
    (λ s inside. let place = shown s inside in
    sym (place.1 x below) ∙ ap (λ (c : ℕ). bit_at c place.0) sent ∙ bit_at-zero place.0 ∙ sym (bit_at-zero s))

-- the XOR of the bits of v that w picks is that of the bits of w that v picks
dot-comm : (v w k : ℕ) → xor_sum (bit_at v) k w ≡ xor_sum (bit_at w) k v
unfolding xor_sum
dot-comm v w zero = refl
dot-comm v w (suc k) = xor_same (dot-comm v w k) (mul_comm (bit_at w k) (bit_at v k))

-- bit i of an image, by row i
pub image-row : (w : ℕ → ℕ) (n i row x : ℕ) → ((j : ℕ) → j < n → bit_at (w j) i ≡ bit_at row j)
    → bit_at (xor_sum w n x) i ≡ xor_sum (bit_at row) n x
image-row w n i row x entries = xor_sum-bit w n i x ∙ xor_sum-ext (λ j. bit_at (w j) i) (bit_at row) n x entries

-- a row with bit s alone picks bit s
pub image-unit_row : (w : ℕ → ℕ) (n i s x : ℕ) → s < n → ((j : ℕ) → j < n → bit_at (w j) i ≡ bit_at (2 ^ s) j)
    → bit_at (xor_sum w n x) i ≡ bit_at x s
image-unit_row w n i s x inside entries = image-row w n i (2 ^ s) x entries ∙ dot-comm (2 ^ s) x n ∙ xor_sum-pow (bit_at x) n s inside
