-- What a matrix sends to 0, by its rows.
use Rattle.std.proofs.Common.{ℕ, ◌≡◌, ◌<◌, List, slice_index, sym, ap, ◌∙◌}
use Rattle.std.specs.Int.{bit_at}
use Rattle.std.proofs.lemmas.Nat.{pow_pos}
use Rattle.std.proofs.lemmas.Nat.Bits.{bit_at-zero, same_from_bits_below}
use Rattle.bm_gf2.specs.declared.matrix.Matrix.{Matrix}
use Rattle.bm_gf2.specs.Matrix.{column, image}
use Rattle.bm_gf2.specs.Kernel.{IsLeastKernel}
use Rattle.bm_gf2.proofs.ShiftLemmas.{image_below}
use Rattle.bm_named.specs.RowList.{SendToZero, IsLeastKernelOfRows}
use Rattle.bm_named.proofs.ImageLemmas.{image-row}

-- a matrix of these rows
module _ (a : Matrix) (rows : List ℕ) (entries : (i j : ℕ) → i < a.n → j < a.n
    → bit_at (column a j) i ≡ bit_at (slice_index rows i) j) where
  -- where the matrix sends x to 0, each row picks bits whose XOR is 0
  sent_of_image : (x : ℕ) → image a x ≡ 0 → SendToZero a.n rows x
  sent_of_image x none = λ i inside.
      sym (image-row (column a) a.n i (slice_index rows i) x (λ j below. entries i j inside below)) ∙ ap (λ (c : ℕ). bit_at c i) none
      ∙ bit_at-zero i

  -- and only there
  image_of_sent : (x : ℕ) → SendToZero a.n rows x → image a x ≡ 0
  image_of_sent x sent =
      same_from_bits_below a.n (image a x) 0 (image_below a x) (pow_pos a.n)
      (λ i inside. image-row (column a) a.n i (slice_index rows i) x (λ j below. entries i j inside below) ∙ sent i inside
      ∙ sym (bit_at-zero i))

  -- the least vector of the matrix is that of its rows
  pub least_sent : (x : ℕ) → IsLeastKernel a x → IsLeastKernelOfRows a.n rows x
  least_sent x kernel = record {
    some = kernel.some;
    below = kernel.below;
    sent = sent_of_image x kernel.sent;
    least = λ y below some sent. kernel.least y below some (image_of_sent y sent);
  }
