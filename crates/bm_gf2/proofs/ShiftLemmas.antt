-- Shifts of sums, and what an image is below.
use Rattle.std.proofs.Common.{◌≡◌, ℕ, ◌+◌, ◌*◌, ◌^◌, ◌<◌, bit_xor, sym, ap, ◌∙◌, arith}
use Rattle.std.specs.Int.Bits.{xor_zero_l}
use Rattle.std.proofs.lemmas.Nat.{pow_pos, xor_block}
use Rattle.bm_gf2.specs.declared.matrix.Matrix.{Matrix}
use Rattle.bm_gf2.specs.Matrix.{column, image}
use Rattle.bm_gf2.proofs.VectorLemmas.{xor_same, xor_sum-lt}

-- a shift passes through an XOR
pub xor_shl : (a b k : ℕ) → bit_xor a b * 2 ^ k ≡ bit_xor (a * 2 ^ k) (b * 2 ^ k)
xor_shl a b k =
    let x = xor_block k a b 0 0 (pow_pos k) (pow_pos k) in
    let z : bit_xor 0 0 ≡ 0 = xor_zero_l 0 in
    let l : bit_xor (a * 2 ^ k + 0) (b * 2 ^ k + 0) ≡ bit_xor (a * 2 ^ k) (b * 2 ^ k) =
    xor_same (let e : a * 2 ^ k + 0 ≡ a * 2 ^ k = omega arith in e) (let e : b * 2 ^ k + 0 ≡ b * 2 ^ k = omega arith in e) in
    sym (sym l ∙ x ∙ ap (λ (c : ℕ). bit_xor a b * 2 ^ k + c) z ∙ (let e : bit_xor a b * 2 ^ k + 0 ≡ bit_xor a b * 2 ^ k = omega arith in e))

-- an image has n bits
pub image_below : (a : Matrix) (x : ℕ) → image a x < 2 ^ a.n
image_below a x = xor_sum-lt (column a) a.n a.n x a.below
