-- The rotation's matrix.
use Rattle.std.proofs.Common.{ℕ, ◌≡◌, ◌+◌, ◌-◌, ◌*◌, ◌/◌, ◌%◌, ◌^◌, ◌<◌, ◌≤◌, bit_xor, sym, ap, ◌∙◌, subst, arith, zero-mul}
use Rattle.std.specs.Int.Bits.{xor_zero_l, xor_shifted}
use Rattle.std.proofs.lemmas.Nat.{pow_pos, pow-add, xor_block}
use Rattle.std.proofs.Math.Nat.{mod-eq_of_lt, add-mod_right}
use Rattle.std.proofs.Math.Pow.{shr_lt}
use Rattle.bm_gf2.specs.Vector.{xor_sum}
use Rattle.bm_gf2.specs.declared.affine.Affine.{Affine}
use Rattle.bm_gf2.specs.Matrix.{image, column}
use Rattle.bm_gf2.proofs.VectorLemmas.{xor_sum-split, xor_sum-ext, xor_sum-map, xor_sum-units, xor_same}
use Rattle.bm_gf2.proofs.ShiftLemmas.{xor_shl}
use Rattle.bm_forms.proofs.RoundLemmas.{rotated, IsRotation}

-- columns in place of the rotation's are the rotation
pub rotation_image : (w : ℕ → ℕ) (n by x : ℕ) → by ≤ n → x < 2 ^ n → ((j : ℕ) → j < n → w j ≡ 2 ^ ((j + n - by) % n))
    → xor_sum w n x ≡ rotated n by x
unfolding rotated
rotation_image w n by x l h e =
    let rest : ℕ = n - by in
    let whole : by + rest ≡ n = omega arith in
    let low : xor_sum w by x ≡ x % 2 ^ by * 2 ^ rest
    = xor_sum-ext w (λ j. 2 ^ j * 2 ^ rest) by x
    (λ j b. e j (omega arith) ∙ ap (λ (c : ℕ). 2 ^ c)
    (mod-eq_of_lt (let f : j + n - by < n = omega arith in f) ∙ (let f : j + n - by ≡ j + rest = omega arith in f)) ∙ pow-add 2 j rest)
    ∙ sym (xor_sum-map (λ (c : ℕ). c * 2 ^ rest) (λ j. 2 ^ j) by x (zero-mul (2 ^ rest)) (λ a b. xor_shl a b rest))
    ∙ ap (λ (c : ℕ). c * 2 ^ rest) (xor_sum-units by x) in
    let high : xor_sum (λ j. w (by + j)) rest (x / 2 ^ by) ≡ x / 2 ^ by
    = xor_sum-ext (λ j. w (by + j)) (λ j. 2 ^ j) rest (x / 2 ^ by)
    (λ j b. e (by + j) (omega arith) ∙ ap (λ (c : ℕ). 2 ^ c)
    (ap (λ (c : ℕ). c % n) (let f : by + j + n - by ≡ j + n = omega arith in f) ∙ add-mod_right j n
    ∙ mod-eq_of_lt (let f : j < n = omega arith in f)))
    ∙ xor_sum-units rest (x / 2 ^ by)
    ∙ mod-eq_of_lt (shr_lt rest by (subst (λ (c : ℕ). x < 2 ^ c) (let f : n ≡ rest + by = omega arith in f) h)) in
    ap (λ (c : ℕ). xor_sum w c x) (sym whole)
    ∙ xor_sum-split w by rest x
    ∙ xor_same low high
    ∙ xor_shifted (x % 2 ^ by) rest (x / 2 ^ by)
    (shr_lt rest by (subst (λ (c : ℕ). x < 2 ^ c) (let f : n ≡ rest + by = omega arith in f) h))

-- a map with the rotation's matrix and no constant
pub is_rotation : (f : Affine) (by : ℕ) → by ≤ f.a.n → f.c ≡ 0 → ((j : ℕ) → j < f.a.n → column f.a j ≡ 2 ^ ((j + f.a.n - by) % f.a.n))
    → IsRotation f.a.n by f
unfolding IsRotation
is_rotation f by l z e x h =
    ap (λ (c : ℕ). bit_xor c (image f.a x)) z ∙ xor_zero_l (image f.a x) ∙ rotation_image (column f.a) f.a.n by x l h e
