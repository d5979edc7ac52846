use Rattle.std.proofs.Common.{ℕ, zero, suc, ◌≡◌, ◌≢◌, ◌*◌, ◌^◌, ◌<◌, ◌≤◌, [], ◌∷◌, length, slice_index, arith}
use Rattle.std.proofs.Math.Pow.{pow_mono}
use Rattle.bm_kinds.specs.OnBits.{AreBits}
use Rattle.kind_tests.proofs.radix_rows.three.Goals as goal

-- three different bits
three_bits : (n i j k : ℕ) → i < n → j < n → k < n → i ≢ j → i ≢ k → j ≢ k → AreBits n 3 (slice_index (i ∷ j ∷ k ∷ []))
three_bits n i j k in_i in_j in_k i_j i_k j_k = record {
  below = within;
  apart = different;
} where
  within : (t : ℕ) → t < 3 → slice_index (i ∷ j ∷ k ∷ []) t < n
  within zero l = in_i
  within (suc zero) l = in_j
  within (suc (suc zero)) l = in_k
  within (suc (suc (suc t))) l = absurd (omega arith)

  different : (s t : ℕ) → s < t → t < 3 → slice_index (i ∷ j ∷ k ∷ []) s ≢ slice_index (i ∷ j ∷ k ∷ []) t
  different zero zero less l = absurd (omega arith)
  different zero (suc zero) less l = i_j
  different zero (suc (suc zero)) less l = i_k
  different zero (suc (suc (suc t))) less l = absurd (omega arith)
  different (suc zero) zero less l = absurd (omega arith)
  different (suc zero) (suc zero) less l = absurd (omega arith)
  different (suc zero) (suc (suc zero)) less l = j_k
  different (suc zero) (suc (suc (suc t))) less l = absurd (omega arith)
  different (suc (suc s)) zero less l = absurd (omega arith)
  different (suc (suc s)) (suc t) less l = absurd (omega arith)

pub radix-requires : goal.radix-requires
radix-requires g c =
    let n = c.args.map.now.a.n in
    let most : 2 ^ n ≤ 2 ^ 52 = pow_mono {i = n} {j = 52} c.args.map.now.a.few in
    let size : 3 < 9223372036854775808 = omega arith in
    let few : 3 ≤ 3 = omega arith in
    let whole : length c.args.records.now ≡ 8 * 2 ^ n = omega (arith, c.if-records-map.false) in (
      size,
      (
        few,
        (
          c.requires,
          (
            c.args.map.now.below,
            (
              whole,
              three_bits n c.args.bits.0 c.args.bits.1 c.args.bits.2
                  (omega (arith, c.if-i-map.false)) (omega (arith, c.if-j-map.false)) (omega (arith, c.if-k-map.false))
                  c.if-i-j.false c.if-i-k.false c.if-j-k.false,
            ),
          ),
        ),
      ),
    )
