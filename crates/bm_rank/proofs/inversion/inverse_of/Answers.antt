use Rattle.std.proofs.Common.{◌≡◌, ℕ, ◌+◌, ◌*◌, ◌%◌, ◌<◌, ◌≤◌, ◌^◌, ◌∙◌, length, slice_index, refl, arith}
use Rattle.std.proofs.lemmas.List.{length-set}
use Rattle.std.proofs.lemmas.Nat.{one_shl, pow_below}
use Rattle.bm_gf2.specs.Vector.{xor_sum}
use Rattle.bm_gf2.proofs.VectorLemmas.{set_rest}
use Rattle.bm_rank.proofs.KernelLemmas.{written_more, unit_found, undoes_right, undoes_left, IsIndependent}
use Rattle.bm_rank.proofs.inversion.inverse_of.Goals as goal

pub combination-requires : goal.combination-requires
combination-requires c =
    let few : c.args.a.now.n ≤ 52 = c.args.a.now.few in
    rw (one_shl c.loop-i.i 64 (omega arith), c.requires.size) (pow_below c.loop-i.i c.args.a.now.n (omega arith))

pub loop-i-preserved : goal.loop-i-preserved
loop-i-preserved c =
    let a = c.args.a.now in
    let few : a.n ≤ 52 = a.few in
    let i : ℕ = c.loop-i.i in
    let w : ℕ → ℕ = slice_index a.cols in
    let room : i < length c.loop-i.cols = omega (arith, c.loop-i.invariant.3) in
    let unit : 1 * 2 ^ i % 2 ^ 64 ≡ 2 ^ i = one_shl i 64 (omega arith) in
    let sum = rw c.unwrap.ensures at c.combination.ensures.sum in
    let below = rw c.unwrap.ensures at c.combination.ensures.below in
    let u = unit_found a c.args.found.now.kept a.n c.unwrap.result (1 * 2 ^ i % 2 ^ 64) c.requires.kept (omega arith) sum below in (
      written_more (λ j v. v < 2 ^ a.n) c.loop-i.cols i c.from.result c.unwrap.result c.from.ensures room c.loop-i.invariant.0 u.0,
      written_more (λ j v. xor_sum w a.n v ≡ 2 ^ j) c.loop-i.cols i c.from.result c.unwrap.result c.from.ensures room c.loop-i.invariant.1
          (u.1 ∙ unit),
      rw c.from.ensures (set_rest c.loop-i.cols (i + 1) i c.unwrap.result (λ j l. c.loop-i.invariant.2 j (omega arith)) (omega arith)),
      length-set c.loop-i.cols c.from.result c.unwrap.result ∙ c.loop-i.invariant.3,
    )

pub returns : goal.returns
returns c =
    let a = c.args.a.now in
    let few : a.n ≤ 52 = a.few in
    let w : ℕ → ℕ = slice_index a.cols in
    let b : ℕ → ℕ = slice_index c.loop-i.cols in
    let i : IsIndependent w a.n = record { only = c.requires.nonsingular } in
    let e : c.loop-i.i ≡ a.n = omega arith in
    let short : (j : ℕ) → j < a.n → b j < 2 ^ a.n = λ j l. c.loop-i.invariant.0 j (omega arith) in
    let units : (j : ℕ) → j < a.n → xor_sum w a.n (b j) ≡ 2 ^ j = λ j l. c.loop-i.invariant.1 j (omega arith) in
    record {
      size = refl;
      right = undoes_right w b a.n i short units a.below;
      left = undoes_left w b a.n i short units a.below;
    }
