use Rattle.std.proofs.Common.{◌≡◌, ℕ, ◌+◌, ◌-◌, ◌*◌, ◌<◌, ◌^◌, subst, arith}
use Rattle.std.proofs.lemmas.Nat.{xor_lt}
use Rattle.bm_gf2.specs.Matrix.{image}
use Rattle.bm_gf2.specs.Affine.{affine_image}
use Rattle.bm_gf2.proofs.ShiftLemmas.{image_below}
use Rattle.bm_named.proofs.ShuffleLemmas.{transposed_value, transposed_source}
use Rattle.bm_named.proofs.shuffles.transpose.Goals as goal

pub returns-clause-value : goal.returns-clause-value
returns-clause-value c = λ i j high low.
    let n = c.args.n in
    let p = c.args.p in
    let f = c.rotation.result in
    let x : ℕ = i * 2 ^ (n - p) + j in
    let whole : p + (n - p) ≡ n = omega (arith, c.requires.side) in
    let below : affine_image f x < 2 ^ n =
    subst (λ (k : ℕ). affine_image f x < 2 ^ k) c.rotation.ensures.size (xor_lt f.a.n f.c (image f.a x) f.below (image_below f.a x)) in
    transposed_value n p (n - p) i j (affine_image f x) whole high low below
    (λ t inside. c.rotation.ensures.bits x t (transposed_source n p (n - p) i j whole high low) inside)
