use Rattle.std.proofs.Common.{◌≡◌, ℕ, ◌+◌, ◌%◌, ◌<◌, subst, sym, ap, ◌∙◌, arith}
use Rattle.std.specs.Int.{bit_at}
use Rattle.std.proofs.Math.Nat.{add-mod-mod, mod-lt}
use Rattle.bm_named.proofs.ImageLemmas.{nonsingular_of_bits}
use Rattle.bm_named.proofs.ShuffleLemmas.{rotation_source}
use Rattle.bm_named.proofs.shuffles.rotation.Goals as goal

pub returns-clause-nonsingular : goal.returns-clause-nonsingular
returns-clause-nonsingular c =
    let n = c.args.n in
    let by = c.args.by in
    let m = c.rotation.result in
    let size : m.n ≡ n = c.rotation.ensures.size in
    let turn : by % n < n = mod-lt by (omega (arith, c.requires.some)) in
    nonsingular_of_bits m
    (λ s inside.
    let place = rotation_source n (by % n) s turn (subst (λ (k : ℕ). s < k) size inside) in (
      place.0,
      λ x below. c.rotation.ensures.bits x place.0 place.1
          ∙ ap (bit_at x) (let e : (place.0 + by) % n ≡ (place.0 + by % n) % n = sym (add-mod-mod place.0 by n) in e ∙ place.2),
    ))
