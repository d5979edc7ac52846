use Rattle.std.proofs.Common.{ℕ, ◌-◌, ◌*◌, ◌%◌, ◌^◌, bit_xor, ap, ◌∙◌, arith}
use Rattle.std.proofs.lemmas.Nat.{one_shl}
use Rattle.bm_named.proofs.ReversalLemmas.{xor_ones}
use Rattle.bm_named.proofs.reversals.reversal.Goals as goal

pub returns-clause-value : goal.returns-clause-value
returns-clause-value c = λ x below.
    let n = c.args.n in
    ap (bit_xor (1 * 2 ^ n % 18446744073709551616 - 1)) (c.identity.ensures.unchanged x below)
    ∙ ap (λ (v : ℕ). bit_xor (v - 1) x) (one_shl n 64 (omega (arith, c.requires.few)))
    ∙ xor_ones n x below
