use Rattle.std.proofs.Common.{◌≡◌, ℕ, bit_xor, sym, ap, ◌∙◌}
use Rattle.std.specs.Int.Bits.{xor_assoc}
use Rattle.std.proofs.lemmas.Nat.{xor_comm, xor_lt}
use Rattle.bm_gf2.specs.Matrix.{image}
use Rattle.bm_named.proofs.explicit.with_complement.Goals as goal

-- the last two terms change places
swap_last : (a b d : ℕ) → bit_xor (bit_xor a b) d ≡ bit_xor (bit_xor a d) b
swap_last a b d = xor_assoc a b d ∙ ap (bit_xor a) (xor_comm b d) ∙ sym (xor_assoc a d b)

pub invariant_of-result : goal.invariant_of-result
invariant_of-result c =
    let map = c.args.map.now in
    record { below = xor_lt map.a.n map.c c.args.c map.below c.requires }

pub returns-clause-value : goal.returns-clause-value
returns-clause-value c = λ x. swap_last c.args.map.now.c c.args.c (image c.args.map.now.a x)
