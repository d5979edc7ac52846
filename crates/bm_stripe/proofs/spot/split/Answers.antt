use Rattle.std.proofs.Common.{◌^◌, arith}
use Rattle.std.proofs.lemmas.Nat.{one_shl, mod_below, pow_pos}
use Rattle.bm_stripe.proofs.SpotLemmas.{IsSpot-of, address_of-spot_of, block_records_fit}
use Rattle.bm_stripe.proofs.spot.split.Goals as goal

pub overflow_cast-result-5 : goal.overflow_cast-result-5
overflow_cast-result-5 c =
    let s = c.args.shape.now in
    rw (c.b-2.ensures, one_shl s.b 64 (omega arith)) (omega (arith, mod_below c.args.x (2 ^ s.b) (pow_pos s.b), block_records_fit s))

pub returns-clause-inside : goal.returns-clause-inside
returns-clause-inside c =
    let s = c.args.shape.now in
    rw (c.b.ensures, c.d.ensures, c.d-2.ensures, c.b-2.ensures, one_shl s.d 64 (omega arith), one_shl s.b 64 (omega arith))
    (IsSpot-of s c.args.x c.requires)

pub returns-clause-back : goal.returns-clause-back
returns-clause-back c =
    let s = c.args.shape.now in
    rw (c.b.ensures, c.d.ensures, c.d-2.ensures, c.b-2.ensures, one_shl s.d 64 (omega arith), one_shl s.b 64 (omega arith))
    (address_of-spot_of s c.args.x)
