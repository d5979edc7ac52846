use Rattle.std.proofs.Common.{arith}
use Rattle.bm_stripe.proofs.SpotLemmas.{address_below, joined, spot_of-address_of, address_fits, block_fits}
use Rattle.bm_stripe.proofs.spot.join_spot.Goals as goal

pub overflow_add-block : goal.overflow_add-block
overflow_add-block c =
    let s = c.args.shape.now in
    let spot = c.args.spot.now in
    rw (c.d.ensures, c.from.ensures) (omega (arith, block_fits s spot c.requires))

pub overflow_add-result : goal.overflow_add-result
overflow_add-result c =
    let s = c.args.shape.now in
    let spot = c.args.spot.now in
    rw (c.d.ensures, c.from.ensures, c.b.ensures, c.from-2.ensures, joined s spot c.requires)
    (omega (arith, address_fits s spot c.requires))

pub returns-clause-address : goal.returns-clause-address
returns-clause-address c =
    rw (c.d.ensures, c.from.ensures, c.b.ensures, c.from-2.ensures) (joined c.args.shape.now c.args.spot.now c.requires)

pub returns-clause-below : goal.returns-clause-below
returns-clause-below c =
    rw (c.d.ensures, c.from.ensures, c.b.ensures, c.from-2.ensures, joined c.args.shape.now c.args.spot.now c.requires)
    (address_below c.args.shape.now c.args.spot.now c.requires)

pub returns-clause-back : goal.returns-clause-back
returns-clause-back c =
    rw (c.d.ensures, c.from.ensures, c.b.ensures, c.from-2.ensures, joined c.args.shape.now c.args.spot.now c.requires)
    (spot_of-address_of c.args.shape.now c.args.spot.now c.requires)
