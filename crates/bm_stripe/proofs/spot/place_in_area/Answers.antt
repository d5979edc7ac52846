use Rattle.std.proofs.Common.{arith}
use Rattle.bm_base.proofs.ShapeLemmas.{stripes_fit}
use Rattle.bm_stripe.proofs.spot.place_in_area.Goals as goal

pub overflow_add-result : goal.overflow_add-result
overflow_add-result c = rw c.stripes.ensures (omega (arith, stripes_fit c.args.shape.now))

pub overflow_mul-result : goal.overflow_mul-result
overflow_mul-result c = rw c.stripes-in-Two.ensures (omega (arith, stripes_fit c.args.shape.now))

pub overflow_add-result-in-Two : goal.overflow_add-result-in-Two
overflow_add-result-in-Two c = rw c.stripes-in-Two.ensures (omega (arith, stripes_fit c.args.shape.now))
