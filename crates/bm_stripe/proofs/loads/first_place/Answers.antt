use Rattle.std.proofs.Common.{arith}
use Rattle.bm_base.proofs.ShapeLemmas.{load_in_area, stripes_fit}
use Rattle.bm_stripe.proofs.loads.first_place.Goals as goal

pub overflow_mul-load : goal.overflow_mul-load
overflow_mul-load c = rw c.load_stripes.ensures
    (omega (arith, load_in_area c.args.shape.now c.args.load c.requires, stripes_fit c.args.shape.now))

pub place_in_area-requires : goal.place_in_area-requires
place_in_area-requires c = rw c.load_stripes.ensures (omega (arith, load_in_area c.args.shape.now c.args.load c.requires))
