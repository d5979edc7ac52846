use Rattle.std.proofs.Common.{◌∙◌, arith}
use Rattle.bm_base.proofs.ShapeLemmas.{area_fits, disks_fit}
use Rattle.bm_stripe.proofs.BlockLemmas.{stripe_bytes, record_of_stripe}
use Rattle.bm_stripe.proofs.stripes.read_stripe.Goals as goal

pub read_rows-requires-clause-disks : goal.read_rows-requires-clause-disks
read_rows-requires-clause-disks g c = rw c.dims.ensures (disks_fit c.args.shape.now)

pub read_rows-requires-clause-places : goal.read_rows-requires-clause-places
read_rows-requires-clause-places g c =
    rw (c.dims.ensures, c.place_in_area-place.ensures) (omega (arith, c.requires.stripe, area_fits c.args.shape.now c.args.area))

pub read_rows-requires-clause-size : goal.read_rows-requires-clause-size
read_rows-requires-clause-size g c = rw c.dims.ensures (c.requires.size ∙ stripe_bytes c.args.shape.now)

pub returns-clause-records : goal.returns-clause-records
returns-clause-records g c told ok i below =
    let rows = rw (c.dims.ensures, c.place_in_area-place.ensures) at (c.read_rows.ensures.bytes told ok) in
    record_of_stripe c.args.shape.now c.args.area c.args.stripe (g.R.Rack.view c.args.rack.now).contents _ rows i below
