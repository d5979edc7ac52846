use Rattle.std.proofs.Common.{◌∙◌, arith}
use Rattle.bm_base.proofs.ShapeLemmas.{load_in_area, area_fits, disks_fit}
use Rattle.bm_stripe.proofs.BlockLemmas.{load_bytes, record_of_load}
use Rattle.bm_stripe.proofs.loads.read_load.Goals as goal

pub read_rows-requires-clause-disks : goal.read_rows-requires-clause-disks
read_rows-requires-clause-disks g c = rw c.dims.ensures (disks_fit c.args.shape.now)

pub read_rows-requires-clause-places : goal.read_rows-requires-clause-places
read_rows-requires-clause-places g c = rw (c.dims.ensures, c.first_place-first.ensures, c.load_stripes.ensures)
    (omega (arith, load_in_area c.args.shape.now c.args.load c.requires.load, area_fits c.args.shape.now c.args.area))

pub read_rows-requires-clause-size : goal.read_rows-requires-clause-size
read_rows-requires-clause-size g c = rw (c.dims.ensures, c.load_stripes.ensures) (c.requires.size ∙ load_bytes c.args.shape.now)

pub returns-clause-records : goal.returns-clause-records
returns-clause-records g c told ok i below =
    let rows = rw (c.dims.ensures, c.first_place-first.ensures, c.load_stripes.ensures) at (c.read_rows.ensures.bytes told ok) in
    record_of_load c.args.shape.now c.args.area c.args.load (g.R.Rack.view c.args.rack.now).contents _ rows i below
