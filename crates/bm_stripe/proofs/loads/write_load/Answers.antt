use Rattle.std.proofs.Common.{sym, ◌∙◌, arith}
use Rattle.bm_base.proofs.ShapeLemmas.{load_in_area, area_fits, disks_fit}
use Rattle.bm_rack.proofs.FrameLemmas.{ChangesOnly-wider}
use Rattle.bm_stripe.proofs.BlockLemmas.{load_bytes, record_of_load}
use Rattle.bm_stripe.proofs.UnitLemmas.{IsLoadUnit-rows}
use Rattle.bm_stripe.proofs.loads.write_load.Goals as goal

pub write_rows-requires-clause-disks : goal.write_rows-requires-clause-disks
write_rows-requires-clause-disks g c = rw c.dims.ensures (disks_fit c.args.shape.now)

pub write_rows-requires-clause-places : goal.write_rows-requires-clause-places
write_rows-requires-clause-places g c = rw (c.dims.ensures, c.first_place-first.ensures, c.load_stripes.ensures)
    (omega (arith, load_in_area c.args.shape.now c.args.load c.requires.load, area_fits c.args.shape.now c.args.area))

pub write_rows-requires-clause-size : goal.write_rows-requires-clause-size
write_rows-requires-clause-size g c = rw (c.dims.ensures, c.load_stripes.ensures) (c.requires.size ∙ load_bytes c.args.shape.now)

pub returns-clause-records : goal.returns-clause-records
returns-clause-records g c told ok i below =
    let rows = rw (c.dims.ensures, c.first_place-first.ensures, c.load_stripes.ensures) at (c.write_rows.ensures.bytes told ok) in
    sym (record_of_load c.args.shape.now c.args.area c.args.load (g.R.Rack.view c.write_rows.new.rack).contents _ rows i below)

pub returns-clause-only : goal.returns-clause-only
returns-clause-only g c =
    let only = rw (c.dims.ensures, c.first_place-first.ensures, c.load_stripes.ensures) at c.write_rows.ensures.only in
    ChangesOnly-wider _ _ _ _ (IsLoadUnit-rows c.args.shape.now c.args.area c.args.load) only
