use Rattle.std.proofs.Common.{refl, ap}
use Rattle.bm_memrack.proofs.StoreLemmas.{store_row_written, row_fits}
use Rattle.bm_memrack.proofs.sure_rack.SureRackRack.write_row.Goals as goal

pub returns-clause-written : goal.returns-clause-written
returns-clause-written c dims ready =
    let rack = c.args.self.now in
    store_row_written rack.store c.in-Some.store c.write_row.new.self rack.attached _ c.args.places.now c.args.bytes.now _ dims c.in-Some.is
    (row_fits _ c.in-Some.store rack.attached c.args.places.now _ c.in-Some.is c.requires)
    c.write_row.ensures.dims (ap (λ v. v.items) c.write_row.ensures.slate)
    (ap (λ v. v.items) c.write_row.ensures.dirty_pages) c.write_row.ensures.written (λ _. refl) ready
