use Rattle.std.proofs.Common.{ap}
use Rattle.bm_memrack.proofs.StoreLemmas.{store_row_written, row_fits}
use Rattle.bm_memrack.proofs.MemRackLemmas.{whole_if_ok, half_if_err, store_row_torn}
use Rattle.bm_memrack.proofs.mem_rack.MemRackRack.write_row.Goals as goal

pub returns-clause-written : goal.returns-clause-written
returns-clause-written c dims ready =
    let rack = c.args.self.now in
    store_row_written rack.store c.in-Some.store c.write_row.new.self rack.attached _ c.args.places.now c.args.bytes.now _ dims c.in-Some.is
    (row_fits _ c.in-Some.store rack.attached c.args.places.now _ c.in-Some.is c.requires)
    c.write_row.ensures.dims (ap (λ v. v.items) c.write_row.ensures.slate)
    (ap (λ v. v.items) c.write_row.ensures.dirty_pages) c.write_row.ensures.written
    (whole_if_ok _ c.fails-fails.result _ _ c.taken_len.ensures c.outcome.ensures) ready

pub returns-clause-torn : goal.returns-clause-torn
returns-clause-torn c dims ready failed =
    let rack = c.args.self.now in
    store_row_torn rack.store c.in-Some.store c.write_row.new.self rack.attached c.args.places.now c.args.bytes.now _ dims c.in-Some.is
    (row_fits _ c.in-Some.store rack.attached c.args.places.now _ c.in-Some.is c.requires)
    c.write_row.ensures.dims c.write_row.ensures.written
    (half_if_err _ c.fails-fails.result _ _ c.taken_len.ensures c.outcome.ensures failed) ready
