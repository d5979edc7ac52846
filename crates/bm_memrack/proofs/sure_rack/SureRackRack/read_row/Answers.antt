use Rattle.bm_memrack.proofs.StoreLemmas.{store_row_read, row_fits}
use Rattle.bm_memrack.proofs.sure_rack.SureRackRack.read_row.Goals as goal

pub returns-clause-bytes : goal.returns-clause-bytes
returns-clause-bytes c dims ready =
    store_row_read _ c.in-Some.store c.args.self.now.attached c.args.places.now c.args.bytes.now c.read_row.new.bytes _ dims c.in-Some.is
    (row_fits _ c.in-Some.store c.args.self.now.attached c.args.places.now _ c.in-Some.is c.requires) c.read_row.ensures ready
