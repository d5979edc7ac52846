use Rattle.std.proofs.Common.{ap}
use Rattle.bm_memrack.proofs.StoreLemmas.{store_synced}
use Rattle.bm_memrack.proofs.mem_rack.MemRackRack.sync.Goals as goal

pub returns-clause-synced : goal.returns-clause-synced
returns-clause-synced c =
    store_synced c.args.self.now.store c.in-Some.store _ _ _ c.in-Some.is
    c.clean.ensures.dims (ap (λ v. v.items) c.clean.ensures.flat)
    (ap (λ v. v.items) c.clean.ensures.slate) c.clean.ensures.dirty_blocks c.clean.ensures.dirty_pages
