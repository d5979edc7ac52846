use Rattle.bm_memrack.proofs.StoreLemmas.{all_clean}
use Rattle.bm_memrack.proofs.MemRackLemmas.{store_restarted, store_chosen}
use Rattle.bm_memrack.proofs.mem_rack.MemRackStopRack.restart.Goals as goal

pub returns-in-Some-clause-restarted : goal.returns-in-Some-clause-restarted
returns-in-Some-clause-restarted c =
    let rack = c.args.self.now in
    store_restarted rack.store c.in-Some.store c.crash.new.self rack.attached c.args.pick
    c.in-Some.is rack.moves_fit rack.pages_fit rack.syncs_fit
    c.crash.ensures.dims c.crash.ensures.pages c.crash.ensures.blocks
    (all_clean c.crash.new.self c.crash.ensures.clean_blocks c.crash.ensures.clean_pages)

pub returns-in-Some-clause-chosen : goal.returns-in-Some-clause-chosen
returns-in-Some-clause-chosen c dims stands =
    store_chosen c.args.self.now.store c.in-Some.store c.crash.new.self c.args.pick dims c.in-Some.is
    c.crash.ensures.dims c.crash.ensures.pages c.crash.ensures.blocks stands
