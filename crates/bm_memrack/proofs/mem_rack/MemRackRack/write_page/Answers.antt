use Rattle.std.proofs.Common.{rules, ap}
use Rattle.bm_memrack.proofs.StoreLemmas.{store_page_written}
use Rattle.bm_memrack.proofs.MemRackLemmas.{whole_if_ok, half_if_err, at_most_whole, store_page_torn}
use Rattle.bm_memrack.proofs.mem_rack.MemRackRack.write_page.Goals as goal

pub returns-clause-written : goal.returns-clause-written
returns-clause-written c =
    let rack = c.args.self.now in
    store_page_written rack.store c.in-Some.store c.write_page.new.self rack.attached _ c.args.page c.args.bytes.now _
    c.in-Some.is c.requires.page (search rules)
    (at_most_whole c.fails-fails.result _ 512 c.taken_len.ensures)
    (whole_if_ok _ c.fails-fails.result _ 512 c.taken_len.ensures c.outcome.ensures)
    c.write_page.ensures.dims (ap (λ v. v.items) c.write_page.ensures.flat)
    (ap (λ v. v.items) c.write_page.ensures.dirty_blocks) c.write_page.ensures.slate c.write_page.ensures.dirty_pages

pub returns-clause-torn : goal.returns-clause-torn
returns-clause-torn c failed =
    let rack = c.args.self.now in
    store_page_torn rack.store c.in-Some.store c.write_page.new.self c.args.page c.args.bytes.now _
    c.in-Some.is c.requires.page (search rules)
    (half_if_err _ c.fails-fails.result _ 512 c.taken_len.ensures c.outcome.ensures failed) c.write_page.ensures.slate
