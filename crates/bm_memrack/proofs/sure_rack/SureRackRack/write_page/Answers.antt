use Rattle.std.proofs.Common.{rules, refl, ap, arith}
use Rattle.bm_memrack.proofs.StoreLemmas.{store_page_written}
use Rattle.bm_memrack.proofs.sure_rack.SureRackRack.write_page.Goals as goal

pub returns-clause-written : goal.returns-clause-written
returns-clause-written c =
    let rack = c.args.self.now in
    store_page_written rack.store c.in-Some.store c.write_page.new.self rack.attached _ c.args.page c.args.bytes.now 512
    c.in-Some.is c.requires.page (search rules) (omega arith) (λ _. refl)
    c.write_page.ensures.dims (ap (λ v. v.items) c.write_page.ensures.flat)
    (ap (λ v. v.items) c.write_page.ensures.dirty_blocks) c.write_page.ensures.slate c.write_page.ensures.dirty_pages
