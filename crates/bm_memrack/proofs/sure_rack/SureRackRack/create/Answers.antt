use Rattle.std.proofs.Common.{sym, ◌∙◌}
use Rattle.bm_memrack.proofs.BlockCopyLemmas.{none_if}
use Rattle.bm_memrack.proofs.StoreLemmas.{store_created}
use Rattle.bm_memrack.proofs.sure_rack.SureRackRack.create.Goals as goal

pub returns-in-Ok-clause-created : goal.returns-in-Ok-clause-created
returns-in-Ok-clause-created c =
    let rack = c.args.self.now in
    store_created rack.store c.in-Ok.store rack.attached _ c.args.dims.now (none_if _ (sym c.is_some.ensures ∙ c.if-is_some.false))
    c.in-Ok.ensures.dims c.in-Ok.ensures.flat c.in-Ok.ensures.slate c.in-Ok.ensures.dirty_blocks c.in-Ok.ensures.dirty_pages
