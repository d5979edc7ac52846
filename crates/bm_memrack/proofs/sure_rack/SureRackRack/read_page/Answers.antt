use Rattle.std.proofs.Common.{sym, ◌∙◌, ap}
use Rattle.bm_base.specs.Contents.{page_at}
use Rattle.bm_memrack.specs.Store.{contents_at}
use Rattle.bm_memrack.specs.SizeLemmas.{page_of}
use Rattle.bm_memrack.proofs.sure_rack.SureRackRack.read_page.Goals as goal

pub returns-clause-bytes : goal.returns-clause-bytes
returns-clause-bytes c told ok =
    c.read_page.ensures.bytes ∙ sym (page_of c.in-Some.store c.args.page c.requires.page)
    ∙ ap (λ s. page_at (contents_at s) c.args.page) (sym c.in-Some.is)
