use Rattle.std.proofs.Common.{sym, ◌∙◌}
use Rattle.bm_control.proofs.EqualLemmas.{one_outcome}
use Rattle.bm_control.proofs.JobBodyLemmas.{pass_page-same}
use Rattle.bm_control.proofs.pass_body.decode_pass.Goals as goal

pub returns-else-same_page : goal.returns-else-same_page
returns-else-same_page c pass body =
    let same = c.in_ok-pass.ensures.read pass c.args.k body in
    one_outcome c.same_page.result
    (c.same_page.ensures.1 (c.encode_pass.ensures ∙ pass_page-same c.args.shape.now c.in_ok-pass.pass pass c.args.k same.0 same.1
    ∙ sym body.page_is))
    c.if-same_page.false
