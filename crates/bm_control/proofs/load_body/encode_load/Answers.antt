use Rattle.std.proofs.Common.{ap, ◌∙◌}
use Rattle.bm_control.specs.Bodies.{padded, load_page}
use Rattle.bm_control.proofs.BodyLemmas.{joined_4}
use Rattle.bm_control.proofs.load_body.encode_load.Goals as goal

pub returns : goal.returns
unfolding load_page
returns c =
    let whole = c.finish.ensures ∙ ap (padded 512)
    (joined_4 _ _ _ _ _ _ _ _ _ c.new-page.ensures c.put.ensures.bytes c.put_u16.ensures.bytes
    c.put-2.ensures.bytes c.put_u16-2.ensures.bytes) in
    simp (c.n.ensures, c.b.ensures, c.d.ensures, c.m.ensures, c.width.ensures) at whole
