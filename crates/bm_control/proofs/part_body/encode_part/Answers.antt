use Rattle.std.proofs.Common.{ap, ◌∙◌}
use Rattle.bm_control.specs.Bodies.{padded, part_page}
use Rattle.bm_control.proofs.BodyLemmas.{joined_5}
use Rattle.bm_control.proofs.part_body.encode_part.Goals as goal

pub returns : goal.returns
unfolding part_page
returns c =
    c.finish.ensures
    ∙ ap (padded 512) (joined_5 _ _ _ _ _ _ _ _ _ _ _ c.new-page.ensures c.put.ensures.bytes c.put_u16.ensures.bytes
    c.put_u16-2.ensures.bytes
    c.put-2.ensures.bytes c.put_u64.ensures.bytes)
