use Rattle.bm_control.specs.Bodies.{body_head}
use Rattle.bm_control.proofs.BodyLemmas.{joined_5}
use Rattle.bm_control.proofs.map_body.start_body.Goals as goal

pub returns-clause-bytes : goal.returns-clause-bytes
unfolding body_head
returns-clause-bytes c = joined_5 _ _ _ _ _ _ _ _ _ _ _ c.new-page.ensures c.put.ensures.bytes c.put_u16.ensures.bytes c.put-2.ensures.bytes
    c.put_u16-2.ensures.bytes c.put-3.ensures.bytes
