use Rattle.std.proofs.Common.{ap, ◌∙◌}
use Rattle.bm_control.specs.Bodies.{padded}
use Rattle.bm_control.proofs.PageFrontLemmas.{page_of_front}
use Rattle.bm_control.proofs.page_writer.PageWriter.finish.Goals as goal

pub returns : goal.returns
returns c = page_of_front c.self.inside.len c.self.inside.bytes c.self.invariant ∙ ap (padded 512) c.self.view_is
