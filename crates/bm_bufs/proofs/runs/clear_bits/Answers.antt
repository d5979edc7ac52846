use Rattle.bm_bufs.proofs.ClearLemmas.{ends_clear}
use Rattle.bm_bufs.proofs.runs.clear_bits.Goals as goal

pub returns : goal.returns
returns c = λ k few. ends_clear c.args.v k c.ranges.v.fits few
