use Rattle.std.proofs.Common.{slice_index, arith}
use Rattle.bm_kindjob.proofs.SetListLemmas.{HasSet-none, HasSet-more}
use Rattle.bm_kindjob.proofs.set_list.set_of_list.Goals as goal

pub loop-j-init : goal.loop-j-init
loop-j-init c = HasSet-none c.args.n (slice_index c.args.list.now)

pub loop-j-preserved : goal.loop-j-preserved
loop-j-preserved c =
    HasSet-more c.args.n c.loop-j.j c.loop-j.set (slice_index c.args.list.now) c.requires c.loop-j.invariant
    (omega (arith, c.if-bit-n.false)) c.in_default.ensures.none
